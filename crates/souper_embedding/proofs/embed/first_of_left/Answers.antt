use Rattle.std.proofs.Common.{ℕ, Option, subst}
use Rattle.std.specs.Prelude.{map, IfSome, IsSomeAnd}
use Rattle.souper_graph.specs.WellFormed.{WellFormed}
use Rattle.souper_graph.specs.View.{view_statement, view_infer}
use Rattle.souper_embedding.specs.declared.search.Embedding.{Embedding}
use Rattle.souper_embedding.specs.Embedding.{EmbedsLeft}
use Rattle.souper_embedding.specs.Maps.{Follows}
use Rattle.souper_embedding.specs.Search.{left_item}
use Rattle.souper_embedding.specs.States.{IsStart}
use Rattle.souper_embedding.proofs.Firsts.{first-left}
use Rattle.souper_embedding.proofs.embed.first_of_left.Goals as goal

pub returns-in-Some : goal.returns-in-Some
returns-in-Some c =
    let ss = map view_statement c.args.stored.now in
    let qs = map view_statement c.args.query.now.statements in
    let i = view_infer c.args.infer.now in
    let j = view_infer c.args.query.now.infer in
    first-left c.first_after.result ss qs i j c.in-Some.start
    (subst (λ (o : Option Embedding). IfSome o (λ x. WellFormed (left_item ss i) → IsStart ss qs i j x)) c.in-Some.is c.in_ok-start.ensures.start)
    (subst (λ (o : Option Embedding). WellFormed (left_item ss i) → (f : ℕ → ℕ) → EmbedsLeft (left_item ss i) (left_item qs j) i j f → IsSomeAnd o (λ x. Follows x.map.items f)) c.in-Some.is c.in_ok-start.ensures.forced)
    c.first_after.ensures

pub returns-in-None : goal.returns-in-None
returns-in-None c =
    let ss = map view_statement c.args.stored.now in
    let qs = map view_statement c.args.query.now.statements in
    let i = view_infer c.args.infer.now in
    let j = view_infer c.args.query.now.infer in
    subst (λ (o : Option Embedding). WellFormed (left_item ss i) → (f : ℕ → ℕ) → EmbedsLeft (left_item ss i) (left_item qs j) i j f → IsSomeAnd o (λ x. Follows x.map.items f)) c.in-None.is c.in_ok-start.ensures.forced
