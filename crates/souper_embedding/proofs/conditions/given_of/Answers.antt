use Rattle.std.proofs.Common.{◌≡◌, ℕ, List, length, map, sym, subst, arith}
use Rattle.std.proofs.lemmas.List.{length-map}
use Rattle.souper_graph.specs.View.{view_statement}
use Rattle.souper_embedding.specs.Given.{AreGivenTo}
use Rattle.souper_embedding.proofs.Given.{given-none}
use Rattle.souper_embedding.proofs.conditions.given_of.Goals as goal

pub loop-index-init : goal.loop-index-init
loop-index-init c = subst (λ (z : List ℕ). AreGivenTo (map view_statement c.args.statements.now) 0 z) (sym c.new-found.ensures.items) (given-none (map view_statement c.args.statements.now))

pub loop-index-preserved : goal.loop-index-preserved
loop-index-preserved c = c.in_ok-push_given.ensures c.loop-index.invariant

pub returns : goal.returns
returns c =
    let all : c.loop-index.index ≡ length (map view_statement c.args.statements.now) = (let e = length-map c.args.statements.now view_statement in let m = c.len-index-end.ensures in omega arith) in
    subst (λ n. AreGivenTo (map view_statement c.args.statements.now) n c.loop-index.found.items) all c.loop-index.invariant
