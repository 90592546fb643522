use Rattle.std.proofs.Common.{ℕ, ◌≤◌, List, length, map, take, sym, ap, subst, ◌∙◌, arith}
use Rattle.std.specs.Prelude.{bytes_eq, Some}
use Rattle.std.specs.List.{list_any}
use Rattle.std.proofs.lemmas.List.{length-map, take_all}
use Rattle.souper_graph.specs.Text.{name_of, name_at}
use Rattle.souper_graph.specs.Values.{PlainStatement}
use Rattle.souper_graph.specs.View.{view_statement}
use Rattle.souper_lookup.specs.Instance.{names_of_all, IsSetOf}
use Rattle.souper_lookup.proofs.Fresh.{taken-more, all-more}
use Rattle.souper_lookup.proofs.names.all_names.Goals as goal

pub loop-index-preserved : goal.loop-index-preserved
loop-index-preserved c = λ t.
    let ss = map view_statement c.args.statements.now in
    let i = c.loop-index.index in
    let long = length-map c.args.statements.now view_statement in
    let test = c.loop-index-test.true in
    let len = c.len-index-end.ensures in
    taken-more (take i (names_of_all ss)) c.loop-index.taken c.insert.new.self c.in_ok-name_of.field-0 (name_at ss i) c.loop-index.invariant c.in_ok-insert.ensures.updates (c.in_ok-name_of.ensures ∙ ap (name_at ss) c.at.ensures) t
    ∙ ap (λ (z : List _). list_any (bytes_eq t) z) (sym (all-more ss i (omega arith)))

pub returns : goal.returns
returns c =
    let ss = map view_statement c.args.statements.now in
    let i = c.loop-index.index in
    let long = length-map c.args.statements.now view_statement in
    let named = length-map ss (λ (s : PlainStatement). name_of (Some s)) in
    let test = c.loop-index-test.false in
    let len = c.len-index-end.ensures in
    let all : length (names_of_all ss) ≤ i = omega arith in
    subst (λ (z : List (List ℕ)). IsSetOf z c.loop-index.taken) (take_all i (names_of_all ss) all) c.loop-index.invariant
