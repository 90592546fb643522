use Rattle.std.proofs.Common.{◌≡◌, ℕ, List, length, refl, ap, subst, arith, rules}
use Rattle.std.proofs.lemmas.List.{length-map}
use Rattle.souper_graph.specs.Values.{PlainStatement}
use Rattle.souper_graph.specs.View.{view_statement}
use Rattle.examples_using.specs.Folding.{FoldsUpTo}
use Rattle.examples_using.proofs.Sums.{one-more}
use Rattle.examples_using.proofs.folding.fold_adds.Goals as goal

pub loop-index-init : goal.loop-index-init
loop-index-init g c = refl

pub loop-index-preserved : goal.loop-index-preserved
loop-index-preserved g c =
    let e : c.from.result ≡ c.loop-index.index = search rules in
    one-more (g.T.Item.view c.args.item.now) (g.T.Item.view c.loop-index.item) (g.T.Item.view c.fold_add.new.item) c.loop-index.index c.from.result c.fold_add.result
    e c.loop-index.invariant c.fold_add.ensures.folded c.fold_add.ensures.kept

pub returns : goal.returns
returns g c =
    let a = g.T.Item.view c.args.item.now in
    let long = length-map c.statements.result.now view_statement in
    let all = ap (λ (ss : List PlainStatement). length ss) c.statements.ensures in
    let len = c.len-index-end.ensures in
    let end = c.loop-index-test.false in
    let e : c.loop-index.index ≡ length a.statements = omega arith in
    subst (λ (n : ℕ). FoldsUpTo n a (g.T.Item.view c.loop-index.item)) e c.loop-index.invariant
