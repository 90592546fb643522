use Rattle.std.proofs.Common.{◌<◌, ℕ, subst, sym, arith}
use Rattle.souper_graph.proofs.Judging.Names.{Has-at}
use Rattle.souper_graph.specs.Uses.{Has}
use Rattle.souper_meaning.proofs.Marked.{mark_step}
use Rattle.souper_meaning.proofs.planning.marks_of.Goals as goal

pub index_mut-requires : goal.index_mut-requires
index_mut-requires c =
    let x : ℕ = c.id-item.result in
    let below : x < c.args.count = c.requires x (subst (Has c.args.ids.now) (sym c.id-item.is) (Has-at c.args.ids.now c.loop-id.id-index x c.loop-id-test.true)) in
    omega (arith, below, c.index.ensures, c.loop-id.invariant.size, c.loop-id.marks.ok.0)

pub loop-id-preserved : goal.loop-id-preserved
loop-id-preserved c =
    let x : ℕ = c.id-item.result in
    let below : x < c.args.count = c.requires x (subst (Has c.args.ids.now) (sym c.id-item.is) (Has-at c.args.ids.now c.loop-id.id-index x c.loop-id-test.true)) in
    rw c.index.ensures (mark_step c.loop-id.marks.items c.args.ids.now c.args.count c.loop-id.id-index x c.loop-id-test.true c.id-item.is below c.loop-id.invariant)
