use Rattle.std.proofs.Common.{◌<◌, ◌∙◌, length, ap, arith, Vec, Global, ℕ}
use Rattle.souper_graph.proofs.FlawSearch.Marked.{marked_pushed, marked_kept}
use Rattle.souper_graph.proofs.stringify.needed.marked.Goals as goal
use Rattle.souper_graph.proofs.stringify.needed.marked.Goals.{then-is_marked+in_ok-push, else-is_marked}

pub loop-index-preserved : goal.loop-index-preserved
loop-index-preserved c =
    let below : c.loop-index.index < length c.args.marks.now = (let a = c.loop-index-test.true in let b = c.len-index-end.ensures in let d = c.requires in omega arith) in
    elim c.if-is_marked.branch [
      | then-is_marked+in_ok-push w ↦
          ap (λ (v : Vec ℕ Global). v.items) w.ids-is
          ∙ marked_pushed c.args.marks.now c.loop-index.index w.at.result c.loop-index.ids.items _ c.is_marked.result below c.loop-index.invariant c.is_marked.ensures w.if-is_marked.true w.at.ensures w.in_ok-push.ensures.items
      | else-is_marked w ↦
          ap (λ (v : Vec ℕ Global). v.items) w.ids-is
          ∙ marked_kept c.args.marks.now c.loop-index.index c.loop-index.ids.items c.is_marked.result below c.loop-index.invariant c.is_marked.ensures w.if-is_marked.false
    ]
