use Rattle.std.proofs.Common.{rules, arith}
use Rattle.souper_stream.proofs.Buffers.{to_end, none_told, one_told, all_told}
use Rattle.souper_stream.proofs.starts.starts_in.Goals as goal

pub loop-offset-init : goal.loop-offset-init
loop-offset-init c = rw c.clear.ensures.items (none_told _ _ _ c.requires)

pub slice_bounds-newline_count-end : goal.slice_bounds-newline_count-end
slice_bounds-newline_count-end c = omega (arith, to_end _ _ _ _ _ _ _ c.loop-offset.invariant (search rules))

pub loop-offset-preserved : goal.loop-offset-preserved
loop-offset-preserved c =
    one_told _ _ _ _ _ _ _ c.loop-offset.invariant (search rules) c.saturating_add-lines.result _ _ (rw c.newline_count.ensures at c.saturating_add-lines.ensures) c.in_ok-push.ensures.items c.saturating_add.ensures c.saturating_add-in-loop-offset.ensures

pub returns : goal.returns
returns c = λ done counts small. all_told _ _ _ _ _ _ _ c.loop-offset.invariant (search rules) done counts small
