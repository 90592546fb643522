use Rattle.std.proofs.Common.{arith, refl}
use Rattle.std.proofs.lemmas.Grind.{common_steps}
use Rattle.souper_graph.proofs.Texts.Styled.{styled_two}
use Rattle.souper_graph.proofs.stringify.leaves.write_known_bits.Goals as goal

pub loop-bit-preserved : goal.loop-bit-preserved
loop-bit-preserved g c = λ flush.
    let so_far = c.loop-bit.invariant flush in
    styled_two g.W.Write.write_str_gives _ _ _ _ _ _ so_far (c.in_ok-write_str.ensures.styled so_far.flush refl) (grind (arith, common_steps))
