use Rattle.std.proofs.Common.{[], refl}
use Rattle.parser_vectors.proofs.counting.count_left_hand_sides.Goals as goal

pub returns : goal.returns
returns g c =
    let t = c.in_ok-read_into.ensures.taken in
    (t.read, t.taken.0, t.consumed, t.all_read, t.taken.1, t.taken.2 c.read_into.new.sink [] refl)
