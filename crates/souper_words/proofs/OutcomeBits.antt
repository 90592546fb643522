-- Lemmas on the bits of an outcome.
use Rattle.std.proofs.Common.{ℕ, ◌^◌, ◌<◌, Bool, true, false, cond, ◌||◌, eqb, ℤ}
use Rattle.std.proofs.lemmas.Nat.{pow_pos}
use Rattle.souper_words.specs.declared.outcome.Outcome.{Outcome}
use Rattle.souper_words.specs.declared.outcome.Outcome.TheVariants.{Number, Poison, Undefined}
use Rattle.souper_words.specs.declared.words.Word.{Word}
use Rattle.souper_words.specs.declared.words.Word.TheVariants.{Select, Freeze}
use Rattle.souper_words.specs.Numbers.{bits_of}
use Rattle.souper_words.specs.Outcomes.{is_undefined, is_poison, number_or, frozen, selected}
use Rattle.souper_words.specs.Words.{row, row_outcome, is_undefined_at, outcome_of_operands, outcome, AreWidths}
use Rattle.souper_words.proofs.Saturating.{bits_of_below}

either_below : (t : Bool) (m : ℕ) (a b : Outcome) → number_or 0 a < m → number_or 0 b < m → number_or 0 (cond t a b) < m
either_below true m a b h k = h
either_below false m a b h k = k

row_below : (w : ℕ) (z : ℤ) (p u : Bool) → number_or 0 (row_outcome w (z, p, u)) < 2 ^ w
row_below w z p u =
    either_below u (2 ^ w) Undefined (cond p Poison (Number (bits_of w z))) (pow_pos w) (either_below p (2 ^ w) Poison (Number (bits_of w z)) (pow_pos w) (bits_of_below w z))

poison_or_row : (t : Bool) (w : ℕ) (r : ℤ × Bool × Bool) → number_or 0 (cond t Poison (row_outcome w r)) < 2 ^ w
poison_or_row t w (z, p, u) = either_below t (2 ^ w) Poison (row_outcome w (z, p, u)) (pow_pos w) (row_below w z p u)

selected_below : (m : ℕ) (c a b : Outcome) → 0 < m → number_or 0 a < m → number_or 0 b < m → number_or 0 (selected c a b) < m
selected_below m (Number n) a b z h k = either_below (eqb n 1) m a b h k
selected_below m Poison a b z h k = z
selected_below m Undefined a b z h k = z

frozen_below : (m choice : ℕ) (a : Outcome) → 0 < m → choice < m → number_or 0 a < m → number_or 0 (frozen choice a) < m
frozen_below m choice (Number n) z h k = k
frozen_below m choice Poison z h k = h
frozen_below m choice Undefined z h k = z

operands_below : (x : Word) (w v choice : ℕ) (a b c : Outcome) → AreWidths x w v → choice < 2 ^ w → number_or 0 a < 2 ^ v → number_or 0 b < 2 ^ v → number_or 0 c < 2 ^ v → number_or 0 (outcome_of_operands x w v choice a b c) < 2 ^ w
operands_below Select w v choice a b c e f g h k =
    selected_below (2 ^ w) a b c (pow_pos w) (rw e h) (rw e k)
operands_below Freeze w v choice a b c e f g h k = frozen_below (2 ^ w) choice a (pow_pos w) f (rw e g)
operands_below x w v choice a b c e f g h k =
    poison_or_row (is_poison a || is_poison b || is_poison c) w (row x w v (number_or 0 a) (number_or 0 b) (number_or 0 c))

pub outcome_below : (x : Word) (w v choice : ℕ) (a b c : Outcome) → AreWidths x w v → choice < 2 ^ w → number_or 0 a < 2 ^ v → number_or 0 b < 2 ^ v → number_or 0 c < 2 ^ v → number_or 0 (outcome x w v choice a b c) < 2 ^ w
outcome_below x w v choice a b c e f g h k =
    either_below (is_undefined a || is_undefined b || is_undefined c || is_undefined_at x w v a b) (2 ^ w) Undefined (outcome_of_operands x w v choice a b c) (pow_pos w)
    (operands_below x w v choice a b c e f g h k)
