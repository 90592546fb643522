-- Worked examples of worlds by their numbers.
use Rattle.std.proofs.Common.{ℕ, zero, suc, refl, true}
use Rattle.std.specs.Prelude.{replicate}
use Rattle.souper_words.specs.declared.outcome.Outcome.TheVariants.{Number, Poison}
use Rattle.souper_meaning.specs.Worlds.{value_inputs, poison_inputs}
use Rattle.souper_meaning.specs.Digits.{digit_of}
use Rattle.souper_meaning.specs.Numbering.{count_at, HasDigitAt}
use Rattle.souper_meaning.specs.Examples.{shifted, shifted_widths, either, either_widths, chosen, chosen_widths, world_of, world_of_two, reached_by}

pub value_numbered : (p : ℕ) → HasDigitAt shifted shifted_widths (world_of (Number 200)) p (digit_of (count_at value_inputs shifted shifted_widths (replicate 3 true)) 200 p)
value_numbered zero = refl
value_numbered (suc zero) = tt
value_numbered (suc (suc zero)) = tt
value_numbered (suc (suc (suc p))) = tt

pub poison_numbered : (p : ℕ) → HasDigitAt shifted shifted_widths (world_of Poison) p (digit_of (count_at poison_inputs shifted shifted_widths (replicate 3 true)) 256 p)
poison_numbered zero = refl
poison_numbered (suc zero) = tt
poison_numbered (suc (suc zero)) = tt
poison_numbered (suc (suc (suc p))) = tt

pub second_numbered : (p : ℕ) → HasDigitAt either either_widths (world_of_two Poison (Number 1)) p (digit_of (count_at poison_inputs either either_widths (replicate 4 true)) 5 p)
second_numbered zero = refl
second_numbered (suc zero) = refl
second_numbered (suc (suc zero)) = tt
second_numbered (suc (suc (suc zero))) = tt
second_numbered (suc (suc (suc (suc p)))) = tt

pub predecessor_numbered : (p : ℕ) → HasDigitAt chosen chosen_widths (reached_by 1) p (digit_of (count_at value_inputs chosen chosen_widths (replicate 4 true)) 1 p)
predecessor_numbered zero = refl
predecessor_numbered (suc zero) = refl
predecessor_numbered (suc (suc zero)) = tt
predecessor_numbered (suc (suc (suc zero))) = tt
predecessor_numbered (suc (suc (suc (suc p)))) = tt
