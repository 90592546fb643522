-- Worked examples of sound, unsound and vacuous items.
use Rattle.std.proofs.Common.{◌≡◌, ℕ, zero, suc, ◌+◌, ◌%◌, ◌<◌, ◌≤◌, [], ◌∷◌, slice_get, refl, arith, inl, inr, lit<, pos, true}
use Rattle.std.specs.Prelude.{replicate}
use Rattle.souper_graph.specs.Values.{negative, range}
use Rattle.souper_graph.specs.Uses.{NeededIn, walked, used}
use Rattle.souper_widths.specs.Maps.{WidthMap}
use Rattle.souper_words.specs.declared.outcome.Outcome.{Outcome}
use Rattle.souper_words.specs.declared.outcome.Outcome.TheVariants.{Number, Poison, Undefined}
use Rattle.souper_meaning.specs.Worlds.{World, value_at, Mode, value_inputs, poison_inputs, IsInput, GivesAt}
use Rattle.souper_meaning.specs.Statements.{out}
use Rattle.souper_meaning.specs.Sound.{MeetsAt, MeetsFacts, RefinesEnding, IsHole, Sound, Vacuous}
use Rattle.souper_meaning.specs.Digits.{digit_of}
use Rattle.souper_meaning.specs.Numbering.{count_at, HasDigitAt}
use Rattle.souper_meaning.specs.Exhausted.{RefinesIn, AllRefineBelow, IsFirstRefuting}
use Rattle.souper_meaning.specs.Examples.{shifted, shifted_widths, doubled, either, either_widths, thawed, thawed_widths, overflowing, overflowing_widths, divided, divided_widths, contradicted, contradicted_widths, holed, world_of, world_of_two}

shifted_gives : (p : ℕ) → GivesAt value_inputs shifted shifted_widths (world_of (Number 1)) p
shifted_gives zero = lit< tt
shifted_gives (suc zero) = tt
shifted_gives (suc (suc zero)) = tt
shifted_gives (suc (suc (suc p))) = tt

shifted_meets : (p : ℕ) → MeetsAt shifted shifted_widths (world_of (Number 1)) p
shifted_meets zero = tt
shifted_meets (suc zero) = tt
shifted_meets (suc (suc zero)) = tt
shifted_meets (suc (suc (suc p))) = tt

pub shifted-unsound : ¬ Sound value_inputs shifted shifted_widths
shifted-unsound s = s.1 (world_of (Number 1)) (λ p n. shifted_gives p) (λ p n. shifted_meets p)

-- the first counterexample: 0 is none, and 1 is one

shifted_input : NeededIn shifted 0
shifted_input = used (walked (inl refl)) (inl refl)

shifted_zero : (x : World) → value_at x 0 ≡ Number 0 → RefinesIn shifted shifted_widths x
shifted_zero x e = rw e refl

shifted_one : (p : ℕ) → HasDigitAt shifted shifted_widths (world_of (Number 1)) p (digit_of (count_at value_inputs shifted shifted_widths (replicate 3 true)) 1 p)
shifted_one zero = refl
shifted_one (suc zero) = tt
shifted_one (suc (suc zero)) = tt
shifted_one (suc (suc (suc p))) = tt

shifted_before : AllRefineBelow value_inputs shifted shifted_widths (replicate 3 true) 1
shifted_before zero x l n h = shifted_zero x (n 0 shifted_input)
shifted_before (suc k) x l n h = absurd (omega (arith, l))

pub shifted-first : IsFirstRefuting value_inputs shifted shifted_widths (replicate 3 true) (world_of (Number 1))
shifted-first = record {
  world = λ p n. shifted_gives p;
  meets = λ p n. shifted_meets p;
  fails = λ h. h;
  number = 1;
  inside = lit< tt;
  numbered = λ p n. shifted_one p;
  before = shifted_before;
}

either_gives : (p : ℕ) → GivesAt poison_inputs either either_widths (world_of_two (Number 1) Poison) p
either_gives zero = lit< tt
either_gives (suc zero) = tt
either_gives (suc (suc zero)) = tt
either_gives (suc (suc (suc zero))) = tt
either_gives (suc (suc (suc (suc p)))) = tt

either_meets : (p : ℕ) → MeetsAt either either_widths (world_of_two (Number 1) Poison) p
either_meets zero = tt
either_meets (suc zero) = tt
either_meets (suc (suc zero)) = tt
either_meets (suc (suc (suc zero))) = tt
either_meets (suc (suc (suc (suc p)))) = tt

pub either-unsound : ¬ Sound poison_inputs either either_widths
either-unsound s = s.1 (world_of_two (Number 1) Poison) (λ p n. either_gives p) (λ p n. either_meets p)

thawed_gives : (p : ℕ) → GivesAt poison_inputs thawed thawed_widths (world_of Poison) p
thawed_gives zero = tt
thawed_gives (suc zero) = lit< tt
thawed_gives (suc (suc p)) = tt

thawed_meets : (p : ℕ) → MeetsAt thawed thawed_widths (world_of Poison) p
thawed_meets zero = tt
thawed_meets (suc zero) = tt
thawed_meets (suc (suc p)) = tt

pub thawed-unsound : ¬ Sound poison_inputs thawed thawed_widths
thawed-unsound s = s.1 (world_of Poison) (λ p n. thawed_gives p) (λ p n. thawed_meets p)

overflowing_gives : (p : ℕ) → GivesAt value_inputs overflowing overflowing_widths (world_of (Number 0)) p
overflowing_gives zero = tt
overflowing_gives (suc zero) = tt
overflowing_gives (suc (suc p)) = tt

overflowing_meets : (p : ℕ) → MeetsAt overflowing overflowing_widths (world_of (Number 0)) p
overflowing_meets zero = tt
overflowing_meets (suc zero) = tt
overflowing_meets (suc (suc p)) = tt

pub overflowing-unsound : ¬ Sound value_inputs overflowing overflowing_widths
overflowing-unsound s = s.1 (world_of (Number 0)) (λ p n. overflowing_gives p) (λ p n. overflowing_meets p)

divided_gives : (p : ℕ) → GivesAt value_inputs divided divided_widths (world_of (Number 0)) p
divided_gives zero = lit< tt
divided_gives (suc zero) = tt
divided_gives (suc (suc zero)) = tt
divided_gives (suc (suc (suc zero))) = tt
divided_gives (suc (suc (suc (suc p)))) = tt

divided_meets : (p : ℕ) → MeetsAt divided divided_widths (world_of (Number 0)) p
divided_meets zero = tt
divided_meets (suc zero) = tt
divided_meets (suc (suc zero)) = tt
divided_meets (suc (suc (suc zero))) = tt
divided_meets (suc (suc (suc (suc p)))) = tt

pub divided-unsound : ¬ Sound value_inputs divided divided_widths
divided-unsound s = s.1 (world_of (Number 0)) (λ p n. divided_gives p) (λ p n. divided_meets p)

-- the right side for each outcome of the input
doubled_refines : (x : World) (o : Outcome) → value_at x 0 ≡ o → IsInput poison_inputs 8 o → RefinesEnding shifted_widths (out doubled shifted_widths x) doubled.ending
doubled_refines x (Number n) e h = rw e refl
doubled_refines x Poison e h = rw e tt
doubled_refines x Undefined e h = absurd h

doubled_input : NeededIn doubled 0
doubled_input = used (walked (inl refl)) (inl refl)

doubled_no_hole : (p : ℕ) → ¬ IsHole (slice_get doubled.statements p)
doubled_no_hole zero h = h
doubled_no_hole (suc zero) h = h
doubled_no_hole (suc (suc zero)) h = h
doubled_no_hole (suc (suc (suc p))) h = h

pub doubled-sound : Sound poison_inputs doubled shifted_widths
doubled-sound = (λ p n. doubled_no_hole p, λ x w h. doubled_refines x (value_at x 0) refl (w 0 doubled_input))

below_and_above : (n : ℕ) → (n + 255) % 256 < 9 → 128 ≤ n → n < 256 → ⊥
below_and_above n h k l = omega arith

contradicted_by : (o : Outcome) → IsInput value_inputs 8 o → MeetsFacts 8 o (range (pos 1) (pos 10) ∷ negative ∷ []) → ⊥
contradicted_by (Number n) h f = elim f.0 [ inl e ↦ absurd (omega (arith, e.0)) | inr l ↦ below_and_above n l f.1.0 h ]
contradicted_by Poison h f = h
contradicted_by Undefined h f = h

contradicted_no_hole : (p : ℕ) → ¬ IsHole (slice_get contradicted.statements p)
contradicted_no_hole zero h = h
contradicted_no_hole (suc p) h = h

pub contradicted-vacuous : Vacuous value_inputs contradicted contradicted_widths
contradicted-vacuous = (λ p n. contradicted_no_hole p, λ x w h. contradicted_by (value_at x 0) (w 0 (walked (inl refl))) (h 0 (walked (inl refl))))

pub holed-unsound : (mode : Mode) (m : WidthMap) → ¬ Sound mode holed m
holed-unsound mode m s = s.0 0 (walked (inl refl)) tt

pub holed-not-vacuous : (mode : Mode) (m : WidthMap) → ¬ Vacuous mode holed m
holed-not-vacuous mode m v = v.0 0 (walked (inl refl)) tt
