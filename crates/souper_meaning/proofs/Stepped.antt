-- What a world gives after a write to one position, and after a step to the next number.
use Rattle.std.proofs.Common.{◌≡◌, ◌≢◌, ℕ, ◌+◌, ◌<◌, ◌≤◌, List, length, Option, Some, None, slice_get, refl, sym, ap, subst, ◌∙◌, arith, inl, inr}
use Rattle.std.specs.Prelude.{slice_index, slice_index_or}
use Rattle.std.proofs.Math.ListN.{set, length-set}
use Rattle.std.proofs.lemmas.Nat.{pow_pos}
use Rattle.std.proofs.lemmas.Bool.{cases_lt}
use Rattle.std.proofs.lemmas.Bool.Decides.{eqb_tells}
use Rattle.std.proofs.lemmas.List.{get_or-set_other, get_or-set_same}
use Rattle.souper_graph.specs.declared.ast.instructions.Instruction.{Instruction}
use Rattle.souper_graph.specs.declared.ast.instructions.Instruction.TheVariants.{Freeze}
use Rattle.souper_graph.specs.Values.{PlainRhs, var, block, phi, reserved_inst, reserved_const, instruction, PlainStatement, assigned, condition, block_condition, Item}
use Rattle.souper_graph.specs.Uses.{NeededIn}
use Rattle.souper_graph.specs.WellFormed.{WellFormed}
use Rattle.souper_graph.proofs.Judging.Needed.{well_formed_inside}
use Rattle.souper_widths.specs.Maps.{WidthMap, result_width}
use Rattle.souper_words.specs.declared.outcome.Outcome.{Outcome}
use Rattle.souper_words.specs.declared.outcome.Outcome.TheVariants.{Number, Poison}
use Rattle.souper_meaning.specs.declared.stepping.NumberedWorld.{NumberedWorld}
use Rattle.souper_meaning.specs.Worlds.{World, value_at, predecessor_at, choice_at}
use Rattle.souper_meaning.specs.View.{view_world}
use Rattle.souper_meaning.specs.Numbering.{numbered_input, HasInstructionDigit, HasRhsDigit, HasStatementDigit, HasDigitAt, HasDigits}
use Rattle.souper_meaning.specs.Stepping.{HasPlaces, GiveSameAt, IsNumbered, IsFirst}
use Rattle.souper_meaning.proofs.Numbers.{numbered_value}

-- a write to one list

pub same_self : (x : World) (p : ℕ) → GiveSameAt x x p
same_self x p = record { value = refl; predecessor = refl; choice = refl }

pub same_twice : (x y z : World) (p : ℕ) → GiveSameAt x y p → GiveSameAt y z p → GiveSameAt x z p
same_twice x y z p h k = record { value = k.value ∙ h.value; predecessor = k.predecessor ∙ h.predecessor; choice = k.choice ∙ h.choice }

module _ (x y : World) (p : ℕ) where
  module _ (v : Outcome) (e : y.values ≡ set x.values p v) (f : y.predecessors ≡ x.predecessors) (g : y.choices ≡ x.choices) where
    pub value_given : p < length x.values → value_at y p ≡ v
    value_given l = ap (λ (z : List Outcome). slice_index_or z p Poison) e ∙ get_or-set_same x.values p v Poison l

    pub value_others : (q : ℕ) → q ≢ p → GiveSameAt x y q
    value_others q n = record {
      value = ap (λ (z : List Outcome). slice_index_or z q Poison) e ∙ get_or-set_other x.values p q v Poison n;
      predecessor = ap (λ (z : List ℕ). slice_index z q) f;
      choice = ap (λ (z : List ℕ). slice_index z q) g;
    }

    pub value_places : (n : ℕ) → HasPlaces n x → HasPlaces n y
    value_places n h = record {
      values = ap (λ (z : List Outcome). length z) e ∙ length-set x.values p v ∙ h.values;
      predecessors = ap (λ (z : List ℕ). length z) f ∙ h.predecessors;
      choices = ap (λ (z : List ℕ). length z) g ∙ h.choices;
    }

  module _ (v : ℕ) (e : y.values ≡ x.values) (f : y.predecessors ≡ set x.predecessors p v) (g : y.choices ≡ x.choices) where
    pub predecessor_given : p < length x.predecessors → predecessor_at y p ≡ v
    predecessor_given l = ap (λ (z : List ℕ). slice_index z p) f ∙ get_or-set_same x.predecessors p v 0 l

    pub predecessor_others : (q : ℕ) → q ≢ p → GiveSameAt x y q
    predecessor_others q n = record {
      value = ap (λ (z : List Outcome). slice_index_or z q Poison) e;
      predecessor = ap (λ (z : List ℕ). slice_index z q) f ∙ get_or-set_other x.predecessors p q v 0 n;
      choice = ap (λ (z : List ℕ). slice_index z q) g;
    }

    pub predecessor_places : (n : ℕ) → HasPlaces n x → HasPlaces n y
    predecessor_places n h = record {
      values = ap (λ (z : List Outcome). length z) e ∙ h.values;
      predecessors = ap (λ (z : List ℕ). length z) f ∙ length-set x.predecessors p v ∙ h.predecessors;
      choices = ap (λ (z : List ℕ). length z) g ∙ h.choices;
    }

  module _ (v : ℕ) (e : y.values ≡ x.values) (f : y.predecessors ≡ x.predecessors) (g : y.choices ≡ set x.choices p v) where
    pub choice_given : p < length x.choices → choice_at y p ≡ v
    choice_given l = ap (λ (z : List ℕ). slice_index z p) g ∙ get_or-set_same x.choices p v 0 l

    pub choice_others : (q : ℕ) → q ≢ p → GiveSameAt x y q
    choice_others q n = record {
      value = ap (λ (z : List Outcome). slice_index_or z q Poison) e;
      predecessor = ap (λ (z : List ℕ). slice_index z q) f;
      choice = ap (λ (z : List ℕ). slice_index z q) g ∙ get_or-set_other x.choices p q v 0 n;
    }

    pub choice_places : (n : ℕ) → HasPlaces n x → HasPlaces n y
    choice_places n h = record {
      values = ap (λ (z : List Outcome). length z) e ∙ h.values;
      predecessors = ap (λ (z : List ℕ). length z) f ∙ h.predecessors;
      choices = ap (λ (z : List ℕ). length z) g ∙ length-set x.choices p v ∙ h.choices;
    }

-- a digit that stays

module _ (w : ℕ) (x y : World) (p d : ℕ) (same : GiveSameAt x y p) where
  instruction_kept : (i : Instruction) → HasInstructionDigit x p d i → HasInstructionDigit y p d i
  instruction_kept (Freeze a) h = same.choice ∙ h
  instruction_kept i h = tt

  rhs_kept : (r : PlainRhs) → HasRhsDigit w x p d r → HasRhsDigit w y p d r
  rhs_kept var h = same.value ∙ h
  rhs_kept (block b) h = same.predecessor ∙ h
  rhs_kept (phi f) h = tt
  rhs_kept reserved_inst h = same.value ∙ h
  rhs_kept reserved_const h = same.value ∙ h
  rhs_kept (instruction i) h = instruction_kept i h

  pub digit_kept : (s : Option PlainStatement) → HasStatementDigit w x p d s → HasStatementDigit w y p d s
  digit_kept None h = tt
  digit_kept (Some (assigned a)) h = rhs_kept a.value h
  digit_kept (Some (condition c)) h = tt
  digit_kept (Some (block_condition c)) h = tt

-- one more position is given its digit
pub given_more : (a : Item) (m : WidthMap) (x y : World) (digits : ℕ → ℕ) (n d : ℕ) → d ≡ digits n → (NeededIn a n → HasDigitAt a m y n d) → ((p : ℕ) → p ≢ n → GiveSameAt x y p)
    → ((p : ℕ) → p < n → NeededIn a p → HasDigitAt a m x p (digits p)) → (p : ℕ) → p < n + 1 → NeededIn a p → HasDigitAt a m y p (digits p)
given_more a m x y digits n d e here others before p l k = elim (eqb_tells p n) [
  | inl t ↦ subst (λ (z : ℕ). HasDigitAt a m y z (digits z)) (sym t.1) (subst (λ (z : ℕ). HasDigitAt a m y n z) e (here (subst (NeededIn a) t.1 k)))
  | inr t ↦ digit_kept (result_width m p) x y p (digits p) (others p t.1) (slice_get a.statements p) (before p (omega (arith, t.1, l)) k)
]

-- all positions have their digits, of which those from a place on are old
pub given_all : (a : Item) (m : WidthMap) (x y : World) (old new : ℕ → ℕ) (end : ℕ) → ((p : ℕ) → p < end → NeededIn a p → HasDigitAt a m y p (new p)) → ((p : ℕ) → end ≤ p → GiveSameAt x y p)
    → ((p : ℕ) → end ≤ p → new p ≡ old p) → HasDigits a m x old → HasDigits a m y new
given_all a m x y old new end here others kept before p k = elim (cases_lt p end) [
  | inl l ↦ here p l k
  | inr l ↦
      subst (λ (z : ℕ). HasDigitAt a m y p z) (sym (kept p l))
      (digit_kept (result_width m p) x y p (old p) (others p l) (slice_get a.statements p) (before p k))
]

-- the first world

module _ (w : ℕ) (x : World) (p : ℕ) (v : value_at x p ≡ Number 0) (r : predecessor_at x p ≡ 0) (c : choice_at x p ≡ 0) where
  zero_instruction : (i : Instruction) → HasInstructionDigit x p 0 i
  zero_instruction (Freeze a) = c
  zero_instruction i = tt

  zero_input : value_at x p ≡ numbered_input w 0
  zero_input = v ∙ sym (numbered_value w 0 (pow_pos w))

  zero_rhs : (y : PlainRhs) → HasRhsDigit w x p 0 y
  zero_rhs var = zero_input
  zero_rhs (block b) = r
  zero_rhs (phi f) = tt
  zero_rhs reserved_inst = zero_input
  zero_rhs reserved_const = zero_input
  zero_rhs (instruction i) = zero_instruction i

  zero_statement : (s : Option PlainStatement) → HasStatementDigit w x p 0 s
  zero_statement None = tt
  zero_statement (Some (assigned a)) = zero_rhs a.value
  zero_statement (Some (condition k)) = tt
  zero_statement (Some (block_condition k)) = tt

pub first_numbered : (a : Item) (m : WidthMap) (counts : List ℕ) (n : NumberedWorld) → WellFormed a → ((p : ℕ) → p < length a.statements → 0 < slice_index counts p) → IsFirst (length a.statements) n → IsNumbered a m counts n
first_numbered a m counts n wf some f = record {
  size = f.size;
  places = f.places;
  below = λ p l. subst (λ (z : ℕ). z < slice_index counts p) (sym (f.digits p)) (some p l);
  given = λ p d.
      let l : p < length a.statements = well_formed_inside a wf p d in
      subst (λ (z : ℕ). HasDigitAt a m (view_world n.world) p z) (sym (f.digits p))
      (zero_statement (result_width m p) (view_world n.world) p (f.values p l) (f.predecessors p) (f.choices p) (slice_get a.statements p));
}
