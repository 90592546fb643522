-- Each world of an item has a number below their count, and what has such a number is a world.
use Rattle.std.proofs.Common.{◌≡◌, ℕ, suc, ◌/◌, ◌^◌, ◌<◌, ◌≤◌, min, Bool, true, false, cond, List, length, Option, Some, None, slice_get, refl, sym, ap, subst, ◌∙◌, arith, inl, inr}
use Rattle.std.specs.Prelude.{slice_index, slice_index_or}
use Rattle.std.proofs.lemmas.Nat.{mod_below}
use Rattle.std.proofs.lemmas.Bool.{cases_lt, false≢true}
use Rattle.std.proofs.lemmas.Bool.Decides.{leb_tells}
use Rattle.souper_graph.specs.declared.ast.instructions.Instruction.{Instruction}
use Rattle.souper_graph.specs.declared.ast.instructions.Instruction.TheVariants.{Freeze}
use Rattle.souper_graph.specs.Values.{PlainRhs, var, block, phi, reserved_inst, reserved_const, instruction, PlainStatement, assigned, condition, block_condition, Item}
use Rattle.souper_graph.specs.Uses.{NeededIn}
use Rattle.souper_graph.specs.WellFormed.{WellFormed, FitsRhs, FitsStatement}
use Rattle.souper_graph.proofs.Judging.Needed.{statement_at, well_formed_stands, well_formed_inside}
use Rattle.souper_widths.specs.Maps.{WidthMap, result_width}
use Rattle.souper_widths.specs.Nodes.{MarkNeeded}
use Rattle.souper_words.specs.declared.outcome.Outcome.{Outcome}
use Rattle.souper_words.specs.declared.outcome.Outcome.TheVariants.{Number, Poison, Undefined}
use Rattle.souper_meaning.specs.declared.stepping.NumberedWorld.{NumberedWorld}
use Rattle.souper_meaning.specs.View.{view_world}
use Rattle.souper_meaning.specs.Digits.{product_of, number_of, digit_of, AreDigits}
use Rattle.souper_meaning.specs.Worlds.{World, value_at, predecessor_at, choice_at, Mode, value_inputs, poison_inputs, IsNumberBelow, IsInput, GivesInstruction, GivesRhs, GivesStatement, IsWorld}
use Rattle.souper_meaning.specs.Numbering.{input_count, instruction_count, rhs_count, statement_count, count_at, world_count, numbered_input, HasInstructionDigit, HasRhsDigit, HasStatementDigit, HasDigitAt, HasDigits, IsWorldNumber}
use Rattle.souper_meaning.specs.Stepping.{AllowsRhsDigit, AllowsStatementDigit, AreCounts, IsNumbered}
use Rattle.souper_meaning.proofs.Counting.{number_of_digits, number_by_digits_same, number_same, number_below, digit_of_number, count_within, count_positive, product_same}
use Rattle.souper_meaning.proofs.Agreeing.{SameInstruction, SameRhs, SameStatement, AreSame}

-- inputs

pub numbered_value : (w d : ℕ) → d < 2 ^ w → numbered_input w d ≡ Number d
numbered_value w d l = elim (leb_tells (suc d) (2 ^ w)) [
  | inl t ↦ ap (λ (b : Bool). cond b (Number d) Poison) t.0
  | inr t ↦ absurd (omega (arith, t.1, l))
]

pub numbered_poison : (w d : ℕ) → 2 ^ w ≤ d → numbered_input w d ≡ Poison
numbered_poison w d l = elim (leb_tells (suc d) (2 ^ w)) [
  | inl t ↦ absurd (omega (arith, t.1, l))
  | inr t ↦ ap (λ (b : Bool). cond b (Number d) Poison) t.0
]

-- a digit that says what is given
record InputDigit (count w : ℕ) (o : Outcome) : Type 0 where
  digit : ℕ
  below : digit < count
  given : o ≡ numbered_input w digit

input_digit : (mode : Mode) (w : ℕ) (o : Outcome) → IsInput mode w o → InputDigit (input_count mode w) w o
input_digit value_inputs w (Number k) h = record { digit = k; below = h; given = sym (numbered_value w k h) }
input_digit value_inputs w Poison h = absurd h
input_digit value_inputs w Undefined h = absurd h
input_digit poison_inputs w (Number k) h = record { digit = k; below = omega (arith, h); given = sym (numbered_value w k h) }
input_digit poison_inputs w Poison h = record { digit = 2 ^ w; below = omega arith; given = sym (numbered_poison w (2 ^ w) (omega arith)) }
input_digit poison_inputs w Undefined h = absurd h

constant_digit : (w : ℕ) (o : Outcome) → IsNumberBelow (2 ^ w) o → InputDigit (2 ^ w) w o
constant_digit w (Number k) h = record { digit = k; below = h; given = sym (numbered_value w k h) }
constant_digit w Poison h = absurd h
constant_digit w Undefined h = absurd h

number_is_below : (w d : ℕ) → d < 2 ^ w → IsNumberBelow (2 ^ w) (numbered_input w d)
number_is_below w d l = subst (λ (o : Outcome). IsNumberBelow (2 ^ w) o) (sym (numbered_value w d l)) l

input_is_given : (mode : Mode) (w d : ℕ) → d < input_count mode w → IsInput mode w (numbered_input w d)
input_is_given value_inputs w d l = subst (λ (o : Outcome). IsInput value_inputs w o) (sym (numbered_value w d l)) l
input_is_given poison_inputs w d l = elim (cases_lt d (2 ^ w)) [
  | inl k ↦ subst (λ (o : Outcome). IsInput poison_inputs w o) (sym (numbered_value w d k)) k
  | inr k ↦ subst (λ (o : Outcome). IsInput poison_inputs w o) (sym (numbered_poison w d k)) tt
]

-- statements

record StatementDigit (mode : Mode) (w : ℕ) (x : World) (p : ℕ) (s : Option PlainStatement) : Type 0 where
  digit : ℕ
  below : digit < statement_count mode w s
  given : HasStatementDigit w x p digit s

record RhsDigit (mode : Mode) (w : ℕ) (x : World) (p : ℕ) (r : PlainRhs) : Type 0 where
  digit : ℕ
  below : digit < rhs_count mode w r
  given : HasRhsDigit w x p digit r

record InstructionDigit (w : ℕ) (x : World) (p : ℕ) (i : Instruction) : Type 0 where
  digit : ℕ
  below : digit < instruction_count w i
  given : HasInstructionDigit x p digit i

instruction_digit : (w : ℕ) (x : World) (p : ℕ) (i : Instruction) → GivesInstruction w x p i → InstructionDigit w x p i
instruction_digit w x p (Freeze a) h = record { digit = choice_at x p; below = h; given = refl }
instruction_digit w x p i h = record { digit = 0; below = omega arith; given = tt }

module _ (mode : Mode) (w : ℕ) (x : World) (p : ℕ) where
  rhs_digit : (r : PlainRhs) → GivesRhs mode w x p r → RhsDigit mode w x p r
  rhs_digit var h = let d = input_digit mode w (value_at x p) h in record { digit = d.digit; below = d.below; given = d.given }
  rhs_digit (block b) h = record { digit = predecessor_at x p; below = h; given = refl }
  rhs_digit (phi f) h = record { digit = 0; below = omega arith; given = tt }
  rhs_digit reserved_inst h = let d = input_digit mode w (value_at x p) h in record { digit = d.digit; below = d.below; given = d.given }
  rhs_digit reserved_const h = let d = constant_digit w (value_at x p) h in record { digit = d.digit; below = d.below; given = d.given }
  rhs_digit (instruction i) h = let d = instruction_digit w x p i h in record { digit = d.digit; below = d.below; given = d.given }

  statement_digit : (s : Option PlainStatement) → GivesStatement mode w x p s → StatementDigit mode w x p s
  statement_digit None h = record { digit = 0; below = omega arith; given = tt }
  statement_digit (Some (assigned a)) h = let d = rhs_digit a.value h in record { digit = d.digit; below = d.below; given = d.given }
  statement_digit (Some (condition c)) h = record { digit = 0; below = omega arith; given = tt }
  statement_digit (Some (block_condition c)) h = record { digit = 0; below = omega arith; given = tt }

  instruction_is_given : (d : ℕ) (i : Instruction) → d < instruction_count w i → HasInstructionDigit x p d i → GivesInstruction w x p i
  instruction_is_given d (Freeze a) l h = subst (λ (z : ℕ). z < 2 ^ w) (sym h) l
  instruction_is_given d i l h = tt

  rhs_is_given : (d : ℕ) (r : PlainRhs) → d < rhs_count mode w r → HasRhsDigit w x p d r → GivesRhs mode w x p r
  rhs_is_given d var l h = subst (λ (o : Outcome). IsInput mode w o) (sym h) (input_is_given mode w d l)
  rhs_is_given d (block b) l h = subst (λ (z : ℕ). z < b.predecessors) (sym h) l
  rhs_is_given d (phi f) l h = tt
  rhs_is_given d reserved_inst l h = subst (λ (o : Outcome). IsInput mode w o) (sym h) (input_is_given mode w d l)
  rhs_is_given d reserved_const l h = subst (λ (o : Outcome). IsNumberBelow (2 ^ w) o) (sym h) (number_is_below w d l)
  rhs_is_given d (instruction i) l h = instruction_is_given d i l h

  pub statement_is_given : (d : ℕ) (s : Option PlainStatement) → d < statement_count mode w s → HasStatementDigit w x p d s → GivesStatement mode w x p s
  statement_is_given d None l h = tt
  statement_is_given d (Some (assigned a)) l h = rhs_is_given d a.value l h
  statement_is_given d (Some (condition c)) l h = tt
  statement_is_given d (Some (block_condition c)) l h = tt

-- digits of blocks

rhs_allows : (mode : Mode) (w d : ℕ) (r : PlainRhs) → FitsRhs r → d < rhs_count mode w r → AllowsRhsDigit d r
rhs_allows mode w d var f l = tt
rhs_allows mode w d (block b) f l = omega (arith, f, l)
rhs_allows mode w d (phi k) f l = tt
rhs_allows mode w d reserved_inst f l = tt
rhs_allows mode w d reserved_const f l = tt
rhs_allows mode w d (instruction i) f l = tt

statement_allows : (mode : Mode) (w d : ℕ) (s : PlainStatement) → FitsStatement s → d < statement_count mode w (Some s) → AllowsStatementDigit d (Some s)
statement_allows mode w d (assigned a) f l = rhs_allows mode w d a.value f.value_fits l
statement_allows mode w d (condition c) f l = tt
statement_allows mode w d (block_condition c) f l = tt

-- two worlds with the same digit

module _ (w : ℕ) (x y : World) (p d : ℕ) where
  instruction_by_digit : (i : Instruction) → HasInstructionDigit x p d i → HasInstructionDigit y p d i → SameInstruction x y p i
  instruction_by_digit (Freeze a) h k = h ∙ sym k
  instruction_by_digit i h k = tt

  rhs_by_digit : (r : PlainRhs) → HasRhsDigit w x p d r → HasRhsDigit w y p d r → SameRhs x y p r
  rhs_by_digit var h k = h ∙ sym k
  rhs_by_digit (block b) h k = h ∙ sym k
  rhs_by_digit (phi f) h k = tt
  rhs_by_digit reserved_inst h k = h ∙ sym k
  rhs_by_digit reserved_const h k = h ∙ sym k
  rhs_by_digit (instruction i) h k = instruction_by_digit i h k

  statement_by_digit : (s : Option PlainStatement) → HasStatementDigit w x p d s → HasStatementDigit w y p d s → SameStatement x y p s
  statement_by_digit None h k = tt
  statement_by_digit (Some (assigned a)) h k = rhs_by_digit a.value h k
  statement_by_digit (Some (condition c)) h k = tt
  statement_by_digit (Some (block_condition c)) h k = tt

-- a world has one digit at a position

input_once : (mode : Mode) (w d e : ℕ) → d < input_count mode w → e < input_count mode w → numbered_input w d ≡ numbered_input w e → d ≡ e
input_once value_inputs w d e l k h = let f : Number d ≡ Number e = sym (numbered_value w d l) ∙ h ∙ numbered_value w e k in cc
input_once poison_inputs w d e l k h = elim (cases_lt d (2 ^ w)) [
  | inl q ↦ elim (cases_lt e (2 ^ w)) [
    | inl r ↦ let f : Number d ≡ Number e = sym (numbered_value w d q) ∙ h ∙ numbered_value w e r in cc
    | inr r ↦ absurd (let f : Number d ≡ Poison = sym (numbered_value w d q) ∙ h ∙ numbered_poison w e r in cc)
  ]
  | inr q ↦ elim (cases_lt e (2 ^ w)) [
    | inl r ↦ absurd (let f : Number e ≡ Poison = sym (numbered_value w e r) ∙ sym h ∙ numbered_poison w d q in cc)
    | inr r ↦ omega (arith, q, r, l, k)
  ]
]

module _ (mode : Mode) (w : ℕ) (x : World) (p d e : ℕ) where
  instruction_once : (i : Instruction) → d < instruction_count w i → e < instruction_count w i → HasInstructionDigit x p d i → HasInstructionDigit x p e i → d ≡ e
  instruction_once (Freeze a) l k h i = sym h ∙ i
  instruction_once y l k h i = omega (arith, l, k)

  rhs_once : (y : PlainRhs) → d < rhs_count mode w y → e < rhs_count mode w y → HasRhsDigit w x p d y → HasRhsDigit w x p e y → d ≡ e
  rhs_once var l k h i = input_once mode w d e l k (sym h ∙ i)
  rhs_once (block b) l k h i = sym h ∙ i
  rhs_once (phi f) l k h i = omega (arith, l, k)
  rhs_once reserved_inst l k h i = input_once mode w d e l k (sym h ∙ i)
  rhs_once reserved_const l k h i = input_once value_inputs w d e l k (sym h ∙ i)
  rhs_once (instruction y) l k h i = instruction_once y l k h i

  statement_once : (s : Option PlainStatement) → d < statement_count mode w s → e < statement_count mode w s → HasStatementDigit w x p d s → HasStatementDigit w x p e s → d ≡ e
  statement_once None l k h i = omega (arith, l, k)
  statement_once (Some (assigned a)) l k h i = rhs_once a.value l k h i
  statement_once (Some (condition c)) l k h i = omega (arith, l, k)
  statement_once (Some (block_condition c)) l k h i = omega (arith, l, k)

-- whole items

pub same_by_digits : (a : Item) (m : WidthMap) (x y : World) (digits : ℕ → ℕ) → HasDigits a m x digits → HasDigits a m y digits → AreSame a x y
same_by_digits a m x y digits h k = record { at = λ p d. statement_by_digit (result_width m p) x y p (digits p) (slice_get a.statements p) (h p d) (k p d) }

pub count_needed : (mode : Mode) (a : Item) (m : WidthMap) (marks : List Bool) (p : ℕ) → slice_index_or marks p false ≡ true → count_at mode a m marks p ≡ statement_count mode (result_width m p) (slice_get a.statements p)
count_needed mode a m marks p e = ap (λ (b : Bool). cond b (statement_count mode (result_width m p) (slice_get a.statements p)) 1) e

pub count_unneeded : (mode : Mode) (a : Item) (m : WidthMap) (marks : List Bool) (p : ℕ) → slice_index_or marks p false ≡ false → count_at mode a m marks p ≡ 1
count_unneeded mode a m marks p e = ap (λ (b : Bool). cond b (statement_count mode (result_width m p) (slice_get a.statements p)) 1) e

module _ (mode : Mode) (a : Item) (m : WidthMap) (marks : List Bool) (wf : WellFormed a) (marked : MarkNeeded a marks) where
  record DigitAt (x : World) (p : ℕ) : Type 0 where
    digit : ℕ
    below : digit < count_at mode a m marks p
    given : NeededIn a p → HasDigitAt a m x p digit

  digit_by_mark : (x : World) → IsWorld mode a m x → (p : ℕ) (b : Bool) → slice_index_or marks p false ≡ b → DigitAt x p
  digit_by_mark x w p true e =
      let d = statement_digit mode (result_width m p) x p (slice_get a.statements p) (w p ((marked.exact p).0 e)) in
      record { digit = d.digit; below = subst (λ (z : ℕ). d.digit < z) (sym (count_needed mode a m marks p e)) d.below; given = λ n. d.given }
  digit_by_mark x w p false e =
      record { digit = 0; below = subst (λ (z : ℕ). 0 < z) (sym (count_unneeded mode a m marks p e)) (omega arith); given = λ n. absurd (false≢true (sym e ∙ (marked.exact p).1 n)) }

  digit_given : (x : World) → IsWorld mode a m x → (p : ℕ) → DigitAt x p
  digit_given x w p = digit_by_mark x w p (slice_index_or marks p false) refl

  -- the number of a world
  pub record HasNumber (x : World) : Type 0 where
    pub number : ℕ
    pub inside : number < world_count mode a m marks
    pub numbered : IsWorldNumber mode a m marks number x

  pub number_by_digits : (x : World) (digits : ℕ → ℕ) → AreDigits (count_at mode a m marks) digits (length a.statements) → HasDigits a m x digits
      → IsWorldNumber mode a m marks (number_of (count_at mode a m marks) digits (length a.statements)) x
  number_by_digits x digits below given p d =
      subst (λ (z : ℕ). HasDigitAt a m x p z) (sym (digit_of_number (count_at mode a m marks) digits (length a.statements) p (well_formed_inside a wf p d) below)) (given p d)

  pub number_given : (x : World) → IsWorld mode a m x → HasNumber x
  number_given x w =
      let digits : ℕ → ℕ = λ p. (digit_given x w p).digit in
      let below : AreDigits (count_at mode a m marks) digits (length a.statements) = λ p l. (digit_given x w p).below in
      record {
        number = number_of (count_at mode a m marks) digits (length a.statements);
        inside = number_below (count_at mode a m marks) digits (length a.statements) below;
        numbered = number_by_digits x digits below (λ p d. (digit_given x w p).given d);
      }

  pub world_by_digits : (x : World) (digits : ℕ → ℕ) → AreDigits (count_at mode a m marks) digits (length a.statements) → HasDigits a m x digits → IsWorld mode a m x
  world_by_digits x digits below given p d =
      statement_is_given mode (result_width m p) x p (digits p) (slice_get a.statements p)
      (subst (λ (z : ℕ). digits p < z) (count_needed mode a m marks p ((marked.exact p).1 d)) (below p (well_formed_inside a wf p d))) (given p d)

  -- a digit of a number below the count of worlds is below the count of its position
  digits_below : (k : ℕ) → k < world_count mode a m marks → AreDigits (count_at mode a m marks) (digit_of (count_at mode a m marks) k) (length a.statements)
  digits_below k l p q = mod_below (k / product_of (count_at mode a m marks) p) (count_at mode a m marks p) (count_positive (count_at mode a m marks) (length a.statements) p (omega (arith, l)) q)

  pub world_by_number : (k : ℕ) (x : World) → k < world_count mode a m marks → IsWorldNumber mode a m marks k x → IsWorld mode a m x
  world_by_number k x l n = world_by_digits x (digit_of (count_at mode a m marks) k) (digits_below k l) n

  digit_once : (x : World) (p d e : ℕ) (b : Bool) → slice_index_or marks p false ≡ b → d < count_at mode a m marks p → e < count_at mode a m marks p → (NeededIn a p → HasDigitAt a m x p d) → (NeededIn a p → HasDigitAt a m x p e) → d ≡ e
  digit_once x p d e true q l k h i =
      let n : NeededIn a p = (marked.exact p).0 q in
      statement_once mode (result_width m p) x p d e (slice_get a.statements p) (subst (λ (z : ℕ). d < z) (count_needed mode a m marks p q) l) (subst (λ (z : ℕ). e < z) (count_needed mode a m marks p q) k) (h n) (i n)
  digit_once x p d e false q l k h i = omega (arith, subst (λ (z : ℕ). d < z) (count_unneeded mode a m marks p q) l, subst (λ (z : ℕ). e < z) (count_unneeded mode a m marks p q) k)

  -- a world has one number
  pub number_once : (j k : ℕ) (x : World) → j < world_count mode a m marks → k < world_count mode a m marks → IsWorldNumber mode a m marks j x → IsWorldNumber mode a m marks k x → j ≡ k
  number_once j k x l q h i =
      sym (number_of_digits (count_at mode a m marks) j (length a.statements) l)
      ∙ number_by_digits_same (count_at mode a m marks) (digit_of (count_at mode a m marks) j) (digit_of (count_at mode a m marks) k) (length a.statements)
      (λ p n. digit_once x p (digit_of (count_at mode a m marks) j p) (digit_of (count_at mode a m marks) k p) (slice_index_or marks p false) refl (digits_below j l p n) (digits_below k q p n) (h p) (i p))
      ∙ number_of_digits (count_at mode a m marks) k (length a.statements) q

  allow_at : (p d : ℕ) (s : PlainStatement) → NeededIn a p → slice_get a.statements p ≡ Some s → d < count_at mode a m marks p → AllowsStatementDigit d (slice_get a.statements p)
  allow_at p d s n e l =
      subst (λ (o : Option PlainStatement). AllowsStatementDigit d o) (sym e)
      (statement_allows mode (result_width m p) d s (wf.closed p s n e).fits
      (subst (λ (o : Option PlainStatement). d < statement_count mode (result_width m p) o) e (subst (λ (z : ℕ). d < z) (count_needed mode a m marks p ((marked.exact p).1 n)) l)))

  pub counts_allow : (counts : List ℕ) → length counts ≡ length a.statements → ((p : ℕ) → p < length a.statements → slice_index counts p ≡ count_at mode a m marks p) → AreCounts a counts
  counts_allow counts size exact = record {
    size = size;
    allow = λ p d l n. allow_at p d (statement_at a.statements p) n (well_formed_stands a wf p n) (subst (λ (z : ℕ). d < z) (exact p (well_formed_inside a wf p n)) l);
  }

  -- a world that goes from number to number

  module _ (counts : List ℕ) (size : length counts ≡ length a.statements) (exact : (p : ℕ) → p < length a.statements → slice_index counts p ≡ count_at mode a m marks p) where
    module _ (n : NumberedWorld) (h : IsNumbered a m counts n) where
      digits_here : AreDigits (count_at mode a m marks) (slice_index n.digits.items) (length a.statements)
      digits_here p l = subst (λ (z : ℕ). slice_index n.digits.items p < z) (exact p l) (h.below p l)

      pub world_here : IsWorld mode a m (view_world n.world)
      world_here = world_by_digits (view_world n.world) (slice_index n.digits.items) digits_here h.given

      pub number_here : (k : ℕ) → number_of (slice_index counts) (slice_index n.digits.items) (length counts) ≡ k → IsWorldNumber mode a m marks k (view_world n.world)
      number_here k e =
          let f : number_of (count_at mode a m marks) (slice_index n.digits.items) (length a.statements) ≡ k =
          sym (number_same (count_at mode a m marks) (slice_index counts) (slice_index n.digits.items) (length a.statements) exact) ∙ ap (number_of (slice_index counts) (slice_index n.digits.items)) (sym size) ∙ e
          in
          subst (λ (z : ℕ). IsWorldNumber mode a m marks z (view_world n.world)) f (number_by_digits (view_world n.world) (slice_index n.digits.items) digits_here h.given)

    pub product_here : product_of (slice_index counts) (length counts) ≡ world_count mode a m marks
    product_here = ap (product_of (slice_index counts)) size ∙ product_same (count_at mode a m marks) (slice_index counts) (length a.statements) exact

    pub some_here : 0 < world_count mode a m marks → (p : ℕ) → p < length a.statements → 0 < slice_index counts p
    some_here l p q = subst (λ (z : ℕ). 0 < z) (sym (exact p q)) (count_positive (count_at mode a m marks) (length a.statements) p l q)

-- counts that are capped at the top are exact if the product is below it, and not 0
pub counts_exact : (r s : ℕ → ℕ) (top n : ℕ) → ((p : ℕ) → p < n → s p ≡ min (r p) top) → 0 < product_of r n → product_of r n < top → (p : ℕ) → p < n → s p ≡ r p
counts_exact r s top n h l k p q = h p q ∙ (let w : r p ≤ product_of r n = count_within r n p l q in omega arith)
