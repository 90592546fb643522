-- Lemmas on the bits of operands and of words.
use Rattle.std.proofs.Common.{◌≡◌, ℕ, zero, suc, ◌^◌, ◌<◌, ◌≤◌, List, [], ◌∷◌, Option, Some, None, slice_get, sym, ap, subst, ◌∙◌, arith}
use Rattle.std.specs.List.{AllByRecursion}
use Rattle.std.proofs.lemmas.Nat.{pow_pos}
use Rattle.std.proofs.Math.Pow.{pow_mono}
use Rattle.souper_graph.specs.declared.ast.operands.Operand.{Operand}
use Rattle.souper_graph.specs.declared.ast.operands.Operand.TheVariants.{Value, Constant}
use Rattle.souper_words.specs.declared.outcome.Outcome.{Outcome}
use Rattle.souper_words.specs.declared.words.Word.{Word}
use Rattle.souper_words.specs.declared.words.Word.TheVariants.{Select, ExtractValue}
use Rattle.souper_words.specs.Numbers.{bits_of}
use Rattle.souper_words.specs.Outcomes.{number_or}
use Rattle.souper_words.specs.Words.{outcome}
use Rattle.souper_words.proofs.Saturating.{bits_of_below}
use Rattle.souper_words.proofs.OutcomeBits.{outcome_below}
use Rattle.souper_meaning.specs.Instructions.{operand_outcome, optional_outcome, first_width, second_width, word_outcome, optional_word_outcome}
use Rattle.souper_meaning.specs.Statements.{executed_outcome}
use Rattle.souper_meaning.specs.Evaluable.{IsValueBelow, AllowsWidths}

operand_below : (at : ℕ → Outcome) (n v : ℕ) (o : Operand) → n ≤ v → IsValueBelow at (2 ^ v) o → number_or 0 (operand_outcome at n o) < 2 ^ v
operand_below at n v (Value i) h b = b
operand_below at n v (Constant c) h b =
    let p : 2 ^ n ≤ 2 ^ v = pow_mono h in
    let l : bits_of n c.value < 2 ^ n = bits_of_below n c.value in
    omega arith

pub optional_below : (at : ℕ → Outcome) (n v : ℕ) (os : List Operand) (k : ℕ) → n ≤ v → AllByRecursion (IsValueBelow at (2 ^ v)) os → number_or 0 (optional_outcome at n (slice_get os k)) < 2 ^ v
optional_below at n v [] k h b = pow_pos v
optional_below at n v (o ∷ os) zero h b = operand_below at n v o h b.0
optional_below at n v (o ∷ os) (suc k) h b = optional_below at n v os k h b.1

pub executed_below : (at : ℕ → Outcome) (v : ℕ) (os : List Operand) (k : ℕ) → AllByRecursion (IsValueBelow at (2 ^ v)) os → number_or 0 (executed_outcome at v (slice_get os k)) < 2 ^ v
executed_below at v [] k b = pow_pos v
executed_below at v (o ∷ os) zero b = operand_below at v v o (omega arith) b.0
executed_below at v (o ∷ os) (suc k) b = executed_below at v os k b.1

pub first_least : (x : Word) (v : ℕ) → 1 ≤ v → first_width x v ≤ v
first_least Select v h = h
first_least x v h = omega arith

pub second_least : (x : Word) (v : ℕ) → 1 ≤ v → second_width x v ≤ v
second_least ExtractValue v h = h
second_least x v h = omega arith

-- the number of a word's outcome has the bits of the result
pub word_below : (o : Option Word) (w v choice : ℕ) (at : ℕ → Outcome) (os : List Operand) → AllowsWidths o w v → choice < 2 ^ w → 1 ≤ v → AllByRecursion (IsValueBelow at (2 ^ v)) os
    → number_or 0 (optional_word_outcome o w v choice at os) < 2 ^ w
word_below None w v choice at os e c l b = pow_pos w
word_below (Some x) w v choice at os e c l b =
    outcome_below x w v choice (optional_outcome at (first_width x v) (slice_get os 0)) (optional_outcome at (second_width x v) (slice_get os 1)) (optional_outcome at v (slice_get os 2)) e c
    (optional_below at (first_width x v) v os 0 (first_least x v l) b) (optional_below at (second_width x v) v os 1 (second_least x v l) b) (optional_below at v v os 2 (omega arith) b)

-- of an operand that the code has read
pub read_below : (at : ℕ → Outcome) (n v : ℕ) (os : List Operand) (k : ℕ) (o : Outcome) → o ≡ optional_outcome at n (slice_get os k) → n ≤ v → AllByRecursion (IsValueBelow at (2 ^ v)) os → number_or 0 o < 2 ^ v
read_below at n v os k o e l b = subst (λ (z : Outcome). number_or 0 z < 2 ^ v) (sym e) (optional_below at n v os k l b)

-- the outcome of a word on operands that the code has read
pub word_read : (x : Word) (w v choice : ℕ) (at : ℕ → Outcome) (os : List Operand) (n k : ℕ) (a b c o : Outcome) → n ≡ first_width x v → k ≡ second_width x v
    → a ≡ optional_outcome at n (slice_get os 0) → b ≡ optional_outcome at k (slice_get os 1) → c ≡ optional_outcome at v (slice_get os 2) → o ≡ outcome x w v choice a b c → o ≡ word_outcome x w v choice at os
word_read x w v choice at os n k a b c o en ek ea eb ec eo =
    let first : Outcome = optional_outcome at (first_width x v) (slice_get os 0) in
    let second : Outcome = optional_outcome at (second_width x v) (slice_get os 1) in
    eo
    ∙ ap (λ (z : Outcome). outcome x w v choice z b c) (ea ∙ ap (λ (j : ℕ). optional_outcome at j (slice_get os 0)) en)
    ∙ ap (λ (z : Outcome). outcome x w v choice first z c) (eb ∙ ap (λ (j : ℕ). optional_outcome at j (slice_get os 1)) ek)
    ∙ ap (λ (z : Outcome). outcome x w v choice first second z) ec
