-- Operands that a loop reads in sequence.
use Rattle.std.proofs.Common.{◌≡◌, ◌≢◌, ℕ, ◌+◌, ◌<◌, zero, suc, List, [], ◌∷◌, ◌++◌, Some, Bool, Ok, Err, refl, sym, ◌∙◌, ap, subst, arith, add-one, ◌-◌}
use Rattle.souper_graph.specs.declared.ast.instructions.Instruction.{Instruction}
use Rattle.souper_graph.specs.declared.ast.operands.Operand.{Operand}
use Rattle.souper_graph.specs.Syntax.Tokens.{comma}
use Rattle.souper_errors.specs.declared.error.ParseError.{ParseError}
use Rattle.souper_ir.specs.declared.parse.words.Opcode.{Opcode}
use Rattle.souper_ir.specs.Words.{Shape, no_operand, one_operand, two_operands, three_operands, count_of_shape, shape_of, operand_count, instruction_by}
use Rattle.souper_errors.specs.Errors.{at_end_of}
use Rattle.souper_ir.specs.Parsing.{Parsing}
use Rattle.souper_ir.specs.NodeReadings.{accept, as_mark, operand_at, next_operand_at, further_at, operands_at, instruction_of_at}
use Rattle.souper_ir.specs.Reading.{Reads, ◌>>=◌, cause_of, IfRefused, if_refused, Fails, fails_later}
use Rattle.souper_ir.specs.Laws.Rules.{regrouped, read_next}

-- the operands that are read after one that was
abbrev then_further : ℕ → Operand × Parsing → Reads (List Operand)
then_further k x = further_at k x.1 >>= λ xs. Ok (x.0 ∷ xs.0, xs.1)

-- one more operand, after those that were read
abbrev and_next : List Operand × Parsing → Reads (List Operand)
and_next xs = next_operand_at xs.1 >>= λ x. Ok (xs.0 ++ x.0 ∷ [], x.1)

in_front : (x : Operand) (m : Reads (List Operand)) → ((m >>= and_next) >>= λ xs. Ok (x ∷ xs.0, xs.1)) ≡ ((m >>= λ xs. Ok (x ∷ xs.0, xs.1)) >>= and_next)
in_front x (Ok xs) = sym (regrouped (next_operand_at xs.1) _ _)
in_front x (Err b) = refl

further_next : (k : ℕ) (p : Parsing) → further_at (suc k) p ≡ (next_operand_at p >>= then_further k)
unfolding next_operand_at
further_next k p = regrouped (accept (as_mark comma) p) (λ c. operand_at c.1) (then_further k)

then_last : (k : ℕ) → ((p : Parsing) → further_at (suc k) p ≡ (further_at k p >>= and_next)) → (x : Operand × Parsing) → then_further (suc k) x ≡ (then_further k x >>= and_next)
then_last k last x = ap (λ m. m >>= λ xs. Ok (x.0 ∷ xs.0, xs.1)) (last x.1) ∙ in_front x.0 (further_at k x.1)

-- the last operand is read after the others
further_last : (k : ℕ) (p : Parsing) → further_at (suc k) p ≡ (further_at k p >>= and_next)
further_last zero p = further_next zero p
further_last (suc k) p =
    further_next (suc k) p ∙ read_next (next_operand_at p) (then_further (suc k)) (λ x. then_further k x >>= and_next) (then_last k (further_last k))
    ∙ regrouped (next_operand_at p) (then_further k) and_next ∙ ap (λ m. m >>= and_next) (sym (further_next k p))

operands_last : (p : Parsing) (k : ℕ) → operands_at (suc (suc k)) p ≡ (operands_at (suc k) p >>= and_next)
operands_last p k = read_next (operand_at p) (then_further (suc k)) (λ x. then_further k x >>= and_next) (then_last k (further_last k)) ∙ regrouped (operand_at p) (then_further k) and_next

module _ (read : ℕ → Reads (List Operand)) (last : (k : ℕ) → read (suc k) ≡ (read k >>= and_next)) where
  stuck : (j n k : ℕ) (b : Bool) (q : Parsing) (xs : List Operand) → n + suc j ≡ k → read n ≡ Ok (xs, q) → next_operand_at q ≡ Err b → read k ≡ Err b
  stuck zero n k b q xs s d e = subst (λ (m : ℕ). read m ≡ Err b) (let same : suc n ≡ k = omega arith in same) (last n ∙ rw (d, e) refl)
  stuck (suc j) n k b q xs s d e = subst (λ (m : ℕ). read m ≡ Err b) (let same : suc (n + suc j) ≡ k = omega arith in same) (last (n + suc j) ∙ rw (stuck j n (n + suc j) b q xs refl d e) refl)

pub further_more : (n : ℕ) (p q r : Parsing) (xs : List Operand) (x : Operand) → further_at n p ≡ Ok (xs, q) → next_operand_at q ≡ Ok (x, r) → further_at (n + 1) p ≡ Ok (xs ++ x ∷ [], r)
further_more n p q r xs x d e = rw add-one (further_last n p ∙ rw (d, e) refl)

-- ---- with commas between them

pub operands_one : (p q : Parsing) (x : Operand) → operand_at p ≡ Ok (x, q) → operands_at 1 p ≡ Ok (x ∷ [], q)
operands_one p q x e = rw e refl

operands_none : (k : ℕ) (b : Bool) (p : Parsing) → 0 < k → operand_at p ≡ Err b → operands_at k p ≡ Err b
operands_none zero b p l e = absurd (omega arith)
operands_none (suc k) b p l e = rw e refl

pub operands_more : (n : ℕ) (p q r : Parsing) (xs : List Operand) (x : Operand) → 0 < n → operands_at n p ≡ Ok (xs, q) → next_operand_at q ≡ Ok (x, r) → operands_at (n + 1) p ≡ Ok (xs ++ x ∷ [], r)
operands_more zero p q r xs x l d e = absurd (omega arith)
operands_more (suc n) p q r xs x l d e = rw add-one (operands_last p n ∙ rw (d, e) refl)

operands_stuck : (n k : ℕ) (b : Bool) (p q : Parsing) (xs : List Operand) → 0 < n → n < k → operands_at n p ≡ Ok (xs, q) → next_operand_at q ≡ Err b → operands_at k p ≡ Err b
operands_stuck (suc n) (suc k) b p q xs l m d e = stuck (λ k. operands_at (suc k) p) (operands_last p) (k - suc n) n k b q xs (omega arith) d e
operands_stuck _ _ b p q xs l m d e = absurd (omega arith)

-- ---- an instruction of its operands

pub instruction_of_read : (n : ℕ) (o : Opcode) (p q : Parsing) (xs : List Operand) (i : Instruction) → operand_count o ≡ n → operands_at n p ≡ Ok (xs, q) → instruction_by o xs ≡ Some i
    → instruction_of_at o p ≡ Ok (i, q)
unfolding instruction_of_at
instruction_of_read n o p q xs i e d h = rw (e, d, h) refl

instruction_of_unread : (n : ℕ) (b : Bool) (o : Opcode) (p : Parsing) → operand_count o ≡ n → operands_at n p ≡ Err b → instruction_of_at o p ≡ Err b
unfolding instruction_of_at
instruction_of_unread n b o p e d = rw (e, d) refl

three : (s : Shape) → (count_of_shape s ≡ 0 → ⊥) → (count_of_shape s ≡ 1 → ⊥) → (count_of_shape s ≡ 2 → ⊥) → count_of_shape s ≡ 3
three (no_operand i) a b c = absurd (a refl)
three (one_operand f) a b c = absurd (b refl)
three (two_operands f) a b c = absurd (c refl)
three (three_operands f) a b c = refl

-- an instruction that takes neither none nor one nor two operands takes three
pub takes_three : (o : Opcode) (n : ℕ) → n ≡ operand_count o → n ≢ 0 → n ≢ 1 → n ≢ 2 → operand_count o ≡ 3
takes_three o n e a b c = three (shape_of o) (λ k. a (e ∙ k)) (λ k. b (e ∙ k)) (λ k. c (e ∙ k))

-- ---- parse errors

pub further_fails : (n k : ℕ) (p q r : Parsing) (xs : List Operand) (e : ParseError) → n < k → further_at n p ≡ Ok (xs, q) → q.failed ≡ p.failed → q.len ≡ p.len
    → IfRefused (cause_of e) (next_operand_at q ≡ Err (at_end_of e)) × Fails e q r → IfRefused (cause_of e) (further_at k p ≡ Err (at_end_of e)) × Fails e p r
further_fails n k p q r xs e l d f m h = (if_refused (cause_of e) (stuck (λ k. further_at k p) (λ k. further_last k p) (k - suc n) n k (at_end_of e) q xs (omega arith) d) h.0, fails_later e p q r f m h.1)

-- after n of the k operands
pub operand_fails : (n k : ℕ) (o : Opcode) (p q r : Parsing) (xs : List Operand) (e : ParseError) → operand_count o ≡ k → 0 < n → n < k → operands_at n p ≡ Ok (xs, q) → q.failed ≡ p.failed → q.len ≡ p.len
    → IfRefused (cause_of e) (next_operand_at q ≡ Err (at_end_of e)) × Fails e q r → IfRefused (cause_of e) (instruction_of_at o p ≡ Err (at_end_of e)) × Fails e p r
operand_fails n k o p q r xs e c a l d f m h = (if_refused (cause_of e) (λ x. instruction_of_unread k (at_end_of e) o p c (operands_stuck n k (at_end_of e) p q xs a l d x)) h.0, fails_later e p q r f m h.1)

pub first_fails : (k : ℕ) (o : Opcode) (p r : Parsing) (e : ParseError) → operand_count o ≡ k → 0 < k → IfRefused (cause_of e) (operand_at p ≡ Err (at_end_of e)) × Fails e p r
    → IfRefused (cause_of e) (instruction_of_at o p ≡ Err (at_end_of e)) × Fails e p r
first_fails k o p r e c l h = (if_refused (cause_of e) (λ x. instruction_of_unread k (at_end_of e) o p c (operands_none k (at_end_of e) p l x)) h.0, h.1)
