-- Lemmas. The rules of types, constants and operands: a value is read if and only if the tokens have its form.
use Rattle.std.proofs.Common.{◌≡◌, ℕ, suc, zero, Bool, true, false, List, [], ◌∷◌, ◌++◌, length, Option, Some, None, Ok, Err, refl, sym, arith, ◌∙◌, ap, subst}
use Rattle.std.specs.Prelude.{is_some}
use Rattle.std.proofs.lemmas.List.{nil_from_length}
use Rattle.souper_graph.specs.declared.ast.operands.«Type».{«Type» as Ty}
use Rattle.souper_graph.specs.declared.ast.operands.Constant.{Constant}
use Rattle.souper_graph.specs.declared.ast.operands.Operand.{Operand}
use Rattle.souper_graph.specs.declared.ast.operands.Operand.TheVariants.{Value, Constant as constant_variant}
use Rattle.souper_graph.specs.Syntax.Tokens.{Lexeme, val_name, int, comma, colon}
use Rattle.souper_graph.specs.Syntax.Numbers.{number_of, width_of}
use Rattle.souper_graph.specs.Syntax.Spelling.{Scope, position_of, ◌·◌, token, optional, type, of_type, constant, operand, further, operands}
use Rattle.souper_ir.specs.Parsing.{Parsing}
use Rattle.souper_ir.specs.Reading.{Reads, ◌>>=◌}
use Rattle.souper_ir.specs.Continuation.{optional_type_continues, constant_continues, operand_continues, operands_continue}
use Rattle.souper_ir.specs.Grammar.{Free, NextStops, Starts}
use Rattle.souper_ir.specs.NodeReadings.{accept, is_name, as_mark, is_mark, is_int, type_of_word, type_at, optional_type_by, optional_type_at, constant_at, operand_by, operand_at, next_operand_at, further_at, operands_at}
use Rattle.souper_ir.specs.Laws.Peeks.{some_is}
use Rattle.souper_ir.specs.Laws.Steps.{bind_some}
use Rattle.souper_ir.specs.Laws.Tokens.{is_mark_means}
use Rattle.souper_ir.specs.Laws.Next.{Shows}
use Rattle.souper_ir.specs.Laws.Rules.{Rule, Any, Never, reread, regrouped, reformed, mark, int_read, ident_read, name_read, by_name, first, after, last, done, joined_to, optional_rule, either_rule, FormOf, ReadingOf}

-- ---- types

type_of_word_means : (w : List ℕ) (t : Ty) → type_of_word w ≡ Some t → width_of w ≡ Some t.width
type_of_word_means w t e =
    let n = bind_some (width_of w) (λ n. Some (record { width = n })) t e in
    let same : ◌≡◌ {A = Ty} (record { width = n.0 }) t = some_is n.2 in
    n.1 ∙ ap (λ (x : Ty). Some x.width) same

pub type_rule : Rule Any (λ s. type) Never type_at
type_rule = reformed (λ s t ts i h. (i, (h.0, h.1, type_of_word_means h.0 t h.2))) (λ s t ts i h. (i, (h.0, h.1, rw h.2 refl))) (ident_read type_of_word)

-- ---- a type after a colon

-- a colon alone continues a value that may lack its type
pub optional_type_more : (o : Option Ty) (t : Lexeme) → optional_type_continues o t → t ≡ colon
optional_type_more None t h = h
optional_type_more (Some ty) t h = absurd h

of_type_starts : (s : Scope) (t : Ty) (ts : List Lexeme) → of_type t ts → Starts (is_mark colon) ts
of_type_starts s t ts h = rw (h.whole, h.first) refl

some_made : (o : Option Ty) → is_some o ≡ true → (t : Ty) × Any t × (o ≡ Some t)
some_made (Some t) e = (t, tt, refl)
some_made None e = absurd cc

some_type_rule : Rule (λ o. is_some o ≡ true) (λ s. optional of_type) optional_type_continues (optional_type_by true)
some_type_rule = reread (optional_type_by true) (λ p. regrouped (accept (as_mark colon) p) (λ c. type_at c.1) (λ t. Ok (Some t.0, t.1))) (last Some (λ t i. refl) some_made (after (mark colon refl) type_rule))

pub optional_type_rule : Rule Any (λ s. optional of_type) optional_type_continues optional_type_at
unfolding optional_type_at
optional_type_rule = optional_rule optional_type_by (is_mark colon) optional_type_continues (is_mark_means colon) (λ t e. ap (is_mark colon) e) of_type_starts (λ p. refl) some_type_rule

-- ---- constants

pub constant_rule : Rule Any (λ s. constant) constant_continues constant_at
unfolding constant_at
constant_rule =
    first (λ c. c.value) (int_read number_of) (λ n.
    last (λ t. record { value = n; ty = t }) (λ t i. (tt, refl)) (λ c i. (c.ty, tt, rw (← i.1) refl)) optional_type_rule)

pub constant_first : (s : Scope) (c : Constant) (ts : List Lexeme) → constant c ts → Starts is_int ts
constant_first s c ts h = rw (h.whole, h.first.1) refl

-- ---- operands

abbrev is_value : Operand → Bool
is_value (Value i) = true
is_value (constant_variant c) = false

named_made : (x : Operand) → is_value x ≡ true → (i : ℕ) × Any i × (x ≡ Value i)
named_made (Value i) e = (i, tt, refl)
named_made (constant_variant c) e = absurd cc

constant_made : (x : Operand) → is_value x ≡ false → (c : Constant) × Any c × (x ≡ constant_variant c)
constant_made (Value i) e = absurd cc
constant_made (constant_variant c) e = (c, tt, refl)

operand_by_rule : (b : Bool) → Rule (λ x. is_value x ≡ b) operand operand_continues (operand_by b)
operand_by_rule true = reread _ (by_name position_of (λ i p. Ok (Value i, p))) (last Value (λ i o. refl) named_made (name_read position_of))
operand_by_rule false = last constant_variant (λ c o. refl) constant_made constant_rule

operand_shows : (s : Scope) (x : Operand) (ts : List Lexeme) → operand s x ts → Shows is_name (is_value x) ts
operand_shows s (Value i) ts h = rw h.1 refl
operand_shows s (constant_variant c) ts h = rw (h.whole, h.first.1) refl

pub operand_rule : Rule Any operand operand_continues operand_at
unfolding operand_at
operand_rule = either_rule is_name is_value operand_shows operand_by_rule

pub operand_more : (x : Operand) (t : Lexeme) → operand_continues x t → t ≡ colon
operand_more (Value i) t h = absurd h
operand_more (constant_variant c) t h = optional_type_more c.ty t h

-- an operand does not continue the one before it
pub operand_over : (x y : Operand) (s : Scope) (faulty : Bool) (back rest : List Lexeme) → operand s y back → NextStops (operand_continues x) faulty (back ++ rest)
operand_over x (Value i) s faulty back rest h = rw h.1 (λ m. let e = operand_more x (val_name h.0) m in cc)
operand_over x (constant_variant c) s faulty back rest h = rw (h.whole, h.first.1) (λ m. let e = operand_more x (int h.first.0) m in cc)

-- ---- this number of operands

-- the operands after the first do not continue it
further_over : (faulty : Bool) (s : Scope) (x : Operand) (xs : List Operand) (back rest : List Lexeme) → further s xs back → NextStops (operands_continue (x ∷ xs)) faulty rest → NextStops (operand_continues x) faulty (back ++ rest)
further_over faulty s x [] back rest h st = rw h st
further_over faulty s x (y ∷ ys) back rest h st = rw (h.whole, h.first.whole, h.first.first) (λ m. let e = operand_more x comma m in cc)

further_free : (s : Scope) (x : Operand) (xs : List Operand) (back rest : List Lexeme) → further s xs back → Free (operand_continues x) (back ++ rest) → Free (operands_continue xs) rest → Free (operands_continue (x ∷ xs)) rest
further_free s x [] back rest h f g = subst (λ (z : List Lexeme). Free (operand_continues x) (z ++ rest)) h f
further_free s x (y ∷ ys) back rest h f g = g

later_continues : (x : Operand) (xs : List Operand) (t : Lexeme) → operands_continue xs t → operands_continue (x ∷ xs) t
later_continues x [] t h = absurd h
later_continues x (y ∷ ys) t h = h

next_operand_rule : Rule Any (λ s x. token comma · operand s x) operand_continues next_operand_at
unfolding next_operand_at
next_operand_rule = after (mark comma refl) operand_rule

-- an operand, and then n further ones
abbrev paired : Reads Operand → ℕ → Reads (Operand × List Operand)
paired m n = m >>= λ x. (further_at n x.1 >>= λ xs. Ok ((x.0, xs.0), xs.1))

abbrev put_first : (Operand × List Operand) × Parsing → Reads (List Operand)
put_first v = Ok (v.0.0 ∷ v.0.1, v.1)

listed : (m : Reads Operand) (n : ℕ) → ◌≡◌ {A = Reads (List Operand)} (m >>= λ x. (further_at n x.1 >>= λ xs. Ok (x.0 ∷ xs.0, xs.1))) (paired m n >>= put_first)
listed (Ok x) n = regrouped {B = (Operand × List Operand) × Parsing} (further_at n x.1) (λ xs. Ok ((x.0, xs.0), xs.1)) put_first
listed (Err b) n = refl

one_more : (n : ℕ) (xs : List Operand) → length xs ≡ suc n → (v : Operand × List Operand) × (length v.1 ≡ n) × (xs ≡ v.0 ∷ v.1)
one_more n [] e = absurd (omega arith)
one_more n (x ∷ xs) e = ((x, xs), omega (arith, e), refl)

with_further : {F : FormOf Operand} {r : ReadingOf Operand} (n : ℕ) → Rule Any F operand_continues r → Rule (λ xs. length xs ≡ n) further operands_continue (further_at n)
    → Rule (λ (v : Operand × List Operand). length v.1 ≡ n) (λ s v. F s v.0 · further s v.1) (λ v. operands_continue (v.0 ∷ v.1)) (λ p. paired (r p) n)
with_further n m k = joined_to {G = λ s v. further s v.1} {d = λ v. operands_continue v.1} (λ v. v.0)
    (λ faulty s v x back rest i h st. rw (← i) (further_over faulty s v.0 v.1 back rest h st))
    ((λ v t h. later_continues v.0 v.1 t h), (λ s v x back rest i h f g. further_free s v.0 v.1 back rest h (subst (λ z. Free (operand_continues z) (back ++ rest)) (sym i) f) g))
    (λ v x i h. tt) m (λ x. last (λ xs. (x, xs)) (λ xs e. (e, refl)) (λ v i. (v.1, i.0, ap (λ z. (z, v.1)) i.1)) k)

pub further_rule : (n : ℕ) → Rule (λ xs. length xs ≡ n) further operands_continue (further_at n)
unfolding next_operand_at
further_rule zero = done [] refl nil_from_length (λ s ts h. h) (λ s. refl) (λ t h. h)
further_rule (suc n) = reread (further_at (suc n)) (λ p. regrouped (accept (as_mark comma) p) (λ c. operand_at c.1) (λ x. further_at n x.1 >>= λ xs. Ok (x.0 ∷ xs.0, xs.1)) ∙ listed (next_operand_at p) n)
    (last (λ v. v.0 ∷ v.1) (λ v e. ap suc e) (one_more n) (with_further n next_operand_rule (further_rule n)))

pub operands_rule : (n : ℕ) → Rule (λ xs. length xs ≡ n) operands operands_continue (operands_at n)
operands_rule zero = done [] refl nil_from_length (λ s ts h. h) (λ s. refl) (λ t h. h)
operands_rule (suc n) = reread (operands_at (suc n)) (λ p. listed (operand_at p) n) (last (λ v. v.0 ∷ v.1) (λ v e. ap suc e) (one_more n) (with_further n operand_rule (further_rule n)))
