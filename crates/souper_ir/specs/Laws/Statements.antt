-- Lemmas. The rules of statements and last lines: a value is read if and only if the tokens have its form, and at most
-- one prefix has one.
use Rattle.std.proofs.Common.{◌≡◌, ℕ, ◌^◌, ◌<◌, Bool, true, false, List, [], ◌∷◌, ◌++◌, Option, Some, None, Ok, refl, sym, ◌∙◌, ap, subst, ◌⊎◌, inl, inr}
use Rattle.std.specs.Prelude.{codes, nat_lt, is_some, if◌then◌else◌}
use Rattle.std.proofs.lemmas.Bool.Decides.{Decides-ltb}
use Rattle.souper_graph.specs.declared.ast.operands.«Type».{«Type» as Ty}
use Rattle.souper_graph.specs.declared.ast.operands.Operand.{Operand}
use Rattle.souper_graph.specs.declared.ast.operands.Operand.TheVariants.{Value, Constant as constant_variant}
use Rattle.souper_graph.specs.declared.ast.statements.BlockPc.{BlockPc}
use Rattle.souper_graph.specs.Instructions.{operands_of}
use Rattle.souper_graph.specs.Values.{PlainRhs, phi, instruction, PlainAssignment, PlainStatement, assigned, condition, block_condition, PlainInfer, PlainCand}
use Rattle.souper_graph.specs.Syntax.Tokens.{Lexeme, ident, val_name, comma, colon, equals, open_paren}
use Rattle.souper_graph.specs.Syntax.Numbers.{count_of}
use Rattle.souper_graph.specs.Syntax.Spelling.{Scope, position_of, statement, infer, cand, Form, ◌·◌, token, word, perhaps, optional, of_type, value, operand, rhs, attribute, root_attribute, new_name, result}
use Rattle.souper_graph.proofs.Forms.Parts.{◌⇒◌, both, to_left, to_right}
use Rattle.souper_ir.specs.Parsing.{Parsing}
use Rattle.souper_ir.specs.Reading.{Reads, ◌>>=◌, looked_up}
use Rattle.souper_ir.specs.Continuation.{operand_continues, operands_continue, rhs_continues, attributes_continue, assignment_continues, pc_continues, block_pc_continues, statement_continues, infer_continues, cand_continues, result_continues}
use Rattle.souper_ir.specs.Grammar.{NextStops, Starts}
use Rattle.souper_ir.specs.NodeReadings.{accept, as_name, is_name, is_mark, is_word, Definition, fresh, type_and_equals_at, heading_at, definition_at, starts_statement, pc_at, predecessor_below, block_pc_at, root_at, comma_by, optional_comma_at, operand_at, pair_at, result_at}
use Rattle.souper_ir.specs.declared.parse.item.Next.{Next}
use Rattle.souper_ir.specs.declared.parse.item.Next.TheVariants.{Assignment, Pc as kind_pc, BlockPc as kind_block_pc, Other}
use Rattle.souper_ir.specs.NextStatement.{next_statement_of}
use Rattle.souper_ir.specs.Laws.Unique.{Alone}
use Rattle.souper_ir.specs.Laws.Peeks.{some_is}
use Rattle.souper_ir.specs.Laws.Tokens.{some_of_if, is_word_means, word_first}
use Rattle.souper_ir.specs.Laws.Rules.{ReadingOf, Rule, Any, Never, reread, reformed, given, mark, keyword, int_read, name_at, name_read, read_next, by_name, joined, first, after, last, perhaps_rule}
use Rattle.souper_ir.specs.Laws.FromReadings.{alone}
use Rattle.souper_ir.specs.Laws.Operands.{optional_type_more, optional_type_rule, operand_rule, operand_more, operand_over}
use Rattle.souper_ir.specs.Laws.RightSides.{name_first, rhs_rule}
use Rattle.souper_ir.specs.Laws.Attributes.{attribute_rule, attribute_first, root_attribute_rule, root_attribute_first}
use Rattle.souper_ir.specs.Laws.Attributed.{Laws, laws}

-- ---- an assignment up to its attributes

-- a name that is not in scope
abbrev fresh_name : Scope → List ℕ → Option (List ℕ)
fresh_name s n = if is_some (position_of s n) then None else Some n

fresh_means : (o : Option ℕ) (n m : List ℕ) → ◌≡◌ {A = Option (List ℕ)} (if is_some o then None else Some n) (Some m) → (o ≡ None) × (n ≡ m)
fresh_means None n m e = (refl, some_is e)
fresh_means (Some i) n m e = absurd cc

new_name_rule : Rule Any new_name Never (name_at fresh_name)
new_name_rule = reformed
    (λ s n ts i h. let m = fresh_means (position_of s h.0) h.0 n h.2 in (i, (rw (h.1, m.1) refl, subst (λ z. position_of s z ≡ None) m.1 m.0)))
    (λ s n ts i h. (i, (n, h.0, rw h.1 refl)))
    (name_read fresh_name)

-- readings in sequence, grouped otherwise
by_new_name : {V : Type 0} (k : List ℕ → ReadingOf V) (p : Parsing) → (accept as_name p >>= λ n. looked_up (fresh (position_of n.1.scope n.0)) >>= λ f. k n.0 n.1) ≡ (name_at fresh_name p >>= λ x. k x.0 x.1)
by_new_name {V} k p = read_next (accept as_name p) _ _ (λ n. found (position_of n.1.scope n.0) n.0 n.1) ∙ by_name fresh_name k p
  where
    found : (o : Option ℕ) (n : List ℕ) (q : Parsing) → ◌≡◌ {A = Reads V} (looked_up (fresh o) >>= λ f. k n q) (looked_up (if is_some o then None else Some n) >>= λ m. k m q)
    found (Some i) n q = refl
    found None n q = refl

typed_rule : Rule Any (λ s o. optional of_type o · token equals) Never type_and_equals_at
unfolding type_and_equals_at
typed_rule =
    joined (λ o. o) (λ faulty s o t b rest i h st. rw h (λ m. let e = optional_type_more t equals m in cc)) optional_type_rule (λ t.
    last (λ (u : Unit {0}). t) (λ u i. (tt, refl)) (λ o i. (tt, tt, i.1)) (mark equals refl))

heading_rule : Rule Any (λ s (v : List ℕ × Option Ty). new_name s v.0 · optional of_type v.1 · token equals) Never heading_at
unfolding heading_at
heading_rule = reread heading_at (by_new_name (λ n p. type_and_equals_at p >>= λ t. Ok ((n, t.0), t.1)))
    (first (λ v. v.0) new_name_rule (λ n.
    last (λ t. (n, t)) (λ t i. (tt, refl)) (λ v i. (v.1, tt, ap (λ (z : List ℕ). (z, v.1)) i.1)) typed_rule))

abbrev pub definition : Scope → Definition → Form
definition s d = (new_name s d.name · optional of_type d.ty · token equals) · rhs s d.value

abbrev pub definition_continues : Definition → Lexeme → Type 0
definition_continues d t = rhs_continues d.value t

pub definition_rule : Rule Any definition definition_continues definition_at
unfolding definition_at
definition_rule =
    first (λ d. (d.name, d.ty)) heading_rule (λ h.
    last (λ r. record { name = h.0; ty = h.1; value = r }) (λ r i. (tt, refl)) (λ d i. (d.value, tt, ap (λ (z : List ℕ × Option Ty). record { name = z.0; ty = z.1; value = d.value }) i.1)) rhs_rule)

-- ---- path conditions

pub pc_rule : Rule Any (λ s p. statement s (condition p)) pc_continues pc_at
unfolding pc_at
pc_rule =
    after (keyword (codes "pc")) (
    joined (λ p. p.x) (λ faulty s p x b rest i h st. rw (← i) (operand_over p.x p.y s faulty b rest h)) operand_rule (λ x.
    last (λ y. record { x = x; y = y }) (λ y o. (tt, refl)) (λ p i. (p.y, tt, rw (← i.1) refl)) operand_rule))

below_means : (count n m : ℕ) → predecessor_below count n ≡ Some m → (n < count) × (n ≡ m)
below_means count n m e =
    let k = some_of_if (nat_lt n count) n m e in
    ((Decides-ltb n count).0 k.0, k.1)

below_is : (count n : ℕ) → n < count → predecessor_below count n ≡ Some n
below_is count n h = rw ((Decides-ltb n count).1 h) refl

made_again : (p : BlockPc) (b n : ℕ) (x : Operand) → p.block ≡ b → p.predecessor ≡ n → p.x ≡ x → p ≡ record { block = b; predecessor = n; x = x; y = p.y }
made_again p b n x e f g = rw (← e, ← f, ← g) refl

pub block_pc_rule : Rule Any (λ s p. statement s (block_condition p)) block_pc_continues block_pc_at
unfolding block_pc_at
block_pc_rule =
    after (keyword (codes "blockpc")) (
    name_first (λ p. p.block) (λ p n. p.predecessor < n) (λ b.
    first (λ p. p.predecessor) (int_read (count_of (2 ^ 32))) (λ n.
    given (predecessor_below b.1 n) (λ p i. (n, below_is b.1 n (subst (λ z. z < b.1) i.1 i.0.1.1))) (λ w e.
    let m = below_means b.1 n w e in
    joined (λ p. p.x) (λ faulty s p x c rest i h st. rw (← i) (operand_over p.x p.y s faulty c rest h)) operand_rule (λ x.
    last (λ y. record { block = b.0; predecessor = w; x = x; y = y })
    (λ y o. (((tt, (refl, subst (λ z. z < b.1) m.1 m.0)), sym m.1), refl))
    (λ p i. (p.y, tt, made_again p b.0 w x i.0.0.1.0 (i.0.1 ∙ m.1) i.1))
    operand_rule)))))

-- ---- the infer line up to its attributes

abbrev pub root : Scope → ℕ → Form
root s i = word (codes "infer") · value s i

pub root_rule : Rule Any root Never root_at
unfolding root_at
root_rule = after (keyword (codes "infer")) (name_read position_of)

-- ---- the cand line up to its attributes

abbrev pub pair_line : Scope → Operand × Operand → Form
pair_line s v = word (codes "cand") · operand s v.0 · perhaps (token comma) · operand s v.1

abbrev pub pair_line_continues : Operand × Operand → Lexeme → Type 0
pair_line_continues v t = operand_continues v.1 t

-- an operand begins with no comma
operand_no_comma : (y : Operand) (s : Scope) (faulty : Bool) (back rest : List Lexeme) → operand s y back → NextStops (λ t. is_mark comma t ≡ true) faulty (back ++ rest)
operand_no_comma (Value i) s faulty back rest h = rw h.1 (λ e. cc)
operand_no_comma (constant_variant c) s faulty back rest h = rw (h.whole, h.first.1) (λ e. cc)

-- neither the comma nor the second operand continues the first
comma_over : (x y : Operand) (s : Scope) (faulty : Bool) (back rest : List Lexeme) (h : (perhaps (token comma) · operand s y) back) → perhaps (token comma) h.prefix → NextStops (operand_continues x) faulty (back ++ rest)
comma_over x y s faulty back rest h (inl e) = rw (h.whole, e) (operand_over x y s faulty h.suffix rest h.second)
comma_over x y s faulty back rest h (inr e) = rw (h.whole, e) (λ m. let k = operand_more x comma m in cc)

pub pair_line_rule : Rule Any pair_line pair_line_continues pair_at
unfolding pair_at optional_comma_at
pair_line_rule =
    after (keyword (codes "cand")) (
    joined (λ v. v.0) (λ faulty s v x b rest i h st. comma_over x v.1 s faulty b rest h h.first) operand_rule (λ x.
    perhaps_rule comma_by (λ p. operand_at p >>= λ y. Ok ((x, y.0), y.1)) (is_mark comma) (λ ts h. rw h refl) (λ p. refl) (λ faulty s v b rest h. operand_no_comma v.1 s faulty b rest h) (mark comma refl)
    (last (λ y. (x, y)) (λ y i. (tt, refl)) (λ v i. (v.1, tt, ap (λ (z : Operand). (z, v.1)) i.1)) operand_rule)))

-- ---- the result line

pub result_rule : Rule Any result result_continues result_at
unfolding result_at
result_rule = after (keyword (codes "result")) operand_rule

pub result_alone : Alone result result_continues
result_alone = alone result_rule

-- ---- what continues no line

operands_more : (xs : List Operand) (t : Lexeme) → operands_continue xs t → t ≡ colon
operands_more [] t h = absurd h
operands_more (x ∷ []) t h = operand_more x t h
operands_more (x ∷ (y ∷ xs)) t h = operands_more (y ∷ xs) t h

rhs_more : (v : PlainRhs) (t : Lexeme) → rhs_continues v t → t ≡ colon
rhs_more (phi f) t h = operands_more f.values t h
rhs_more (instruction i) t h = operands_more (operands_of i) t h
rhs_more _ t h = absurd h

no_colon : (P : Lexeme → Type 0) → ((t : Lexeme) → P t → t ≡ colon) → ¬ P open_paren
no_colon P more h = let e : open_paren ≡ colon = more open_paren h in cc

attributes_more : {X : Type 0} (before : Type 0) (xs : List X) (t : Lexeme) → (before → t ≡ colon) → attributes_continue before xs t → (t ≡ colon) ⊎ (t ≡ open_paren)
attributes_more before [] t m (inl h) = inr h
attributes_more before [] t m (inr h) = inl (m h)
attributes_more before (x ∷ xs) t m h = inr h

-- a colon or an opening parenthesis
abbrev pub GoesOn : Lexeme → Type 0
GoesOn t = (t ≡ colon) ⊎ (t ≡ open_paren)

pub statement_more : (v : PlainStatement) (t : Lexeme) → statement_continues v t → GoesOn t
statement_more (assigned a) t h = attributes_more (rhs_continues a.value t) a.attributes t (rhs_more a.value t) h
statement_more (condition p) t h = inl (operand_more p.y t h)
statement_more (block_condition p) t h = inl (operand_more p.y t h)

-- a token that can begin a line
abbrev pub begins_line : Lexeme → Bool
begins_line (val_name n) = true
begins_line (ident w) = true
begins_line _ = false

pub starts_begins : (t : Lexeme) → starts_statement t ≡ true → begins_line t ≡ true
starts_begins (val_name n) e = refl
starts_begins _ e = cc

begins_no_more : (t : Lexeme) → begins_line t ≡ true → GoesOn t → ⊥
begins_no_more t b (inl e) = let bad : false ≡ true = subst (λ (u : Lexeme). begins_line u ≡ true) e b in cc
begins_no_more t b (inr e) = let bad : false ≡ true = subst (λ (u : Lexeme). begins_line u ≡ true) e b in cc

-- what begins a line continues none
pub statement_ends : (v : PlainStatement) (t : Lexeme) → begins_line t ≡ true → ¬ statement_continues v t
statement_ends v t b = λ h. begins_no_more t b (statement_more v t h)

pub operand_ends : (x : Operand) (t : Lexeme) → begins_line t ≡ true → ¬ operand_continues x t
operand_ends x t b = λ h. begins_no_more t b (inl (operand_more x t h))

pub infer_ends : (i : PlainInfer) (t : Lexeme) → begins_line t ≡ true → ¬ infer_continues i t
infer_ends i t b = λ h. begins_no_more t b (attributes_more ⊥ i.attributes t (λ x. absurd x) h)

pub cand_ends : (c : PlainCand) (t : Lexeme) → begins_line t ≡ true → ¬ cand_continues c t
cand_ends c t b = λ h. begins_no_more t b (attributes_more (operand_continues c.rhs t) c.attributes t (operand_more c.rhs t) h)

-- ---- lines with attributes

-- an assignment without its attributes
abbrev pub definition_of : PlainAssignment → Definition
definition_of a = record { name = a.name; ty = a.ty; value = a.value }

-- the last part of a form, set apart
inward : {A B C X : Form} → B ⇒ C · X → A · B ⇒ (A · C) · X
inward f ts h = to_left ts (both (λ ts h. h) f ts h)

outward : {A B C X : Form} → C · X ⇒ B → (A · C) · X ⇒ A · B
outward f ts h = both (λ ts h. h) f ts (to_right ts h)

pub assignment_laws : Laws definition definition_continues attribute definition_of (λ (a : PlainAssignment). a.attributes) (λ s a. statement s (assigned a)) assignment_continues
assignment_laws =
    laws definition definition_continues attribute definition_of (λ (a : PlainAssignment). a.attributes) (alone definition_rule) (alone attribute_rule) (attribute_first []) (λ s a. statement s (assigned a))
    (λ s a ts h. to_left ts (inward to_left ts h)) (λ s a ts h. outward to_right ts (to_right ts h)) (λ a. no_colon (rhs_continues a.value) (rhs_more a.value))
    (λ d xs. record { name = d.name; ty = d.ty; value = d.value; attributes = xs }) (λ a. refl)

pub infer_laws : Laws root (λ (r : ℕ) t. ⊥) root_attribute (λ (i : PlainInfer). i.value) (λ (i : PlainInfer). i.attributes) infer infer_continues
infer_laws =
    laws root (λ (r : ℕ) t. ⊥) root_attribute (λ (i : PlainInfer). i.value) (λ (i : PlainInfer). i.attributes) (alone root_rule) (alone root_attribute_rule) (root_attribute_first []) infer
    (λ s i. to_left) (λ s i. to_right) (λ i x. x) (λ r xs. record { value = r; attributes = xs }) (λ i. refl)

-- the two operands of a cand line
abbrev pub pair_of : PlainCand → Operand × Operand
pair_of c = (c.lhs, c.rhs)

pub cand_laws : Laws pair_line pair_line_continues root_attribute pair_of (λ (c : PlainCand). c.attributes) cand cand_continues
cand_laws =
    laws pair_line pair_line_continues root_attribute pair_of (λ (c : PlainCand). c.attributes) (alone pair_line_rule) (alone root_attribute_rule) (root_attribute_first []) cand
    (λ s c. inward (inward to_left)) (λ s c. outward (outward to_right)) (λ c. no_colon (operand_continues c.rhs) (operand_more c.rhs))
    (λ o xs. record { lhs = o.0; rhs = o.1; attributes = xs }) (λ c. refl)

pub infer_alone : Alone infer infer_continues
infer_alone = infer_laws.alone

pub cand_alone : Alone cand cand_continues
cand_alone = cand_laws.alone

-- ---- first tokens

pub assignment_first : (s : Scope) (a : PlainAssignment) (ts : List Lexeme) → statement s (assigned a) ts → Starts is_name ts
assignment_first s a ts h = rw (h.whole, h.first.0) refl

pub infer_first : (s : Scope) (i : PlainInfer) (ts : List Lexeme) → infer s i ts → Starts (is_word (codes "infer")) ts
infer_first s i ts h = word_first (codes "infer") ts h

pub statement_first : (s : Scope) (v : PlainStatement) (ts : List Lexeme) → statement s v ts → Starts starts_statement ts
statement_first s (assigned a) ts h = rw (h.whole, h.first.0) refl
statement_first s _ ts h = rw (h.whole, h.first) refl

-- ---- statements

-- the statement that begins with the first token
abbrev pub next_of : List Lexeme → Next
next_of [] = Other
next_of (t ∷ ts) = next_statement_of (Some t)

pub next_by_word : (w : List ℕ) (ts : List Lexeme) → Starts (is_word w) ts → next_of ts ≡ next_statement_of (Some (ident w))
next_by_word w [] h = absurd h
next_by_word w (t ∷ ts) h = ap (λ (u : Lexeme). next_statement_of (Some u)) (is_word_means w t h)

abbrev pub kind : PlainStatement → Next
kind (assigned a) = Assignment
kind (condition p) = kind_pc
kind (block_condition p) = kind_block_pc

pub statement_kind : (s : Scope) (v : PlainStatement) (a b ts : List Lexeme) → statement s v a → ts ≡ a ++ b → next_of ts ≡ kind v
statement_kind s (assigned v) a b ts h e = rw (e, h.whole, h.first.0) refl
statement_kind s _ a b ts h e = rw (e, h.whole, h.first) refl

pub statement_alone : Alone statement statement_continues
statement_alone s (assigned v) (assigned w) a b c d e m n f g = let k = assignment_laws.alone s v w a b c d e m n f g in (k.0, ap assigned k.1)
statement_alone s (condition v) (condition w) a b c d e m n f g = let k = alone pc_rule s v w a b c d e m n f g in (k.0, ap condition k.1)
statement_alone s (block_condition v) (block_condition w) a b c d e m n f g = let k = alone block_pc_rule s v w a b c d e m n f g in (k.0, ap block_condition k.1)
statement_alone s v w a b c d e m n f g = absurd (let same : kind v ≡ kind w = sym (statement_kind s v a c (a ++ c) m refl) ∙ statement_kind s w b d (a ++ c) n e in cc)
