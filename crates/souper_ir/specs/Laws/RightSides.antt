-- Lemmas. The rules of right sides: a value is read if and only if the tokens have its form.
use Rattle.std.proofs.Common.{◌≡◌, ℕ, ◌^◌, Bool, true, false, List, [], ◌∷◌, ◌++◌, length, Option, Some, None, refl, sym, ◌∙◌, ap, subst}
use Rattle.std.specs.Prelude.{codes, is_some, ◌↔◌}
use Rattle.souper_graph.specs.declared.ast.operands.Operand.{Operand}
use Rattle.souper_graph.specs.declared.ast.instructions.Instruction.{Instruction}
use Rattle.souper_graph.specs.declared.ast.statements.Block.{Block}
use Rattle.souper_graph.specs.Instructions.{word_of as instruction_word, operands_of}
use Rattle.souper_graph.specs.Values.{PlainPhi, PlainRhs, var, block, phi, reserved_inst, reserved_const, instruction}
use Rattle.souper_graph.specs.Syntax.Tokens.{Lexeme, ident, val_name}
use Rattle.souper_graph.specs.Syntax.Numbers.{count_of}
use Rattle.souper_graph.specs.Syntax.Spelling.{Scope, entry_of, ◌·◌, nothing, word, one, block_name, count, further, operands, rhs}
use Rattle.souper_graph.proofs.Forms.Parts.{both}
use Rattle.souper_ir.specs.Reading.{◌>>=◌}
use Rattle.souper_ir.specs.declared.parse.words.Opcode.{Opcode}
use Rattle.souper_ir.specs.declared.parse.words.RhsWord.{RhsWord}
use Rattle.souper_ir.specs.declared.parse.words.RhsWord.TheVariants.{Var as begins_var, Block as begins_block, Phi as begins_phi, ReservedInst as begins_reserved_inst, ReservedConst as begins_reserved_const, Instruction as begins_instruction}
use Rattle.souper_ir.specs.Words.{opcode_of, operand_count, instruction_by, rhs_keyword_of, instruction_or, rhs_word_of}
use Rattle.souper_ir.specs.Continuation.{operands_continue, phi_continues, instruction_continues, rhs_continues}
use Rattle.souper_ir.specs.Grammar.{Free, NextStops, Starts}
use Rattle.souper_ir.specs.NodeReadings.{is_any, block_after_word_at, block_node_at, block_entry, block_name_at, phi_after_word_at, phi_at, instruction_of_at, instruction_at, starts_instruction, rhs_word_by, rhs_word_at, rhs_by, rhs_at}
use Rattle.souper_ir.specs.Laws.Peeks.{some_is}
use Rattle.souper_ir.specs.Laws.Words.{opcode_is, opcode, made_means, some_of, word_by, word_by_is, word_is_by, opcode_named, named}
use Rattle.souper_ir.specs.Laws.Rules.{FormOf, ReadingOf, Rule, Any, Never, reformed, given, done, int_read, ident_read, keyword, name_read, some, joined_to, joined_some, after, last, worded, either_rule, with_nothing, without_nothing}
use Rattle.souper_ir.specs.Laws.Operands.{further_rule, operands_rule}

-- ---- blocks

block_after_rule : Rule Any (λ s b. count b.predecessors) Never block_after_word_at
unfolding block_after_word_at
block_after_rule = last (λ n. record { predecessors = n }) (λ n i. tt) (λ b i. (b.predecessors, tt, refl)) (int_read (count_of (2 ^ 32)))

pub block_rule : Rule Any (λ s b. rhs s (block b)) Never block_node_at
unfolding block_node_at
block_rule = after (keyword (codes "block")) block_after_rule

-- ---- names of blocks

entry_means : (o : Option (ℕ × Option ℕ)) (b : ℕ × ℕ) → block_entry o ≡ Some b → o ≡ Some (b.0, Some b.1)
entry_means (Some (i, Some n)) b e = let same : ◌≡◌ {A = ℕ × ℕ} (i, n) b = some_is e in ap (λ (x : ℕ × ℕ). Some (x.0, Some x.1)) same
entry_means _ b e = absurd cc

block_name_rule : Rule Any (λ s (b : ℕ × ℕ). one val_name (entry_of s) (b.0, Some b.1)) Never block_name_at
unfolding block_name_at
block_name_rule = reformed
    (λ s b ts i h. (i, (h.0, h.1, entry_means (entry_of s h.0) b h.2)))
    (λ s b ts i h. (i, (h.0, h.1, rw h.2 refl)))
    (name_read (λ s n. block_entry (entry_of s n)))

-- the name of a block, as the form has it
to_name : (s : Scope) (i : ℕ) (Is : ℕ → Type 0) (ts : List Lexeme) → some (λ (b : ℕ × ℕ). (i ≡ b.0) × Is b.1) (λ b. one val_name (entry_of s) (b.0, Some b.1)) ts → block_name s i Is ts
to_name s i Is ts (b, is, h) = (b.1, is.1, (h.0, h.1, h.2 ∙ ap (λ (z : ℕ). Some (z, Some b.1)) (sym is.0)))

from_name : (s : Scope) (i : ℕ) (Is : ℕ → Type 0) (ts : List Lexeme) → block_name s i Is ts → some (λ (b : ℕ × ℕ). (i ≡ b.0) × Is b.1) (λ b. one val_name (entry_of s) (b.0, Some b.1)) ts
from_name s i Is ts h = ((i, h.0), (refl, h.1), h.2)

-- after the name of a block
pub name_first : {V : Type 0} {Is : V → Type 0} {G : FormOf V} {d : V → Lexeme → Type 0} {f : ℕ × ℕ → ReadingOf V} (i_of : V → ℕ) (Has : V → ℕ → Type 0)
    → ((b : ℕ × ℕ) → Rule (λ v. Is v × ((i_of v ≡ b.0) × Has v b.1)) G d (f b)) → Rule Is (λ s v. block_name s (i_of v) (Has v) · G s v) d (λ p. block_name_at p >>= λ b. f b.0 b.1)
name_first i_of Has n = reformed
    (λ s v ts i h. (i, both (to_name s (i_of v) (Has v)) (λ ts h. h) ts h))
    (λ s v ts i h. (i, both (from_name s (i_of v) (Has v)) (λ ts h. h) ts h))
    (joined_some (λ v b. (i_of v ≡ b.0) × Has v b.1) block_name_rule n)

-- ---- phis

phi_after_rule : Rule Any (λ s p. block_name s p.block (λ n. n ≡ length p.values) · further s p.values) phi_continues phi_after_word_at
unfolding phi_after_word_at
phi_after_rule =
    name_first (λ p. p.block) (λ p n. n ≡ length p.values) (λ b.
    last (λ xs. record { block = b.0; values = xs }) (λ xs e. (tt, (refl, sym e))) (λ p i. (p.values, sym i.1.1, rw (← i.1.0) refl)) (further_rule b.1))

pub phi_rule : Rule Any (λ s p. rhs s (phi p)) phi_continues phi_at
unfolding phi_at
phi_rule = after (keyword (codes "phi")) phi_after_rule

-- ---- instructions

-- an instruction of the opcode with these operands is made of them
made_again : (o : Opcode) (xs : List Operand) (i : Instruction) → (opcode i ≡ o) × (operands_of i ≡ xs) → instruction_by o xs ≡ Some i
made_again o xs i h = ap (λ (z : Opcode). instruction_by z xs) (sym h.0) ∙ ap (instruction_by (opcode i)) (sym h.1) ∙ (opcode_is i).1.2

instruction_of_rule : (o : Opcode) → Rule (λ i. Any i × (opcode i ≡ o)) (λ s i. operands s (operands_of i)) instruction_continues (instruction_of_at o)
unfolding instruction_of_at
instruction_of_rule o = reformed
    (λ s i ts e h. (e, without_nothing (operands s (operands_of i)) ts h))
    (λ s i ts e h. (e, with_nothing (operands s (operands_of i)) ts h))
    (joined_to {G = λ s i. nothing} {d = Never} operands_of
    (λ faulty s i xs b rest e h st. rw h (subst (λ ys. NextStops (operands_continue ys) faulty rest) e st))
    ((λ i t h. absurd h), (λ s i xs b rest e h f g. subst (λ (ys : List Lexeme). Free (operands_continue (operands_of i)) (ys ++ rest)) h (subst (λ ys. Free (operands_continue ys) (b ++ rest)) (sym e) f)))
    (λ i xs e h. ap length (sym h) ∙ sym (opcode_is i).1.1 ∙ ap operand_count e.1)
    (operands_rule (operand_count o))
    (λ xs. given (instruction_by o xs) (λ i h. (i, made_again o xs i (h.0.1, h.1)))
    (λ i e. let k = made_means o xs i e in done i ((tt, k.0), k.1) (λ j h. some_is (sym (made_again o xs j (h.0.1, h.1)) ∙ e)) (λ s ts h. h) (λ s. refl) (λ t h. h))))

pub instruction_rule : Rule Any (λ s i. rhs s (instruction i)) instruction_continues instruction_at
unfolding instruction_at
instruction_rule = worded opcode_of instruction_word opcode (λ i. (opcode_is i).1.0) (λ w i e. opcode_named w (opcode i) e ∙ word_is_by i) (ident_read opcode_of) instruction_of_rule

starts_it : (i : Instruction) → starts_instruction (ident (instruction_word i)) ≡ true
starts_it i = rw ((opcode_is i).1.0) refl

pub instruction_first : (s : Scope) (i : Instruction) (ts : List Lexeme) → rhs s (instruction i) ts → Starts starts_instruction ts
instruction_first s i ts h = rw (h.whole, h.first) (starts_it i)

-- the words that start an instruction
named_by : (w : List ℕ) (o : Option Opcode) → opcode_of w ≡ o → is_some o ≡ true → (i : Instruction) × (ident w ≡ ident (instruction_word i))
named_by w None e h = absurd cc
named_by w (Some o) e h = (some_of o, ap ident (opcode_named w o e))

starts_word : (t : Lexeme) → starts_instruction t ≡ true → (i : Instruction) × (t ≡ ident (instruction_word i))
starts_word (ident w) h = named_by w (opcode_of w) refl h
starts_word _ h = absurd cc

pub instruction_starts : (t : Lexeme) → (starts_instruction t ≡ true) ↔ ((i : Instruction) × (t ≡ ident (instruction_word i)))
instruction_starts t = (starts_word t, λ r. subst (λ (x : Lexeme). starts_instruction x ≡ true) (sym r.1) (starts_it r.0))

-- ---- words of right sides

abbrev word_of : RhsWord → List ℕ
word_of begins_var = codes "var"
word_of begins_block = codes "block"
word_of begins_phi = codes "phi"
word_of begins_reserved_inst = codes "reservedinst"
word_of begins_reserved_const = codes "reservedconst"
word_of (begins_instruction o) = word_by o

word_of_is : (k : RhsWord) → rhs_word_of (word_of k) ≡ Some k
word_of_is (begins_instruction o) = ap (λ (x : Option Opcode). instruction_or x (rhs_keyword_of (word_by o))) (word_by_is o)
word_of_is _ = refl

word_means : (o : Option Opcode) (w : List ℕ) (k : RhsWord) → opcode_of w ≡ o → instruction_or o (rhs_keyword_of w) ≡ Some k → w ≡ word_of k
word_means (Some o) w k is e = opcode_named w o is ∙ ap word_of (some_is e)
word_means None w k is e = named word_of (begins_var ∷ begins_block ∷ begins_phi ∷ begins_reserved_inst ∷ begins_reserved_const ∷ []) w k e

-- ---- right sides

rhs_word_by_rule : (b : Bool) → Rule (λ k. true ≡ b) (λ s. one ident rhs_word_of) Never (rhs_word_by b)
rhs_word_by_rule false = record { sound = λ p q k live e. absurd cc; complete = λ p k front rest at i h st. absurd cc }
rhs_word_by_rule true = reformed (λ s k ts i h. (refl, h)) (λ s k ts i h. (tt, h)) (ident_read rhs_word_of)

-- the word alone
rhs_word_rule : Rule Any (λ s. one ident rhs_word_of) Never rhs_word_at
unfolding rhs_word_at
rhs_word_rule = either_rule is_any (λ k. true) (λ s k ts h. rw h.1 refl) rhs_word_by_rule

-- what comes after the word
abbrev body : FormOf PlainRhs
body s (block b) = count b.predecessors
body s (phi p) = block_name s p.block (λ n. n ≡ length p.values) · further s p.values
body s (instruction i) = operands s (operands_of i)
body s _ = nothing

abbrev kind : PlainRhs → RhsWord
kind var = begins_var
kind (block b) = begins_block
kind (phi p) = begins_phi
kind reserved_inst = begins_reserved_inst
kind reserved_const = begins_reserved_const
kind (instruction i) = begins_instruction (opcode i)

rhs_to : (s : Scope) (v : PlainRhs) (ts : List Lexeme) → (word (word_of (kind v)) · body s v) ts → rhs s v ts
rhs_to s (block b) ts h = h
rhs_to s (phi p) ts h = h
rhs_to s (instruction i) ts h = rw (word_is_by i) at h
rhs_to s _ ts h = without_nothing (word _) ts h

rhs_from : (s : Scope) (v : PlainRhs) (ts : List Lexeme) → rhs s v ts → (word (word_of (kind v)) · body s v) ts
rhs_from s (block b) ts h = h
rhs_from s (phi p) ts h = h
rhs_from s (instruction i) ts h = rw (word_is_by i) h
rhs_from s _ ts h = with_nothing (word _) ts h

-- how a right side of the kind is made
abbrev Made : RhsWord → PlainRhs → Type 0
Made begins_var v = v ≡ var
Made begins_block v = (b : Block) × Any b × (v ≡ block b)
Made begins_phi v = (p : PlainPhi) × Any p × (v ≡ phi p)
Made begins_reserved_inst v = v ≡ reserved_inst
Made begins_reserved_const v = v ≡ reserved_const
Made (begins_instruction o) v = (i : Instruction) × (Any i × (opcode i ≡ o)) × (v ≡ instruction i)

made : (v : PlainRhs) → Made (kind v) v
made (block b) = (b, tt, refl)
made (phi p) = (p, tt, refl)
made (instruction i) = (i, (tt, refl), refl)
made _ = refl

made_by : (k : RhsWord) (v : PlainRhs) → Any v × (kind v ≡ k) → Made k v
made_by k v i = subst (λ (z : RhsWord). Made z v) i.1 (made v)

rhs_by_rule : (k : RhsWord) → Rule (λ v. Any v × (kind v ≡ k)) body rhs_continues (rhs_by k)
rhs_by_rule begins_var = done var (tt, refl) (made_by begins_var) (λ s ts h. h) (λ s. refl) (λ t h. h)
rhs_by_rule begins_block = last block (λ b i. (tt, refl)) (made_by begins_block) block_after_rule
rhs_by_rule begins_phi = last phi (λ p i. (tt, refl)) (made_by begins_phi) phi_after_rule
rhs_by_rule begins_reserved_inst = done reserved_inst (tt, refl) (made_by begins_reserved_inst) (λ s ts h. h) (λ s. refl) (λ t h. h)
rhs_by_rule begins_reserved_const = done reserved_const (tt, refl) (made_by begins_reserved_const) (λ s ts h. h) (λ s. refl) (λ t h. h)
rhs_by_rule (begins_instruction o) = last instruction (λ i e. (tt, ap begins_instruction e.1)) (made_by (begins_instruction o)) (instruction_of_rule o)

pub rhs_rule : Rule Any rhs rhs_continues rhs_at
unfolding rhs_at
rhs_rule = reformed (λ s v ts i h. (i, rhs_to s v ts h)) (λ s v ts i h. (i, rhs_from s v ts h))
    (worded rhs_word_of (λ v. word_of (kind v)) kind (λ v. word_of_is (kind v)) (λ w v e. word_means (opcode_of w) w (kind v) refl e) rhs_word_rule rhs_by_rule)
