-- What holds of each token of a node, if it does of the words and names that come in it.
use Rattle.std.proofs.Common.{◌≡◌, ℕ, false, List, [], ◌∷◌, ◌++◌, Option, Some, None, refl, codes, arith}
use Rattle.std.specs.List.{AllByRecursion}
use Rattle.std.proofs.lemmas.Slice.Eq.{bytes_eq-Decides}
use Rattle.souper_graph.specs.declared.ast.operands.«Type».{«Type» as Ty}
use Rattle.souper_graph.specs.declared.ast.operands.Operand.{Operand}
use Rattle.souper_graph.specs.declared.ast.operands.Operand.TheVariants.{Value, Constant as constant_variant}
use Rattle.souper_graph.specs.declared.ast.instructions.Instruction.{Instruction}
use Rattle.souper_graph.specs.Instructions.{word_of, operands_of}
use Rattle.souper_graph.specs.Values.{PlainAttribute, known_bits as known_bits_attribute, power_of_two, negative, non_negative, non_zero, has_external_uses, sign_bits, range, PlainRootAttribute, demanded_bits, harvested_from_use, PlainRhs, var, block, phi, reserved_inst, reserved_const, instruction, PlainStatement, assigned, condition, block_condition}
use Rattle.souper_stream.proofs.Prelude.{All-both}
use Rattle.souper_graph.specs.Syntax.Tokens.{Lexeme, ident, val_name, known_bits, int, comma, colon, equals, open_bracket, open_paren, close_paren}
use Rattle.souper_graph.specs.Syntax.Numbers.{width_of}
use Rattle.souper_graph.specs.Syntax.Spelling.{Scope, Form, ◌·◌, token, word, one, optional, each, of_type, operand, further, operands, rhs, enclosed, attribute, root_attribute, statement, statements}
use Rattle.souper_ir.specs.Laws.Words.{opcode_is}
use Rattle.souper_stream.specs.Lines.{line_word}

-- the token is neither a word nor a name
abbrev pub IsOther : Lexeme → Type 0
IsOther (ident w) = ⊥
IsOther (val_name n) = ⊥
IsOther _ = Unit {0}

width_word : (w : List ℕ) (n : ℕ) → width_of w ≡ Some n → line_word w ≡ false
width_word w n h = grind (arith, bytes_eq-Decides)

pub instruction_word : (i : Instruction) → line_word (word_of i) ≡ false
instruction_word i = let o = opcode_is i in grind (arith, bytes_eq-Decides)

module _ (Q : Lexeme → Type 0) (other : (t : Lexeme) → IsOther t → Q t) (plain : (w : List ℕ) → line_word w ≡ false → Q (ident w)) where
  -- it holds of each token of the form
  abbrev pub In : Form → Type 0
  In F = (ts : List Lexeme) → F ts → AllByRecursion Q ts

  in_joined : {F G : Form} → In F → In G → In (F · G)
  in_joined f g ts h = rw h.whole (All-both Q h.prefix h.suffix (f h.prefix h.first) (g h.suffix h.second))

  in_token : (t : Lexeme) → Q t → In (token t)
  in_token t q ts h = rw h (q, tt)

  in_other : (t : Lexeme) → IsOther t → In (token t)
  in_other t o = in_token t (other t o)

  in_word : (w : List ℕ) → line_word w ≡ false → In (word w)
  in_word w e = in_token (ident w) (plain w e)

  in_one : {A : Type 0} (kind : List ℕ → Lexeme) (read : List ℕ → Option A) (v : A) → ((w : List ℕ) → read w ≡ Some v → Q (kind w)) → In (one kind read v)
  in_one kind read v q ts h = rw h.1 (q h.0 h.2, tt)

  in_int : {A : Type 0} (read : List ℕ → Option A) (v : A) → In (one int read v)
  in_int read v = in_one int read v (λ w e. other (int w) tt)

  in_optional : {A : Type 0} (F : A → Form) → ((x : A) → In (F x)) → (o : Option A) → In (optional F o)
  in_optional F f None ts h = rw h tt
  in_optional F f (Some x) ts h = f x ts h

  in_each : {A : Type 0} (F : A → Form) → ((x : A) → In (F x)) → (xs : List A) → In (each F xs)
  in_each F f [] ts h = rw h tt
  in_each F f (x ∷ xs) ts h = in_joined (f x) (in_each F f xs) ts h

  of_type_in : (t : Ty) → In (of_type t)
  of_type_in t = in_joined (in_other colon tt) (in_one ident width_of t.width (λ w e. plain w (width_word w t.width e)))

  pub optional_type_in : (o : Option Ty) → In (optional of_type o)
  optional_type_in = in_optional of_type of_type_in

  enclosed_in : {F : Form} → In F → In (enclosed F)
  enclosed_in f = in_joined (in_other open_paren tt) (in_joined f (in_other close_paren tt))

  named_in : (w : List ℕ) → line_word w ≡ false → In (enclosed (word w))
  named_in w e = enclosed_in (in_word w e)

  attribute_in : (x : PlainAttribute) → In (attribute x)
  attribute_in (known_bits_attribute bits) = enclosed_in (in_one known_bits _ bits (λ w e. other (known_bits w) tt))
  attribute_in power_of_two = named_in (codes "powerOfTwo") refl
  attribute_in negative = named_in (codes "negative") refl
  attribute_in non_negative = named_in (codes "nonNegative") refl
  attribute_in non_zero = named_in (codes "nonZero") refl
  attribute_in has_external_uses = named_in (codes "hasExternalUses") refl
  attribute_in (sign_bits n) = enclosed_in (in_joined (in_word (codes "signBits") refl) (in_joined (in_other equals tt) (in_int _ n)))
  attribute_in (range low high) =
      enclosed_in (in_joined (in_word (codes "range") refl) (in_joined (in_other equals tt) (in_joined (in_other open_bracket tt)
      (in_joined (in_int _ low) (in_joined (in_other comma tt) (in_joined (in_int _ high) (in_other close_paren tt)))))))

  pub attributes_in : (xs : List PlainAttribute) → In (each attribute xs)
  attributes_in = in_each attribute attribute_in

  root_attribute_in : (x : PlainRootAttribute) → In (root_attribute x)
  root_attribute_in (demanded_bits bits) = enclosed_in (in_joined (in_word (codes "demandedBits") refl) (in_joined (in_other equals tt) (in_int _ bits)))
  root_attribute_in harvested_from_use = named_in (codes "harvestedFromUse") refl

  pub root_attributes_in : (xs : List PlainRootAttribute) → In (each root_attribute xs)
  root_attributes_in = in_each root_attribute root_attribute_in

  module _ (names : (n : List ℕ) → Q (val_name n)) (conditions : Q (ident (codes "pc")) × Q (ident (codes "blockpc"))) where
    operand_in : (s : Scope) (x : Operand) → In (operand s x)
    operand_in s (Value i) = in_one val_name _ i (λ n e. names n)
    operand_in s (constant_variant c) = in_joined (in_int _ c.value) (optional_type_in c.ty)

    further_in : (s : Scope) (xs : List Operand) → In (further s xs)
    further_in s xs = in_each _ (λ x. in_joined (in_other comma tt) (operand_in s x)) xs

    operands_in : (s : Scope) (xs : List Operand) → In (operands s xs)
    operands_in s [] ts h = rw h tt
    operands_in s (x ∷ xs) ts h = in_joined (operand_in s x) (further_in s xs) ts h

    rhs_in : (s : Scope) (v : PlainRhs) → In (rhs s v)
    rhs_in s var = in_word (codes "var") refl
    rhs_in s (block b) = in_joined (in_word (codes "block") refl) (in_int _ b.predecessors)
    rhs_in s (phi p) = in_joined (in_word (codes "phi") refl) (in_joined (λ ts h. rw h.2.1 (names h.2.0, tt)) (further_in s p.values))
    rhs_in s reserved_inst = in_word (codes "reservedinst") refl
    rhs_in s reserved_const = in_word (codes "reservedconst") refl
    rhs_in s (instruction i) = in_joined (in_word (word_of i) (instruction_word i)) (operands_in s (operands_of i))

    statement_in : (s : Scope) (v : PlainStatement) → In (statement s v)
    statement_in s (assigned a) =
        in_joined (λ ts h. rw h.0 (names a.name, tt)) (in_joined (optional_type_in a.ty) (in_joined (in_other equals tt) (in_joined (rhs_in s a.value) (attributes_in a.attributes))))
    statement_in s (condition p) = in_joined (in_token (ident (codes "pc")) conditions.0) (in_joined (operand_in s p.x) (operand_in s p.y))
    statement_in s (block_condition p) =
        in_joined (in_token (ident (codes "blockpc")) conditions.1) (in_joined (λ ts h. rw h.2.1 (names h.2.0, tt)) (in_joined (in_int _ p.predecessor) (in_joined (operand_in s p.x) (operand_in s p.y))))

    pub statements_in : (s : Scope) (vs : List PlainStatement) → In (statements s vs)
    statements_in s [] ts h = rw h tt
    statements_in s (v ∷ vs) ts h = in_joined (statement_in s v) (statements_in (s ++ v ∷ []) vs) ts h
