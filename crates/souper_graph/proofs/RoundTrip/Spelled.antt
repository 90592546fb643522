-- Lemmas. The tokens of a node that can be written in a scope have its form there.
use Rattle.std.proofs.Common.{◌≡◌, ◌^◌, List, [], ◌∷◌, ◌++◌, map, Option, Some, None, refl, sym, ◌∙◌, subst, append-nil, inl, arith}
use Rattle.std.specs.Prelude.{decimal, codes, flat_map}
use Rattle.std.specs.List.{AllByRecursion}
use Rattle.std.specs.Fmt.{signed_decimal}
use Rattle.souper_graph.specs.declared.ast.operands.«Type».{«Type» as Ty}
use Rattle.souper_graph.specs.declared.ast.operands.Constant.{Constant}
use Rattle.souper_graph.specs.declared.ast.operands.Operand.{Operand}
use Rattle.souper_graph.specs.declared.ast.operands.Operand.TheVariants.{Value, Constant as constant_variant}
use Rattle.souper_graph.specs.Values.{PlainAttribute, known_bits as known_bits_attribute, power_of_two, negative, non_negative, non_zero, has_external_uses, sign_bits, range, PlainRootAttribute, demanded_bits, harvested_from_use, PlainRhs, var, block, phi, reserved_inst, reserved_const, instruction, PlainStatement, assigned, condition, block_condition, PlainInfer, PlainCand}
use Rattle.souper_graph.specs.Instructions.{word_of, operands_of}
use Rattle.souper_graph.specs.Leaves.{text_of_known_bit, text_of_bit}
use Rattle.souper_graph.specs.Uses.{value_use, block_use, uses_of_operand, uses_of_operands}
use Rattle.souper_graph.specs.Text.{name_at}
use Rattle.souper_graph.specs.WellFormed.{FitsOptionalType, FitsConstant, FitsAttribute, FitsRootAttribute, FitsInfer, predecessors_at}
use Rattle.souper_graph.specs.Syntax.Tokens.{Lexeme, ident, val_name, known_bits, int, comma, colon, equals, open_paren, close_paren, open_bracket}
use Rattle.souper_graph.specs.Syntax.Numbers.{number_of, count_of}
use Rattle.souper_graph.proofs.RoundTrip.Parts.{Part, word as part, one_space, newline, words_of, words_append}
use Rattle.souper_graph.proofs.RoundTrip.Lexemes.{number_spelled, count_spelled, width_spelled}
use Rattle.souper_graph.proofs.RoundTrip.Nodes.{parts_of_optional_type, parts_of_constant, parts_of_attribute, parts_of_root_attribute, attribute_parts, parts_of_attributes, root_attribute_parts, parts_of_root_attributes, parts_of_operand, further_parts, parts_of_further, parts_of_operands, parts_of_rhs, parts_of_pair, parts_of_statement, line_parts, parts_of_lines, parts_of_infer, parts_of_cand, parts_of_result}
use Rattle.souper_graph.proofs.RoundTrip.Ready.{ReadyOperand, ReadyRhs, ReadyStatement, AreReady, Known, AreKnown, known_here, known_after, ready_operands, ready_rhs, ready_first, ready_second}
use Rattle.souper_graph.specs.Syntax.Spelling.{Scope, position_of, Form, ◌·◌, token, each, perhaps, optional, of_type, constant, operand, further, operands, rhs, enclosed, attribute, root_attribute, statement, statements, infer, result, cand}
use Rattle.souper_graph.proofs.Forms.Parts.{next, next_one, next_block, closed}
use Rattle.souper_graph.proofs.Forms.Bits.{bits_is, known_bits_is}

-- ---- parts in sequence

pub in_turn : {F G : Form} (a b : List Part) → F (words_of a) → G (words_of b) → (F · G) (words_of (a ++ b))
in_turn a b f g = record { prefix = words_of a; suffix = words_of b; whole = words_append a b; first = f; second = g }

each_in_turn : {A : Type 0} (F : A → Form) (Fits : A → Type 0) (parts : A → List Part) → ((x : A) → Fits x → F x (words_of (parts x))) → (xs : List A) → AllByRecursion Fits xs → each F xs (words_of (flat_map parts xs))
each_in_turn F Fits parts f [] h = refl
each_in_turn F Fits parts f (x ∷ xs) h = in_turn (parts x) (flat_map parts xs) (f x h.0) (each_in_turn F Fits parts f xs h.1)

-- a newline is no token
pub before_newline : (ps : List Part) → words_of (ps ++ newline ∷ []) ≡ words_of ps
before_newline ps = words_append ps (newline ∷ []) ∙ append-nil (words_of ps)

pub ended : (F : Form) (ps : List Part) → F (words_of ps) → F (words_of (ps ++ newline ∷ []))
ended F ps h = subst F (sym (before_newline ps)) h

-- ---- nodes without names

optional_type_spelled : (t : Option Ty) → FitsOptionalType t → optional of_type t (words_of (parts_of_optional_type t))
optional_type_spelled None h = refl
optional_type_spelled (Some t) h = next colon (ident (105 ∷ decimal t.width) ∷ []) (105 ∷ decimal t.width, refl, width_spelled t.width h.0 h.1)

constant_spelled : (c : Constant) → FitsConstant c → constant c (words_of (parts_of_constant c))
constant_spelled c h = next_one int number_of c.value (signed_decimal c.value) (words_of (parts_of_optional_type c.ty)) (number_spelled c.value h.0) (optional_type_spelled c.ty h.1)

in_parens : {F : Form} (body : List Lexeme) → F body → enclosed F (open_paren ∷ (body ++ close_paren ∷ []))
in_parens body h = next open_paren (body ++ close_paren ∷ []) (closed body h)

attribute_spelled : (a : PlainAttribute) → FitsAttribute a → attribute a (words_of (parts_of_attribute a))
attribute_spelled (known_bits_attribute bs) h = in_parens (known_bits (map text_of_known_bit bs) ∷ []) (map text_of_known_bit bs, refl, known_bits_is bs h)
attribute_spelled power_of_two h = in_parens (ident (codes "powerOfTwo") ∷ []) refl
attribute_spelled negative h = in_parens (ident (codes "negative") ∷ []) refl
attribute_spelled non_negative h = in_parens (ident (codes "nonNegative") ∷ []) refl
attribute_spelled non_zero h = in_parens (ident (codes "nonZero") ∷ []) refl
attribute_spelled has_external_uses h = in_parens (ident (codes "hasExternalUses") ∷ []) refl
attribute_spelled (sign_bits n) h =
    let number : List Lexeme = int (decimal n) ∷ [] in
    in_parens (ident (codes "signBits") ∷ equals ∷ number) (next (ident (codes "signBits")) (equals ∷ number) (next equals number (decimal n, refl, count_spelled (2 ^ 8) n (omega arith) h)))
attribute_spelled (range a b) h =
    let last : List Lexeme = int (signed_decimal b) ∷ close_paren ∷ [] in
    let body : List Lexeme = int (signed_decimal a) ∷ comma ∷ last in
    in_parens (ident (codes "range") ∷ equals ∷ open_bracket ∷ body) (next (ident (codes "range")) (equals ∷ open_bracket ∷ body) (next equals (open_bracket ∷ body) (next open_bracket body
    (next_one int number_of a (signed_decimal a) (comma ∷ last) (number_spelled a h.0) (next comma last (next_one int number_of b (signed_decimal b) (close_paren ∷ []) (number_spelled b h.1) refl))))))

root_attribute_spelled : (a : PlainRootAttribute) → FitsRootAttribute a → root_attribute a (words_of (parts_of_root_attribute a))
root_attribute_spelled (demanded_bits bs) h =
    let bits : List Lexeme = int (map text_of_bit bs) ∷ [] in
    in_parens (ident (codes "demandedBits") ∷ equals ∷ bits) (next (ident (codes "demandedBits")) (equals ∷ bits) (next equals bits (map text_of_bit bs, refl, bits_is bs h)))
root_attribute_spelled harvested_from_use h = in_parens (ident (codes "harvestedFromUse") ∷ []) refl

attributes_spelled : (xs : List PlainAttribute) → AllByRecursion FitsAttribute xs → each attribute xs (words_of (parts_of_attributes xs))
attributes_spelled xs h = each_in_turn attribute FitsAttribute attribute_parts attribute_spelled xs h

root_attributes_spelled : (xs : List PlainRootAttribute) → AllByRecursion FitsRootAttribute xs → each root_attribute xs (words_of (parts_of_root_attributes xs))
root_attributes_spelled xs h = each_in_turn root_attribute FitsRootAttribute root_attribute_parts root_attribute_spelled xs h

-- ---- nodes with names

module _ (s : Scope) (ss : List PlainStatement) where
  operand_spelled : (x : Operand) → ReadyOperand s ss x → operand s x (words_of (parts_of_operand ss x))
  operand_spelled (Value i) h = (name_at ss i, refl, (known_here s ss (value_use i) [] h.1).1)
  operand_spelled (constant_variant c) h = constant_spelled c h.0

  further_spelled : (xs : List Operand) → AllByRecursion (ReadyOperand s ss) xs → further s xs (words_of (parts_of_further ss xs))
  further_spelled xs h = each_in_turn (λ x. token comma · operand s x) (ReadyOperand s ss) (further_parts ss) (λ x k. next comma (words_of (parts_of_operand ss x)) (operand_spelled x k)) xs h

  operands_spelled : (xs : List Operand) → AllByRecursion (ReadyOperand s ss) xs → operands s xs (words_of (parts_of_operands ss xs))
  operands_spelled [] h = refl
  operands_spelled (x ∷ xs) h = in_turn (parts_of_operand ss x) (parts_of_further ss xs) (operand_spelled x h.0) (further_spelled xs h.1)

  rhs_spelled : (r : PlainRhs) → ReadyRhs s ss r → rhs s r (words_of (parts_of_rhs ss r))
  rhs_spelled var h = refl
  rhs_spelled (block b) h = next (ident (codes "block")) (int (decimal b.predecessors) ∷ []) (decimal b.predecessors, refl, count_spelled (2 ^ 32) b.predecessors (omega arith) h.fits)
  rhs_spelled (phi p) h =
      next (ident (codes "phi")) (val_name (name_at ss p.block) ∷ words_of (parts_of_further ss p.values)) (next_block s p.block _ (name_at ss p.block) (predecessors_at ss p.block) (words_of (parts_of_further ss p.values))
      (known_here s ss (block_use p.block) (uses_of_operands p.values) h.known).1 (sym h.agrees)
      (further_spelled p.values (ready_operands s ss p.values h.fits (known_after s ss (block_use p.block) (uses_of_operands p.values) h.known))))
  rhs_spelled reserved_inst h = refl
  rhs_spelled reserved_const h = refl
  rhs_spelled (instruction i) h = next (ident (word_of i)) (words_of (parts_of_operands ss (operands_of i))) (operands_spelled (operands_of i) (ready_operands s ss (operands_of i) h.fits h.known))

  pair_spelled : (x y : Operand) → ReadyOperand s ss x → ReadyOperand s ss y → (operand s x · operand s y) (words_of (parts_of_pair ss x y))
  pair_spelled x y h k = in_turn (parts_of_operand ss x) (one_space ∷ parts_of_operand ss y) (operand_spelled x h) (operand_spelled y k)

  statement_spelled : (v : PlainStatement) → ReadyStatement s ss v → statement s v (words_of (parts_of_statement ss v))
  statement_spelled (assigned a) h =
      let value : List Part = parts_of_rhs ss a.value ++ parts_of_attributes a.attributes in
      let defined = in_turn (parts_of_rhs ss a.value) (parts_of_attributes a.attributes) (rhs_spelled a.value (ready_rhs s ss a h)) (attributes_spelled a.attributes h.fits.attributes_fit) in
      record { prefix = val_name a.name ∷ []; suffix = _; whole = refl; first = (refl, h.fresh); second = in_turn (parts_of_optional_type a.ty) (one_space ∷ part equals ∷ one_space ∷ value) (optional_type_spelled a.ty h.fits.type_fits) (next equals (words_of value) defined) }
  statement_spelled (condition p) h =
      next (ident (codes "pc")) (words_of (parts_of_pair ss p.x p.y)) (pair_spelled p.x p.y (ready_first s ss p.x p.y h.fits.0 h.known) (ready_second s ss p.x p.y h.fits.1 h.known))
  statement_spelled (block_condition p) h =
      let us = uses_of_operand p.x ++ uses_of_operand p.y in
      let k : AreKnown s ss us = known_after s ss (block_use p.block) us h.known in
      let operands = words_of (parts_of_pair ss p.x p.y) in
      next (ident (codes "blockpc")) (val_name (name_at ss p.block) ∷ int (decimal p.predecessor) ∷ operands)
      (next_block s p.block _ (name_at ss p.block) (predecessors_at ss p.block) (int (decimal p.predecessor) ∷ operands) (known_here s ss (block_use p.block) us h.known).1 h.agrees
      (next_one int (count_of (2 ^ 32)) p.predecessor (decimal p.predecessor) operands (count_spelled (2 ^ 32) p.predecessor (omega arith) h.fits.0)
      (pair_spelled p.x p.y (ready_first s ss p.x p.y h.fits.1 k) (ready_second s ss p.x p.y h.fits.2 k))))

  pub infer_spelled : (i : PlainInfer) → FitsInfer i → Known s ss (value_use i.value) → infer s i (words_of (parts_of_infer ss i))
  infer_spelled i h k =
      let attributes = words_of (parts_of_root_attributes i.attributes ++ newline ∷ []) in
      next (ident (codes "infer")) (val_name (name_at ss i.value) ∷ attributes) (next_one val_name (position_of s) i.value (name_at ss i.value) attributes k.1 (ended (each root_attribute i.attributes) (parts_of_root_attributes i.attributes) (root_attributes_spelled i.attributes h)))

  pub cand_spelled : (c : PlainCand) → ReadyOperand s ss c.lhs → ReadyOperand s ss c.rhs → AllByRecursion FitsRootAttribute c.attributes → cand s c (words_of (parts_of_cand ss c))
  cand_spelled c h k a =
      let attributes : List Part = parts_of_root_attributes c.attributes ++ newline ∷ [] in
      let last : List Part = one_space ∷ (parts_of_operand ss c.rhs ++ attributes) in
      next (ident (codes "cand")) (words_of (parts_of_operand ss c.lhs ++ last)) (in_turn (parts_of_operand ss c.lhs) last (operand_spelled c.lhs h)
      (in_turn {F = perhaps (token comma)} [] last (inl refl) (in_turn (parts_of_operand ss c.rhs) attributes (operand_spelled c.rhs k) (ended (each root_attribute c.attributes) (parts_of_root_attributes c.attributes) (root_attributes_spelled c.attributes a)))))

  pub result_spelled : (r : Operand) → ReadyOperand s ss r → result s r (words_of (parts_of_result ss r))
  result_spelled r h = next (ident (codes "result")) (words_of (parts_of_operand ss r)) (operand_spelled r h)

-- statements in sequence
pub lines_spelled : (s : Scope) (ss us : List PlainStatement) → AreReady s ss us → statements s us (words_of (parts_of_lines ss us))
lines_spelled s ss [] h = refl
lines_spelled s ss (u ∷ us) h = in_turn (line_parts ss u) (parts_of_lines ss us) (ended (statement s u) (parts_of_statement ss u) (statement_spelled s ss u h.0)) (lines_spelled (s ++ u ∷ []) ss us h.1)
