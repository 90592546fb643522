-- Lemmas. The parts of a node that can be written are tokens, none continued by the next.
use Rattle.std.proofs.Common.{◌≡◌, ℕ, ◌<◌, ◌^◌, true, List, [], ◌∷◌, ◌++◌, Option, Some, None, refl, sym, subst, append_assoc, arith}
use Rattle.std.specs.Prelude.{codes}
use Rattle.std.specs.List.{AllByRecursion}
use Rattle.souper_graph.specs.declared.ast.operands.«Type».{«Type» as Ty}
use Rattle.souper_graph.specs.declared.ast.operands.Constant.{Constant}
use Rattle.souper_graph.specs.declared.ast.operands.Operand.{Operand}
use Rattle.souper_graph.specs.declared.ast.operands.Operand.TheVariants.{Value, Constant as constant_variant}
use Rattle.souper_graph.specs.declared.ast.instructions.Instruction.{Instruction}
use Rattle.souper_graph.specs.declared.ast.statements.Block.{Block}
use Rattle.souper_graph.specs.Values.{PlainAttribute, known_bits as known_bits_attribute, power_of_two, negative, non_negative, non_zero, has_external_uses, sign_bits, range, PlainRootAttribute, demanded_bits, harvested_from_use, PlainRhs, var, block, phi, reserved_inst, reserved_const, instruction, PlainStatement, assigned, condition, block_condition, PlainInfer, PlainCand}
use Rattle.souper_graph.specs.Instructions.{word_of, operands_of}
use Rattle.souper_graph.specs.Uses.{value_use, block_use, uses_of_operand, uses_of_operands}
use Rattle.souper_graph.specs.WellFormed.{FitsOptionalType, FitsConstant, FitsAttribute, FitsRootAttribute, FitsInfer}
use Rattle.souper_graph.specs.Text.{name_at}
use Rattle.souper_graph.specs.Syntax.Tokens.{ident, val_name}
use Rattle.souper_graph.specs.Syntax.Spelling.{Scope}
use Rattle.souper_graph.proofs.RoundTrip.Parts.{Part, word, one_space, newline, is_loose, AreSound, sound_append, sound_each, loose_each, loose_append}
use Rattle.souper_graph.proofs.RoundTrip.Lexemes.{is_word, word_lexeme, name_lexeme, count_lexeme, number_lexeme, width_lexeme, known_bits_lexeme, bits_lexeme}
use Rattle.souper_graph.proofs.Arities.{Arity, no_operands, unary, binary, ternary, arity_of}
use Rattle.souper_graph.proofs.RoundTrip.Nodes.{parts_of_optional_type, parts_of_constant, parts_of_block, word_parts, parts_of_attribute, parts_of_root_attribute, attribute_parts, parts_of_attributes, root_attribute_parts, parts_of_root_attributes, parts_of_operand, further_parts, parts_of_further, parts_of_operands, parts_of_rhs, parts_of_pair, parts_of_statement, line_parts, parts_of_lines, parts_of_infer, parts_of_cand, parts_of_result}
use Rattle.souper_graph.proofs.RoundTrip.Ready.{ReadyOperand, ReadyRhs, ReadyStatement, AreReady, Known, AreKnown, known_here, known_after, ready_operands, ready_rhs, ready_first, ready_second}

optional_type_loose : (t : Option Ty) → is_loose (parts_of_optional_type t) ≡ true
optional_type_loose None = refl
optional_type_loose (Some t) = refl

optional_type_sound : (t : Option Ty) → FitsOptionalType t → AreSound (parts_of_optional_type t)
optional_type_sound None h = tt
optional_type_sound (Some t) h = (tt, refl, (width_lexeme t.width h.1, refl, tt))

constant_sound : (c : Constant) → FitsConstant c → AreSound (parts_of_constant c)
constant_sound c h = (number_lexeme c.value h.0, optional_type_loose c.ty, optional_type_sound c.ty h.1)

block_sound : (b : Block) → b.predecessors < 2 ^ 32 → AreSound (parts_of_block b)
block_sound b h = (word_lexeme (codes "block") refl, refl, (count_lexeme b.predecessors h, refl, tt))

word_sound : (w : List ℕ) → is_word w ≡ true → AreSound (word_parts w)
word_sound w e = (tt, refl, (word_lexeme w e, refl, (tt, refl, tt)))

attribute_sound : (a : PlainAttribute) → FitsAttribute a → AreSound (parts_of_attribute a)
attribute_sound (known_bits_attribute bs) h = (tt, refl, (known_bits_lexeme bs h, refl, (tt, refl, tt)))
attribute_sound power_of_two h = word_sound (codes "powerOfTwo") refl
attribute_sound negative h = word_sound (codes "negative") refl
attribute_sound non_negative h = word_sound (codes "nonNegative") refl
attribute_sound non_zero h = word_sound (codes "nonZero") refl
attribute_sound has_external_uses h = word_sound (codes "hasExternalUses") refl
attribute_sound (sign_bits n) h = (tt, refl, (word_lexeme (codes "signBits") refl, refl, (tt, refl, (count_lexeme n (omega arith), refl, (tt, refl, tt)))))
attribute_sound (range a b) h =
    (tt, refl, (word_lexeme (codes "range") refl, refl, (tt, refl, (tt, refl, (number_lexeme a h.0, refl, (tt, refl, (number_lexeme b h.1, refl, (tt, refl, (tt, refl, tt)))))))))

root_attribute_sound : (a : PlainRootAttribute) → FitsRootAttribute a → AreSound (parts_of_root_attribute a)
root_attribute_sound (demanded_bits bs) h = (tt, refl, (word_lexeme (codes "demandedBits") refl, refl, (tt, refl, (bits_lexeme bs h, refl, (tt, refl, tt)))))
root_attribute_sound harvested_from_use h = word_sound (codes "harvestedFromUse") refl

attributes_sound : (xs : List PlainAttribute) → AllByRecursion FitsAttribute xs → AreSound (parts_of_attributes xs)
attributes_sound xs h = sound_each attribute_parts FitsAttribute (λ x k. attribute_sound x k) (λ x. refl) xs h

attributes_loose : (xs : List PlainAttribute) → is_loose (parts_of_attributes xs) ≡ true
attributes_loose xs = loose_each attribute_parts (λ x. refl) xs

root_attributes_sound : (xs : List PlainRootAttribute) → AllByRecursion FitsRootAttribute xs → AreSound (parts_of_root_attributes xs ++ newline ∷ [])
root_attributes_sound xs h =
    sound_append (parts_of_root_attributes xs) (newline ∷ []) (sound_each root_attribute_parts FitsRootAttribute (λ x k. root_attribute_sound x k) (λ x. refl) xs h) tt refl

root_attributes_loose : (xs : List PlainRootAttribute) → is_loose (parts_of_root_attributes xs ++ newline ∷ []) ≡ true
root_attributes_loose xs = loose_append (parts_of_root_attributes xs) (newline ∷ []) (loose_each root_attribute_parts (λ x. refl) xs) refl

-- a word of the grammar for each instruction
word_of_is : (i : Instruction) → is_word (word_of i) ≡ true
word_of_is i = of_arity i (arity_of i)
  where
    of_arity : (i : Instruction) → Arity i → is_word (word_of i) ≡ true
    of_arity _ no_operands = refl
    of_arity _ (unary F w a f) = rw (f.word a) f.spelled
    of_arity _ (binary F w a b f) = rw (f.word a b) f.spelled
    of_arity _ (ternary F w a b c f) = rw (f.word a b c) f.spelled

-- a line ends in a newline, so anything may follow it
pub line_then : (ps qs : List Part) → AreSound ps → AreSound qs → AreSound ((ps ++ newline ∷ []) ++ qs)
line_then ps qs h q = subst AreSound (sym (append_assoc ps (newline ∷ []) qs)) (sound_append ps (newline ∷ qs) h q refl)

module _ (s : Scope) (ss : List PlainStatement) where
  operand_sound : (x : Operand) → ReadyOperand s ss x → AreSound (parts_of_operand ss x)
  operand_sound (Value i) h = (name_lexeme _ (known_here s ss (value_use i) [] h.1).0, refl, tt)
  operand_sound (constant_variant c) h = constant_sound c h.0

  further_sound : (xs : List Operand) → AllByRecursion (ReadyOperand s ss) xs → AreSound (parts_of_further ss xs)
  further_sound xs h = sound_each (further_parts ss) (ReadyOperand s ss) (λ x k. (tt, refl, operand_sound x k)) (λ x. refl) xs h

  further_loose : (xs : List Operand) → is_loose (parts_of_further ss xs) ≡ true
  further_loose xs = loose_each (further_parts ss) (λ x. refl) xs

  operands_sound : (xs : List Operand) → AllByRecursion (ReadyOperand s ss) xs → AreSound (parts_of_operands ss xs)
  operands_sound [] h = tt
  operands_sound (x ∷ xs) h = sound_append (parts_of_operand ss x) (parts_of_further ss xs) (operand_sound x h.0) (further_sound xs h.1) (further_loose xs)

  operands_loose : (xs : List Operand) → is_loose (parts_of_operands ss xs) ≡ true
  operands_loose [] = refl
  operands_loose (x ∷ xs) = refl

  rhs_sound : (r : PlainRhs) → ReadyRhs s ss r → AreSound (parts_of_rhs ss r)
  rhs_sound var h = (word_lexeme (codes "var") refl, refl, tt)
  rhs_sound (block b) h = block_sound b h.fits
  rhs_sound (phi p) h = (
    word_lexeme (codes "phi") refl,
    refl,
    (
      name_lexeme _ (known_here s ss (block_use p.block) (uses_of_operands p.values) h.known).0,
      further_loose p.values,
      further_sound p.values (ready_operands s ss p.values h.fits (known_after s ss (block_use p.block) (uses_of_operands p.values) h.known)),
    ),
  )
  rhs_sound reserved_inst h = (word_lexeme (codes "reservedinst") refl, refl, tt)
  rhs_sound reserved_const h = (word_lexeme (codes "reservedconst") refl, refl, tt)
  rhs_sound (instruction i) h = (word_lexeme (word_of i) (word_of_is i), operands_loose (operands_of i), operands_sound (operands_of i) (ready_operands s ss (operands_of i) h.fits h.known))

  pair_sound : (x y : Operand) → ReadyOperand s ss x → ReadyOperand s ss y → AreSound (parts_of_pair ss x y)
  pair_sound x y h k = sound_append (parts_of_operand ss x) (one_space ∷ parts_of_operand ss y) (operand_sound x h) (operand_sound y k) refl

  statement_sound : (v : PlainStatement) → ReadyStatement s ss v → AreSound (parts_of_statement ss v)
  statement_sound (assigned a) h = (
    name_lexeme a.name h.fits.name_fits,
    loose_append (parts_of_optional_type a.ty) _ (optional_type_loose a.ty) refl,
    sound_append (parts_of_optional_type a.ty) _ (optional_type_sound a.ty h.fits.type_fits)
        (tt, refl, sound_append (parts_of_rhs ss a.value) (parts_of_attributes a.attributes) (rhs_sound a.value (ready_rhs s ss a h)) (attributes_sound a.attributes h.fits.attributes_fit) (attributes_loose a.attributes)) refl,
  )
  statement_sound (condition p) h =
      (word_lexeme (codes "pc") refl, refl, pair_sound p.x p.y (ready_first s ss p.x p.y h.fits.0 h.known) (ready_second s ss p.x p.y h.fits.1 h.known))
  statement_sound (block_condition p) h =
      let us = uses_of_operand p.x ++ uses_of_operand p.y in
      let k : AreKnown s ss us = known_after s ss (block_use p.block) us h.known in (
        word_lexeme (codes "blockpc") refl,
        refl,
        (
          name_lexeme _ (known_here s ss (block_use p.block) us h.known).0,
          refl,
          (count_lexeme p.predecessor h.fits.0, refl, pair_sound p.x p.y (ready_first s ss p.x p.y h.fits.1 k) (ready_second s ss p.x p.y h.fits.2 k)),
        ),
      )

  pub infer_sound : (i : PlainInfer) → FitsInfer i → Known s ss (value_use i.value) → AreSound (parts_of_infer ss i)
  infer_sound i h k = (word_lexeme (codes "infer") refl, refl, (name_lexeme _ k.0, root_attributes_loose i.attributes, root_attributes_sound i.attributes h))

  -- an infer line, and anything after it
  pub infer_then : (i : PlainInfer) (qs : List Part) → FitsInfer i → Known s ss (value_use i.value) → AreSound qs → AreSound (parts_of_infer ss i ++ qs)
  infer_then i qs h k q =
      line_then (word (ident (codes "infer")) ∷ one_space ∷ word (val_name (name_at ss i.value)) ∷ parts_of_root_attributes i.attributes) qs (
        word_lexeme (codes "infer") refl,
        refl,
        (
          name_lexeme _ k.0,
          loose_each root_attribute_parts (λ x. refl) i.attributes,
          sound_each root_attribute_parts FitsRootAttribute (λ x k. root_attribute_sound x k) (λ x. refl) i.attributes h,
        ),
      ) q

  pub cand_sound : (c : PlainCand) → ReadyOperand s ss c.lhs → ReadyOperand s ss c.rhs → AllByRecursion FitsRootAttribute c.attributes → AreSound (parts_of_cand ss c)
  cand_sound c h k a = (
    word_lexeme (codes "cand") refl,
    refl,
    sound_append (parts_of_operand ss c.lhs) _ (operand_sound c.lhs h)
        (sound_append (parts_of_operand ss c.rhs) _ (operand_sound c.rhs k) (root_attributes_sound c.attributes a) (root_attributes_loose c.attributes)) refl,
  )

  pub result_sound : (r : Operand) → ReadyOperand s ss r → AreSound (parts_of_result ss r)
  result_sound r h = (word_lexeme (codes "result") refl, refl, operand_sound r h)

pub lines_then : (s : Scope) (ss us : List PlainStatement) (qs : List Part) → AreReady s ss us → AreSound qs → AreSound (parts_of_lines ss us ++ qs)
lines_then s ss [] qs h q = q
lines_then s ss (u ∷ us) qs h q =
    subst AreSound (sym (append_assoc (line_parts ss u) (parts_of_lines ss us) qs))
    (line_then (parts_of_statement ss u) (parts_of_lines ss us ++ qs) (statement_sound s ss u h.0) (lines_then (s ++ u ∷ []) ss us qs h.1 q))
