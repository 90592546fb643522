-- The parts of each node, and the parts of an item whose statements are listed in order.
use Rattle.std.proofs.Common.{ℕ, List, [], ◌∷◌, ◌++◌, map, take, drop, Option, Some, None}
use Rattle.std.specs.Prelude.{decimal, codes, flat_map}
use Rattle.std.specs.Fmt.{signed_decimal}
use Rattle.souper_graph.specs.declared.ast.operands.«Type».{«Type» as Ty}
use Rattle.souper_graph.specs.declared.ast.operands.Constant.{Constant}
use Rattle.souper_graph.specs.declared.ast.operands.Operand.{Operand}
use Rattle.souper_graph.specs.declared.ast.operands.Operand.TheVariants.{Value, Constant as constant_variant}
use Rattle.souper_graph.specs.declared.ast.instructions.Instruction.{Instruction}
use Rattle.souper_graph.specs.declared.ast.statements.Block.{Block}
use Rattle.souper_graph.specs.declared.ast.statements.Pc.{Pc}
use Rattle.souper_graph.specs.declared.ast.statements.BlockPc.{BlockPc}
use Rattle.souper_graph.specs.Values.{PlainAttribute, known_bits as known_bits_attribute, power_of_two, negative, non_negative, non_zero, has_external_uses, sign_bits, range, PlainRootAttribute, demanded_bits, harvested_from_use, PlainPhi, PlainRhs, var, block, phi, reserved_inst, reserved_const, instruction, PlainAssignment, PlainStatement, assigned, condition, block_condition, PlainInfer, PlainCand, Ending, inferred, resulting, replaced, candidate}
use Rattle.souper_graph.specs.Instructions.{word_of, operands_of}
use Rattle.souper_graph.specs.Leaves.{text_of_known_bit, text_of_bit}
use Rattle.souper_graph.specs.Text.{name_at, text_of_statement, text_of_infer, text_of_cand, text_of_result}
use Rattle.souper_graph.specs.Syntax.Tokens.{ident, val_name, known_bits, int, comma, colon, equals, open_paren, close_paren, open_bracket}
use Rattle.souper_graph.proofs.RoundTrip.Parts.{Part, word, one_space, newline}

abbrev parts_of_type : Ty → List Part
parts_of_type t = word (ident (105 ∷ decimal t.width)) ∷ []

abbrev pub parts_of_optional_type : Option Ty → List Part
parts_of_optional_type None = []
parts_of_optional_type (Some t) = word colon ∷ parts_of_type t

abbrev pub parts_of_constant : Constant → List Part
parts_of_constant c = word (int (signed_decimal c.value)) ∷ parts_of_optional_type c.ty

abbrev pub parts_of_block : Block → List Part
parts_of_block b = word (ident (codes "block")) ∷ one_space ∷ word (int (decimal b.predecessors)) ∷ []

abbrev pub word_parts : List ℕ → List Part
word_parts w = word open_paren ∷ word (ident w) ∷ word close_paren ∷ []

abbrev pub parts_of_attribute : PlainAttribute → List Part
parts_of_attribute (known_bits_attribute bs) = word open_paren ∷ word (known_bits (map text_of_known_bit bs)) ∷ word close_paren ∷ []
parts_of_attribute power_of_two = word_parts (codes "powerOfTwo")
parts_of_attribute negative = word_parts (codes "negative")
parts_of_attribute non_negative = word_parts (codes "nonNegative")
parts_of_attribute non_zero = word_parts (codes "nonZero")
parts_of_attribute has_external_uses = word_parts (codes "hasExternalUses")
parts_of_attribute (sign_bits n) = word open_paren ∷ word (ident (codes "signBits")) ∷ word equals ∷ word (int (decimal n)) ∷ word close_paren ∷ []
parts_of_attribute (range a b) =
    word open_paren ∷ word (ident (codes "range")) ∷ word equals ∷ word open_bracket ∷ word (int (signed_decimal a)) ∷ word comma ∷ word (int (signed_decimal b)) ∷ word close_paren ∷ word close_paren ∷ []

abbrev pub parts_of_root_attribute : PlainRootAttribute → List Part
parts_of_root_attribute (demanded_bits bs) = word open_paren ∷ word (ident (codes "demandedBits")) ∷ word equals ∷ word (int (map text_of_bit bs)) ∷ word close_paren ∷ []
parts_of_root_attribute harvested_from_use = word_parts (codes "harvestedFromUse")

abbrev pub attribute_parts : PlainAttribute → List Part
attribute_parts x = one_space ∷ parts_of_attribute x

abbrev pub parts_of_attributes : List PlainAttribute → List Part
parts_of_attributes xs = flat_map attribute_parts xs

abbrev pub root_attribute_parts : PlainRootAttribute → List Part
root_attribute_parts x = one_space ∷ parts_of_root_attribute x

abbrev pub parts_of_root_attributes : List PlainRootAttribute → List Part
parts_of_root_attributes xs = flat_map root_attribute_parts xs

abbrev pub parts_of_operand : List PlainStatement → Operand → List Part
parts_of_operand ss (Value i) = word (val_name (name_at ss i)) ∷ []
parts_of_operand ss (constant_variant c) = parts_of_constant c

abbrev pub further_parts : List PlainStatement → Operand → List Part
further_parts ss x = word comma ∷ one_space ∷ parts_of_operand ss x

abbrev pub parts_of_further : List PlainStatement → List Operand → List Part
parts_of_further ss xs = flat_map (further_parts ss) xs

abbrev pub parts_of_operands : List PlainStatement → List Operand → List Part
parts_of_operands ss [] = []
parts_of_operands ss (x ∷ xs) = one_space ∷ (parts_of_operand ss x ++ parts_of_further ss xs)

abbrev pub parts_of_phi : List PlainStatement → PlainPhi → List Part
parts_of_phi ss p = word (ident (codes "phi")) ∷ one_space ∷ word (val_name (name_at ss p.block)) ∷ parts_of_further ss p.values

abbrev pub parts_of_instruction : List PlainStatement → Instruction → List Part
parts_of_instruction ss i = word (ident (word_of i)) ∷ parts_of_operands ss (operands_of i)

abbrev pub parts_of_rhs : List PlainStatement → PlainRhs → List Part
parts_of_rhs ss var = word (ident (codes "var")) ∷ []
parts_of_rhs ss (block b) = parts_of_block b
parts_of_rhs ss (phi p) = parts_of_phi ss p
parts_of_rhs ss reserved_inst = word (ident (codes "reservedinst")) ∷ []
parts_of_rhs ss reserved_const = word (ident (codes "reservedconst")) ∷ []
parts_of_rhs ss (instruction i) = parts_of_instruction ss i

abbrev pub parts_of_assignment : List PlainStatement → PlainAssignment → List Part
parts_of_assignment ss a = word (val_name a.name) ∷ (parts_of_optional_type a.ty ++ one_space ∷ word equals ∷ one_space ∷ (parts_of_rhs ss a.value ++ parts_of_attributes a.attributes))

abbrev pub parts_of_pair : List PlainStatement → Operand → Operand → List Part
parts_of_pair ss x y = parts_of_operand ss x ++ one_space ∷ parts_of_operand ss y

abbrev pub parts_of_pc : List PlainStatement → Pc → List Part
parts_of_pc ss p = word (ident (codes "pc")) ∷ one_space ∷ parts_of_pair ss p.x p.y

abbrev pub parts_of_block_pc : List PlainStatement → BlockPc → List Part
parts_of_block_pc ss p = word (ident (codes "blockpc")) ∷ one_space ∷ word (val_name (name_at ss p.block)) ∷ one_space ∷ word (int (decimal p.predecessor)) ∷ one_space ∷ parts_of_pair ss p.x p.y

abbrev pub parts_of_statement : List PlainStatement → PlainStatement → List Part
parts_of_statement ss (assigned a) = parts_of_assignment ss a
parts_of_statement ss (condition p) = parts_of_pc ss p
parts_of_statement ss (block_condition p) = parts_of_block_pc ss p

-- its parts and a newline
abbrev pub line_parts : List PlainStatement → PlainStatement → List Part
line_parts ss s = parts_of_statement ss s ++ newline ∷ []

abbrev pub parts_of_lines : List PlainStatement → List PlainStatement → List Part
parts_of_lines ss us = flat_map (line_parts ss) us

abbrev pub parts_of_infer : List PlainStatement → PlainInfer → List Part
parts_of_infer ss i = word (ident (codes "infer")) ∷ one_space ∷ word (val_name (name_at ss i.value)) ∷ (parts_of_root_attributes i.attributes ++ newline ∷ [])

abbrev pub parts_of_cand : List PlainStatement → PlainCand → List Part
parts_of_cand ss c = word (ident (codes "cand")) ∷ one_space ∷ (parts_of_operand ss c.lhs ++ one_space ∷ (parts_of_operand ss c.rhs ++ (parts_of_root_attributes c.attributes ++ newline ∷ [])))

abbrev pub parts_of_result : List PlainStatement → Operand → List Part
parts_of_result ss r = word (ident (codes "result")) ∷ one_space ∷ parts_of_operand ss r

-- the parts of the statements as they are listed, of which the first `lead` are before an infer line that a result
-- follows
abbrev pub listed_parts : List PlainStatement → Ending → ℕ → List Part
listed_parts ss (inferred i) lead = parts_of_lines ss ss ++ parts_of_infer ss i
listed_parts ss (resulting r) lead = parts_of_lines ss ss ++ parts_of_result ss r
listed_parts ss (replaced i r) lead = parts_of_lines ss (take lead ss) ++ (parts_of_infer ss i ++ (parts_of_lines ss (drop lead ss) ++ (parts_of_result ss r ++ newline ∷ [])))
listed_parts ss (candidate c) lead = parts_of_lines ss ss ++ parts_of_cand ss c

abbrev pub text_of_lines : List PlainStatement → List PlainStatement → List ℕ
text_of_lines ss us = flat_map (text_of_statement ss) us

-- the text of the statements as they are listed
abbrev pub listed_text : List PlainStatement → Ending → ℕ → List ℕ
listed_text ss (inferred i) lead = text_of_lines ss ss ++ text_of_infer ss i
listed_text ss (resulting r) lead = text_of_lines ss ss ++ text_of_result ss r
listed_text ss (replaced i r) lead = text_of_lines ss (take lead ss) ++ (text_of_infer ss i ++ (text_of_lines ss (drop lead ss) ++ (text_of_result ss r ++ codes "\n")))
listed_text ss (candidate c) lead = text_of_lines ss ss ++ text_of_cand ss c
