-- Lemmas. The bytes of a node are the bytes of its parts.
use Rattle.std.proofs.Common.{◌≡◌, ℕ, List, [], ◌∷◌, ◌++◌, take, drop, Option, Some, None, refl, ap, ◌∙◌, append-nil}
use Rattle.std.specs.Prelude.{codes}
use Rattle.souper_graph.specs.declared.ast.operands.«Type».{«Type» as Ty}
use Rattle.souper_graph.specs.declared.ast.operands.Constant.{Constant}
use Rattle.souper_graph.specs.declared.ast.operands.Operand.{Operand}
use Rattle.souper_graph.specs.declared.ast.operands.Operand.TheVariants.{Value, Constant as constant_variant}
use Rattle.souper_graph.specs.declared.ast.statements.Block.{Block}
use Rattle.souper_graph.specs.declared.ast.statements.Pc.{Pc}
use Rattle.souper_graph.specs.declared.ast.statements.BlockPc.{BlockPc}
use Rattle.souper_graph.specs.Values.{PlainAttribute, known_bits as known_bits_attribute, power_of_two, negative, non_negative, non_zero, has_external_uses, sign_bits, range, PlainRootAttribute, demanded_bits, harvested_from_use, PlainRhs, var, block, phi, reserved_inst, reserved_const, instruction, PlainAssignment, PlainStatement, assigned, condition, block_condition, PlainInfer, PlainCand, Ending, inferred, resulting, replaced, candidate}
use Rattle.souper_graph.specs.Leaves.{text_of_optional_type, text_of_constant, text_of_block, text_of_attribute, text_of_root_attribute, text_of_attributes, text_of_root_attributes}
use Rattle.souper_graph.specs.Text.{text_of_operand, text_of_further, text_of_operands, text_of_rhs, text_of_assignment, text_of_pc, text_of_block_pc, text_of_statement, text_of_infer, text_of_cand, text_of_result}
use Rattle.souper_graph.proofs.RoundTrip.Parts.{newline, printed, printed_append, printed_each}
use Rattle.souper_graph.proofs.RoundTrip.Nodes.{parts_of_optional_type, parts_of_constant, parts_of_block, parts_of_attribute, parts_of_root_attribute, attribute_parts, parts_of_attributes, root_attribute_parts, parts_of_root_attributes, parts_of_operand, further_parts, parts_of_further, parts_of_operands, parts_of_rhs, parts_of_assignment, parts_of_pc, parts_of_block_pc, line_parts, parts_of_lines, parts_of_infer, parts_of_cand, parts_of_result, listed_parts, text_of_lines, listed_text}

optional_type_text : (t : Option Ty) → printed (parts_of_optional_type t) ≡ text_of_optional_type t
optional_type_text None = refl
optional_type_text (Some t) = append-nil (text_of_optional_type (Some t))

constant_text : (c : Constant) → printed (parts_of_constant c) ≡ text_of_constant c
constant_text c = simp optional_type_text

block_text : (b : Block) → printed (parts_of_block b) ≡ text_of_block b
block_text b = append-nil (text_of_block b)

attribute_text : (a : PlainAttribute) → printed (parts_of_attribute a) ≡ text_of_attribute a
attribute_text (known_bits_attribute bs) = refl
attribute_text power_of_two = refl
attribute_text negative = refl
attribute_text non_negative = refl
attribute_text non_zero = refl
attribute_text has_external_uses = refl
attribute_text (sign_bits n) = refl
attribute_text (range a b) = refl

root_attribute_text : (a : PlainRootAttribute) → printed (parts_of_root_attribute a) ≡ text_of_root_attribute a
root_attribute_text (demanded_bits bs) = refl
root_attribute_text harvested_from_use = refl

operand_text : (ss : List PlainStatement) (x : Operand) → printed (parts_of_operand ss x) ≡ text_of_operand ss x
operand_text ss (Value i) = append-nil _
operand_text ss (constant_variant c) = constant_text c

further_text : (ss : List PlainStatement) (xs : List Operand) → printed (parts_of_further ss xs) ≡ text_of_further ss xs
further_text ss xs = printed_each (further_parts ss) (λ x. 44 ∷ 32 ∷ text_of_operand ss x) (λ x. ap (λ l. 44 ∷ 32 ∷ l) (operand_text ss x)) xs

operands_text : (ss : List PlainStatement) (xs : List Operand) → printed (parts_of_operands ss xs) ≡ text_of_operands ss xs
operands_text ss [] = refl
operands_text ss (x ∷ xs) = simp (printed_append, operand_text, further_text)

rhs_text : (ss : List PlainStatement) (r : PlainRhs) → printed (parts_of_rhs ss r) ≡ text_of_rhs ss r
rhs_text ss var = refl
rhs_text ss (block b) = block_text b
rhs_text ss (phi p) = simp further_text
rhs_text ss reserved_inst = refl
rhs_text ss reserved_const = refl
rhs_text ss (instruction i) = simp operands_text

attributes_text : (xs : List PlainAttribute) → printed (parts_of_attributes xs) ≡ text_of_attributes xs
attributes_text xs = printed_each attribute_parts (λ x. 32 ∷ text_of_attribute x) (λ x. ap (λ l. 32 ∷ l) (attribute_text x)) xs

root_attributes_text : (xs : List PlainRootAttribute) → printed (parts_of_root_attributes xs) ≡ text_of_root_attributes xs
root_attributes_text xs = printed_each root_attribute_parts (λ x. 32 ∷ text_of_root_attribute x) (λ x. ap (λ l. 32 ∷ l) (root_attribute_text x)) xs

assignment_text : (ss : List PlainStatement) (a : PlainAssignment) → printed (parts_of_assignment ss a) ≡ text_of_assignment ss a
assignment_text ss a = simp (printed_append, optional_type_text, rhs_text, attributes_text)

pc_text : (ss : List PlainStatement) (p : Pc) → printed (parts_of_pc ss p) ≡ text_of_pc ss p
pc_text ss p = simp (printed_append, operand_text)

block_pc_text : (ss : List PlainStatement) (p : BlockPc) → printed (parts_of_block_pc ss p) ≡ text_of_block_pc ss p
block_pc_text ss p = simp (printed_append, operand_text)

line_text : (ss : List PlainStatement) (s : PlainStatement) → printed (line_parts ss s) ≡ text_of_statement ss s
line_text ss (assigned a) = printed_append (parts_of_assignment ss a) _ ∙ ap (λ l. l ++ codes "\n") (assignment_text ss a)
line_text ss (condition p) = printed_append (parts_of_pc ss p) _ ∙ ap (λ l. l ++ codes "\n") (pc_text ss p)
line_text ss (block_condition p) = printed_append (parts_of_block_pc ss p) _ ∙ ap (λ l. l ++ codes "\n") (block_pc_text ss p)

lines_text : (ss us : List PlainStatement) → printed (parts_of_lines ss us) ≡ text_of_lines ss us
lines_text ss us = printed_each (line_parts ss) (text_of_statement ss) (line_text ss) us

infer_text : (ss : List PlainStatement) (i : PlainInfer) → printed (parts_of_infer ss i) ≡ text_of_infer ss i
infer_text ss i = simp (printed_append, root_attributes_text)

cand_text : (ss : List PlainStatement) (c : PlainCand) → printed (parts_of_cand ss c) ≡ text_of_cand ss c
cand_text ss c = simp (printed_append, operand_text, root_attributes_text)

result_text : (ss : List PlainStatement) (r : Operand) → printed (parts_of_result ss r) ≡ text_of_result ss r
result_text ss r = simp operand_text

pub listed_is : (ss : List PlainStatement) (e : Ending) (lead : ℕ) → printed (listed_parts ss e lead) ≡ listed_text ss e lead
listed_is ss (inferred i) lead = printed_append (parts_of_lines ss ss) (parts_of_infer ss i) ∙ (λ k. lines_text ss ss k ++ infer_text ss i k)
listed_is ss (resulting r) lead = printed_append (parts_of_lines ss ss) (parts_of_result ss r) ∙ (λ k. lines_text ss ss k ++ result_text ss r k)
listed_is ss (replaced i r) lead =
    let last : printed (parts_of_result ss r ++ newline ∷ []) ≡ text_of_result ss r ++ codes "\n" = printed_append (parts_of_result ss r) (newline ∷ []) ∙ ap (λ l. l ++ codes "\n") (result_text ss r) in
    let more : printed (parts_of_lines ss (drop lead ss) ++ (parts_of_result ss r ++ newline ∷ [])) ≡ text_of_lines ss (drop lead ss) ++ (text_of_result ss r ++ codes "\n") =
    printed_append (parts_of_lines ss (drop lead ss)) (parts_of_result ss r ++ newline ∷ []) ∙ (λ k. lines_text ss (drop lead ss) k ++ last k) in
    let tail : printed (parts_of_infer ss i ++ (parts_of_lines ss (drop lead ss) ++ (parts_of_result ss r ++ newline ∷ []))) ≡ text_of_infer ss i ++ (text_of_lines ss (drop lead ss) ++ (text_of_result ss r ++ codes "\n")) =
    printed_append (parts_of_infer ss i) (parts_of_lines ss (drop lead ss) ++ (parts_of_result ss r ++ newline ∷ [])) ∙ (λ k. infer_text ss i k ++ more k) in
    printed_append (parts_of_lines ss (take lead ss)) (parts_of_infer ss i ++ (parts_of_lines ss (drop lead ss) ++ (parts_of_result ss r ++ newline ∷ []))) ∙ (λ k. lines_text ss (take lead ss) k ++ tail k)
listed_is ss (candidate c) lead = printed_append (parts_of_lines ss ss) (parts_of_cand ss c) ∙ (λ k. lines_text ss ss k ++ cand_text ss c k)
