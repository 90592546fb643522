-- Definitions. The canonical text of an item: the lines of its needed statements in printed order, with its last lines.
use Rattle.std.specs.Prelude.{ℕ, List, [], ◌∷◌, ◌++◌, flat_map, take, drop, codes, decimal, Option, Some, None, slice_get}
use Rattle.souper_graph.specs.declared.ast.operands.Operand.{Operand}
use Rattle.souper_graph.specs.declared.ast.operands.Operand.TheVariants.{Value, Constant}
use Rattle.souper_graph.specs.declared.ast.instructions.Instruction.{Instruction}
use Rattle.souper_graph.specs.declared.ast.statements.Pc.{Pc}
use Rattle.souper_graph.specs.declared.ast.statements.BlockPc.{BlockPc}
use Rattle.souper_graph.specs.Instructions.{word_of, operands_of}
use Rattle.souper_graph.specs.Leaves.{text_of_optional_type, text_of_constant, text_of_block, text_of_attributes, text_of_root_attributes}
use Rattle.souper_graph.specs.Values.{PlainPhi, PlainRhs, var, block, phi, reserved_inst, reserved_const, instruction, PlainAssignment, PlainStatement, assigned, condition, block_condition, PlainInfer, PlainCand, Ending, inferred, resulting, replaced, candidate, Item}
use Rattle.souper_graph.specs.Order.{printed_order, lead_of}

abbrev pub name_of : Option PlainStatement → List ℕ
name_of (Some (assigned a)) = a.name
name_of o = []

-- the name of the assignment at a position; empty if there is none
abbrev pub name_at : List PlainStatement → ℕ → List ℕ
name_at ss i = name_of (slice_get ss i)

abbrev pub text_of_operand : List PlainStatement → Operand → List ℕ
text_of_operand ss (Value i) = name_at ss i
text_of_operand ss (Constant c) = text_of_constant c

-- a comma and a space before each
abbrev pub text_of_further : List PlainStatement → List Operand → List ℕ
text_of_further ss xs = flat_map (λ x. codes ", " ++ text_of_operand ss x) xs

-- a space before them, and a comma and a space between them
abbrev pub text_of_operands : List PlainStatement → List Operand → List ℕ
text_of_operands ss [] = []
text_of_operands ss (x ∷ xs) = 32 ∷ (text_of_operand ss x ++ text_of_further ss xs)

abbrev pub text_of_instruction : List PlainStatement → Instruction → List ℕ
text_of_instruction ss i = word_of i ++ text_of_operands ss (operands_of i)

abbrev pub text_of_phi : List PlainStatement → PlainPhi → List ℕ
text_of_phi ss p = codes "phi " ++ (name_at ss p.block ++ text_of_further ss p.values)

abbrev pub text_of_rhs : List PlainStatement → PlainRhs → List ℕ
text_of_rhs ss var = codes "var"
text_of_rhs ss (block b) = text_of_block b
text_of_rhs ss (phi p) = text_of_phi ss p
text_of_rhs ss reserved_inst = codes "reservedinst"
text_of_rhs ss reserved_const = codes "reservedconst"
text_of_rhs ss (instruction i) = text_of_instruction ss i

abbrev pub text_of_assignment : List PlainStatement → PlainAssignment → List ℕ
text_of_assignment ss a = a.name ++ (text_of_optional_type a.ty ++ (codes " = " ++ (text_of_rhs ss a.value ++ text_of_attributes a.attributes)))

abbrev pub text_of_pc : List PlainStatement → Pc → List ℕ
text_of_pc ss p = codes "pc " ++ (text_of_operand ss p.x ++ (codes " " ++ text_of_operand ss p.y))

abbrev pub text_of_block_pc : List PlainStatement → BlockPc → List ℕ
text_of_block_pc ss p = codes "blockpc " ++ (name_at ss p.block ++ (codes " " ++ (decimal p.predecessor ++ (codes " " ++ (text_of_operand ss p.x ++ (codes " " ++ text_of_operand ss p.y))))))

abbrev pub text_of_statement : List PlainStatement → PlainStatement → List ℕ
text_of_statement ss (assigned a) = text_of_assignment ss a ++ codes "\n"
text_of_statement ss (condition p) = text_of_pc ss p ++ codes "\n"
text_of_statement ss (block_condition p) = text_of_block_pc ss p ++ codes "\n"

abbrev pub text_of_infer : List PlainStatement → PlainInfer → List ℕ
text_of_infer ss i = codes "infer " ++ (name_at ss i.value ++ (text_of_root_attributes i.attributes ++ codes "\n"))

abbrev pub text_of_cand : List PlainStatement → PlainCand → List ℕ
text_of_cand ss c = codes "cand " ++ (text_of_operand ss c.lhs ++ (codes " " ++ (text_of_operand ss c.rhs ++ (text_of_root_attributes c.attributes ++ codes "\n"))))

abbrev pub text_of_result : List PlainStatement → Operand → List ℕ
text_of_result ss r = codes "result " ++ text_of_operand ss r

abbrev pub line_of : List PlainStatement → Option PlainStatement → List ℕ
line_of ss None = []
line_of ss (Some s) = text_of_statement ss s

-- the line of the statement at a position
abbrev pub line_at : List PlainStatement → ℕ → List ℕ
line_at ss i = line_of ss (slice_get ss i)

abbrev pub lines_of : List PlainStatement → List ℕ → List ℕ
lines_of ss ids = flat_map (line_at ss) ids

-- the lines of the statements in an order, of which the first `lead` are before an infer line that a result follows
abbrev pub text_in_order : List PlainStatement → Ending → List ℕ → ℕ → List ℕ
text_in_order ss (inferred i) ids lead = lines_of ss ids ++ text_of_infer ss i
text_in_order ss (resulting r) ids lead = lines_of ss ids ++ text_of_result ss r
text_in_order ss (replaced i r) ids lead = lines_of ss (take lead ids) ++ (text_of_infer ss i ++ (lines_of ss (drop lead ids) ++ (text_of_result ss r ++ codes "\n")))
text_in_order ss (candidate c) ids lead = lines_of ss ids ++ text_of_cand ss c

-- the canonical text
abbrev pub text_of : Item → List ℕ
text_of a = text_in_order a.statements a.ending (printed_order a) (lead_of a)

-- the canonical text of an item and a newline
abbrev pub text_with_newline : Item → List ℕ
text_with_newline a = text_of a ++ codes "\n"

-- the canonical texts of items, a newline after each
abbrev pub texts_of : List Item → List ℕ
texts_of items = flat_map text_with_newline items
