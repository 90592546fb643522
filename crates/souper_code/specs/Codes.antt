-- Definitions. The byte code of items: little-endian, nothing aligned.
use Rattle.std.specs.Prelude.{ℕ, ◌/◌, ◌%◌, ◌^◌, ℤ, Bool, true, false, List, [], ◌∷◌, ◌++◌, length, flat_map, Option, Some, None}
use Rattle.std.specs.Int.{w16, w32, w64, w128, to_le_bytes, cast_unsigned}
use Rattle.souper_graph.specs.declared.ast.operands.«Type».{«Type» as Ty}
use Rattle.souper_graph.specs.declared.ast.operands.Constant.{Constant as ConstantNode}
use Rattle.souper_graph.specs.declared.ast.operands.Operand.{Operand}
use Rattle.souper_graph.specs.declared.ast.operands.Operand.TheVariants.{Value, Constant}
use Rattle.souper_graph.specs.declared.ast.instructions.Instruction.{Instruction}
use Rattle.souper_graph.specs.declared.ast.statements.Pc.{Pc}
use Rattle.souper_graph.specs.declared.ast.statements.BlockPc.{BlockPc}
use Rattle.souper_graph.specs.Instructions.{operands_of}
use Rattle.souper_graph.specs.Values.{PlainAttribute, known_bits, power_of_two, negative, non_negative, non_zero, has_external_uses, sign_bits, range, PlainRootAttribute, demanded_bits, harvested_from_use, PlainPhi, PlainRhs, var, block, phi, reserved_inst, reserved_const, instruction, PlainAssignment, PlainStatement, assigned, condition, block_condition, PlainInfer, PlainCand, Ending, inferred, resulting, replaced, candidate, Item}
use Rattle.souper_code.specs.Numbers.{instruction_number}

-- a number of 2 bytes
unfoldable pub code_of_u16 : ℕ → List ℕ
code_of_u16 n = to_le_bytes w16 n

-- a number of 4 bytes
unfoldable pub code_of_u32 : ℕ → List ℕ
code_of_u32 n = to_le_bytes w32 n

-- a count, a length or a position: a number of 8 bytes
unfoldable pub code_of_size : ℕ → List ℕ
code_of_size n = to_le_bytes w64 n

-- a list: its length, and its elements
abbrev pub code_of_list : {X : Type 0} → (X → List ℕ) → List X → List ℕ
code_of_list code xs = code_of_size (length xs) ++ flat_map code xs

-- 128 bits: the lower 64, and the upper 64
abbrev pub code_of_wide : ℕ → List ℕ
code_of_wide n = code_of_size (n % 2 ^ 64) ++ code_of_size (n / 2 ^ 64)

-- a signed number of 128 bits, in two's complement
abbrev pub code_of_number : ℤ → List ℕ
code_of_number n = code_of_wide (cast_unsigned w128 n)

-- a type, if there is one
abbrev pub code_of_type : Option Ty → List ℕ
code_of_type None = 0 ∷ []
code_of_type (Some t) = 1 ∷ code_of_u16 t.width

abbrev pub code_of_constant : ConstantNode → List ℕ
code_of_constant c = code_of_number c.value ++ code_of_type c.ty

abbrev pub code_of_operand : Operand → List ℕ
code_of_operand (Value i) = 0 ∷ code_of_size i
code_of_operand (Constant c) = 1 ∷ code_of_constant c

abbrev pub code_of_operands : List Operand → List ℕ
code_of_operands xs = code_of_list code_of_operand xs

abbrev pub code_of_instruction : Instruction → List ℕ
code_of_instruction i = instruction_number i ∷ code_of_operands (operands_of i)

abbrev pub code_of_phi : PlainPhi → List ℕ
code_of_phi p = code_of_size p.block ++ code_of_operands p.values

abbrev pub code_of_rhs : PlainRhs → List ℕ
code_of_rhs var = 0 ∷ []
code_of_rhs (block b) = 1 ∷ code_of_u32 b.predecessors
code_of_rhs (phi p) = 2 ∷ code_of_phi p
code_of_rhs reserved_inst = 3 ∷ []
code_of_rhs reserved_const = 4 ∷ []
code_of_rhs (instruction i) = 5 ∷ code_of_instruction i

abbrev pub code_of_bit : Bool → List ℕ
code_of_bit false = 0 ∷ []
code_of_bit true = 1 ∷ []

-- 2 for a bit that is not known
abbrev pub code_of_known_bit : Option Bool → List ℕ
code_of_known_bit None = 2 ∷ []
code_of_known_bit (Some b) = code_of_bit b

abbrev pub code_of_attribute : PlainAttribute → List ℕ
code_of_attribute (known_bits bits) = 0 ∷ code_of_list code_of_known_bit bits
code_of_attribute power_of_two = 1 ∷ []
code_of_attribute negative = 2 ∷ []
code_of_attribute non_negative = 3 ∷ []
code_of_attribute non_zero = 4 ∷ []
code_of_attribute has_external_uses = 5 ∷ []
code_of_attribute (sign_bits n) = 6 ∷ n ∷ []
code_of_attribute (range low high) = 7 ∷ (code_of_number low ++ code_of_number high)

abbrev pub code_of_attributes : List PlainAttribute → List ℕ
code_of_attributes xs = code_of_list code_of_attribute xs

abbrev pub code_of_root_attribute : PlainRootAttribute → List ℕ
code_of_root_attribute (demanded_bits bits) = 0 ∷ code_of_list code_of_bit bits
code_of_root_attribute harvested_from_use = 1 ∷ []

abbrev pub code_of_root_attributes : List PlainRootAttribute → List ℕ
code_of_root_attributes xs = code_of_list code_of_root_attribute xs

abbrev pub code_of_name : List ℕ → List ℕ
code_of_name name = code_of_size (length name) ++ name

abbrev pub code_of_assignment : PlainAssignment → List ℕ
code_of_assignment a = code_of_name a.name ++ (code_of_type a.ty ++ (code_of_rhs a.value ++ code_of_attributes a.attributes))

abbrev pub code_of_condition : Pc → List ℕ
code_of_condition p = code_of_operand p.x ++ code_of_operand p.y

abbrev pub code_of_block_condition : BlockPc → List ℕ
code_of_block_condition p = code_of_size p.block ++ (code_of_u32 p.predecessor ++ (code_of_operand p.x ++ code_of_operand p.y))

abbrev pub code_of_statement : PlainStatement → List ℕ
code_of_statement (assigned a) = 0 ∷ code_of_assignment a
code_of_statement (condition p) = 1 ∷ code_of_condition p
code_of_statement (block_condition p) = 2 ∷ code_of_block_condition p

abbrev pub code_of_infer : PlainInfer → List ℕ
code_of_infer i = code_of_size i.value ++ code_of_root_attributes i.attributes

abbrev pub code_of_cand : PlainCand → List ℕ
code_of_cand c = code_of_operand c.lhs ++ (code_of_operand c.rhs ++ code_of_root_attributes c.attributes)

abbrev pub code_of_ending : Ending → List ℕ
code_of_ending (inferred i) = 0 ∷ code_of_infer i
code_of_ending (resulting r) = 1 ∷ code_of_operand r
code_of_ending (replaced i r) = 2 ∷ (code_of_infer i ++ code_of_operand r)
code_of_ending (candidate c) = 3 ∷ code_of_cand c

abbrev pub code_of_statements : List PlainStatement → List ℕ
code_of_statements ss = code_of_list code_of_statement ss

abbrev pub code_of : Item → List ℕ
code_of a = code_of_statements a.statements ++ code_of_ending a.ending

-- one after the other, without a count
abbrev pub code_of_items : List Item → List ℕ
code_of_items xs = flat_map code_of xs
