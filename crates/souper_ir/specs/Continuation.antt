-- Definitions. Which tokens continue a value, after its spelling.
use Rattle.std.specs.Prelude.{◌≡◌, ◌⊎◌, List, [], ◌∷◌, Option, Some, None}
use Rattle.souper_graph.specs.declared.ast.operands.«Type».{«Type» as Ty}
use Rattle.souper_graph.specs.declared.ast.operands.Constant.{Constant}
use Rattle.souper_graph.specs.declared.ast.operands.Operand.{Operand}
use Rattle.souper_graph.specs.declared.ast.operands.Operand.TheVariants.{Value, Constant as constant_variant}
use Rattle.souper_graph.specs.declared.ast.instructions.Instruction.{Instruction}
use Rattle.souper_graph.specs.declared.ast.statements.Pc.{Pc}
use Rattle.souper_graph.specs.declared.ast.statements.BlockPc.{BlockPc}
use Rattle.souper_graph.specs.Instructions.{operands_of}
use Rattle.souper_graph.specs.Values.{PlainPhi, PlainRhs, var, block, phi, reserved_inst, reserved_const, instruction, PlainAssignment, PlainStatement, assigned, condition, block_condition, PlainInfer, PlainCand, Ending, inferred, resulting, replaced, candidate, Item}
use Rattle.souper_graph.specs.Syntax.Tokens.{Lexeme, colon, open_paren}

-- a type may follow if there is none
abbrev pub optional_type_continues : Option Ty → Lexeme → Type 0
optional_type_continues None t = t ≡ colon
optional_type_continues (Some ty) t = ⊥

abbrev pub constant_continues : Constant → Lexeme → Type 0
constant_continues c t = optional_type_continues c.ty t

abbrev pub operand_continues : Operand → Lexeme → Type 0
operand_continues (Value i) t = ⊥
operand_continues (constant_variant c) t = constant_continues c t

-- the last operand is continued
abbrev pub operands_continue : List Operand → Lexeme → Type 0
operands_continue [] t = ⊥
operands_continue (x ∷ []) t = operand_continues x t
operands_continue (x ∷ (y ∷ xs)) t = operands_continue (y ∷ xs) t

abbrev pub phi_continues : PlainPhi → Lexeme → Type 0
phi_continues p t = operands_continue p.values t

abbrev pub instruction_continues : Instruction → Lexeme → Type 0
instruction_continues i t = operands_continue (operands_of i) t

abbrev pub rhs_continues : PlainRhs → Lexeme → Type 0
rhs_continues var t = ⊥
rhs_continues (block b) t = ⊥
rhs_continues (phi p) t = phi_continues p t
rhs_continues reserved_inst t = ⊥
rhs_continues reserved_const t = ⊥
rhs_continues (instruction i) t = instruction_continues i t

-- one more attribute continues a list of them; if the list is empty, so does what continues the node before it
abbrev pub attributes_continue : {A : Type 0} → Type 0 → List A → Lexeme → Type 0
attributes_continue before [] t = (t ≡ open_paren) ⊎ before
attributes_continue before (x ∷ xs) t = t ≡ open_paren

abbrev pub assignment_continues : PlainAssignment → Lexeme → Type 0
assignment_continues a t = attributes_continue (rhs_continues a.value t) a.attributes t

abbrev pub pc_continues : Pc → Lexeme → Type 0
pc_continues p t = operand_continues p.y t

abbrev pub block_pc_continues : BlockPc → Lexeme → Type 0
block_pc_continues p t = operand_continues p.y t

abbrev pub statement_continues : PlainStatement → Lexeme → Type 0
statement_continues (assigned a) t = assignment_continues a t
statement_continues (condition p) t = pc_continues p t
statement_continues (block_condition p) t = block_pc_continues p t

abbrev pub infer_continues : PlainInfer → Lexeme → Type 0
infer_continues i t = attributes_continue ⊥ i.attributes t

abbrev pub cand_continues : PlainCand → Lexeme → Type 0
cand_continues c t = attributes_continue (operand_continues c.rhs t) c.attributes t

abbrev pub result_continues : Operand → Lexeme → Type 0
result_continues r t = operand_continues r t

abbrev pub ending_continues : Ending → Lexeme → Type 0
ending_continues (inferred i) t = infer_continues i t
ending_continues (resulting r) t = result_continues r t
ending_continues (replaced i r) t = result_continues r t
ending_continues (candidate c) t = cand_continues c t

abbrev pub item_continues : Item → Lexeme → Type 0
item_continues a t = ending_continues a.ending t
