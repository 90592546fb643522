-- Definitions. The values that have a code: each number is in the range of its bytes, and each name is UTF-8.
use Rattle.std.specs.Prelude.{ℕ, ℤ, Bool, ◌<◌, ◌^◌, List, Option, Some, None, length, FitsSigned}
use Rattle.std.specs.Int.{w128}
use Rattle.std.specs.Str.{IsUtf8}
use Rattle.std.specs.List.{AllByRecursion}
use Rattle.souper_graph.specs.declared.ast.operands.«Type».{«Type» as Ty}
use Rattle.souper_graph.specs.declared.ast.operands.Constant.{Constant as ConstantNode}
use Rattle.souper_graph.specs.declared.ast.operands.Operand.{Operand}
use Rattle.souper_graph.specs.declared.ast.operands.Operand.TheVariants.{Value, Constant}
use Rattle.souper_graph.specs.declared.ast.statements.Pc.{Pc}
use Rattle.souper_graph.specs.declared.ast.statements.BlockPc.{BlockPc}
use Rattle.souper_graph.specs.Instructions.{operands_of}
use Rattle.souper_graph.specs.Values.{PlainAttribute, known_bits, power_of_two, negative, non_negative, non_zero, has_external_uses, sign_bits, range, PlainRootAttribute, demanded_bits, harvested_from_use, PlainPhi, PlainRhs, var, block, phi, reserved_inst, reserved_const, instruction, PlainAssignment, PlainStatement, assigned, condition, block_condition, PlainInfer, PlainCand, Ending, inferred, resulting, replaced, candidate, Item}
use Rattle.souper_graph.specs.declared.ast.instructions.Instruction.{Instruction}
use Rattle.souper_graph.specs.Syntax.Spelling.{ItemType, IsEndingOf}

abbrev pub CodableSize : ℕ → Type 0
CodableSize n = n < 2 ^ 64

abbrev pub CodableList : {X : Type 0} → (X → Type 0) → List X → Type 0
CodableList Codable xs = CodableSize (length xs) × AllByRecursion Codable xs

abbrev pub CodableNumber : ℤ → Type 0
CodableNumber n = FitsSigned w128 n

abbrev pub CodableType : Option Ty → Type 0
CodableType None = Unit {0}
CodableType (Some t) = t.width < 2 ^ 16

abbrev pub CodableConstant : ConstantNode → Type 0
CodableConstant c = CodableNumber c.value × CodableType c.ty

abbrev pub CodableOperand : Operand → Type 0
CodableOperand (Value i) = CodableSize i
CodableOperand (Constant c) = CodableConstant c

abbrev pub CodableInstruction : Instruction → Type 0
CodableInstruction i = CodableList CodableOperand (operands_of i)

abbrev pub CodablePhi : PlainPhi → Type 0
CodablePhi p = CodableSize p.block × CodableList CodableOperand p.values

abbrev pub CodableRhs : PlainRhs → Type 0
CodableRhs var = Unit {0}
CodableRhs (block b) = b.predecessors < 2 ^ 32
CodableRhs (phi p) = CodablePhi p
CodableRhs reserved_inst = Unit {0}
CodableRhs reserved_const = Unit {0}
CodableRhs (instruction i) = CodableInstruction i

abbrev pub CodableBit : Bool → Type 0
CodableBit b = Unit {0}

abbrev pub CodableKnownBit : Option Bool → Type 0
CodableKnownBit b = Unit {0}

abbrev pub CodableAttribute : PlainAttribute → Type 0
CodableAttribute (known_bits bits) = CodableList CodableKnownBit bits
CodableAttribute power_of_two = Unit {0}
CodableAttribute negative = Unit {0}
CodableAttribute non_negative = Unit {0}
CodableAttribute non_zero = Unit {0}
CodableAttribute has_external_uses = Unit {0}
CodableAttribute (sign_bits n) = n < 2 ^ 8
CodableAttribute (range low high) = CodableNumber low × CodableNumber high

abbrev pub CodableRootAttribute : PlainRootAttribute → Type 0
CodableRootAttribute (demanded_bits bits) = CodableList CodableBit bits
CodableRootAttribute harvested_from_use = Unit {0}

abbrev pub CodableName : List ℕ → Type 0
CodableName name = CodableSize (length name) × IsUtf8 name

abbrev pub CodableAssignment : PlainAssignment → Type 0
CodableAssignment a = CodableName a.name × CodableType a.ty × CodableRhs a.value × CodableList CodableAttribute a.attributes

abbrev pub CodableCondition : Pc → Type 0
CodableCondition p = CodableOperand p.x × CodableOperand p.y

abbrev pub CodableBlockCondition : BlockPc → Type 0
CodableBlockCondition p = CodableSize p.block × (p.predecessor < 2 ^ 32) × CodableOperand p.x × CodableOperand p.y

abbrev pub CodableStatement : PlainStatement → Type 0
CodableStatement (assigned a) = CodableAssignment a
CodableStatement (condition p) = CodableCondition p
CodableStatement (block_condition p) = CodableBlockCondition p

abbrev pub CodableInfer : PlainInfer → Type 0
CodableInfer i = CodableSize i.value × CodableList CodableRootAttribute i.attributes

abbrev pub CodableCand : PlainCand → Type 0
CodableCand c = CodableOperand c.lhs × CodableOperand c.rhs × CodableList CodableRootAttribute c.attributes

abbrev pub CodableEnding : Ending → Type 0
CodableEnding (inferred i) = CodableInfer i
CodableEnding (resulting r) = CodableOperand r
CodableEnding (replaced i r) = CodableInfer i × CodableOperand r
CodableEnding (candidate c) = CodableCand c

-- an item of the type that has a code
abbrev pub CodableItem : ItemType → Item → Type 0
CodableItem k a = IsEndingOf k a.ending × CodableList CodableStatement a.statements × CodableEnding a.ending
