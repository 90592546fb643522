-- Definitions. What is left of the uses of a statement while they are passed one after the other.
use Rattle.std.specs.Prelude.{ℕ, List, [], ◌∷◌, ◌++◌, Option, Some, None}
use Rattle.souper_graph.specs.declared.ast.operands.Operand.{Operand}
use Rattle.souper_graph.specs.declared.ast.uses.Use.{Use as UseNode}
use Rattle.souper_graph.specs.declared.ast.uses.Use.TheVariants.{Value, Block}
use Rattle.souper_graph.specs.declared.ast.uses.OperandsLeft.{OperandsLeft}
use Rattle.souper_graph.specs.Operands.{operands_seen}
use Rattle.souper_graph.specs.Uses.{Use, value_use, block_use}

abbrev pub view_use : UseNode → Use
view_use (Value i) = value_use i
view_use (Block i) = block_use i

abbrev pub operands_left : OperandsLeft → List Operand
operands_left left = operands_seen left.few ++ left.many.now

-- the block, if it is not passed yet
abbrev pub block_left : Option ℕ → List Use
block_left None = []
block_left (Some i) = block_use i ∷ []
