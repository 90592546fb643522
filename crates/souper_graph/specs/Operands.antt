-- Definitions. The operands of an instruction, by reference.
use Rattle.std.specs.Prelude.{List, [], ◌∷◌}
use Rattle.souper_graph.specs.declared.ast.operands.Operand.{Operand}
use Rattle.souper_graph.specs.declared.ast.instructions.Operands.{Operands}
use Rattle.souper_graph.specs.declared.ast.instructions.Operands.TheVariants.{Zero, One, Two, Three}

-- from left to right
abbrev pub operands_seen : Operands → List Operand
operands_seen Zero = []
operands_seen (One a) = a.now ∷ []
operands_seen (Two a b) = a.now ∷ b.now ∷ []
operands_seen (Three a b c) = a.now ∷ b.now ∷ c.now ∷ []
