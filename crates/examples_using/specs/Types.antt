-- Definitions. A type that is written after the name of an assignment.
use Rattle.std.specs.Prelude.{ℕ, List, Option, Some, None, slice_get, slice_set}
use Rattle.souper_graph.specs.declared.ast.statements.Statement.{Statement}
use Rattle.souper_graph.specs.declared.ast.statements.Statement.TheVariants.{Assignment, Pc, BlockPc}

-- a path condition has no type
abbrev pub with_width : ℕ → Statement → Statement
with_width width (Assignment a) = Assignment (record a { ty = Some (record { width = width }) })
with_width width (Pc p) = Pc p
with_width width (BlockPc p) = BlockPc p

abbrev pub set_width : ℕ → List Statement → ℕ → Option Statement → List Statement
set_width width ss i None = ss
set_width width ss i (Some s) = slice_set ss i (with_width width s)

-- the statements, of which the one at the position has a type of that width
abbrev pub typed_at : ℕ → List Statement → ℕ → List Statement
typed_at width ss i = set_width width ss i (slice_get ss i)
