-- Definitions. What the id of a value or of a block names among statements.
use Rattle.std.specs.Prelude.{ℕ, List, Option, Some, None, slice_get}
use Rattle.souper_graph.specs.Syntax.Optional.{◌>>=◌}
use Rattle.souper_graph.specs.declared.ast.statements.Assignment.{Assignment}
use Rattle.souper_graph.specs.declared.ast.statements.AssignmentRhs.{AssignmentRhs}
use Rattle.souper_graph.specs.declared.ast.statements.AssignmentRhs.TheVariants.{Block as block_variant}
use Rattle.souper_graph.specs.declared.ast.statements.Block.{Block}
use Rattle.souper_graph.specs.declared.ast.statements.Statement.{Statement}
use Rattle.souper_graph.specs.declared.ast.statements.Statement.TheVariants.{Assignment as assignment_variant}

-- a path condition is no assignment
abbrev pub assignment_of : Statement → Option Assignment
assignment_of (assignment_variant a) = Some a
assignment_of _ = None

abbrev pub block_of_rhs : AssignmentRhs → Option Block
block_of_rhs (block_variant b) = Some b
block_of_rhs _ = None

-- the block that the statement defines
abbrev pub block_of : Statement → Option Block
block_of s = assignment_of s >>= λ a. block_of_rhs a.value

abbrev pub assignment_at : List Statement → ℕ → Option Assignment
assignment_at ss i = slice_get ss i >>= assignment_of

abbrev pub block_at : List Statement → ℕ → Option Block
block_at ss i = slice_get ss i >>= block_of
