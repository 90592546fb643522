-- Definitions. The names of the statements of an arena.
use Rattle.std.specs.Prelude.{ℕ, List, Option, option_map}
use Rattle.std.specs.List.{filter_map}
use Rattle.std.specs.String.{string_bytes}
use Rattle.souper_graph.specs.declared.ast.statements.Assignment.{Assignment}
use Rattle.souper_graph.specs.declared.ast.statements.Statement.{Statement}
use Rattle.souper_graph.specs.Lookup.{assignment_at}

-- the name of the value at a position; a path condition has none
abbrev pub name_of_value : List Statement → ℕ → Option (List ℕ)
name_of_value ss i = option_map (λ (a : Assignment). string_bytes a.name) (assignment_at ss i)

-- the names of the statements at these positions
abbrev pub names_at : List Statement → List ℕ → List (List ℕ)
names_at ss ids = filter_map (name_of_value ss) ids
