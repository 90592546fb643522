-- Definitions. What an arena ends as, if a `&mut` to one of its items is returned.
use Rattle.std.specs.Prelude.{ℕ, List, Option, slice_set}
use Rattle.std.specs.Borrow.{Lends, LendsIf, Fml, RattleType, MutBor}
use Rattle.souper_graph.specs.contracts.ast.arenas.Arena.{the_row}
use Rattle.souper_graph.specs.contracts.ast.statements.Statement.{the_row as statement_row}
use Rattle.souper_graph.specs.declared.ast.statements.Statement.{Statement}

-- once the borrow r ends, the item at the position is the last value written through r; without r the arena is
-- unchanged
abbrev pub LendsItem : (T : RattleType) → MutBor (List T.Denot) → ℕ → Option (MutBor T.Denot) → Fml
LendsItem T arena i r = LendsIf (the_row T) T arena r (slice_set arena.now i) arena.now

-- once the borrow r ends, the item has the statements that were written through r
abbrev pub LendsStatements : (S : RattleType) → (S.Denot → List Statement → S.Denot) → MutBor S.Denot → MutBor (List Statement) → Fml
LendsStatements S put item r = Lends S (the_row statement_row) item r (put item.now)
