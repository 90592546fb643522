-- The edges of statements with their positions are those of the statements.
use Rattle.std.proofs.Common.{◌≡◌, ℕ, ◌+◌, List, [], ◌∷◌, ◌++◌, map, flat_map, refl, ap}
use Rattle.std.specs.List.{enumerate_from}
use Rattle.souper_graph.specs.declared.ast.statements.Statement.{Statement}
use Rattle.souper_graph.specs.View.{view_statement}
use Rattle.souper_meaning.specs.Sampling.{neighbours_of_statement}

abbrev pub neighbours_among : List (ℕ × Statement) → List ℕ
neighbours_among [] = []
neighbours_among (p ∷ ps) = neighbours_of_statement (view_statement p.1) ++ neighbours_among ps

pub neighbours_among_all : (k : ℕ) (ss : List Statement) → neighbours_among (enumerate_from k ss) ≡ flat_map neighbours_of_statement (map view_statement ss)
neighbours_among_all k [] = refl
neighbours_among_all k (s ∷ ss) = ap (λ (rest : List ℕ). neighbours_of_statement (view_statement s) ++ rest) (neighbours_among_all (k + 1) ss)
