-- The path conditions among statements with their positions.
use Rattle.std.proofs.Common.{◌≡◌, ℕ, suc, ◌+◌, List, [], ◌∷◌, map, if◌then◌else◌, refl, ap, subst, arith}
use Rattle.std.specs.List.{enumerate_from}
use Rattle.souper_graph.specs.declared.ast.statements.Statement.{Statement}
use Rattle.souper_graph.specs.declared.ast.statements.Statement.TheVariants.{Assignment, Pc, BlockPc}
use Rattle.souper_graph.specs.Uses.{is_condition, conditions_from}
use Rattle.souper_graph.specs.View.{view_statement}

abbrev pub conditions_among : List (ℕ × Statement) → List ℕ
conditions_among [] = []
conditions_among (p ∷ ps) = if is_condition (view_statement p.1) then p.0 ∷ conditions_among ps else conditions_among ps

pub all_conditions : (k : ℕ) (ss : List Statement) → conditions_among (enumerate_from k ss) ≡ conditions_from k (map view_statement ss)
all_conditions k [] = refl
all_conditions k (s ∷ ss) = with_first s (subst (λ (n : ℕ). conditions_among (enumerate_from n ss) ≡ conditions_from (suc k) (map view_statement ss))
    (let next : suc k ≡ k + 1 = omega arith in next) (all_conditions (suc k) ss))
  where
    with_first : (s : Statement) → conditions_among (enumerate_from (k + 1) ss) ≡ conditions_from (suc k) (map view_statement ss) →
        conditions_among (enumerate_from k (s ∷ ss)) ≡ conditions_from k (map view_statement (s ∷ ss))
    with_first (Assignment a) rest = rest
    with_first (Pc p) rest = ap (λ (is : List ℕ). k ∷ is) rest
    with_first (BlockPc p) rest = ap (λ (is : List ℕ). k ∷ is) rest
