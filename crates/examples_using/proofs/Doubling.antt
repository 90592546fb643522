-- How many statements there are after one more.
use lib.ListN.{length-map}
use Rattle.std.proofs.Common.{◌≡◌, ℕ, ◌+◌, List, [], ◌∷◌, ◌++◌, map, length, length-append, ap, ◌∙◌, arith}
use Rattle.souper_graph.specs.declared.ast.statements.Statement.{Statement}
use Rattle.souper_graph.specs.Values.{PlainStatement}
use Rattle.souper_graph.specs.View.{view_statement}

pub grown : (ss ts : List Statement) (p : PlainStatement) (n : ℕ) → length ss ≡ n → map view_statement ts ≡ map view_statement ss ++ p ∷ [] → length ts ≡ n + 1
grown ss ts p n e grows =
    let old = length-map ss view_statement in
    let new = length-map ts view_statement in
    let both = ap (λ (ps : List PlainStatement). length ps) grows ∙ length-append (map view_statement ss) (p ∷ []) in
    omega (arith, old, new, both, e)
