-- The targets that are put on the stack, as positions.
use Rattle.std.proofs.Common.{◌≡◌, ℕ, ◌++◌, map, List, [], ◌∷◌, ap, sym, ◌∙◌, append_assoc}
use Rattle.std.proofs.lemmas.List.{map-append}
use Rattle.souper_graph.specs.declared.stringify.order.Target.{Target}
use Rattle.souper_graph.specs.Uses.{Use, position_of}
use Rattle.souper_graph.specs.Walks.{position_of_target}

-- the target of the first use that is left is appended
pub pushed_use : (old new : List Target) (t : Target) (u : Use) (before rest : List Use) (whole : List ℕ) → before ≡ u ∷ rest → new ≡ old ++ t ∷ [] → position_of_target t ≡ position_of u
    → map position_of_target old ++ map position_of before ≡ whole → map position_of_target new ++ map position_of rest ≡ whole
pushed_use old new t u before rest whole first last same e =
    ap (λ z. map position_of_target z ++ map position_of rest) last
    ∙ ap (λ z. z ++ map position_of rest) (map-append position_of_target old (t ∷ []))
    ∙ append_assoc (map position_of_target old) (position_of_target t ∷ []) (map position_of rest)
    ∙ ap (λ n. map position_of_target old ++ n ∷ map position_of rest) same
    ∙ ap (λ z. map position_of_target old ++ map position_of z) (sym first)
    ∙ e
