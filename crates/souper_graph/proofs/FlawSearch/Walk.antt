-- The steps of the walk that marks, over its targets.
use Rattle.std.proofs.Common.{◌≡◌, ◌∙◌, ℕ, ◌+◌, ◌<◌, ◌≤◌, inl, inr, ◌++◌, length, map, List, [], ◌∷◌, Bool, true, false, Some, None, sym, ap, ◌-◌, append-nil, take, arith, get_or, slice_get}
use Rattle.std.proofs.Math.ListN.{set}
use Rattle.std.proofs.lemmas.List.{length-map, length_push, map-append, length-append}
use Rattle.std.proofs.lemmas.Option.{slice_get_cases}
use Rattle.souper_graph.specs.declared.ast.statements.Statement.{Statement}
use Rattle.souper_graph.specs.declared.stringify.order.Target.{Target}
use Rattle.souper_graph.specs.View.{view_statement}
use Rattle.souper_graph.specs.Uses.{position_of, uses_of, used_at}
use Rattle.souper_graph.specs.Walks.{position_of_target}
use Rattle.souper_graph.proofs.Order.Runs.{work, work-set}
use Rattle.souper_graph.proofs.Order.Loops.{uses_there, inside_there}
use Rattle.souper_graph.proofs.FlawSearch.Reached.{Walking, walking_dropped, walking_entered}

popped : (s s' : List Target) (t : Target) → s ≡ s' ++ t ∷ [] → map position_of_target s ≡ map position_of_target s' ++ position_of_target t ∷ []
popped s s' t e = ap (map position_of_target) e ∙ map-append position_of_target s' (t ∷ [])

-- the mark of a statement that is there
pub mark_inside : (g : List Statement) (walks stack : List ℕ) (marks : List Bool) (i j : ℕ) (n : Statement) → Walking (map view_statement g) walks stack marks → Some n ≡ slice_get g i → j ≡ i → j < length marks
mark_inside g walks stack marks i j n w there same = let size = w.size in let inside = inside_there g i n (sym there) in omega arith

-- a target that is marked
pub dropped_marked : (g : List Statement) (walks : List ℕ) (s s' : List Target) (marks : List Bool) (t : Target) (i j : ℕ) (b : Bool) → Walking (map view_statement g) walks (map position_of_target s) marks →
    s ≡ s' ++ t ∷ [] → i ≡ position_of_target t → j ≡ i → b ≡ get_or marks j false → b ≡ true → Walking (map view_statement g) walks (map position_of_target s') marks
dropped_marked g walks s s' marks t i j b w e at same read m =
    walking_dropped (map view_statement g) walks (map position_of_target s) (map position_of_target s') marks (position_of_target t) w (popped s s' t e)
    (inl (ap (λ (z : ℕ). get_or marks z false) (sym (same ∙ at)) ∙ sym read ∙ m))

past_end : (g : List Statement) (i : ℕ) → None ≡ slice_get g i → length g ≤ i
past_end g i none = elim (slice_get_cases g i).1 [
  | inl a ↦ (let q = a.2 in absurd (cc))
  | inr b ↦ b.0
]

-- a target that is past the end
pub dropped_past : (g : List Statement) (walks : List ℕ) (s s' : List Target) (marks : List Bool) (t : Target) (i : ℕ) → Walking (map view_statement g) walks (map position_of_target s) marks →
    s ≡ s' ++ t ∷ [] → i ≡ position_of_target t → None ≡ slice_get g i → Walking (map view_statement g) walks (map position_of_target s') marks
dropped_past g walks s s' marks t i w e at none =
    let past = past_end g i none in
    let same = length-map g view_statement in
    walking_dropped (map view_statement g) walks (map position_of_target s) (map position_of_target s') marks (position_of_target t) w (popped s s' t e)
    (inr (omega arith))

used_is : (g : List Statement) (i : ℕ) (n : Statement) → Some n ≡ slice_get g i → map position_of (uses_of (view_statement n)) ≡ used_at (map view_statement g) i
used_is g i n there = ap (map position_of) (sym (uses_there g i n (sym there)))

-- a target that is marked now
pub entered_marked : (g : List Statement) (walks : List ℕ) (s s' s'' : List Target) (marks marks' : List Bool) (t : Target) (i j : ℕ) (n : Statement) → Walking (map view_statement g) walks (map position_of_target s) marks →
    s ≡ s' ++ t ∷ [] → i ≡ position_of_target t → j ≡ i → Some n ≡ slice_get g i → marks' ≡ set marks j true →
    map position_of_target s'' ≡ map position_of_target s' ++ map position_of (uses_of (view_statement n)) → Walking (map view_statement g) walks (map position_of_target s'') marks'
entered_marked g walks s s' s'' marks marks' t i j n w e at same there m p =
    let ss = map view_statement g in
    walking_entered ss walks (map position_of_target s) (map position_of_target s') (map position_of_target s'') marks marks' (position_of_target t) w (popped s s' t e)
    (let inside = inside_there g i n (sym there) in omega arith)
    (m ∙ ap (λ (z : ℕ). set marks z true) (same ∙ at))
    (p ∙ ap (λ (z : List ℕ). map position_of_target s' ++ z) (used_is g i n there ∙ ap (used_at ss) at))

-- the work left is less then
pub entered_less : (g : List Statement) (walks : List ℕ) (s s' s'' : List Target) (marks marks' : List Bool) (t : Target) (i j k : ℕ) (n : Statement) (b : Bool) → Walking (map view_statement g) walks (map position_of_target s) marks →
    s ≡ s' ++ t ∷ [] → j ≡ i → k ≡ i → Some n ≡ slice_get g i → b ≡ get_or marks k false → b ≡ false → marks' ≡ set marks j true →
    map position_of_target s'' ≡ map position_of_target s' ++ map position_of (uses_of (view_statement n)) →
    work (map view_statement g) marks' + length s'' < work (map view_statement g) marks + length s
entered_less g walks s s' s'' marks marks' t i j k n b w e same read_at there read unmarked m p =
    let ss = map view_statement g in
    let one = work-set ss marks i w.size (inside_there g i n (sym there)) (ap (λ (z : ℕ). get_or marks z false) (sym read_at) ∙ sym read ∙ unmarked) in
    let two : work ss marks' ≡ work ss (set marks i true) = ap (work ss) (m ∙ ap (λ (z : ℕ). set marks z true) same) in
    let three : length s ≡ length s' + 1 = ap length e ∙ length_push s' t in
    let four : length s'' ≡ length s' + length (used_at ss i) =
    sym (length-map s'' position_of_target) ∙ ap length (p ∙ ap (λ (z : List ℕ). map position_of_target s' ++ z) (used_is g i n there))
    ∙ length-append (map position_of_target s') (used_at ss i) ∙ ap (λ (z : ℕ). z + length (used_at ss i)) (length-map s' position_of_target) in
    omega arith

-- a pop that returned nothing
pub emptied : (s s' : List Target) (n : ℕ) → s ≡ s' ++ [] → s' ≡ take (n - 1) s → n ≡ 0 → s ≡ []
emptied s s' n a b c = let z : n - 1 ≡ 0 = omega arith in a ∙ append-nil s' ∙ b ∙ ap (λ k. take k s) z
