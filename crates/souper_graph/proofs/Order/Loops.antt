-- The loops of the work stack: what each turn does to a run, and what a finished run says of the item.
use Rattle.std.proofs.Common.{◌≡◌, ℕ, ◌+◌, ◌<◌, ◌≤◌, ◌++◌, ◌-◌, ◌^◌, ◌↔◌, ◌⊎◌, inl, inr, min, length, map, reverse, List, [], ◌∷◌, Bool, true, false, refl, sym, ap, ◌∙◌, subst, get_or, arith, length-append, append-nil, take, drop, take-append-drop, Some, slice_get}
use Rattle.std.proofs.Math.ListN.{replicate, set}
use Rattle.std.proofs.Math.Seq.{take-append_seam}
use Rattle.std.proofs.lemmas.List.{reverse-append, length-map, map-append, length_push, length-reverse, take_more, take_all, take-append-le}
use Rattle.std.proofs.lemmas.Option.{slice_get-map, slice_get_within}
use Rattle.std.proofs.lemmas.Bool.{cases_lt}
use Rattle.std.specs.Option.{option_map}
use Rattle.souper_graph.specs.declared.ast.statements.Statement.{Statement}
use Rattle.souper_graph.specs.declared.stringify.errors.TextError.{TextError}
use Rattle.souper_graph.specs.declared.stringify.errors.TextError.TheVariants.{OutOfRange, NotAnAssignment, NotABlock, OutOfMemory}
use Rattle.souper_graph.specs.declared.stringify.order.Target.{Target}
use Rattle.souper_graph.specs.declared.stringify.order.Target.TheVariants.{Value, Block, Condition}
use Rattle.souper_graph.specs.declared.stringify.order.Entry.{Entry}
use Rattle.souper_graph.specs.declared.stringify.order.Entry.TheVariants.{Trace, Finished}
use Rattle.souper_graph.specs.Values.{PlainStatement, Item}
use Rattle.souper_graph.specs.View.{view_statement}
use Rattle.souper_graph.specs.Uses.{Has, Use, value_use, block_use, position_of, uses_of, uses_of_optional, uses_at, used_at, Needed, walked, used, conditions, first_roots, last_roots, roots_of, first_walks, walks_of, NeededIn}
use Rattle.souper_graph.specs.Order.{Distinct, EachAfterItsUses, order_of_walks}
use Rattle.souper_graph.specs.Faults.{NamedIn, HasBadId, IsFaultOf}
use Rattle.souper_graph.specs.WellFormed.{IsMet}
use Rattle.souper_graph.specs.Walks.{position_of_target, target_of, IsMetTarget, IsFaultAt, first_targets, targets_of, IsWalkedBy}
use Rattle.souper_graph.specs.PrintOrder.{IsPrintOrder, cost}
use Rattle.souper_graph.proofs.Lists.{Has-left, Has-right, Has-cases, Has-none, Has-here, Has-map, Has-mapped}
use Rattle.souper_graph.proofs.Conditions.{conditions-inside}
use Rattle.souper_graph.proofs.Order.Runs.{Below, work, work-set}
use Rattle.souper_graph.proofs.Order.Needed.{kept, over, needed_held, needed_more}
use Rattle.souper_graph.proofs.Order.Sorted.{over_printed, over_after}
use Rattle.souper_graph.proofs.Order.Stack.{positions, traces_of, use_position, Running, running_start, running_walk, running_dropped, running_finished, running_entered}

-- the turns of the loops

top : (s s' : List Entry) (e : Entry) → s ≡ s' ++ e ∷ [] → reverse s ≡ e ∷ reverse s'
top s s' e h = ap reverse h ∙ reverse-append s' (e ∷ [])

popped : (ss : List PlainStatement) (w : List Target) (s s' : List Entry) (m : List Bool) (ids : List ℕ) (turns : ℕ) (e e' : Entry) →
    Running ss w (reverse s) m ids turns → s ≡ s' ++ e ∷ [] → e ≡ e' → Running ss w (e' ∷ reverse s') m ids turns
popped ss w s s' m ids turns e e' r a b =
    let P : List Entry → Type 0 = λ z. Running ss w z m ids turns in
    subst P (top s s' e a ∙ ap (λ x. x ∷ reverse s') b) r

pub uses_there : (g : List Statement) (i : ℕ) (n : Statement) → slice_get g i ≡ Some n → uses_at (map view_statement g) i ≡ uses_of (view_statement n)
uses_there g i n e = ap uses_of_optional (slice_get-map view_statement g i ∙ ap (option_map view_statement) e)

pub inside_there : (g : List Statement) (i : ℕ) (n : Statement) → slice_get g i ≡ Some n → i < length (map view_statement g)
inside_there g i n e = let l = length-map g view_statement in let h = slice_get_within g i n e in omega arith

-- nothing is walked yet
pub start_at : (ss : List PlainStatement) (n : ℕ) (s : List Entry) (m : List Bool) (ids : List ℕ) →
    s ≡ [] → m ≡ replicate n false → n ≡ length ss → ids ≡ [] → Running ss [] (reverse s) m ids 0
start_at ss n s m ids a b c d =
    let A : List Entry → Type 0 = λ z. Running ss [] (reverse z) m ids 0 in
    let B : List Bool → Type 0 = λ z. Running ss [] [] z ids 0 in
    let D : List ℕ → Type 0 = λ z. Running ss [] [] (replicate (length ss) false) z 0 in
    subst A (sym a) (subst B (sym (b ∙ ap (λ z. replicate z false) c)) (subst D (sym d) (running_start ss)))

-- the mark of a statement that is there
pub mark_there : (g : List Statement) (w : List Target) (s : List Entry) (m : List Bool) (ids : List ℕ) (turns i j : ℕ) (n : Statement) →
    Running (map view_statement g) w s m ids turns → slice_get g j ≡ Some n → i ≡ j → i < length m
mark_there g w s m ids turns i j n r e at = let l = r.marked in let h = inside_there g j n e in omega arith

-- the next walk begins
pub walk_next : (ss : List PlainStatement) (walks : List Target) (k : ℕ) (t : Target) (s s' : List Entry) (m : List Bool) (ids : List ℕ) (turns : ℕ) →
    Running ss (take k walks) (reverse s) m ids turns → s ≡ [] → k < length walks → t ≡ get_or walks k t → s' ≡ s ++ Trace t ∷ [] →
    Running ss (take (k + 1) walks) (reverse s') m ids turns
walk_next ss walks k t s s' m ids turns r e h f p =
    let A : List Entry → Type 0 = λ z. Running ss (take k walks) z m ids turns in
    let B : List Target → Type 0 = λ z. Running ss z (Trace t ∷ []) m ids turns in
    let C : List Entry → Type 0 = λ z. Running ss (take (k + 1) walks) z m ids turns in
    subst C (sym (ap reverse (p ∙ ap (λ z. z ++ Trace t ∷ []) e)))
    (subst B (ap (λ z. take k walks ++ z ∷ []) f ∙ sym (take_more walks k t h))
    (running_walk ss (take k walks) m ids turns t (subst A (ap reverse e) r)))

-- a marked target is dropped
pub dropped_next : (ss : List PlainStatement) (w : List Target) (s s' : List Entry) (m : List Bool) (ids : List ℕ) (turns turns' i : ℕ) (e : Entry) (t : Target) (b : Bool) →
    Running ss w (reverse s) m ids turns → s ≡ s' ++ e ∷ [] → e ≡ Trace t → IsMetTarget ss t → i ≡ position_of_target t →
    b ≡ get_or m i false → b ≡ true → turns' ≡ min (turns + 1) (2 ^ 128 - 1) → Running ss w (reverse s') m ids turns'
dropped_next ss w s s' m ids turns turns' i e t b r a f met at g h n =
    running_dropped ss w (reverse s') m ids turns turns' t (popped ss w s s' m ids turns e (Trace t) r a f) met
    (ap (λ z. get_or m z false) (sym at) ∙ sym g ∙ h) n

-- a finished statement is appended
pub finished_next : (ss : List PlainStatement) (w : List Target) (s s' : List Entry) (m : List Bool) (ids ids' : List ℕ) (turns turns' i : ℕ) (e : Entry) →
    Running ss w (reverse s) m ids turns → s ≡ s' ++ e ∷ [] → e ≡ Finished i → ids' ≡ ids ++ i ∷ [] → turns' ≡ min (turns + 1) (2 ^ 128 - 1) →
    Running ss w (reverse s') m ids' turns'
finished_next ss w s s' m ids ids' turns turns' i e r a f d n =
    let P : List ℕ → Type 0 = λ z. Running ss w (reverse s') m z turns' in
    subst P (sym d) (running_finished ss w (reverse s') m ids turns turns' i (popped ss w s s' m ids turns e (Finished i) r a f) n)

-- what a target that is not marked pushes
entered_stack : (g : List Statement) (s' s'' s''' : List Entry) (i j : ℕ) (n : Statement) → slice_get g j ≡ Some n → i ≡ j → s'' ≡ s' ++ Finished i ∷ [] →
    reverse s''' ≡ traces_of (uses_of (view_statement n)) ++ reverse s'' →
    traces_of (uses_at (map view_statement g) j) ++ Finished j ∷ reverse s' ≡ reverse s'''
entered_stack g s' s'' s''' i j n there at p u =
    ap (λ z. traces_of z ++ Finished j ∷ reverse s') (uses_there g j n there)
    ∙ ap (λ z. traces_of (uses_of (view_statement n)) ++ Finished z ∷ reverse s') (sym at)
    ∙ ap (λ z. traces_of (uses_of (view_statement n)) ++ z) (sym (top s'' s' (Finished i) p)) ∙ sym u

-- a target that is not marked is entered
pub entered_next : (g : List Statement) (w : List Target) (s s' s'' s''' : List Entry) (m m' : List Bool) (ids : List ℕ) (turns turns' i i' : ℕ) (e : Entry) (t : Target) (n : Statement) (b : Bool) →
    Running (map view_statement g) w (reverse s) m ids turns → s ≡ s' ++ e ∷ [] → e ≡ Trace t → IsMetTarget (map view_statement g) t →
    slice_get g (position_of_target t) ≡ Some n → i ≡ position_of_target t → i' ≡ position_of_target t → b ≡ get_or m i' false → b ≡ false → m' ≡ set m i true →
    s'' ≡ s' ++ Finished i ∷ [] → reverse s''' ≡ traces_of (uses_of (view_statement n)) ++ reverse s'' → turns' ≡ min (turns + 1) (2 ^ 128 - 1) →
    Running (map view_statement g) w (reverse s''') m' ids turns'
entered_next g w s s' s'' s''' m m' ids turns turns' i i' e t n b r a f met there at at' q h d p u k =
    let ss = map view_statement g in
    let j = position_of_target t in
    let P : List Entry → Type 0 = λ z. Running ss w z m' ids turns' in
    let Q : List Bool → Type 0 = λ z. Running ss w (traces_of (uses_at ss j) ++ Finished j ∷ reverse s') z ids turns' in
    subst P (entered_stack g s' s'' s''' i j n there at p u)
    (subst Q (ap (λ z. set m z true) (sym at) ∙ sym d)
    (running_entered ss w (reverse s') m ids turns turns' t (popped ss w s s' m ids turns e (Trace t) r a f) met (inside_there g j n there)
    (ap (λ z. get_or m z false) (sym at') ∙ sym q ∙ h) k))

-- the work decreases by more than the number of pushed entries
pub entered_smaller : (g : List Statement) (w : List Target) (s s' s'' s''' : List Entry) (m m' : List Bool) (ids : List ℕ) (turns i i' : ℕ) (e : Entry) (t : Target) (n : Statement) (b : Bool) →
    Running (map view_statement g) w (reverse s) m ids turns → s ≡ s' ++ e ∷ [] →
    slice_get g (position_of_target t) ≡ Some n → i ≡ position_of_target t → i' ≡ position_of_target t → b ≡ get_or m i' false → b ≡ false → m' ≡ set m i true →
    s'' ≡ s' ++ Finished i ∷ [] → reverse s''' ≡ traces_of (uses_of (view_statement n)) ++ reverse s'' →
    work (map view_statement g) m' + length s''' < work (map view_statement g) m + length s
entered_smaller g w s s' s'' s''' m m' ids turns i i' e t n b r a there at at' q h d p u =
    let ss = map view_statement g in
    let j = position_of_target t in
    let one = work-set ss m j r.marked (inside_there g j n there) (ap (λ z. get_or m z false) (sym at') ∙ sym q ∙ h) in
    let two : work ss m' ≡ work ss (set m j true) = ap (work ss) (d ∙ ap (λ z. set m z true) at) in
    let three : length s ≡ length s' + 1 = ap length a ∙ length_push s' e in
    let four : length s'' ≡ length s' + 1 = ap length p ∙ length_push s' (Finished i) in
    let five : length s''' ≡ length (uses_of (view_statement n)) + length s'' =
    sym (length-reverse s''') ∙ ap length u ∙ length-append (traces_of (uses_of (view_statement n))) (reverse s'')
    ∙ ap (λ x. x + length (reverse s'')) (length-map (uses_of (view_statement n)) (λ u. Trace (target_of u)))
    ∙ ap (λ x. length (uses_of (view_statement n)) + x) (length-reverse s'') in
    let six : length (used_at ss j) ≡ length (uses_of (view_statement n)) = length-map (uses_at ss j) position_of ∙ ap length (uses_there g j n there) in
    omega arith

-- a pop that returned nothing
pub popped_none : (ss : List PlainStatement) (w : List Target) (s s' : List Entry) (m : List Bool) (ids : List ℕ) (turns n : ℕ) →
    Running ss w (reverse s) m ids turns → s ≡ s' ++ [] → s' ≡ take (n - 1) s → n ≡ 0 → (s' ≡ []) × Running ss w (reverse s') m ids turns
popped_none ss w s s' m ids turns n r a b c =
    let z : n - 1 ≡ 0 = omega arith in
    let same : s ≡ s' = a ∙ append-nil s' in
    let R : List Entry → Type 0 = λ z. Running ss w (reverse z) m ids turns in
    (b ∙ ap (λ k. take k s) z, subst R same r)

running_over : (ss : List PlainStatement) (w : List Target) (s : List Entry) (m : List Bool) (ids : List ℕ) (turns : ℕ) →
    Running ss w (reverse s) m ids turns → s ≡ [] → Running ss w [] m ids turns
running_over ss w s m ids turns r e =
    let R : List Entry → Type 0 = λ z. Running ss w (reverse z) m ids turns in
    subst R e r

-- the positions of an item's walks

positions-uses : (us : List Use) → positions (map target_of us) ≡ map position_of us
positions-uses [] = refl
positions-uses (u ∷ us) = ap (λ z. z ∷ positions (map target_of us)) (use_position u) ∙ ap (λ z. position_of u ∷ z) (positions-uses us)

positions-conditions : (is : List ℕ) → positions (map (λ i. Condition i) is) ≡ is
positions-conditions [] = refl
positions-conditions (i ∷ is) = ap (λ z. i ∷ z) (positions-conditions is)

positions-first : (a : Item) → positions (first_targets a) ≡ first_walks a
positions-first a =
    map-append position_of_target (map target_of (first_roots a.ending)) (map (λ i. Condition i) (conditions a))
    ∙ ap (λ z. z ++ positions (map (λ i. Condition i) (conditions a))) (positions-uses (first_roots a.ending))
    ∙ ap (λ z. map position_of (first_roots a.ending) ++ z) (positions-conditions (conditions a))

positions-all : (a : Item) → positions (targets_of a) ≡ walks_of a
positions-all a =
    map-append position_of_target (first_targets a) (map target_of (last_roots a.ending))
    ∙ ap (λ z. z ++ positions (map target_of (last_roots a.ending))) (positions-first a)
    ∙ ap (λ z. first_walks a ++ z) (positions-uses (last_roots a.ending))

-- without last roots, all the walks are first ones
all_first : (a : Item) → last_roots a.ending ≡ [] → length (targets_of a) ≡ length (first_targets a)
all_first a none = ap (λ z. length (first_targets a ++ map target_of z)) none ∙ ap length (append-nil (first_targets a))

-- the walks before the infer line, and how many of them are over, need no more than all

Has-take : (n : ℕ) (xs : List Target) (t : Target) → Has (take n xs) t → Has xs t
Has-take n xs t h = subst (λ (z : List Target). Has z t) (take-append-drop n xs) (Has-left (take n xs) (drop n xs) t h)

Has-positions : (n : ℕ) (xs : List Target) (i : ℕ) → Has (positions (take n xs)) i → Has (positions xs) i
Has-positions n xs i h =
    let r = Has-mapped position_of_target (take n xs) i h in
    subst (λ (z : ℕ). Has (positions xs) z) r.2 (Has-map position_of_target xs r.0 (Has-take n xs r.0 r.1))

needed_first : (ss : List PlainStatement) (n : ℕ) (walks : List Target) (i : ℕ) → Needed ss (positions (take n walks)) i → Needed ss (positions walks) i
needed_first ss n walks i h = needed_more (Has-positions n walks) h

below_first : (ss : List PlainStatement) (n : ℕ) (walks : List Target) → Below ss (positions walks) → Below ss (positions (take n walks))
below_first ss n walks ub = λ v u d h. ub v u (needed_first ss n walks v d) h

-- what the lead counts while the walks before k are over
abbrev pub Leads : List PlainStatement → List Target → ℕ → ℕ → ℕ → Type 0
Leads ss walks k before lead = Below ss (positions walks) → lead ≡ length (order_of_walks ss (positions (take (min k before) walks)))

pub lead_start : (ss : List PlainStatement) (walks : List Target) (before : ℕ) → Leads ss walks 0 before 0
lead_start ss walks before ub = ap (λ z. length (order_of_walks ss (positions (take z walks)))) (let q : 0 ≡ min 0 before = omega arith in q)

pub lead_next : (ss : List PlainStatement) (walks : List Target) (k before : ℕ) (s : List Entry) (m : List Bool) (ids : List ℕ) (turns lead lead' : ℕ) →
    Running ss (take (k + 1) walks) (reverse s) m ids turns → s ≡ [] → Leads ss walks k before lead →
    (k < before → lead' ≡ length ids) → (before ≤ k → lead' ≡ lead) → Leads ss walks (k + 1) before lead'
lead_next ss walks k before s m ids turns lead lead' r e f a b ub = elim (cases_lt k before) [
  | inl l ↦ a l ∙ ap length (over_printed (below_first ss (k + 1) walks ub) (running_over ss (take (k + 1) walks) s m ids turns r e).run)
      ∙ ap (λ z. length (order_of_walks ss (positions (take z walks)))) (let q : k + 1 ≡ min (k + 1) before = omega arith in q)
  | inr l ↦ b l ∙ f ub ∙ ap (λ z. length (order_of_walks ss (positions (take z walks)))) (let q : min k before ≡ min (k + 1) before = omega arith in q)
]

walks_taken : (walks : List Target) (k before : ℕ) → length walks ≤ k → take (min k before) walks ≡ take before walks
walks_taken walks k before h = elim (cases_lt k before) [
  | inl l ↦ ap (λ z. take z walks) (let q : min k before ≡ k = omega arith in q) ∙ take_all k walks h ∙ sym (take_all before walks (omega arith))
  | inr l ↦ ap (λ z. take z walks) (let q : min k before ≡ before = omega arith in q)
]

lead_end : (ss : List PlainStatement) (walks : List Target) (k before lead : ℕ) → length walks ≤ k → Leads ss walks k before lead →
    Below ss (positions walks) → lead ≡ length (order_of_walks ss (positions (take before walks)))
lead_end ss walks k before lead h f ub = f ub ∙ ap (λ z. length (order_of_walks ss (positions z))) (walks_taken walks k before h)

-- what a finished run says of the walks' positions
record Ended (ss : List PlainStatement) (w ids : List ℕ) (turns : ℕ) : Type 0 where
  inside : (i : ℕ) → Has ids i → i < length ss
  exact : (i : ℕ) → Has ids i ↔ Needed ss w i
  once : Distinct ids
  turned : turns ≡ min (2 ^ 128 - 1) (length w + cost ss ids)
  printed : Below ss w → ids ≡ order_of_walks ss w
  after : Below ss w → EachAfterItsUses ss ids
  uses_met : (v : ℕ) (u : Use) → Needed ss w v → Has (uses_at ss v) u → IsMetTarget ss (target_of u)

met_then : (ss : List PlainStatement) (t : Target) → IsMetTarget ss t ⊎ Has [] (Trace t) → IsMetTarget ss t
met_then ss t (inl a) = a
met_then ss t (inr n) = absurd (Has-none (Trace t) n)

ended_at : (ss : List PlainStatement) (walks : List Target) (m : List Bool) (ids : List ℕ) (turns : ℕ) → Running ss walks [] m ids turns → Ended ss (positions walks) ids turns
ended_at ss walks m ids turns r =
    let k = over r.run in
    record {
      inside = k.inside;
      exact = λ i. (k.held_needed i, needed_held k);
      once = k.distinct;
      turned = let e = r.counted in let f = k.counted in omega arith;
      printed = λ h. over_printed h r.run;
      after = λ h. over_after h r.run;
      uses_met = λ v u n h. met_then ss (target_of u) (r.judged.uses_met v u (k.held_marked v (needed_held k n)) h);
    }

-- while the walks before k are over, the lead's statements are the ones that the walks before both k and the infer line need
abbrev pub LeadNeeds : List PlainStatement → List Target → ℕ → ℕ → ℕ → List ℕ → Type 0
LeadNeeds ss walks k before lead ids = (i : ℕ) → Has (take lead ids) i ↔ Needed ss (positions (take (min k before) walks)) i

none_needed : (ss : List PlainStatement) (i : ℕ) → Needed ss [] i → ⊥
none_needed ss i (walked h) = absurd (Has-none i h)
none_needed ss i (used {i = j} n h) = none_needed ss j n

pub lead_needs_start : (ss : List PlainStatement) (walks : List Target) (before : ℕ) (ids : List ℕ) → LeadNeeds ss walks 0 before 0 ids
lead_needs_start ss walks before ids =
    let P : ℕ → Type 0 = λ z. (i : ℕ) → Has (take 0 ids) i ↔ Needed ss (positions (take z walks)) i in
    subst P (let q : 0 ≡ min 0 before = omega arith in q) (λ i. (λ h. absurd (Has-none i h), λ n. absurd (none_needed ss i n)))

pub lead_needs_pushed : (ss : List PlainStatement) (walks : List Target) (k before lead x : ℕ) (ids ids' : List ℕ) →
    LeadNeeds ss walks k before lead ids → lead ≤ length ids → ids' ≡ ids ++ x ∷ [] → LeadNeeds ss walks k before lead ids'
lead_needs_pushed ss walks k before lead x ids ids' f l e =
    let P : List ℕ → Type 0 = λ z. (i : ℕ) → Has z i ↔ Needed ss (positions (take (min k before) walks)) i in
    subst P (sym (ap (take lead) e ∙ take-append-le lead ids (x ∷ []) l)) f

pub lead_needs_next : (ss : List PlainStatement) (walks : List Target) (k before : ℕ) (s : List Entry) (m : List Bool) (ids : List ℕ) (turns lead lead' : ℕ) →
    Running ss (take (k + 1) walks) (reverse s) m ids turns → s ≡ [] → LeadNeeds ss walks k before lead ids →
    (k < before → lead' ≡ length ids) → (before ≤ k → lead' ≡ lead) → LeadNeeds ss walks (k + 1) before lead' ids
lead_needs_next ss walks k before s m ids turns lead lead' r e f a b =
    let P : List ℕ → ℕ → Type 0 = λ y z. (i : ℕ) → Has y i ↔ Needed ss (positions (take z walks)) i in
    elim (cases_lt k before) [
      | inl l ↦ (let all = ended_at ss (take (k + 1) walks) m ids turns (running_over ss (take (k + 1) walks) s m ids turns r e) in
          let whole = take_all lead' ids (let d = a l in omega arith) in
          subst (λ (z : ℕ). P (take lead' ids) z) (let q : k + 1 ≡ min (k + 1) before = omega arith in q)
          (subst (λ (z : List ℕ). P z (k + 1)) (sym whole) all.exact))
      | inr l ↦ subst (λ (z : ℕ). P (take lead' ids) z) (let q : min k before ≡ min (k + 1) before = omega arith in q)
          (subst (λ (z : ℕ). P (take z ids) (min k before)) (sym (b l)) f)
    ]

lead_needs_end : (ss : List PlainStatement) (walks : List Target) (k before lead : ℕ) (ids : List ℕ) → length walks ≤ k → LeadNeeds ss walks k before lead ids →
    (i : ℕ) → Has (take lead ids) i ↔ Needed ss (positions (take before walks)) i
lead_needs_end ss walks k before lead ids h f =
    let P : List Target → Type 0 = λ z. (i : ℕ) → Has (take lead ids) i ↔ Needed ss (positions z) i in
    subst P (walks_taken walks k before h) f

-- an error has a bad id

-- how an item names a target: a path condition is in its list of statements
abbrev NamesTarget : Item → Target → Type 0
NamesTarget a (Value i) = NamedIn a (value_use i)
NamesTarget a (Block i) = NamedIn a (block_use i)
NamesTarget a (Condition i) = i < length a.statements

names_use : (a : Item) (u : Use) → NamedIn a u → NamesTarget a (target_of u)
names_use a (value_use i) h = h
names_use a (block_use i) h = h

names_walk : (a : Item) (t : Target) → Has (targets_of a) t → NamesTarget a t
names_walk a t h =
    let from_roots : (us : List Use) → ((u : Use) → Has us u → Has (roots_of a.ending) u) → Has (map target_of us) t → NamesTarget a t = λ us f b.
    let r = Has-mapped target_of us t b in
    subst (NamesTarget a) r.2 (names_use a r.0 (inl (f r.0 r.1))) in
    elim (Has-cases (first_targets a) (map target_of (last_roots a.ending)) t h) [
      | inl b ↦ elim (Has-cases (map target_of (first_roots a.ending)) (map (λ i. Condition i) (conditions a)) t b) [
        | inl d ↦ from_roots (first_roots a.ending) (λ u q. Has-left (first_roots a.ending) (last_roots a.ending) u q) d
        | inr d ↦ (let r = Has-mapped (λ i. Condition i) (conditions a) t d in
            let inside = conditions-inside a.statements 0 r.0 r.1 in
            subst (NamesTarget a) r.2 (let q : r.0 < length a.statements = omega arith in q))
      ]
      | inr b ↦ from_roots (last_roots a.ending) (λ u q. Has-right (first_roots a.ending) (last_roots a.ending) u q) b
    ]

fault_names : (a : Item) (t : Target) (error : TextError) → NamesTarget a t → IsFaultAt a.statements t error → IsFaultOf a error
fault_names a (Value i) (OutOfRange j) n f = (inl (subst (λ (z : ℕ). NamedIn a (value_use z)) f.0 n), f.1)
fault_names a (Block i) (OutOfRange j) n f = (inr (subst (λ (z : ℕ). NamedIn a (block_use z)) f.0 n), f.1)
fault_names a (Condition i) (OutOfRange j) n f = let e = f.0 in let l = f.1 in absurd (omega arith)
fault_names a t (NotAnAssignment j) n f = (subst (NamesTarget a) f.0 n, f.1, f.2)
fault_names a t (NotABlock j) n f = (subst (NamesTarget a) f.0 n, f.1, f.2)
fault_names a t OutOfMemory n f = tt

walks_are : (a : Item) (g : List PlainStatement) (walks : List Target) (before : ℕ) → IsWalkedBy a g walks before → positions walks ≡ walks_of a
walks_are a g walks before w = ap positions w.same_walks ∙ positions-all a

needed_in : (a : Item) (g : List PlainStatement) (walks : List Target) (before i : ℕ) → IsWalkedBy a g walks before → Needed g (positions walks) i → NeededIn a i
needed_in a g walks before i w n =
    let G : List PlainStatement → Type 0 = λ z. Needed z (positions walks) i in
    let W : List ℕ → Type 0 = λ z. Needed a.statements z i in
    subst W (walks_are a g walks before w) (subst G (sym w.same_statements) n)

-- a rejected target is one that the item names
pub refused_names : (a : Item) (g : List PlainStatement) (walks : List Target) (before k : ℕ) (s s' : List Entry) (m : List Bool) (ids : List ℕ) (turns : ℕ) (e : Entry) (t : Target) (error : TextError) →
    IsWalkedBy a g walks before → Running g (take k walks) (reverse s) m ids turns → s ≡ s' ++ e ∷ [] → e ≡ Trace t → IsFaultAt g t error → IsFaultOf a error
refused_names a g walks before k s s' m ids turns e t error w r p f fault =
    let q = popped g (take k walks) s s' m ids turns e (Trace t) r p f in
    let same = sym w.same_statements in
    fault_names a t error (elim (q.judged.named t (Has-here (Trace t) (reverse s'))) [
      | inl h ↦ names_walk a t (subst (λ (z : List Target). Has z t) w.same_walks (Has-take k walks t h))
      | inr h ↦ (let needed = needed_in a g walks before h.0 w (needed_first g k walks h.0 ((kept q.run).held_needed h.0 ((kept q.run).marked_held h.0 h.2))) in
          subst (NamesTarget a) h.4 (names_use a h.1 (inr (h.0, needed, subst (λ (z : List PlainStatement). Has (uses_at z h.0) h.1) same h.3))))
    ]) (subst (λ (z : List PlainStatement). IsFaultAt z t error) same fault)

is_met : (ss : List PlainStatement) (u : Use) → IsMetTarget ss (target_of u) → IsMet ss u
is_met ss (value_use i) h = h
is_met ss (block_use i) h = h

no_bad : (a : Item) → ((t : Target) → Has (targets_of a) t → IsMetTarget a.statements t) →
    ((v : ℕ) (u : Use) → NeededIn a v → Has (uses_at a.statements v) u → IsMetTarget a.statements (target_of u)) → ¬ HasBadId a
no_bad a roots uses bad =
    let u = bad.0 in
    let F = map target_of (first_roots a.ending) in
    let C = map (λ i. Condition i) (conditions a) in
    let L = map target_of (last_roots a.ending) in
    bad.2 (is_met a.statements u (elim bad.1 [
      | inl h ↦ roots (target_of u) (elim (Has-cases (first_roots a.ending) (last_roots a.ending) u h) [
        | inl b ↦ Has-left (F ++ C) L (target_of u) (Has-left F C (target_of u) (Has-map target_of (first_roots a.ending) u b))
        | inr b ↦ Has-right (F ++ C) L (target_of u) (Has-map target_of (last_roots a.ending) u b)
      ])
      | inr h ↦ uses h.0 u h.1 h.2
    ]))

-- a finished run
pub ordered_item : (a : Item) (g : List PlainStatement) (walks : List Target) (before k : ℕ) (s : List Entry) (m : List Bool) (ids : List ℕ) (turns lead : ℕ) →
    IsWalkedBy a g walks before → Running g (take k walks) (reverse s) m ids turns → s ≡ [] → length walks ≤ k → lead ≤ length ids → Leads g walks k before lead →
    (length walks ≤ before → lead ≡ length ids) → LeadNeeds g walks k before lead ids → IsPrintOrder a ids lead turns
ordered_item a g walks before k s m ids turns lead w r e h l f whole needs =
    let R : List Target → Type 0 = λ z. Running g z [] m ids turns in
    let all = subst R (take_all k walks h) (running_over g (take k walks) s m ids turns r e) in
    let same = sym w.same_statements in
    let are = walks_are a g walks before w in
    let G : List PlainStatement → Type 0 = λ z. Ended z (positions walks) ids turns in
    let W : List ℕ → Type 0 = λ z. Ended a.statements z ids turns in
    let ended = subst W are (subst G same (ended_at g walks m ids turns all)) in
    let first : positions (take before walks) ≡ first_walks a =
    ap (λ z. positions (take z walks)) w.same_before ∙ ap (λ z. positions (take (length (first_targets a)) z)) w.same_walks
    ∙ ap positions (take-append_seam (first_targets a) (map target_of (last_roots a.ending))) ∙ positions-first a in
    let Led : List PlainStatement → List ℕ → List ℕ → Type 0 = λ x y z. Below x y → lead ≡ length (order_of_walks x z) in
    let led = subst (λ (z : List ℕ). Led a.statements (walks_of a) z) first (subst (λ (z : List ℕ). Led a.statements z (positions (take before walks))) are
    (subst (λ (z : List PlainStatement). Led z (positions walks) (positions (take before walks))) same (lead_end g walks k before lead h f))) in
    record {
      no_bad_id = no_bad a (λ t b. subst (λ (z : List PlainStatement). IsMetTarget z t) same
          (met_then g t (all.judged.walks_met t (subst (λ (z : List Target). Has z t) (sym w.same_walks) b)))) ended.uses_met;
      inside = ended.inside;
      exact = ended.exact;
      once = ended.once;
      lead_within = l;
      lead_exact = subst (λ (z : List PlainStatement). (i : ℕ) → Has (take lead ids) i ↔ Needed z (first_walks a) i) same
          (subst (λ (z : List ℕ). (i : ℕ) → Has (take lead ids) i ↔ Needed g z i) first (lead_needs_end g walks k before lead ids h needs));
      lead_is_all = λ none. (let same_length = all_first a none in
          let total = ap length w.same_walks in
          let count = w.same_before in
          whole (omega arith));
      turned = ended.turned;
      printed = ended.printed;
      led = led;
      after = ended.after;
    }
