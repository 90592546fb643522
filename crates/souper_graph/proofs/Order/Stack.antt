-- The runs of the code's work stack: runs over positions, in which each target that was popped resolves.
use Rattle.std.proofs.Common.{◌≡◌, ℕ, ◌+◌, ◌<◌, ◌++◌, ◌-◌, ◌^◌, ◌⊎◌, inl, inr, min, length, map, List, [], ◌∷◌, Bool, true, false, refl, sym, ap, ◌∙◌, subst, get_or, arith, get_or-set_same, get_or-set_other}
use Rattle.std.proofs.Math.ListN.{replicate, set, length-set, length-replicate}
use Rattle.std.proofs.lemmas.List.{map-append, get_or-replicate, get_or_past}
use Rattle.std.proofs.lemmas.Bool.{cases_lt, cases_eq}
use Rattle.souper_graph.specs.declared.stringify.order.Target.{Target}
use Rattle.souper_graph.specs.declared.stringify.order.Entry.{Entry}
use Rattle.souper_graph.specs.declared.stringify.order.Entry.TheVariants.{Trace, Finished}
use Rattle.souper_graph.specs.Values.{PlainStatement}
use Rattle.souper_graph.specs.Uses.{Has, Use, value_use, block_use, position_of, uses_at}
use Rattle.souper_graph.specs.Walks.{position_of_target, target_of, IsMetTarget}
use Rattle.souper_graph.proofs.Lists.{Has-left, Has-right, Has-cases, Has-none, Has-here, Has-later, Has-head, Has-map, Has-mapped}
use Rattle.souper_graph.proofs.Order.Runs.{Step, trace, finish, Reached, start, walk, dropped, entered, finished}

-- an entry, and a list of targets, as positions
abbrev step_of : Entry → Step
step_of (Trace t) = trace (position_of_target t)
step_of (Finished i) = finish i

abbrev pub positions : List Target → List ℕ
positions ts = map position_of_target ts

-- the trace entries of uses
abbrev pub traces_of : List Use → List Entry
traces_of us = map (λ u. Trace (target_of u)) us

-- the target is a walk, or a use of a marked statement
abbrev pub IsNamed : List PlainStatement → List Target → List Bool → Target → Type 0
IsNamed ss walks m t = Has walks t ⊎ ((v : ℕ) × (u : Use) × (get_or m v false ≡ true) × Has (uses_at ss v) u × (target_of u ≡ t))

-- the targets on the stack, its top first, are named, and every named target that is not on it resolves
pub record Judged (ss : List PlainStatement) (walks : List Target) (s : List Entry) (m : List Bool) : Type 0 where
  pub named : (t : Target) → Has s (Trace t) → IsNamed ss walks m t
  pub walks_met : (t : Target) → Has walks t → IsMetTarget ss t ⊎ Has s (Trace t)
  pub uses_met : (v : ℕ) (u : Use) → get_or m v false ≡ true → Has (uses_at ss v) u → IsMetTarget ss (target_of u) ⊎ Has s (Trace (target_of u))

-- the stack with its top first, and turns that stop at the greatest value of their type
pub record Running (ss : List PlainStatement) (walks : List Target) (s : List Entry) (m : List Bool) (ids : List ℕ) (turns : ℕ) : Type 0 where
  pub count : ℕ
  pub counted : turns ≡ min (2 ^ 128 - 1) count
  pub marked : length m ≡ length ss
  pub run : Reached ss (positions walks) (map step_of s) m ids count
  pub judged : Judged ss walks s m

-- entries of two kinds differ, and a trace entry has one target

abbrev traced_in : Target → Entry → Target
traced_in d (Trace t) = t
traced_in d (Finished i) = d

abbrev IsTrace : Entry → Type 0
IsTrace (Trace t) = Unit {0}
IsTrace (Finished i) = ⊥

same_trace : (a b : Target) → Trace a ≡ Trace b → a ≡ b
same_trace a b e = ap (traced_in a) e

not_trace : (i : ℕ) (t : Target) → Finished i ≡ Trace t → ⊥
not_trace i t e = subst IsTrace (sym e) tt

-- nothing is marked yet
none_marked : (n v : ℕ) → get_or (replicate n false) v false ≡ true → ⊥
none_marked n v h = elim (cases_lt v n) [
  | inl l ↦ (let e = get_or-replicate n v false false l in cc)
  | inr l ↦ (let z : length (replicate n false) ≡ n = length-replicate n false in
      let e = get_or_past (replicate n false) v false (omega arith) in cc)
]

-- a mark stays
still_marked : (m : List Bool) (i v : ℕ) → i < length m → get_or m v false ≡ true → get_or (set m i true) v false ≡ true
still_marked m i v h e = elim (cases_eq v i) [
  | inl q ↦ ap (λ x. get_or (set m i true) x false) q ∙ get_or-set_same m i true false h
  | inr d ↦ get_or-set_other m i v true false d ∙ e
]

judged_start : (ss : List PlainStatement) (n : ℕ) → Judged ss [] [] (replicate n false)
judged_start ss n = record {
  named = λ t h. absurd (Has-none (Trace t) h);
  walks_met = λ t h. absurd (Has-none t h);
  uses_met = λ v u h k. absurd (none_marked n v h);
}

judged_walk : (ss : List PlainStatement) (w : List Target) (m : List Bool) (t : Target) → Judged ss w [] m → Judged ss (w ++ t ∷ []) (Trace t ∷ []) m
judged_walk ss w m t j = record {
  named = λ x h. elim (Has-head (Trace t) (Trace x) [] h) [
    | inl e ↦ inl (subst (λ (z : Target). Has (w ++ t ∷ []) z) (same_trace t x e) (Has-right w (t ∷ []) t (Has-here t [])))
    | inr n ↦ absurd (Has-none (Trace x) n)
  ];
  walks_met = λ x h. elim (Has-cases w (t ∷ []) x h) [
    | inl a ↦ elim (j.walks_met x a) [ inl b ↦ inl b | inr n ↦ absurd (Has-none (Trace x) n) ]
    | inr a ↦ elim (Has-head t x [] a) [
      | inl e ↦ inr (subst (λ (z : Target). Has (Trace t ∷ []) (Trace z)) e (Has-here (Trace t) []))
      | inr n ↦ absurd (Has-none x n)
    ]
  ];
  uses_met = λ v u h k. elim (j.uses_met v u h k) [ inl b ↦ inl b | inr n ↦ absurd (Has-none (Trace (target_of u)) n) ];
}

-- the top resolved and is popped
met_or_below : (ss : List PlainStatement) (s : List Entry) (t x : Target) → IsMetTarget ss t →
    IsMetTarget ss x ⊎ Has (Trace t ∷ s) (Trace x) → IsMetTarget ss x ⊎ Has s (Trace x)
met_or_below ss s t x met (inl a) = inl a
met_or_below ss s t x met (inr a) = elim (Has-head (Trace t) (Trace x) s a) [
  | inl e ↦ inl (subst (IsMetTarget ss) (same_trace t x e) met)
  | inr b ↦ inr b
]

judged_dropped : (ss : List PlainStatement) (w : List Target) (s : List Entry) (m : List Bool) (t : Target) →
    Judged ss w (Trace t ∷ s) m → IsMetTarget ss t → Judged ss w s m
judged_dropped ss w s m t j met = record {
  named = λ x h. j.named x (Has-later (Trace t) (Trace x) s h);
  walks_met = λ x h. met_or_below ss s t x met (j.walks_met x h);
  uses_met = λ v u h k. met_or_below ss s t (target_of u) met (j.uses_met v u h k);
}

judged_finished : (ss : List PlainStatement) (w : List Target) (s : List Entry) (m : List Bool) (i : ℕ) →
    Judged ss w (Finished i ∷ s) m → Judged ss w s m
judged_finished ss w s m i j =
    let below : (x : Target) → Has (Finished i ∷ s) (Trace x) → Has s (Trace x) = λ x h. elim (Has-head (Finished i) (Trace x) s h) [
      | inl e ↦ absurd (not_trace i x e)
      | inr b ↦ b
    ] in
    record {
      named = λ x h. j.named x (Has-later (Finished i) (Trace x) s h);
      walks_met = λ x h. elim (j.walks_met x h) [ inl a ↦ inl a | inr b ↦ inr (below x b) ];
      uses_met = λ v u h k. elim (j.uses_met v u h k) [ inl a ↦ inl a | inr b ↦ inr (below (target_of u) b) ];
    }

judged_entered : (ss : List PlainStatement) (w : List Target) (s : List Entry) (m : List Bool) (t : Target) (i : ℕ) →
    Judged ss w (Trace t ∷ s) m → IsMetTarget ss t → i < length m →
    Judged ss w (traces_of (uses_at ss i) ++ Finished i ∷ s) (set m i true)
judged_entered ss w s m t i j met h =
    let T = traces_of (uses_at ss i) in
    let later : (x : Target) → Has s (Trace x) → Has (T ++ Finished i ∷ s) (Trace x) = λ x a.
    Has-right T (Finished i ∷ s) (Trace x) (Has-later (Finished i) (Trace x) s a) in
    let more : (x : Target) → IsMetTarget ss x ⊎ Has (Trace t ∷ s) (Trace x) → IsMetTarget ss x ⊎ Has (T ++ Finished i ∷ s) (Trace x) = λ x a.
    elim (met_or_below ss s t x met a) [ inl b ↦ inl b | inr b ↦ inr (later x b) ] in
    let named_still : (x : Target) → IsNamed ss w m x → IsNamed ss w (set m i true) x = λ x a. elim a [
      | inl b ↦ inl b
      | inr b ↦ inr (b.0, b.1, still_marked m i b.0 h b.2, b.3, b.4)
    ] in
    record {
      named = λ x a. elim (Has-cases T (Finished i ∷ s) (Trace x) a) [
        | inl b ↦ (let r = Has-mapped (λ u. Trace (target_of u)) (uses_at ss i) (Trace x) b in
            inr (i, r.0, get_or-set_same m i true false h, r.1, same_trace (target_of r.0) x r.2))
        | inr b ↦ elim (Has-head (Finished i) (Trace x) s b) [
          | inl e ↦ absurd (not_trace i x e)
          | inr q ↦ named_still x (j.named x (Has-later (Trace t) (Trace x) s q))
        ]
      ];
      walks_met = λ x a. more x (j.walks_met x a);
      uses_met = λ v u a b. elim (cases_eq v i) [
        | inl e ↦ inr (Has-left T (Finished i ∷ s) (Trace (target_of u))
            (Has-map (λ u. Trace (target_of u)) (uses_at ss i) u (subst (λ (z : ℕ). Has (uses_at ss z) u) e b)))
        | inr d ↦ more (target_of u) (j.uses_met v u (sym (get_or-set_other m i v true false d) ∙ a) b)
      ];
    }

-- the steps of the entries that are pushed

pub use_position : (u : Use) → position_of_target (target_of u) ≡ position_of u
use_position (value_use i) = refl
use_position (block_use i) = refl

steps-uses : (us : List Use) (i : ℕ) (s : List Entry) →
    map (λ u. trace u) (map position_of us) ++ finish i ∷ map step_of s ≡ map step_of (traces_of us ++ Finished i ∷ s)
steps-uses [] i s = refl
steps-uses (u ∷ us) i s =
    ap (λ z. trace z ∷ (map (λ x. trace x) (map position_of us) ++ finish i ∷ map step_of s)) (sym (use_position u))
    ∙ ap (λ z. trace (position_of_target (target_of u)) ∷ z) (steps-uses us i s)

reached_at : {g : List PlainStatement} {w w' : List ℕ} {s s' : List Step} {m : List Bool} {ids : List ℕ} {t : ℕ} →
    w ≡ w' → s ≡ s' → Reached g w s m ids t → Reached g w' s' m ids t
reached_at {g = g} {w = w} {w' = w'} {s = s} {s' = s'} {m = m} {ids = ids} {t = t} x a r =
    let W : List ℕ → Type 0 = λ z. Reached g z s m ids t in
    let A : List Step → Type 0 = λ z. Reached g w' z m ids t in
    subst A a (subst W x r)

pub running_start : (ss : List PlainStatement) → Running ss [] [] (replicate (length ss) false) [] 0
running_start ss = record {
  count = 0;
  counted = refl;
  marked = length-replicate (length ss) false;
  run = start;
  judged = judged_start ss (length ss);
}

pub running_walk : (ss : List PlainStatement) (w : List Target) (m : List Bool) (ids : List ℕ) (turns : ℕ) (t : Target) →
    Running ss w [] m ids turns → Running ss (w ++ t ∷ []) (Trace t ∷ []) m ids turns
running_walk ss w m ids turns t r = record {
  count = r.count;
  counted = r.counted;
  marked = r.marked;
  run = reached_at (sym (map-append position_of_target w (t ∷ []))) refl (walk {i = position_of_target t} r.run);
  judged = judged_walk ss w m t r.judged;
}

pub running_dropped : (ss : List PlainStatement) (w : List Target) (s : List Entry) (m : List Bool) (ids : List ℕ) (turns turns' : ℕ) (t : Target) →
    Running ss w (Trace t ∷ s) m ids turns → IsMetTarget ss t → get_or m (position_of_target t) false ≡ true → turns' ≡ min (turns + 1) (2 ^ 128 - 1) →
    Running ss w s m ids turns'
running_dropped ss w s m ids turns turns' t r met f n = record {
  count = r.count + 1;
  counted = let h = r.counted in omega arith;
  marked = r.marked;
  run = dropped r.run f;
  judged = judged_dropped ss w s m t r.judged met;
}

pub running_finished : (ss : List PlainStatement) (w : List Target) (s : List Entry) (m : List Bool) (ids : List ℕ) (turns turns' i : ℕ) →
    Running ss w (Finished i ∷ s) m ids turns → turns' ≡ min (turns + 1) (2 ^ 128 - 1) → Running ss w s m (ids ++ i ∷ []) turns'
running_finished ss w s m ids turns turns' i r n = record {
  count = r.count + 1;
  counted = let h = r.counted in omega arith;
  marked = r.marked;
  run = finished r.run;
  judged = judged_finished ss w s m i r.judged;
}

pub running_entered : (ss : List PlainStatement) (w : List Target) (s : List Entry) (m : List Bool) (ids : List ℕ) (turns turns' : ℕ) (t : Target) →
    Running ss w (Trace t ∷ s) m ids turns → IsMetTarget ss t → position_of_target t < length ss → get_or m (position_of_target t) false ≡ false →
    turns' ≡ min (turns + 1) (2 ^ 128 - 1) →
    Running ss w (traces_of (uses_at ss (position_of_target t)) ++ Finished (position_of_target t) ∷ s) (set m (position_of_target t) true) ids turns'
running_entered ss w s m ids turns turns' t r met h f n =
    let i = position_of_target t in
    let z : length m ≡ length ss = r.marked in
    record {
      count = r.count + 1;
      counted = let q = r.counted in omega arith;
      marked = length-set m i true ∙ z;
      run = reached_at refl (steps-uses (uses_at ss i) i s) (entered r.run h f);
      judged = judged_entered ss w s m t i r.judged met (omega arith);
    }
