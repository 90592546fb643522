-- The invariant of every run: its statements are needed, occur once and are closed up to the statements still to be visited.
use Rattle.std.proofs.Common.{◌≡◌, ℕ, suc, ◌+◌, ◌<◌, ◌++◌, ◌⊎◌, inl, inr, length, map, List, [], ◌∷◌, Bool, true, false, refl, sym, ap, ◌∙◌, subst, arith, length-append, append_assoc, append-nil, get_or, get_or-set_same, get_or-set_other}
use Rattle.std.proofs.Math.ListN.{replicate, set, length-set, length-replicate}
use Rattle.std.proofs.lemmas.List.{length-map, get_or-replicate, get_or_past}
use Rattle.std.proofs.lemmas.Bool.{cases_lt, cases_eq}
use Rattle.souper_graph.specs.Values.{PlainStatement}
use Rattle.souper_graph.specs.Uses.{Has, used_at, Needed, walked, used}
use Rattle.souper_graph.specs.Order.{Distinct}
use Rattle.souper_graph.specs.PrintOrder.{cost}
use Rattle.souper_graph.proofs.Order.Runs.{Step, trace, finish, Reached, start, walk, dropped, entered, finished}
use Rattle.souper_graph.proofs.Lists.{Has-left, Has-right, Has-cases, Has-none, Has-here, Has-later, Has-head, Has-insert, Has-inserted, Distinct-insert, cost-insert}

-- the statements of the trace entries, and of the others
unfoldable pub traces : List Step → List ℕ
traces [] = []
traces (trace i ∷ s) = i ∷ traces s
traces (finish i ∷ s) = traces s

unfoldable pub waiting : List Step → List ℕ
waiting [] = []
waiting (trace i ∷ s) = waiting s
waiting (finish i ∷ s) = i ∷ waiting s

traces-uses : (us : List ℕ) (s : List Step) → traces (map (λ u. trace u) us ++ s) ≡ us ++ traces s
unfolding traces
traces-uses [] s = refl
traces-uses (u ∷ us) s = ap (λ x. u ∷ x) (traces-uses us s)

pub waiting-uses : (us : List ℕ) (s : List Step) → waiting (map (λ u. trace u) us ++ s) ≡ waiting s
unfolding waiting
waiting-uses [] s = refl
waiting-uses (u ∷ us) s = waiting-uses us s

-- of a run: its statements, the statements still to be visited, the marks, how many entries wait, and its turns
pub record Kept (g : List PlainStatement) (w held traced : List ℕ) (m : List Bool) (n t : ℕ) : Type 0 where
  pub sized : length m ≡ length g
  pub marked_held : (i : ℕ) → get_or m i false ≡ true → Has held i
  pub held_marked : (i : ℕ) → Has held i → get_or m i false ≡ true
  pub inside : (i : ℕ) → Has held i → i < length g
  pub distinct : Distinct held
  pub counted : t + n ≡ length w + cost g held
  pub traced_needed : (i : ℕ) → Has traced i → Needed g w i
  pub held_needed : (i : ℕ) → Has held i → Needed g w i
  pub closed : (v u : ℕ) → Has held v → Has (used_at g v) u → Has held u ⊎ Has traced u
  pub rooted : (u : ℕ) → Has w u → Has held u ⊎ Has traced u

kept_start : (g : List PlainStatement) → Kept g [] [] [] (replicate (length g) false) 0 0
kept_start g = record {
  sized = length-replicate (length g) false;
  marked_held = λ i h. elim (cases_lt i (length g)) [
    | inl l ↦ (let e = get_or-replicate (length g) i false false l in absurd (cc))
    | inr l ↦ (let z : length (replicate (length g) false) ≡ length g = length-replicate (length g) false in
        let e = get_or_past (replicate (length g) false) i false (omega arith) in absurd (cc))
  ];
  held_marked = λ i h. absurd (Has-none i h);
  inside = λ i h. absurd (Has-none i h);
  distinct = tt;
  counted = omega arith;
  traced_needed = λ i h. absurd (Has-none i h);
  held_needed = λ i h. absurd (Has-none i h);
  closed = λ v u h. absurd (Has-none v h);
  rooted = λ u h. absurd (Has-none u h);
}

-- more walks need more
pub needed_more : {g : List PlainStatement} {w w' : List ℕ} {i : ℕ} → ((j : ℕ) → Has w j → Has w' j) → Needed g w i → Needed g w' i
needed_more {i = i} f (walked h) = walked (f i h)
needed_more f (used n h) = used (needed_more f n) h

kept_walk : (g : List PlainStatement) (w held : List ℕ) (m : List Bool) (t i : ℕ) →
    Kept g w held [] m 0 t → Kept g (w ++ i ∷ []) held (i ∷ []) m 1 t
kept_walk g w held m t i k =
    let more : (j : ℕ) → Has w j → Has (w ++ i ∷ []) j = λ j h. Has-left w (i ∷ []) j h in
    let less : (u : ℕ) → Has held u ⊎ Has [] u → Has held u ⊎ Has (i ∷ []) u = λ u a. elim a [
      | inl b ↦ inl b
      | inr b ↦ absurd (Has-none u b)
    ] in
    record {
      sized = k.sized;
      marked_held = k.marked_held;
      held_marked = k.held_marked;
      inside = k.inside;
      distinct = k.distinct;
      counted = let h = k.counted in let l = length-append w (i ∷ []) in omega arith;
      traced_needed = λ u h. walked (Has-right w (i ∷ []) u h);
      held_needed = λ u h. needed_more more (k.held_needed u h);
      closed = λ v u a b. less u (k.closed v u a b);
      rooted = λ u a. elim (Has-cases w (i ∷ []) u a) [ inl b ↦ less u (k.rooted u b) | inr b ↦ inr b ];
    }

kept_dropped : (g : List PlainStatement) (w held traced : List ℕ) (m : List Bool) (n t i : ℕ) →
    Kept g w held (i ∷ traced) m (suc n) t → get_or m i false ≡ true → Kept g w held traced m n (t + 1)
kept_dropped g w held traced m n t i k f =
    let here : Has held i = k.marked_held i f in
    let less : (u : ℕ) → Has held u ⊎ Has (i ∷ traced) u → Has held u ⊎ Has traced u = λ u a. elim a [
      | inl b ↦ inl b
      | inr b ↦ elim (Has-head i u traced b) [ inl e ↦ inl (subst (λ (z : ℕ). Has held z) e here) | inr c ↦ inr c ]
    ] in
    record {
      sized = k.sized;
      marked_held = k.marked_held;
      held_marked = k.held_marked;
      inside = k.inside;
      distinct = k.distinct;
      counted = let h = k.counted in omega arith;
      traced_needed = λ u h. k.traced_needed u (Has-later i u traced h);
      held_needed = k.held_needed;
      closed = λ v u a b. less u (k.closed v u a b);
      rooted = λ u a. less u (k.rooted u a);
    }

kept_finished : (g : List PlainStatement) (w held traced : List ℕ) (m : List Bool) (n t : ℕ) →
    Kept g w held traced m (suc n) t → Kept g w held traced m n (t + 1)
kept_finished g w held traced m n t k = record {
  sized = k.sized;
  marked_held = k.marked_held;
  held_marked = k.held_marked;
  inside = k.inside;
  distinct = k.distinct;
  counted = let h = k.counted in omega arith;
  traced_needed = k.traced_needed;
  held_needed = k.held_needed;
  closed = k.closed;
  rooted = k.rooted;
}

kept_entered : (g : List PlainStatement) (w xs ys traced : List ℕ) (m : List Bool) (n t i : ℕ) →
    Kept g w (xs ++ ys) (i ∷ traced) m (suc n) t → i < length g → get_or m i false ≡ false →
    Kept g w (xs ++ i ∷ ys) (used_at g i ++ traced) (set m i true) (length (used_at g i) + suc n) (t + 1)
kept_entered g w xs ys traced m n t i k h f =
    let z : length m ≡ length g = k.sized in
    let inm : i < length m = omega arith in
    let apart : Has (xs ++ ys) i → ⊥ = λ a. let e = k.held_marked i a in cc in
    let at : Has (xs ++ i ∷ ys) i = Has-right xs (i ∷ ys) i (Has-here i ys) in
    let moves : (v : ℕ) → i ≡ v → Has (xs ++ i ∷ ys) v = λ v e. subst (λ (q : ℕ). Has (xs ++ i ∷ ys) q) e at in
    let more : (u : ℕ) → Has (xs ++ ys) u ⊎ Has (i ∷ traced) u → Has (xs ++ i ∷ ys) u ⊎ Has (used_at g i ++ traced) u = λ u a. elim a [
      | inl b ↦ inl (Has-insert xs ys i u b)
      | inr b ↦ elim (Has-head i u traced b) [ inl e ↦ inl (moves u e) | inr c ↦ inr (Has-right (used_at g i) traced u c) ]
    ] in
    let me : Needed g w i = k.traced_needed i (Has-here i traced) in
    record {
      sized = length-set m i true ∙ z;
      marked_held = λ v a. elim (cases_eq v i) [
        | inl e ↦ moves v (sym e)
        | inr ne ↦ Has-insert xs ys i v (k.marked_held v (sym (get_or-set_other m i v true false ne) ∙ a))
      ];
      held_marked = λ v a. elim (cases_eq v i) [
        | inl e ↦ (let P : ℕ → Type 0 = λ q. get_or (set m i true) q false ≡ true in subst P (sym e) (get_or-set_same m i true false inm))
        | inr ne ↦ elim (Has-inserted xs ys i v a) [
          | inl e ↦ absurd (ne (sym e))
          | inr b ↦ get_or-set_other m i v true false ne ∙ k.held_marked v b
        ]
      ];
      inside = λ v a. elim (Has-inserted xs ys i v a) [
        | inl e ↦ subst (λ (q : ℕ). q < length g) e h
        | inr b ↦ k.inside v b
      ];
      distinct = Distinct-insert xs ys i k.distinct apart;
      counted = let q = k.counted in omega (arith, cost-insert g xs ys i);
      traced_needed = λ u a. elim (Has-cases (used_at g i) traced u a) [
        | inl b ↦ used me b
        | inr b ↦ k.traced_needed u (Has-later i u traced b)
      ];
      held_needed = λ v a. elim (Has-inserted xs ys i v a) [
        | inl e ↦ subst (λ (q : ℕ). Needed g w q) e me
        | inr b ↦ k.held_needed v b
      ];
      closed = λ v u a b. elim (Has-inserted xs ys i v a) [
        | inl e ↦ inr (Has-left (used_at g i) traced u (subst (λ (q : ℕ). Has (used_at g q) u) (sym e) b))
        | inr c ↦ more u (k.closed v u c b)
      ];
      rooted = λ u a. more u (k.rooted u a);
    }

kept_moved : {g : List PlainStatement} {w h h' tr tr' : List ℕ} {m : List Bool} {n n' t : ℕ} →
    h ≡ h' → tr ≡ tr' → n ≡ n' → Kept g w h tr m n t → Kept g w h' tr' m n' t
kept_moved {g = g} {w = w} {h = h} {h' = h'} {tr = tr} {tr' = tr'} {m = m} {n = n} {n' = n'} {t = t} a b c k =
    let A : List ℕ → Type 0 = λ x. Kept g w x tr m n t in
    let B : List ℕ → Type 0 = λ x. Kept g w h' x m n t in
    let C : ℕ → Type 0 = λ x. Kept g w h' tr' m x t in
    subst C c (subst B b (subst A a k))

-- every run keeps it
pub kept : {g : List PlainStatement} {w : List ℕ} {s : List Step} {m : List Bool} {ids : List ℕ} {t : ℕ} →
    Reached g w s m ids t → Kept g w (ids ++ waiting s) (traces s) m (length s) t
unfolding traces waiting
kept {g = g} start = kept_start g
kept {g = g} (walk {i = i} {t = t} {walks = w} {m = m} {ids = ids} r) = kept_walk g w (ids ++ []) m t i (kept r)
kept {g = g} (dropped {i = i} {t = t} {walks = w} {s = s} {m = m} {ids = ids} r f) =
    kept_dropped g w (ids ++ waiting s) (traces s) m (length s) t i (kept r) f
kept {g = g} (finished {i = i} {t = t} {walks = w} {s = s} {m = m} {ids = ids} r) =
    kept_moved (sym (append_assoc ids (i ∷ []) (waiting s))) refl refl
    (kept_finished g w (ids ++ i ∷ waiting s) (traces s) m (length s) t (kept r))
kept {g = g} (entered {i = i} {t = t} {walks = w} {s = s} {m = m} {ids = ids} r h f) =
    kept_moved (ap (λ x. ids ++ x) (sym (waiting-uses (used_at g i) (finish i ∷ s)))) (sym (traces-uses (used_at g i) (finish i ∷ s)))
    (sym (length-append (map (λ u. trace u) (used_at g i)) (finish i ∷ s) ∙ ap (λ x. x + suc (length s)) (length-map (used_at g i) (λ u. trace u))))
    (kept_entered g w ids (waiting s) (traces s) m (length s) t i (kept r) h f)

-- of a finished run
pub over : {g : List PlainStatement} {w : List ℕ} {m : List Bool} {ids : List ℕ} {t : ℕ} → Reached g w [] m ids t → Kept g w ids [] m 0 t
unfolding traces waiting
over {ids = ids} r = kept_moved (append-nil ids) refl refl (kept r)

pub needed_held : {g : List PlainStatement} {w held : List ℕ} {m : List Bool} {n t i : ℕ} → Kept g w held [] m n t → Needed g w i → Has held i
needed_held {i = i} k (walked h) = elim (k.rooted i h) [ inl a ↦ a | inr b ↦ absurd (Has-none i b) ]
needed_held k (used {i = i} {j = j} n h) = elim (k.closed i j (needed_held k n) h) [ inl a ↦ a | inr b ↦ absurd (Has-none j b) ]
