-- The positions that are marked, ascending.
use Rattle.std.proofs.Common.{◌≡◌, ℕ, zero, suc, ◌+◌, ◌<◌, ◌≤◌, ◌↔◌, inl, inr, ◌++◌, length, List, [], ◌∷◌, Bool, true, false, cond, refl, sym, ap, subst, ◌∙◌, append-nil, arith, take, get_or}
use Rattle.std.proofs.lemmas.Bool.{false≢true}
use Rattle.souper_graph.specs.Uses.{Has}
use Rattle.souper_graph.specs.FlawSearch.{marked_from}

under : (b : Bool) (k : ℕ) (z c : List ℕ) → cond b (k ∷ (z ++ c)) (z ++ c) ≡ cond b (k ∷ z) z ++ c
under true k z c = refl
under false k z c = refl

marked-next : (ms : List Bool) (k n : ℕ) → n < length ms → marked_from k (take (suc n) ms) ≡ marked_from k (take n ms) ++ cond (get_or ms n false) ((k + n) ∷ []) []
marked-next [] k n l = absurd (omega arith)
marked-next (m ∷ ms) k zero l = ap (λ j. cond m (j ∷ []) []) (let q : k ≡ k + 0 = omega arith in q)
marked-next (m ∷ ms) k (suc n) l =
    ap (λ z. cond m (k ∷ z) z)
    (marked-next ms (suc k) n (omega arith)
    ∙ ap (λ j. marked_from (suc k) (take n ms) ++ cond (get_or ms n false) (j ∷ []) []) (let q : suc k + n ≡ k + suc n = omega arith in q))
    ∙ under m k (marked_from (suc k) (take n ms)) (cond (get_or ms n false) ((k + suc n) ∷ []) [])

step : (ms : List Bool) (n : ℕ) → n < length ms → marked_from 0 (take (n + 1) ms) ≡ marked_from 0 (take n ms) ++ cond (get_or ms n false) (n ∷ []) []
step ms n l =
    ap (λ j. marked_from 0 (take j ms)) (let q : n + 1 ≡ suc n = omega arith in q)
    ∙ marked-next ms 0 n l
    ∙ ap (λ j. marked_from 0 (take n ms) ++ cond (get_or ms n false) (j ∷ []) []) (let q : 0 + n ≡ n = omega arith in q)

-- one that is marked
pub marked_pushed : (ms : List Bool) (n i : ℕ) (ids ids' : List ℕ) (b : Bool) → n < length ms → ids ≡ marked_from 0 (take n ms) → b ≡ get_or ms n false → b ≡ true → i ≡ n → ids' ≡ ids ++ i ∷ [] →
    ids' ≡ marked_from 0 (take (n + 1) ms)
marked_pushed ms n i ids ids' b l e q t same p =
    p ∙ ap (λ (z : List ℕ). z ++ i ∷ []) e ∙ ap (λ (z : ℕ). marked_from 0 (take n ms) ++ z ∷ []) same
    ∙ ap (λ (z : Bool). marked_from 0 (take n ms) ++ cond z (n ∷ []) []) (sym t ∙ q) ∙ sym (step ms n l)

-- one that is not
pub marked_kept : (ms : List Bool) (n : ℕ) (ids : List ℕ) (b : Bool) → n < length ms → ids ≡ marked_from 0 (take n ms) → b ≡ get_or ms n false → b ≡ false → ids ≡ marked_from 0 (take (n + 1) ms)
marked_kept ms n ids b l e q f =
    e ∙ sym (append-nil (marked_from 0 (take n ms)))
    ∙ ap (λ (z : Bool). marked_from 0 (take n ms) ++ cond z (n ∷ []) []) (sym f ∙ q) ∙ sym (step ms n l)

-- each number of the list is above the one before it, and the first is at least lo
abbrev Ascends : ℕ → List ℕ → Type 0
Ascends lo [] = Unit {0}
Ascends lo (x ∷ xs) = (lo ≤ x) × Ascends (suc x) xs

ascends_from : (lo hi : ℕ) (xs : List ℕ) → lo ≤ hi → Ascends hi xs → Ascends lo xs
ascends_from lo hi [] l h = tt
ascends_from lo hi (x ∷ xs) l h = ((let q = h.0 in omega arith), h.1)

marked_ascends : (k : ℕ) (ms : List Bool) → Ascends k (marked_from k ms)
marked_ascends k [] = tt
marked_ascends k (true ∷ ms) = (omega arith, marked_ascends (suc k) ms)
marked_ascends k (false ∷ ms) = ascends_from k (suc k) (marked_from (suc k) ms) (omega arith) (marked_ascends (suc k) ms)

least_of : (lo i : ℕ) (xs : List ℕ) → Ascends lo xs → Has xs i → lo ≤ i
least_of lo i [] a h = absurd h
least_of lo i (x ∷ xs) a (inl e) = let q = a.0 in omega arith
least_of lo i (x ∷ xs) a (inr h) = let q = least_of (suc x) i xs a.1 h in let z = a.0 in omega arith

least_at : (lo k : ℕ) (xs : List ℕ) → Ascends lo xs → k < length xs → lo ≤ get_or xs k 0
least_at lo k [] a l = absurd (omega arith)
least_at lo zero (x ∷ xs) a l = a.0
least_at lo (suc k) (x ∷ xs) a l = let q = least_at (suc x) k xs a.1 (omega arith) in let z = a.0 in omega arith

taken_below : (lo k i : ℕ) (xs : List ℕ) → Ascends lo xs → k < length xs → Has (take k xs) i → Has xs i × (i < get_or xs k 0)
taken_below lo k i [] a l h = absurd (omega arith)
taken_below lo zero i (x ∷ xs) a l h = absurd h
taken_below lo (suc k) i (x ∷ xs) a l (inl e) = (inl e, (let q = least_at (suc x) k xs a.1 (omega arith) in omega arith))
taken_below lo (suc k) i (x ∷ xs) a l (inr h) = let r = taken_below (suc x) k i xs a.1 (omega arith) h in (inr r.0, r.1)

below_taken : (lo k i : ℕ) (xs : List ℕ) → Ascends lo xs → k < length xs → Has xs i → i < get_or xs k 0 → Has (take k xs) i
below_taken lo k i [] a l h b = absurd h
below_taken lo zero i (x ∷ xs) a l (inl e) b = absurd (omega arith)
below_taken lo zero i (x ∷ xs) a l (inr h) b = absurd (let q = least_of (suc x) i xs a.1 h in omega arith)
below_taken lo (suc k) i (x ∷ xs) a l (inl e) b = inl e
below_taken lo (suc k) i (x ∷ xs) a l (inr h) b = inr (below_taken (suc x) k i xs a.1 (omega arith) h b)

pub marked_take : (ms : List Bool) (k i : ℕ) → k < length (marked_from 0 ms) → Has (take k (marked_from 0 ms)) i ↔ (Has (marked_from 0 ms) i × (i < get_or (marked_from 0 ms) k 0))
marked_take ms k i l = (taken_below 0 k i (marked_from 0 ms) (marked_ascends 0 ms) l, (λ h. below_taken 0 k i (marked_from 0 ms) (marked_ascends 0 ms) l h.0 h.1))

mark_of : (k i : ℕ) (ms : List Bool) → Has (marked_from k ms) i → (d : ℕ) × (i ≡ k + d) × (get_or ms d false ≡ true)
mark_of k i [] h = absurd h
mark_of k i (true ∷ ms) (inl e) = (0, omega arith, refl)
mark_of k i (true ∷ ms) (inr h) = let r = mark_of (suc k) i ms h in (suc r.0, (let q = r.1 in omega arith), r.2)
mark_of k i (false ∷ ms) h = let r = mark_of (suc k) i ms h in (suc r.0, (let q = r.1 in omega arith), r.2)

of_mark : (k d : ℕ) (ms : List Bool) → get_or ms d false ≡ true → Has (marked_from k ms) (k + d)
of_mark k d [] m = absurd (false≢true m)
of_mark k zero (true ∷ ms) m = inl (omega arith)
of_mark k zero (false ∷ ms) m = absurd (false≢true m)
of_mark k (suc d) (true ∷ ms) m = inr (subst (λ (z : ℕ). Has (marked_from (suc k) ms) z) (omega arith) (of_mark (suc k) d ms m))
of_mark k (suc d) (false ∷ ms) m = subst (λ (z : ℕ). Has (marked_from (suc k) ms) z) (omega arith) (of_mark (suc k) d ms m)

pub marked_has : (ms : List Bool) (i : ℕ) → Has (marked_from 0 ms) i ↔ (get_or ms i false ≡ true)
marked_has ms i = (
  (λ h. let r = mark_of 0 i ms h in subst (λ (z : ℕ). get_or ms z false ≡ true) (let q = r.1 in let e : r.0 ≡ i = omega arith in e) r.2),
  (λ m. subst (λ (z : ℕ). Has (marked_from 0 ms) z) (let e : 0 + i ≡ i = omega arith in e) (of_mark 0 i ms m)),
)
