-- The states that wait: one expanded, and the last one taken.
use Rattle.std.proofs.Common.{◌≡◌, ℕ, zero, suc, ◌+◌, ◌-◌, ◌<◌, ◌≤◌, ◌++◌, ◌⊎◌, inl, inr, length, List, [], ◌∷◌, Option, Some, None, refl, sym, ap, ◌∙◌, subst, append-nil, arith}
use Rattle.std.specs.Prelude.{slice_get, IsTrue, IfSome, IsSomeAnd}
use Rattle.std.specs.Option.{option_to_list}
use Rattle.std.proofs.lemmas.Option.{same_Some, slice_get_within}
use Rattle.std.proofs.lemmas.Bool.{cases_order}
use Rattle.souper_graph.specs.Values.{PlainStatement, PlainInfer}
use Rattle.souper_graph.specs.Uses.{Has}
use Rattle.souper_graph.specs.Sameness.{carried}
use Rattle.souper_graph.proofs.Lists.{Has-left, Has-right, Has-cases}
use Rattle.souper_graph.proofs.Sameness.Carrying.{condition-carried}
use Rattle.souper_embedding.specs.declared.search.Embedding.{Embedding}
use Rattle.souper_embedding.specs.Given.{AreGiven}
use Rattle.souper_embedding.specs.Images.{Precedes}
use Rattle.souper_embedding.specs.Maps.{Follows}
use Rattle.souper_embedding.specs.Search.{conditions_in}
use Rattle.souper_embedding.specs.States.{IsState, IsNext, IsTarget, IsStacked, AreNext, IsAwaited, AreWaiting, IsFirstFrom}
use Rattle.souper_embedding.proofs.ConditionLists.{condition-in}
use Rattle.souper_embedding.proofs.Precedence.{precedes-more, precedes-longer, precedes-last, assoc}
use Rattle.souper_embedding.proofs.Searching.{has-at, at-has}

-- ---- stacks

pub stacked-join : (ws ys : List Embedding) → IsStacked ws → IsStacked ys → ((w y : Embedding) → Has ws w → Has ys y → Precedes y.images.items w.images.items) → IsStacked (ws ++ ys)
stacked-join [] ys a b c = b
stacked-join (w ∷ ws) ys a b c = ((λ y m. elim (Has-cases ws ys y m) [ inl p ↦ a.0 y p | inr p ↦ c w y (inl refl) p ]), stacked-join ws ys a.1 b (λ v y p q. c v y (inr p) q))

pub stacked-front : (ws ys : List Embedding) → IsStacked (ws ++ ys) → IsStacked ws
stacked-front [] ys a = tt
stacked-front (w ∷ ws) ys a = ((λ y m. a.0 y (Has-left ws ys y m)), stacked-front ws ys a.1)

pub stacked-cross : (ws ys : List Embedding) → IsStacked (ws ++ ys) → (w y : Embedding) → Has ws w → Has ys y → Precedes y.images.items w.images.items
stacked-cross [] ys a w y p q = absurd p
stacked-cross (v ∷ ws) ys a w y (inl e) q = subst (λ (z : Embedding). Precedes y.images.items z.images.items) e (a.0 y (Has-right ws ys y q))
stacked-cross (v ∷ ws) ys a w y (inr p) q = stacked-cross ws ys a.1 w y p q

-- ---- the states that follow one

pub next-start : (ss qs : List PlainStatement) (i j : PlainInfer) (given : List ℕ) (x : Embedding) (low : ℕ) → length given ≤ low → AreNext ss qs i j given x low []
next-start ss qs i j given x low l = record {
  each = λ y m. absurd m;
  stacked = tt;
  all = λ n q f images rest a e t is. (let w = slice_get_within given n q e in absurd (omega arith));
}

-- the path condition of index n cannot stand for the next one
pub next-past : (ss qs : List PlainStatement) (i j : PlainInfer) (given : List ℕ) (x : Embedding) (low k q : ℕ) (ys : List Embedding) → suc k ≡ low → slice_get given k ≡ Some q → AreNext ss qs i j given x low ys
    → ((f : ℕ → ℕ) (images rest : List ℕ) → IsTarget ss qs i j x.map.items f images → images ≡ x.images.items ++ q ∷ rest → ⊥) → AreNext ss qs i j given x k ys
next-past ss qs i j given x low k q ys el at h none = record { each = each; stacked = h.stacked; all = all }
  where
    each : (y : Embedding) → Has ys y → (n : ℕ) × (r : ℕ) × (k ≤ n) × (slice_get given n ≡ Some r) × IsNext ss qs i j x r y
    each y m = let e = h.each y m in let l : k ≤ e.0 = (let a = e.2 in let b = el in omega arith) in (e.0, e.1, l, e.3, e.4)

    all : (n r : ℕ) (f : ℕ → ℕ) (images rest : List ℕ) → k ≤ n → slice_get given n ≡ Some r → IsTarget ss qs i j x.map.items f images → images ≡ x.images.items ++ r ∷ rest
        → (y : Embedding) × Has ys y × Follows y.map.items f × (y.images.items ≡ x.images.items ++ r ∷ [])
    all n r f images rest l e t is = elim (cases_order n k) [
      | inl s ↦ (
          let here : slice_get given k ≡ Some r = subst (λ z. slice_get given z ≡ Some r) s e in
          let same : r ≡ q = same_Some r q (sym here ∙ at) in
          absurd (none f images rest t (subst (λ z. images ≡ x.images.items ++ z ∷ rest) same is)))
      | inr o ↦ elim o [ inl a ↦ absurd (omega arith) | inr a ↦ h.all n r f images rest (let b = el in omega arith) e t is ]
    ]

-- the path condition of index n stands for the next one
pub next-found : (ss qs : List PlainStatement) (i j : PlainInfer) (given : List ℕ) (x y : Embedding) (low k q : ℕ) (ys : List Embedding) → AreGiven qs given → suc k ≡ low → slice_get given k ≡ Some q → AreNext ss qs i j given x low ys
    → IsNext ss qs i j x q y → ((f : ℕ → ℕ) (images rest : List ℕ) → IsTarget ss qs i j x.map.items f images → images ≡ x.images.items ++ q ∷ rest → Follows y.map.items f) → AreNext ss qs i j given x k (ys ++ y ∷ [])
next-found ss qs i j given x y low k q ys eg el at h new follows = record {
  each = each;
  stacked = stacked-join ys (y ∷ []) h.stacked ((λ v m. absurd m), tt) cross;
  all = all;
}
  where
    each : (v : Embedding) → Has (ys ++ y ∷ []) v → (n : ℕ) × (r : ℕ) × (k ≤ n) × (slice_get given n ≡ Some r) × IsNext ss qs i j x r v
    each v m = elim (Has-cases ys (y ∷ []) v m) [
      | inl p ↦ (let e = h.each v p in let l : k ≤ e.0 = (let a = e.2 in let b = el in omega arith) in (e.0, e.1, l, e.3, e.4))
      | inr p ↦ elim p [
        | inl s ↦ (let l : k ≤ k = omega arith in (k, q, l, at, subst (λ (z : Embedding). IsNext ss qs i j x q z) s new))
        | inr z ↦ absurd z
      ]
    ]

    under : (w : Embedding) → Has ys w → Precedes y.images.items w.images.items
    under w m =
        let e = h.each w m in
        let l : q < e.1 = eg.ascending k e.0 q e.1 at e.3 (let a = e.2 in let b = el in omega arith) in
        subst (λ z. Precedes z w.images.items) (sym new.images) (subst (λ z. Precedes (x.images.items ++ q ∷ []) z) (sym e.4.images) (precedes-last x.images.items q e.1 l))

    cross : (w v : Embedding) → Has ys w → Has (y ∷ []) v → Precedes v.images.items w.images.items
    cross w v m (inl s) = subst (λ (z : Embedding). Precedes z.images.items w.images.items) s (under w m)
    cross w v m (inr z) = absurd z

    all : (n r : ℕ) (f : ℕ → ℕ) (images rest : List ℕ) → k ≤ n → slice_get given n ≡ Some r → IsTarget ss qs i j x.map.items f images → images ≡ x.images.items ++ r ∷ rest
        → (v : Embedding) × Has (ys ++ y ∷ []) v × Follows v.map.items f × (v.images.items ≡ x.images.items ++ r ∷ [])
    all n r f images rest l e t is = elim (cases_order n k) [
      | inl s ↦ (
          let here : slice_get given k ≡ Some r = subst (λ z. slice_get given z ≡ Some r) s e in
          let same : q ≡ r = same_Some q r (sym at ∙ here) in
          (y, Has-right ys (y ∷ []) y (inl refl), follows f images rest t (subst (λ z. images ≡ x.images.items ++ z ∷ rest) (sym same) is), subst (λ z. y.images.items ≡ x.images.items ++ z ∷ []) same new.images))
      | inr o ↦ elim o [
        | inl a ↦ absurd (omega arith)
        | inr a ↦ (let b = h.all n r f images rest (let b = el in omega arith) e t is in (b.0, Has-left ys (y ∷ []) b.0 b.1, b.2, b.3))
      ]
    ]

-- the path condition of index k stands for the next one, or it cannot
pub next-step : (ss qs : List PlainStatement) (i j : PlainInfer) (given : List ℕ) (x : Embedding) (low k q : ℕ) (ys : List Embedding) (o : Option Embedding) → AreGiven qs given → suc k ≡ low → slice_get given k ≡ Some q
    → AreNext ss qs i j given x low ys → IfSome o (λ y. IsNext ss qs i j x q y)
    → ((f : ℕ → ℕ) (images rest : List ℕ) → IsTarget ss qs i j x.map.items f images → images ≡ x.images.items ++ q ∷ rest → IsSomeAnd o (λ y. Follows y.map.items f)) → AreNext ss qs i j given x k (ys ++ option_to_list o)
next-step ss qs i j given x low k q ys None eg el at h new forced = subst (λ (z : List Embedding). AreNext ss qs i j given x k z) (sym (append-nil ys)) (next-past ss qs i j given x low k q ys el at h forced)
next-step ss qs i j given x low k q ys (Some y) eg el at h new forced = next-found ss qs i j given x y low k q ys eg el at h new forced

some-longer : (ys : List Embedding) (o : Option Embedding) (left g : ℕ) → length ys + left ≤ g → 0 < left → length (ys ++ option_to_list o) + (left - 1) ≤ g
some-longer ys None left g l p = let z : length (ys ++ []) ≡ length ys = ap length (append-nil ys) in omega arith
some-longer ys (Some y) left g l p = let e : length (ys ++ y ∷ []) ≡ suc (length ys) = longer-by-one ys y in omega arith
  where
    longer-by-one : (ys : List Embedding) (y : Embedding) → length (ys ++ y ∷ []) ≡ suc (length ys)
    longer-by-one [] y = refl
    longer-by-one (v ∷ ys) y = ap (λ z. suc z) (longer-by-one ys y)

pub step-few : (ys new : List Embedding) (o : Option Embedding) (left g : ℕ) → new ≡ ys ++ option_to_list o → length ys + left ≤ g → 0 < left → length new + (left - 1) ≤ g
step-few ys new o left g e l p = subst (λ (z : List Embedding). length z + (left - 1) ≤ g) (sym e) (some-longer ys o left g l p)

one-more : (xs : List ℕ) (q : ℕ) → length (xs ++ q ∷ []) ≡ length xs + 1
one-more [] q = refl
one-more (x ∷ xs) q = let e = one-more xs q in omega arith

pub step-longer : (x : Embedding) (q : ℕ) (ys : List Embedding) (o : Option Embedding) → ((y : Embedding) → Has ys y → length y.images.items ≡ length x.images.items + 1) → IfSome o (λ y. y.images.items ≡ x.images.items ++ q ∷ [])
    → (y : Embedding) → Has (ys ++ option_to_list o) y → length y.images.items ≡ length x.images.items + 1
step-longer x q ys None h e y m = h y (subst (λ (z : List Embedding). Has z y) (append-nil ys) m)
step-longer x q ys (Some v) h e y m = elim (Has-cases ys (v ∷ []) y m) [
  | inl a ↦ h y a
  | inr b ↦ elim b [ inl s ↦ subst (λ (z : Embedding). length z.images.items ≡ length x.images.items + 1) s (ap length e ∙ one-more x.images.items q) | inr z ↦ absurd z ]
]

-- ---- the states that wait

pub waiting-start : (ss qs : List PlainStatement) (i j : PlainInfer) (start : Embedding) → start.images.items ≡ [] → IsState ss qs i j start → AreWaiting ss qs i j start (start ∷ [])
waiting-start ss qs i j start none h = record {
  each = λ x m. elim m [ inl e ↦ subst (λ (z : Embedding). IsState ss qs i j z) e h | inr z ↦ absurd z ];
  stacked = ((λ y m. absurd m), tt);
  all = λ f images t. record { state = start; among = inl refl; follows = t.follows; rest = images; is = sym (ap (λ z. z ++ images) none) };
}

-- what follows a state that is awaited
long-nil : (xs : List ℕ) → length (xs ++ []) ≡ length xs
long-nil [] = refl
long-nil (x ∷ xs) = ap (λ z. suc z) (long-nil xs)

pub at-below : (xs : List ℕ) (k : ℕ) → k < length xs → (x : ℕ) × (slice_get xs k ≡ Some x)
at-below [] k l = absurd (omega arith)
at-below (x ∷ xs) zero l = (x, refl)
at-below (x ∷ xs) (suc k) l = at-below xs k (omega arith)

-- where the next path condition goes there is one of the query
given-at : (ss qs : List PlainStatement) (i j : PlainInfer) (m : List (Option ℕ)) (f : ℕ → ℕ) (images given : List ℕ) (k q : ℕ) → AreGiven qs given → IsTarget ss qs i j m f images → slice_get images k ≡ Some q → (n : ℕ) × (slice_get given n ≡ Some q)
given-at ss qs i j m f images given k q eg t e =
    let l : k < length (conditions_in ss) = (let w = slice_get_within images k q e in let z = t.long in omega arith) in
    let c = at-below (conditions_in ss) k l in
    let x = condition-in ss c.0 (has-at (conditions_in ss) k c.0 c.1) in
    let at = t.there k c.0 q x.statement c.1 e x.there in
    let g = eg.covers q (carried f x.statement) (slice_get_within qs q (carried f x.statement) at) at (subst (λ z. IsTrue z) (sym (condition-carried f x.statement)) x.is) in
    let below : q ≤ g.0 = t.first k q e g.0 (g.2 ∙ sym at) in
    let above : g.0 ≤ q = (eg.first g.0 g.1).first q (at ∙ sym g.2) in
    let same : g.0 ≡ q = omega arith in
    at-has given q (subst (λ z. Has given z) same g.1)

get-front : (xs : List ℕ) (q : ℕ) (rest : List ℕ) → slice_get (xs ++ q ∷ rest) (length xs) ≡ Some q
get-front [] q rest = refl
get-front (x ∷ xs) q rest = get-front xs q rest

next-awaited : (ss qs : List PlainStatement) (i j : PlainInfer) (x : Embedding) (given : List ℕ) (ws ys : List Embedding) (f : ℕ → ℕ) (images rest : List ℕ) → AreGiven qs given → length x.images.items < length (conditions_in ss)
    → AreNext ss qs i j given x 0 ys → IsTarget ss qs i j x.map.items f images → images ≡ x.images.items ++ rest → IsAwaited (ws ++ ys) f images
next-awaited ss qs i j x given ws ys f images [] eg l h t is = absurd (let a = t.long in let b = ap length is in let c = long-nil x.images.items in omega arith)
next-awaited ss qs i j x given ws ys f images (q ∷ rest) eg l h t is =
    let g = given-at ss qs i j x.map.items f images given (length x.images.items) q eg t (ap (λ z. slice_get z (length x.images.items)) is ∙ get-front x.images.items q rest) in
    let r = h.all g.0 q f images rest (omega arith) g.1 t is in
    record {
      state = r.0;
      among = Has-right ws ys r.0 r.1;
      follows = r.2;
      rest = rest;
      is = is ∙ sym (assoc x.images.items (q ∷ []) rest) ∙ ap (λ z. z ++ rest) (sym r.3);
    }

-- a state that is awaited is expanded, or another is awaited
pub awaited-next : (ss qs : List PlainStatement) (i j : PlainInfer) (start x : Embedding) (given : List ℕ) (ws ys : List Embedding) (f : ℕ → ℕ) (images : List ℕ) → AreGiven qs given → length x.images.items < length (conditions_in ss)
    → AreNext ss qs i j given x 0 ys → IsTarget ss qs i j start.map.items f images → IsAwaited (ws ++ x ∷ []) f images → IsAwaited (ws ++ ys) f images
awaited-next ss qs i j start x given ws ys f images eg l n t a =
    elim (Has-cases ws (x ∷ []) a.state a.among) [
      | inl m ↦ record { state = a.state; among = Has-left ws ys a.state m; follows = a.follows; rest = a.rest; is = a.is }
      | inr m ↦ elim m [
        | inl e ↦ next-awaited ss qs i j x given ws ys f images a.rest eg l n
            (record { embeds = t.embeds; follows = subst (λ (z : Embedding). Follows z.map.items f) (sym e) a.follows; long = t.long; there = t.there; first = t.first })
            (subst (λ (z : Embedding). images ≡ z.images.items ++ a.rest) (sym e) a.is)
        | inr z ↦ absurd z
      ]
    ]

pub waiting-next : (ss qs : List PlainStatement) (i j : PlainInfer) (start x : Embedding) (given : List ℕ) (ws ys : List Embedding) → AreGiven qs given → length x.images.items < length (conditions_in ss)
    → AreWaiting ss qs i j start (ws ++ x ∷ []) → AreNext ss qs i j given x 0 ys → AreWaiting ss qs i j start (ws ++ ys)
waiting-next ss qs i j start x given ws ys eg l h n = record {
  each = λ y m. elim (Has-cases ws ys y m) [ inl a ↦ h.each y (Has-left ws (x ∷ []) y a) | inr b ↦ (n.each y b).4.state ];
  stacked = stacked-join ws ys (stacked-front ws (x ∷ []) h.stacked) n.stacked cross;
  all = λ f images t. awaited-next ss qs i j start x given ws ys f images eg l n t (h.all f images t);
}
  where
    cross : (w y : Embedding) → Has ws w → Has ys y → Precedes y.images.items w.images.items
    cross w y a b =
        let e = n.each y b in
        subst (λ z. Precedes z w.images.items) (sym e.4.images) (precedes-more x.images.items w.images.items (e.1 ∷ []) (stacked-cross ws (x ∷ []) h.stacked w x a (inl refl)))

-- the last state has all path conditions
pub waiting-first : (ss qs : List PlainStatement) (i j : PlainInfer) (start x : Embedding) (ws : List Embedding) → length (conditions_in ss) ≤ length x.images.items → AreWaiting ss qs i j start (ws ++ x ∷ []) → IsFirstFrom ss qs i j start x
waiting-first ss qs i j start x ws l h = record {
  state = here;
  whole = (let w = here.within in omega arith);
  first = first;
}
  where
    here : IsState ss qs i j x
    here = h.each x (Has-right ws (x ∷ []) x (inl refl))

    first : (f : ℕ → ℕ) (images : List ℕ) → IsTarget ss qs i j start.map.items f images → Follows x.map.items f ⊎ Precedes x.images.items images
    first f images t =
        let a = h.all f images t in
        elim (Has-cases ws (x ∷ []) a.state a.among) [
          | inl m ↦ inr (subst (λ z. Precedes x.images.items z) (sym a.is) (precedes-longer x.images.items a.state.images.items a.rest (stacked-cross ws (x ∷ []) h.stacked a.state x m (inl refl))))
          | inr m ↦ elim m [
            | inl e ↦ inl (subst (λ (z : Embedding). Follows z.map.items f) (sym e) a.follows)
            | inr z ↦ absurd z
          ]
        ]

pub waiting-none : (ss qs : List PlainStatement) (i j : PlainInfer) (start : Embedding) (f : ℕ → ℕ) (images : List ℕ) → AreWaiting ss qs i j start [] → IsTarget ss qs i j start.map.items f images → ⊥
waiting-none ss qs i j start f images h t = (h.all f images t).among
