-- An item has one first flaw.
use Rattle.std.proofs.Common.{◌≡◌, ◌≢◌, ◌⊎◌, ℕ, zero, suc, ◌<◌, inl, inr, List, [], ◌∷◌, ◌++◌, refl, sym, ap, subst, ◌∙◌, arith}
use Rattle.std.specs.List.{AllByRecursion}
use Rattle.souper_graph.specs.declared.ast.flaws.FlawLocation.{FlawLocation}
use Rattle.souper_graph.specs.declared.ast.flaws.FlawLocation.TheVariants.{Statement, Infer, Result, Cand}
use Rattle.souper_graph.specs.Values.{Ending, inferred, resulting, replaced, candidate, Item}
use Rattle.souper_graph.specs.Flaws.{IsBefore, line_operands}
use Rattle.souper_graph.proofs.Judging.Closed.{All-first, All-second}
use Rattle.souper_widths.specs.declared.flaws.WidthFlaw.{WidthFlaw}
use Rattle.souper_widths.specs.declared.flaws.WidthReason.{WidthReason}
use Rattle.souper_widths.specs.declared.flaws.WidthReason.TheVariants.{TypedBlock, FactOnComputed, BlockAsValue, PairAsValue, NotAPair, BadIndex, Conflict, Undetermined, NotWider, NotNarrower, ByteSwap, ConstantTooWide, BitCount, SignBits, Range}
use Rattle.souper_widths.specs.Maps.{WidthMap, AgreeAt}
use Rattle.souper_widths.specs.Equations.{Equation, Holds, width_by, left_side, right_side}
use Rattle.souper_widths.specs.Places.{IsPlace}
use Rattle.souper_widths.specs.Shape.{ShapedAt, shape_reasons, HasShape}
use Rattle.souper_widths.specs.Limits.{KeepsAt, limit_reasons}
use Rattle.souper_widths.specs.Flaws.{IsFirstFailing, IsFirstOfClass, HasFailing, AreConflicting, IsFirstConflict, IsFirstUndetermined, IsShapeFlaw, IsLimitFlaw, IsFlawAt}
use Rattle.souper_widths.proofs.Forests.{one_or_other}
use Rattle.souper_widths.proofs.Lines.{first-not_all}
use Rattle.souper_widths.proofs.Flawless.{agree-self}

-- places are in one order

no-cand : (e : Ending) → line_operands Infer e ≢ [] → line_operands Cand e ≢ [] → ⊥
no-cand (inferred i) m n = n refl
no-cand (resulting x) m n = n refl
no-cand (replaced i x) m n = n refl
no-cand (candidate c) m n = m refl

no-result : (e : Ending) → line_operands Result e ≢ [] → line_operands Cand e ≢ [] → ⊥
no-result (inferred i) m n = n refl
no-result (resulting x) m n = n refl
no-result (replaced i x) m n = n refl
no-result (candidate c) m n = m refl

abbrev Ordered : FlawLocation → FlawLocation → Type 0
Ordered l k = (l ≡ k) ⊎ (IsBefore l k ⊎ IsBefore k l)

statements-ordered : (p q : ℕ) → Ordered (Statement p) (Statement q)
statements-ordered p q = elim (one_or_other p q) [
  | inl e ↦ inl (ap (λ (z : ℕ). Statement z) e)
  | inr ne ↦ inr (lower_or_higher p q ne)
]
  where
    lower_or_higher : (p q : ℕ) → p ≢ q → (p < q) ⊎ (q < p)
    lower_or_higher zero zero ne = absurd (ne refl)
    lower_or_higher zero (suc q) ne = inl (omega arith)
    lower_or_higher (suc p) zero ne = inr (omega arith)
    lower_or_higher (suc p) (suc q) ne = elim (lower_or_higher p q (λ e. ne (ap (λ (z : ℕ). suc z) e))) [ inl h ↦ inl (omega (arith, h)) | inr h ↦ inr (omega (arith, h)) ]

ordered : (a : Item) (l k : FlawLocation) → IsPlace a l → IsPlace a k → Ordered l k
ordered a (Statement p) (Statement q) m n = statements-ordered p q
ordered a (Statement p) Infer m n = inr (inl tt)
ordered a (Statement p) Result m n = inr (inl tt)
ordered a (Statement p) Cand m n = inr (inl tt)
ordered a Infer (Statement q) m n = inr (inr tt)
ordered a Infer Infer m n = inl refl
ordered a Infer Result m n = inr (inl tt)
ordered a Infer Cand m n = absurd (no-cand a.ending m n)
ordered a Result (Statement q) m n = inr (inr tt)
ordered a Result Infer m n = inr (inr tt)
ordered a Result Result m n = inl refl
ordered a Result Cand m n = absurd (no-result a.ending m n)
ordered a Cand (Statement q) m n = inr (inr tt)
ordered a Cand Infer m n = absurd (no-cand a.ending n m)
ordered a Cand Result m n = absurd (no-result a.ending n m)
ordered a Cand Cand m n = inl refl

before-trans : (j l k : FlawLocation) → IsBefore j l → IsBefore l k → IsBefore j k
before-trans (Statement p) (Statement q) (Statement r) b c = omega (arith, b, c)
before-trans (Statement p) (Statement q) Infer b c = tt
before-trans (Statement p) (Statement q) Result b c = tt
before-trans (Statement p) (Statement q) Cand b c = tt
before-trans (Statement p) Infer (Statement r) b c = absurd c
before-trans (Statement p) Infer Infer b c = tt
before-trans (Statement p) Infer Result b c = tt
before-trans (Statement p) Infer Cand b c = tt
before-trans (Statement p) Result (Statement r) b c = absurd c
before-trans (Statement p) Result Infer b c = tt
before-trans (Statement p) Result Result b c = tt
before-trans (Statement p) Result Cand b c = tt
before-trans (Statement p) Cand (Statement r) b c = absurd c
before-trans (Statement p) Cand Infer b c = tt
before-trans (Statement p) Cand Result b c = tt
before-trans (Statement p) Cand Cand b c = tt
before-trans Infer (Statement q) k b c = absurd b
before-trans Infer Infer k b c = absurd b
before-trans Infer Result (Statement r) b c = absurd c
before-trans Infer Result Infer b c = absurd c
before-trans Infer Result Result b c = tt
before-trans Infer Result Cand b c = absurd c
before-trans Infer Cand k b c = absurd b
before-trans Result (Statement q) k b c = absurd b
before-trans Result Infer k b c = absurd b
before-trans Result Result k b c = absurd b
before-trans Result Cand k b c = absurd b
before-trans Cand (Statement q) k b c = absurd b
before-trans Cand Infer k b c = absurd b
before-trans Cand Result k b c = absurd b
before-trans Cand Cand k b c = absurd b

-- two locations of which neither is before the other
one-place : (a : Item) (l k : FlawLocation) → IsPlace a l → IsPlace a k → ¬ IsBefore l k → ¬ IsBefore k l → l ≡ k
one-place a l k m n b c = elim (ordered a l k m n) [
  | inl e ↦ e
  | inr h ↦ elim h [ inl x ↦ absurd (b x) | inr x ↦ absurd (c x) ]
]

-- one flaw of a class

one-reason : (P : WidthReason → Type 0) (rs : List WidthReason) (r s : WidthReason) → IsFirstFailing P rs r → IsFirstFailing P rs s → r ≡ s
one-reason P [] r s h k = absurd h
one-reason P (x ∷ xs) r s (inl h) (inl k) = sym h.0 ∙ k.0
one-reason P (x ∷ xs) r s (inl h) (inr k) = absurd (h.1 k.0)
one-reason P (x ∷ xs) r s (inr h) (inl k) = absurd (k.1 h.0)
one-reason P (x ∷ xs) r s (inr h) (inr k) = one-reason P xs r s h.1 k.1

abbrev Same : FlawLocation → WidthReason → FlawLocation → WidthReason → Type 0
Same l r k s = (l ≡ k) × (r ≡ s)

one-of_class : (a : Item) (Meets : FlawLocation → WidthReason → Type 0) (rs : List WidthReason) (l k : FlawLocation) (r s : WidthReason) → IsFirstOfClass a Meets rs l r → IsFirstOfClass a Meets rs k s → Same l r k s
one-of_class a Meets rs l k r s f g = (same, one-reason (Meets l) rs r s f.first (subst (λ (z : FlawLocation). IsFirstFailing (Meets z) rs s) (sym same) g.first))
  where
    same : l ≡ k
    same = one-place a l k f.place g.place (λ b. first-not_all (Meets l) rs r f.first (g.before l f.place b)) (λ b. first-not_all (Meets k) rs s g.first (f.before k g.place b))

-- one conflict

no-earlier_conflict : (a : Item) (l k : FlawLocation) (x y u v : ℕ) → IsFirstConflict a l x y → IsFirstConflict a k u v → ¬ IsBefore l k
no-earlier_conflict a l k x y u v f g b = f.unsolved g.solved.0 (λ j p c. g.solved.1 j p (before-trans j l k c b)) (g.solved.1 l f.place b)

abbrev Ahead : List Equation → Equation → List Equation → Type 0
Ahead xs x ys = (zs : List Equation) × (ys ≡ xs ++ x ∷ zs)

-- of two elements of a list one is ahead, or they are one
one-ahead : (xs ys us vs : List Equation) (x y : Equation) → xs ++ x ∷ us ≡ ys ++ y ∷ vs → ((xs ≡ ys) × (x ≡ y)) ⊎ (Ahead xs x ys ⊎ Ahead ys y xs)
one-ahead [] [] us vs x y e = inl (refl, cc e)
one-ahead [] (b ∷ ys) us vs x y e = inr (inl (ys, cc e))
one-ahead (a ∷ xs) [] us vs x y e = inr (inr (xs, cc e))
one-ahead (a ∷ xs) (b ∷ ys) us vs x y e =
    let first : a ≡ b = cc e in
    let rest : xs ++ x ∷ us ≡ ys ++ y ∷ vs = cc e in
    elim (one-ahead xs ys us vs x y rest) [
      | inl t ↦ inl (cc (first, t.0), t.1)
      | inr t ↦ inr (elim t [
        | inl w ↦ inl (w.0, (let tail = w.1 in cc (first, tail)))
        | inr w ↦ inr (w.0, (let tail = w.1 in cc (first, tail)))
      ])
    ]

-- what fails is not ahead of what fails later
not-ahead : (a : Item) (l : FlawLocation) (x y u v : ℕ) (f : HasFailing a l x y) (g : HasFailing a l u v) → Ahead f.front f.failing g.front → ⊥
not-ahead a l x y u v f g t =
    let m : WidthMap = g.solved.0 in
    let all = subst (AllByRecursion (Holds m)) t.1 g.solved.2 in
    (f.fails m g.solved.1 (All-first (Holds m) f.front (f.failing ∷ t.0) all)).0 (All-second (Holds m) f.front (f.failing ∷ t.0) all).0

same-failing : (a : Item) (l : FlawLocation) (x y u v : ℕ) (f : HasFailing a l x y) (g : HasFailing a l u v) → f.front ≡ g.front → f.failing ≡ g.failing → (x ≡ u) × (y ≡ v)
same-failing a l x y u v f g front failing =
    let m : WidthMap = f.solved.0 in
    let mine = (f.fails m f.solved.1 f.solved.2).1 in
    let mine_right = (f.fails m f.solved.1 f.solved.2).2 in
    let other = g.fails m f.solved.1 (subst (AllByRecursion (Holds m)) front f.solved.2) in (
      sym mine ∙ ap (λ (z : Equation). width_by m (left_side z)) failing ∙ other.1,
      sym mine_right ∙ ap (λ (z : Equation). width_by m (right_side z)) failing ∙ other.2,
    )

one-failing : (a : Item) (l : FlawLocation) (x y u v : ℕ) → HasFailing a l x y → HasFailing a l u v → (x ≡ u) × (y ≡ v)
one-failing a l x y u v f g = elim (one-ahead f.front g.front f.back g.back f.failing g.failing (sym f.here ∙ g.here)) [
  | inl t ↦ same-failing a l x y u v f g t.0 t.1
  | inr t ↦ elim t [ inl w ↦ absurd (not-ahead a l x y u v f g w) | inr w ↦ absurd (not-ahead a l u v x y g f w) ]
]

one-widths : (a : Item) (l : FlawLocation) (x y u v : ℕ) → AreConflicting a l x y → AreConflicting a l u v → (x ≡ u) × (y ≡ v)
one-widths a l x y u v (inl f) (inl g) = (f.1 ∙ sym g.1, f.2 ∙ sym g.2)
one-widths a l x y u v (inl f) (inr g) = absurd (g.0 f.0)
one-widths a l x y u v (inr f) (inl g) = absurd (f.0 g.0)
one-widths a l x y u v (inr f) (inr g) = one-failing a l x y u v f.1 g.1

one-conflict : (a : Item) (l k : FlawLocation) (x y u v : ℕ) → IsFirstConflict a l x y → IsFirstConflict a k u v → (l ≡ k) × (x ≡ u) × (y ≡ v)
one-conflict a l k x y u v f g =
    let same : l ≡ k = one-place a l k f.place g.place (no-earlier_conflict a l k x y u v f g) (no-earlier_conflict a k l u v x y g f) in
    let w = one-widths a l x y u v f.widths (subst (λ (z : FlawLocation). AreConflicting a z u v) (sym same) g.widths) in
    (same, w.0, w.1)

one-undetermined : (a : Item) (l k : FlawLocation) → IsFirstUndetermined a l → IsFirstUndetermined a k → l ≡ k
one-undetermined a l k f g = one-place a l k f.place g.place (no-earlier l k f g) (no-earlier k l g f)
  where
    no-earlier : (l k : FlawLocation) → IsFirstUndetermined a l → IsFirstUndetermined a k → ¬ IsBefore l k
    no-earlier l k f g b = f.differ.4 (g.agree f.differ.0 f.differ.1 f.differ.2 f.differ.3 l f.place b)

-- the classes

abbrev ConflictAt : Item → FlawLocation → WidthReason → Type 0
ConflictAt a l r = (x : ℕ) × (y : ℕ) × (r ≡ Conflict x y) × IsFirstConflict a l x y

abbrev UndeterminedAt : Item → FlawLocation → WidthReason → Type 0
UndeterminedAt a l r = (r ≡ Undetermined) × IsFirstUndetermined a l

abbrev LaterClass : Item → FlawLocation → WidthReason → Type 0
LaterClass a l r = ConflictAt a l r ⊎ (UndeterminedAt a l r ⊎ IsLimitFlaw a l r)

abbrev InClass : Item → FlawLocation → WidthReason → Type 0
InClass a l r = IsShapeFlaw a l r ⊎ (HasShape a × LaterClass a l r)

limit-class : (a : Item) (l : FlawLocation) (r : WidthReason) → IsLimitFlaw a l r → InClass a l r
limit-class a l r f = inr (f.1.shape, inr (inr f))

class-of : (a : Item) (l : FlawLocation) (r : WidthReason) → IsFlawAt a l r → InClass a l r
class-of a l TypedBlock f = inl f
class-of a l FactOnComputed f = inl f
class-of a l BlockAsValue f = inl f
class-of a l PairAsValue f = inl f
class-of a l NotAPair f = inl f
class-of a l BadIndex f = inl f
class-of a l (Conflict x y) f = inr (f.0, inl (x, y, refl, f.1))
class-of a l Undetermined f = inr (f.0, inr (inl (refl, f.1)))
class-of a l NotWider f = limit-class a l NotWider f
class-of a l NotNarrower f = limit-class a l NotNarrower f
class-of a l ByteSwap f = limit-class a l ByteSwap f
class-of a l ConstantTooWide f = limit-class a l ConstantTooWide f
class-of a l BitCount f = limit-class a l BitCount f
class-of a l SignBits f = limit-class a l SignBits f
class-of a l Range f = limit-class a l Range f

no-shape_flaw : (a : Item) (l : FlawLocation) (r : WidthReason) → IsShapeFlaw a l r → HasShape a → ⊥
no-shape_flaw a l r f h = first-not_all (ShapedAt a l) shape_reasons r f.first (h l f.place)

-- a conflict leaves no solution, and two solutions are not the only one

conflict-undetermined : (a : Item) (l k : FlawLocation) (x y : ℕ) → IsFirstConflict a l x y → IsFirstUndetermined a k → ⊥
conflict-undetermined a l k x y f g = f.unsolved g.differ.0 (λ j p b. g.differ.2.holds j p) (g.differ.2.holds l f.place)

conflict-limit : (a : Item) (l k : FlawLocation) (x y : ℕ) (s : WidthReason) → IsFirstConflict a l x y → IsLimitFlaw a k s → ⊥
conflict-limit a l k x y s f g = f.unsolved g.0 (λ j p b. g.1.has.holds j p) (g.1.has.holds l f.place)

undetermined-limit : (a : Item) (l k : FlawLocation) (s : WidthReason) → IsFirstUndetermined a l → IsLimitFlaw a k s → ⊥
undetermined-limit a l k s f g =
    let d = f.differ in
    d.4 (subst (λ (z : WidthMap). AgreeAt d.0 z l) (g.1.only d.0 d.2 ∙ sym (g.1.only d.1 d.3)) (agree-self d.0 l))

one-limit : (a : Item) (l k : FlawLocation) (r s : WidthReason) → IsLimitFlaw a l r → IsLimitFlaw a k s → Same l r k s
one-limit a l k r s f g =
    one-of_class a (KeepsAt a f.0) limit_reasons l k r s f.2 (subst (λ (z : WidthMap). IsFirstOfClass a (KeepsAt a z) limit_reasons k s) (f.1.only g.0 g.1.has) g.2)

one-later : (a : Item) (l k : FlawLocation) (r s : WidthReason) → LaterClass a l r → LaterClass a k s → Same l r k s
one-later a l k r s (inl f) (inl g) =
    let t = one-conflict a l k f.0 f.1 g.0 g.1 f.3 g.3 in
    (t.0, f.2 ∙ ap (λ (z : ℕ). Conflict z f.1) t.1 ∙ ap (λ (z : ℕ). Conflict g.0 z) t.2 ∙ sym g.2)
one-later a l k r s (inl f) (inr (inl g)) = absurd (conflict-undetermined a l k f.0 f.1 f.3 g.1)
one-later a l k r s (inl f) (inr (inr g)) = absurd (conflict-limit a l k f.0 f.1 s f.3 g)
one-later a l k r s (inr (inl f)) (inl g) = absurd (conflict-undetermined a k l g.0 g.1 g.3 f.1)
one-later a l k r s (inr (inl f)) (inr (inl g)) = (one-undetermined a l k f.1 g.1, f.0 ∙ sym g.0)
one-later a l k r s (inr (inl f)) (inr (inr g)) = absurd (undetermined-limit a l k s f.1 g)
one-later a l k r s (inr (inr f)) (inl g) = absurd (conflict-limit a k l g.0 g.1 r g.3 f)
one-later a l k r s (inr (inr f)) (inr (inl g)) = absurd (undetermined-limit a k l r g.1 f)
one-later a l k r s (inr (inr f)) (inr (inr g)) = one-limit a l k r s f g

one-in_class : (a : Item) (l k : FlawLocation) (r s : WidthReason) → InClass a l r → InClass a k s → Same l r k s
one-in_class a l k r s (inl f) (inl g) = one-of_class a (ShapedAt a) shape_reasons l k r s f g
one-in_class a l k r s (inl f) (inr g) = absurd (no-shape_flaw a l r f g.0)
one-in_class a l k r s (inr f) (inl g) = absurd (no-shape_flaw a k s g f.0)
one-in_class a l k r s (inr f) (inr g) = one-later a l k r s f.1 g.1

abbrev flaw_of : FlawLocation → WidthReason → WidthFlaw
flaw_of l r = record { location = l; reason = r }

pub one-flaw : (a : Item) (f g : WidthFlaw) → IsFlawAt a f.location f.reason → IsFlawAt a g.location g.reason → f ≡ g
one-flaw a f g h k =
    let t = one-in_class a f.location g.location f.reason g.reason (class-of a f.location f.reason h) (class-of a g.location g.reason k) in
    ap (λ (z : FlawLocation). flaw_of z f.reason) t.0 ∙ ap (λ (z : WidthReason). flaw_of g.location z) t.1
