-- Marks on the needed statements, from the last position to the first.
use Rattle.std.proofs.Common.{◌≡◌, ◌≢◌, ◌⊎◌, ◌↔◌, ℕ, zero, suc, ◌+◌, ◌<◌, ◌≤◌, inl, inr, Bool, true, false, cond, List, [], ◌∷◌, ◌++◌, length, map, get_or, take, drop, Some, None, replicate, refl, sym, ap, subst, ◌∙◌, append_assoc, arith}
use Rattle.std.specs.Prelude.{slice_get}
use Rattle.std.proofs.Math.ListN.{set, length-set}
use Rattle.std.proofs.lemmas.List.{append-nil, map-append, take_more, take_all, get_or-set_other, get_or-set_same}
use Rattle.std.proofs.lemmas.List.Concat.{flat_map-append}
use Rattle.souper_graph.specs.declared.ast.operands.Operand.{Operand}
use Rattle.souper_graph.specs.declared.ast.operands.Operand.TheVariants.{Value, Constant}
use Rattle.souper_graph.specs.Values.{PlainStatement, Ending, inferred, resulting, replaced, candidate, Item}
use Rattle.souper_graph.specs.PartsView.{root_operands}
use Rattle.souper_graph.specs.Uses.{Has, Use, position_of, uses_of_operand, uses_of_operands, used_at, is_condition, conditions_from, conditions, first_roots, last_roots, roots_of, first_walks, walks_of, walked, used, NeededIn}
use Rattle.souper_graph.specs.WellFormed.{WellFormed}
use Rattle.souper_graph.proofs.Lists.{Has-left, Has-right, Has-cases, Has-map, Has-mapped, Has-none}
use Rattle.souper_graph.proofs.Conditions.{conditions-inside}
use Rattle.souper_graph.proofs.Judging.Needed.{in-conditions, root-walked, well_formed_below, well_formed_inside, met-inside}
use Rattle.souper_widths.specs.Nodes.{MarkNeeded}
use Rattle.souper_widths.specs.Marking.{AddsMarks, MarkFrom}
use Rattle.souper_widths.proofs.Forests.{one_or_other}

mark-cases : (bs : List Bool) (x i : ℕ) → x < length bs → ((i ≡ x) × (get_or (set bs x true) i false ≡ true)) ⊎ ((i ≢ x) × (get_or (set bs x true) i false ≡ get_or bs i false))
mark-cases bs x i h = elim (one_or_other i x) [
  | inl e ↦ inl (e, ap (λ (z : ℕ). get_or (set bs x true) z false) e ∙ get_or-set_same bs x true false h)
  | inr ne ↦ inr (ne, get_or-set_other bs x i true false ne)
]

-- no position yet
pub marks-none : (bs : List Bool) → AddsMarks bs bs []
marks-none bs = record { size = refl; exact = λ i. ((λ e. inl e), (λ h. elim h [ inl e ↦ e | inr n ↦ absurd n ])) }

-- one more position
pub marks-one : (old bs : List Bool) (ids : List ℕ) (x : ℕ) → x < length bs → AddsMarks old bs ids → AddsMarks old (set bs x true) (ids ++ x ∷ [])
marks-one old bs ids x within h = record { size = length-set bs x true ∙ h.size; exact = λ i. (to i, back i) }
  where
    to : (i : ℕ) → get_or (set bs x true) i false ≡ true → (get_or old i false ≡ true) ⊎ Has (ids ++ x ∷ []) i
    to i e = elim (mark-cases bs x i within) [
      | inl t ↦ inr (Has-right ids (x ∷ []) i (inl (sym t.0)))
      | inr t ↦ elim ((h.exact i).0 (sym t.1 ∙ e)) [
        | inl o ↦ inl o
        | inr k ↦ inr (Has-left ids (x ∷ []) i k)
      ]
    ]

    before : (i : ℕ) → (get_or old i false ≡ true) ⊎ Has ids i → get_or (set bs x true) i false ≡ true
    before i k = elim (mark-cases bs x i within) [
      | inl t ↦ t.1
      | inr t ↦ t.1 ∙ (h.exact i).1 k
    ]

    here : get_or (set bs x true) x false ≡ true
    here = get_or-set_same bs x true false within

    back : (i : ℕ) → (get_or old i false ≡ true) ⊎ Has (ids ++ x ∷ []) i → get_or (set bs x true) i false ≡ true
    back i (inl o) = before i (inl o)
    back i (inr k) = elim (Has-cases ids (x ∷ []) i k) [
      | inl q ↦ before i (inr q)
      | inr q ↦ elim q [ inl e ↦ subst (λ (z : ℕ). get_or (set bs x true) z false ≡ true) e here | inr n ↦ absurd n ]
    ]

-- the first of the positions that are left is one of all
pub has-next : (before rest : List ℕ) (x : ℕ) (whole : List ℕ) → before ++ x ∷ rest ≡ whole → Has whole x
has-next before rest x whole e = subst (λ (z : List ℕ). Has z x) e (Has-right before (x ∷ rest) x (inl refl))

-- it is marked next
pub marks-next_use : (old bs : List Bool) (before rest : List ℕ) (x : ℕ) (whole : List ℕ) → x < length bs → before ++ x ∷ rest ≡ whole → AddsMarks old bs before
    → (more : List ℕ) × (more ++ rest ≡ whole) × AddsMarks old (set bs x true) more
marks-next_use old bs before rest x whole within e h = (before ++ x ∷ [], append_assoc before (x ∷ []) rest ∙ e, marks-one old bs before x within h)

-- positions that are marked one after another
marks-both : (x y z : List Bool) (is js : List ℕ) → AddsMarks x y is → AddsMarks y z js → AddsMarks x z (is ++ js)
marks-both x y z is js a b = record { size = b.size ∙ a.size; exact = λ i. (to i, back i) }
  where
    to : (i : ℕ) → get_or z i false ≡ true → (get_or x i false ≡ true) ⊎ Has (is ++ js) i
    to i e = elim ((b.exact i).0 e) [
      | inl o ↦ elim ((a.exact i).0 o) [ inl q ↦ inl q | inr k ↦ inr (Has-left is js i k) ]
      | inr k ↦ inr (Has-right is js i k)
    ]

    back : (i : ℕ) → (get_or x i false ≡ true) ⊎ Has (is ++ js) i → get_or z i false ≡ true
    back i (inl o) = (b.exact i).1 (inl ((a.exact i).1 (inl o)))
    back i (inr k) = elim (Has-cases is js i k) [
      | inl q ↦ (b.exact i).1 (inl ((a.exact i).1 (inr q)))
      | inr q ↦ (b.exact i).1 (inr q)
    ]

-- the uses of one more operand
pub marks-operand : (x y z : List Bool) (xs : List Operand) (i : ℕ) (d a : Operand) → i < length xs → a ≡ get_or xs i d → AddsMarks x y (map position_of (uses_of_operands (take i xs))) → AddsMarks y z (map position_of (uses_of_operand a)) → AddsMarks x z (map position_of (uses_of_operands (take (i + 1) xs)))
marks-operand x y z xs i d a l e h k =
    subst (AddsMarks x z)
    (sym (map-append position_of (uses_of_operands (take i xs)) (uses_of_operand a))
    ∙ ap (λ (us : List Use). map position_of (uses_of_operands (take i xs) ++ us)) (sym (append-nil (uses_of_operand a)))
    ∙ ap (map position_of) (sym (flat_map-append uses_of_operand (take i xs) (a ∷ [])))
    ∙ ap (λ (b : Operand). map position_of (uses_of_operands (take i xs ++ b ∷ []))) e
    ∙ ap (λ (ys : List Operand). map position_of (uses_of_operands ys)) (sym (take_more xs i d l)))
    (marks-both x y z (map position_of (uses_of_operands (take i xs))) (map position_of (uses_of_operand a)) h k)

same_value : (i j : ℕ) → Value i ≡ Value j → i ≡ j
same_value i j e = cc

-- an operand that is a value is used
pub root-use : (xs : List Operand) (k : ℕ) (d : Operand) (i : ℕ) → k < length xs → get_or xs k d ≡ Value i → Has (map position_of (uses_of_operands xs)) i
root-use [] k d i l e = absurd (omega arith)
root-use (Value j ∷ xs) zero d i l e = inl (same_value j i e)
root-use (Constant c ∷ xs) zero d i l e = absurd (cc)
root-use (Value j ∷ xs) (suc k) d i l e = inr (root-use xs k d i (omega arith) e)
root-use (Constant c ∷ xs) (suc k) d i l e = root-use xs k d i (omega arith) e

-- the roots are the operands of the last lines that are values
pub roots-are : (e : Ending) → uses_of_operands (root_operands e) ≡ roots_of e
roots-are (inferred i) = refl
roots-are (resulting (Value v)) = refl
roots-are (resulting (Constant c)) = refl
roots-are (replaced i (Value v)) = refl
roots-are (replaced i (Constant c)) = refl
roots-are (candidate c) = candidates c.lhs c.rhs
  where
    candidates : (x y : Operand) → uses_of_operands (x ∷ y ∷ []) ≡ (uses_of_operand x ++ uses_of_operand y) ++ []
    candidates (Value v) (Value w) = refl
    candidates (Value v) (Constant d) = refl
    candidates (Constant d) (Value w) = refl
    candidates (Constant d) (Constant e) = refl

pub roots-inside : (a : Item) → WellFormed a → (i : ℕ) → Has (map position_of (roots_of a.ending)) i → i < length a.statements
roots-inside a w i h =
    let r = Has-mapped position_of (roots_of a.ending) i h in
    subst (λ (z : ℕ). z < length a.statements) r.2 (met-inside a.statements r.0 (w.roots_met r.0 r.1))

pub length-unmarked : (n : ℕ) → length (replicate n false) ≡ n
length-unmarked zero = refl
length-unmarked (suc n) = omega (arith, length-unmarked n)

unmarked : (n i : ℕ) → get_or (replicate n false) i false ≡ true → ⊥
unmarked zero i e = absurd (cc)
unmarked (suc n) zero e = absurd (cc)
unmarked (suc n) (suc i) e = unmarked n i e

-- the roots are marked, and nothing else
pub marks-roots : (a : Item) (n : ℕ) (marks : List Bool) → WellFormed a → length (replicate n false) ≡ length a.statements
    → AddsMarks (replicate n false) marks (map position_of (roots_of a.ending)) → MarkFrom a (length a.statements) marks
marks-roots a n marks w size h = record {
  size = h.size ∙ size;
  needed = λ i e. elim ((h.exact i).0 e) [
    | inl o ↦ absurd (unmarked n i o)
    | inr k ↦ (let r = Has-mapped position_of (roots_of a.ending) i k in subst (NeededIn a) r.2 (root-walked a r.0 r.1))
  ];
  roots = λ i k. (h.exact i).1 (inr k);
  conditions = λ i l k. (let below = conditions-inside a.statements 0 i k in absurd (omega (arith, l, below)));
  uses = λ i j l n k. (let below = well_formed_inside a w i n in absurd (omega (arith, l, below)));
}

-- path conditions by position

under : (b : Bool) (k : ℕ) (z : List ℕ) → b ≡ true → Has (cond b (k ∷ z) z) k
under true k z e = inl refl
under false k z e = absurd (cc)

further : (b : Bool) (k i : ℕ) (z : List ℕ) → Has z i → Has (cond b (k ∷ z) z) i
further true k i z h = inr h
further false k i z h = h

has_under : (b : Bool) (k i : ℕ) (z : List ℕ) → Has (cond b (k ∷ z) z) i → ((k ≡ i) × (b ≡ true)) ⊎ Has z i
has_under true k i z (inl e) = inl (e, refl)
has_under true k i z (inr h) = inr h
has_under false k i z h = inr h

same_some : (x y : PlainStatement) → Some x ≡ Some y → x ≡ y
same_some x y e = cc

condition-found : (ss : List PlainStatement) (k n : ℕ) (s : PlainStatement) → slice_get ss n ≡ Some s → is_condition s ≡ true → Has (conditions_from k ss) (k + n)
condition-found [] k n s e t = absurd (cc)
condition-found (x ∷ ss) k zero s e t =
    let q : k ≡ k + 0 = omega arith in
    subst (λ (z : ℕ). Has (conditions_from k (x ∷ ss)) z) q (under (is_condition x) k (conditions_from (suc k) ss) (ap is_condition (same_some x s e) ∙ t))
condition-found (x ∷ ss) k (suc n) s e t =
    let q : suc k + n ≡ k + suc n = omega arith in
    further (is_condition x) k (k + suc n) (conditions_from (suc k) ss)
    (subst (λ (z : ℕ). Has (conditions_from (suc k) ss) z) q (condition-found ss (suc k) n s e t))

conditions-above : (ss : List PlainStatement) (k i : ℕ) → Has (conditions_from k ss) i → k ≤ i
conditions-above [] k i h = absurd (Has-none i h)
conditions-above (x ∷ ss) k i h = elim (has_under (is_condition x) k i (conditions_from (suc k) ss) h) [
  | inl e ↦ omega (arith, e.0)
  | inr r ↦ (let q = conditions-above ss (suc k) i r in omega (arith, q))
]

condition-is : (ss : List PlainStatement) (k n : ℕ) (s : PlainStatement) → slice_get ss n ≡ Some s → Has (conditions_from k ss) (k + n) → is_condition s ≡ true
condition-is [] k n s e h = absurd (cc)
condition-is (x ∷ ss) k zero s e h = elim (has_under (is_condition x) k (k + 0) (conditions_from (suc k) ss) h) [
  | inl t ↦ ap is_condition (sym (same_some x s e)) ∙ t.1
  | inr r ↦ (let q = conditions-above ss (suc k) (k + 0) r in absurd (omega (arith, q)))
]
condition-is (x ∷ ss) k (suc n) s e h = elim (has_under (is_condition x) k (k + suc n) (conditions_from (suc k) ss) h) [
  | inl t ↦ absurd (let q = t.0 in omega (arith, q))
  | inr r ↦ (let q : k + suc n ≡ suc k + n = omega arith in condition-is ss (suc k) n s e (subst (λ (z : ℕ). Has (conditions_from (suc k) ss) z) q r))
]

pub condition-needed : (a : Item) (p : ℕ) (s : PlainStatement) → slice_get a.statements p ≡ Some s → is_condition s ≡ true → NeededIn a p
condition-needed a p s e t =
    let q : 0 + p ≡ p = omega arith in
    walked (in-conditions a p (subst (λ (z : ℕ). Has (conditions a) z) q (condition-found a.statements 0 p s e t)))

-- what is needed is a root, a path condition, or used by something needed
needed-by : (a : Item) (i : ℕ) → NeededIn a i → Has (map position_of (roots_of a.ending)) i ⊎ (Has (conditions a) i ⊎ ((j : ℕ) × NeededIn a j × Has (used_at a.statements j) i))
needed-by a i (walked h) = elim (Has-cases (first_walks a) (map position_of (last_roots a.ending)) i h) [
  | inl p ↦ elim (Has-cases (map position_of (first_roots a.ending)) (conditions a) i p) [
    | inl q ↦ (let r = Has-mapped position_of (first_roots a.ending) i q in
        inl (subst (Has (map position_of (roots_of a.ending))) r.2 (Has-map position_of (roots_of a.ending) r.0 (Has-left (first_roots a.ending) (last_roots a.ending) r.0 r.1))))
    | inr q ↦ inr (inl q)
  ]
  | inr p ↦ (let r = Has-mapped position_of (last_roots a.ending) i p in
      inl (subst (Has (map position_of (roots_of a.ending))) r.2 (Has-map position_of (roots_of a.ending) r.0 (Has-right (first_roots a.ending) (last_roots a.ending) r.0 r.1))))
]
needed-by a i (used {i = j} d h) = inr (inr (j, d, h))

-- the marks so far have each needed position from p on
marked-needed : (a : Item) (p i : ℕ) (marks : List Bool) → WellFormed a → MarkFrom a (p + 1) marks → p ≤ i → NeededIn a i → (get_or marks i false ≡ true) ⊎ (Has (conditions a) i × (i ≡ p))
marked-needed a p i marks w h l n = elim (needed-by a i n) [
  | inl r ↦ inl (h.roots i r)
  | inr q ↦ elim q [
    | inl c ↦ elim (one_or_other i p) [
      | inl e ↦ inr (c, e)
      | inr ne ↦ inl (h.conditions i (omega (arith, ne, l)) c)
    ]
    | inr t ↦ (let below = well_formed_below a w t.0 i t.1 t.2 in inl (h.uses t.0 i (omega (arith, below, l)) t.1 t.2))
  ]
]

-- the statement at p is needed, and what it uses is marked
pub marks-next : (a : Item) (p : ℕ) (old new : List Bool) → p < length old → NeededIn a p → MarkFrom a (p + 1) old → AddsMarks (set old p true) new (used_at a.statements p) → MarkFrom a p new
marks-next a p old new within n h more = record {
  size = more.size ∙ length-set old p true ∙ h.size;
  needed = λ i e. elim ((more.exact i).0 e) [
    | inl o ↦ elim (mark-cases old p i within) [
      | inl t ↦ subst (NeededIn a) (sym t.0) n
      | inr t ↦ h.needed i (sym t.1 ∙ o)
    ]
    | inr k ↦ used n k
  ];
  roots = λ i k. stays i (h.roots i k);
  conditions = λ i l k. elim (one_or_other i p) [
    | inl e ↦ subst (λ (z : ℕ). get_or new z false ≡ true) (sym e) here
    | inr ne ↦ stays i (h.conditions i (omega (arith, ne, l)) k)
  ];
  uses = λ i j l d k. elim (one_or_other i p) [
    | inl e ↦ (more.exact j).1 (inr (subst (λ (z : ℕ). Has (used_at a.statements z) j) e k))
    | inr ne ↦ stays j (h.uses i j (omega (arith, ne, l)) d k)
  ];
}
  where
    here : get_or new p false ≡ true
    here = (more.exact p).1 (inl (get_or-set_same old p true false within))

    stays : (i : ℕ) → get_or old i false ≡ true → get_or new i false ≡ true
    stays i e = (more.exact i).1 (inl (elim (mark-cases old p i within) [ inl t ↦ t.1 | inr t ↦ t.1 ∙ e ]))

-- the statement at p is not marked and no path condition
pub marks-skip : (a : Item) (p : ℕ) (s : PlainStatement) (marks : List Bool) → WellFormed a → slice_get a.statements p ≡ Some s → get_or marks p false ≡ false → is_condition s ≡ false → MarkFrom a (p + 1) marks → MarkFrom a p marks
marks-skip a p s marks w stands off plain h = record {
  size = h.size;
  needed = h.needed;
  roots = h.roots;
  conditions = λ i l k. elim (one_or_other i p) [
    | inl e ↦ absurd (no-condition (subst (λ (z : ℕ). Has (conditions a) z) e k))
    | inr ne ↦ h.conditions i (omega (arith, ne, l)) k
  ];
  uses = λ i j l d k. elim (one_or_other i p) [
    | inl e ↦ absurd (not-needed (subst (NeededIn a) e d))
    | inr ne ↦ h.uses i j (omega (arith, ne, l)) d k
  ];
}
  where
    no-condition : Has (conditions a) p → ⊥
    no-condition k =
        let q : p ≡ 0 + p = omega arith in
        let t = condition-is a.statements 0 p s stands (subst (λ (z : ℕ). Has (conditions a) z) q k) in
        absurd (cc (t, plain))

    not-needed : NeededIn a p → ⊥
    not-needed n = elim (marked-needed a p p marks w h (omega arith) n) [
      | inl e ↦ absurd (cc (e, off))
      | inr t ↦ no-condition t.0
    ]

pub marks-all : (a : Item) (marks : List Bool) → MarkFrom a 0 marks → MarkNeeded a marks
marks-all a marks h = record {
  size = h.size;
  exact = λ p. (h.needed p, back p);
}
  where
    back : (p : ℕ) → NeededIn a p → get_or marks p false ≡ true
    back p n = elim (needed-by a p n) [
      | inl r ↦ h.roots p r
      | inr q ↦ elim q [
        | inl c ↦ h.conditions p (omega arith) c
        | inr t ↦ h.uses t.0 p (omega arith) t.1 t.2
      ]
    ]

past-all : (xs : List Bool) (n : ℕ) → length xs ≤ n → drop n xs ≡ []
past-all [] zero h = refl
past-all [] (suc n) h = refl
past-all (x ∷ xs) zero h = absurd (omega arith)
past-all (x ∷ xs) (suc n) h = past-all xs n (omega arith)

-- what is put into a list of its length is the list then
pub put-whole : (new old : List Bool) (n : ℕ) → length new ≡ length old → length old ≡ n → take n (new ++ drop (length new) old) ≡ new
put-whole new old n e f =
    ap (λ (z : List Bool). take n (new ++ z)) (past-all old (length new) (omega (arith, e))) ∙ ap (λ (z : List Bool). take n z) (append-nil new) ∙ take_all n new (omega (arith, e, f))
