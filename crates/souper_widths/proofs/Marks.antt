-- Marks on needed statements, and the first flaw of the shape of these.
use Rattle.std.proofs.Common.{◌≡◌, ◌≢◌, ◌⊎◌, ◌↔◌, ℕ, zero, suc, ◌+◌, ◌<◌, inl, inr, Bool, true, false, List, [], ◌∷◌, ◌++◌, length, map, get_or, take, Option, Some, None, sym, ap, subst, ◌∙◌, arith}
use Rattle.std.specs.Prelude.{slice_get, option_map, IsTrue, MatchOption}
use Rattle.std.specs.List.{AllByRecursion}
use Rattle.std.proofs.Math.ListN.{set, length-set}
use Rattle.std.proofs.lemmas.List.{take_more, get_or-set_other, get_or-set_same}
use Rattle.std.proofs.lemmas.Option.{slice_get-map}
use Rattle.souper_graph.specs.declared.ast.flaws.FlawLocation.TheVariants.{Statement}
use Rattle.souper_graph.specs.declared.ast.statements.Statement.{Statement as StatementNode}
use Rattle.souper_graph.specs.Values.{PlainStatement, Item}
use Rattle.souper_graph.specs.View.{view_statement}
use Rattle.souper_graph.specs.Uses.{Has, NeededIn}
use Rattle.souper_graph.specs.Flaws.{IsBefore}
use Rattle.souper_graph.proofs.Lists.{Has-left, Has-right, Has-cases}
use Rattle.souper_widths.specs.declared.flaws.WidthReason.{WidthReason}
use Rattle.souper_widths.specs.Places.{IsPlace}
use Rattle.souper_widths.specs.Shape.{ShapedStatement, ShapedOptional, ShapedAt, shape_reasons}
use Rattle.souper_widths.specs.Flaws.{IsFirstFailing, IsShapeFlaw}
use Rattle.souper_widths.specs.Nodes.{HaveMarks, MarkNeeded}
use Rattle.souper_widths.proofs.Forests.{one_or_other}
use Rattle.souper_widths.proofs.Locations.{each_location}

pub true-inside : (bs : List Bool) (i : ℕ) → get_or bs i false ≡ true → i < length bs
true-inside [] i h = absurd (cc h)
true-inside (b ∷ bs) zero h = omega arith
true-inside (b ∷ bs) (suc i) h = omega (arith, true-inside bs i h)

mark-cases : (bs : List Bool) (x i : ℕ) → x < length bs → ((i ≡ x) × (get_or (set bs x true) i false ≡ true)) ⊎ ((i ≢ x) × (get_or (set bs x true) i false ≡ get_or bs i false))
mark-cases bs x i h = elim (one_or_other i x) [
  | inl e ↦ inl (e, ap (λ (z : ℕ). get_or (set bs x true) z false) e ∙ get_or-set_same bs x true false h)
  | inr ne ↦ inr (ne, get_or-set_other bs x i true false ne)
]

-- one more position is marked
mark-added : (bs : List Bool) (ids : List ℕ) (count x : ℕ) → x < count → HaveMarks bs ids count → HaveMarks (set bs x true) (ids ++ x ∷ []) count
mark-added bs ids count x l h = record { size = length-set bs x true ∙ h.size; exact = λ i. (to i, back i) }
  where
    within : x < length bs
    within = omega (arith, l, h.size)

    to : (i : ℕ) → get_or (set bs x true) i false ≡ true → Has (ids ++ x ∷ []) i
    to i e = elim (mark-cases bs x i within) [
      | inl t ↦ Has-right ids (x ∷ []) i (inl (sym t.0))
      | inr t ↦ Has-left ids (x ∷ []) i ((h.exact i).0 (sym t.1 ∙ e))
    ]

    back : (i : ℕ) → Has (ids ++ x ∷ []) i → get_or (set bs x true) i false ≡ true
    back i k = elim (mark-cases bs x i within) [
      | inl t ↦ t.1
      | inr t ↦ t.1 ∙ elim (Has-cases ids (x ∷ []) i k) [
        | inl q ↦ (h.exact i).1 q
        | inr q ↦ elim q [ inl e ↦ absurd (t.0 (sym e)) | inr e ↦ absurd e ]
      ]
    ]

pub mark-step : (bs : List Bool) (ids : List ℕ) (count k x : ℕ) → k < length ids → x ≡ get_or ids k x → x < count → HaveMarks bs (take k ids) count → HaveMarks (set bs x true) (take (k + 1) ids) count
mark-step bs ids count k x l e below h =
    subst (λ (z : List ℕ). HaveMarks (set bs x true) z count) (sym (take_more ids k x l ∙ ap (λ (z : ℕ). take k ids ++ z ∷ []) (sym e))) (mark-added bs (take k ids) count x below h)

-- marks on the needed positions are on the needed statements
pub marks-needed : (a : Item) (bs : List Bool) (ids : List ℕ) (count : ℕ) → count ≡ length a.statements → ((i : ℕ) → Has ids i ↔ NeededIn a i) → HaveMarks bs ids count → MarkNeeded a bs
marks-needed a bs ids count e exact h = record {
  size = h.size ∙ e;
  exact = λ p. ((λ m. (exact p).0 ((h.exact p).0 m)), (λ n. (h.exact p).1 ((exact p).1 n)));
}

-- what stands at a position of the view
pub viewed-at : (xs : List StatementNode) (i : ℕ) (o : Option StatementNode) → slice_get xs i ≡ o → slice_get (map view_statement xs) i ≡ option_map view_statement o
viewed-at xs i o e = slice_get-map view_statement xs i ∙ ap (option_map view_statement) e

pub some-shape : (ss : List PlainStatement) (o : Option PlainStatement) (s : PlainStatement) (b : Bool) (r : Option WidthReason) → o ≡ Some s → b ≡ true
    → MatchOption r (AllByRecursion (ShapedStatement ss s) shape_reasons) (λ q. IsFirstFailing (ShapedStatement ss s) shape_reasons q)
    → MatchOption r (IsTrue b → AllByRecursion (ShapedOptional ss o) shape_reasons) (λ q. IsTrue b × IsFirstFailing (ShapedOptional ss o) shape_reasons q)
some-shape ss o s b None e t h = λ _. subst (λ (z : Option PlainStatement). AllByRecursion (ShapedOptional ss z) shape_reasons) (sym e) h
some-shape ss o s b (Some r) e t h = (t, subst (λ (z : Option PlainStatement). IsFirstFailing (ShapedOptional ss z) shape_reasons r) (sym e) h)

pub none-shape : (ss : List PlainStatement) (o : Option PlainStatement) → o ≡ None → AllByRecursion (ShapedOptional ss o) shape_reasons
none-shape ss o e = subst (λ (z : Option PlainStatement). AllByRecursion (ShapedOptional ss z) shape_reasons) (sym e) (tt, (tt, (tt, (tt, (tt, (tt, tt))))))

pub shape-flaw : (a : Item) (n : ℕ) (r : WidthReason) → NeededIn a n → IsFirstFailing (ShapedAt a (Statement n)) shape_reasons r
    → ((p : ℕ) → NeededIn a p → p < n → AllByRecursion (ShapedAt a (Statement p)) shape_reasons) → IsShapeFlaw a (Statement n) r
shape-flaw a n r needed first before = record {
  place = needed;
  first = first;
  before = each_location (λ k. IsPlace a k → IsBefore k (Statement n) → AllByRecursion (ShapedAt a k) shape_reasons) before (λ h b. absurd b) (λ h b. absurd b) (λ h b. absurd b);
}

-- one more statement has a shape
pub shape-more : (a : Item) (n : ℕ) → (NeededIn a n → AllByRecursion (ShapedAt a (Statement n)) shape_reasons)
    → ((p : ℕ) → NeededIn a p → p < n → AllByRecursion (ShapedAt a (Statement p)) shape_reasons) → (p : ℕ) → NeededIn a p → p < n + 1 → AllByRecursion (ShapedAt a (Statement p)) shape_reasons
shape-more a n here before p needed l = elim (one_or_other p n) [
  | inl e ↦ subst (λ (z : ℕ). AllByRecursion (ShapedAt a (Statement z)) shape_reasons) (sym e) (here (subst (NeededIn a) e needed))
  | inr ne ↦ before p needed (omega (arith, ne, l))
]
