-- Marks on needed statements, as the code makes and reads them.
use Rattle.std.proofs.Common.{◌≡◌, ◌≢◌, ◌⊎◌, ◌↔◌, ℕ, zero, suc, ◌+◌, ◌<◌, ◌≤◌, inl, inr, Bool, true, false, List, [], ◌∷◌, ◌++◌, length, take, get_or, refl, sym, ap, subst, ◌∙◌, arith}
use Rattle.std.proofs.Math.ListN.{set, length-set}
use Rattle.std.proofs.lemmas.List.{take_more, get_or-set_other, get_or-set_same}
use Rattle.std.proofs.lemmas.Bool.{false≢true}
use Rattle.std.proofs.lemmas.Bool.Decides.{eqb_tells}
use Rattle.souper_graph.specs.Values.{Item}
use Rattle.souper_graph.specs.Uses.{Has, NeededIn}
use Rattle.souper_graph.proofs.Lists.{Has-left, Has-right, Has-cases}
use Rattle.souper_widths.specs.Nodes.{HaveMarks, MarkNeeded}
use Rattle.souper_meaning.specs.Evaluable.{HoldsNeeded}
use Rattle.souper_meaning.specs.Plans.{HoldsBelow}

-- marks that the code makes

mark_cases : (bs : List Bool) (x i : ℕ) → x < length bs → ((i ≡ x) × (get_or (set bs x true) i false ≡ true)) ⊎ ((i ≢ x) × (get_or (set bs x true) i false ≡ get_or bs i false))
mark_cases bs x i h = elim (eqb_tells i x) [
  | inl t ↦ inl (t.1, ap (λ (z : ℕ). get_or (set bs x true) z false) t.1 ∙ get_or-set_same bs x true false h)
  | inr t ↦ inr (t.1, get_or-set_other bs x i true false t.1)
]

mark_added : (bs : List Bool) (ids : List ℕ) (count x : ℕ) → x < count → HaveMarks bs ids count → HaveMarks (set bs x true) (ids ++ x ∷ []) count
mark_added bs ids count x l h = record { size = length-set bs x true ∙ h.size; exact = λ i. (to i, back i) }
  where
    within : x < length bs
    within = omega (arith, l, h.size)

    to : (i : ℕ) → get_or (set bs x true) i false ≡ true → Has (ids ++ x ∷ []) i
    to i e = elim (mark_cases bs x i within) [
      | inl t ↦ Has-right ids (x ∷ []) i (inl (sym t.0))
      | inr t ↦ Has-left ids (x ∷ []) i ((h.exact i).0 (sym t.1 ∙ e))
    ]

    back : (i : ℕ) → Has (ids ++ x ∷ []) i → get_or (set bs x true) i false ≡ true
    back i k = elim (mark_cases bs x i within) [
      | inl t ↦ t.1
      | inr t ↦ t.1 ∙ elim (Has-cases ids (x ∷ []) i k) [
        | inl q ↦ (h.exact i).1 q
        | inr q ↦ elim q [ inl e ↦ absurd (t.0 (sym e)) | inr e ↦ absurd e ]
      ]
    ]

pub mark_step : (bs : List Bool) (ids : List ℕ) (count k x : ℕ) → k < length ids → x ≡ get_or ids k x → x < count → HaveMarks bs (take k ids) count → HaveMarks (set bs x true) (take (k + 1) ids) count
mark_step bs ids count k x l e below h =
    subst (λ (z : List ℕ). HaveMarks (set bs x true) z count) (sym (take_more ids k x l ∙ ap (λ (z : ℕ). take k ids ++ z ∷ []) (sym e))) (mark_added bs (take k ids) count x below h)

pub marks_needed : (a : Item) (bs : List Bool) (ids : List ℕ) (count : ℕ) → count ≡ length a.statements → ((i : ℕ) → Has ids i ↔ NeededIn a i) → HaveMarks bs ids count → MarkNeeded a bs
marks_needed a bs ids count e exact h = record {
  size = h.size ∙ e;
  exact = λ p. ((λ m. (exact p).0 ((h.exact p).0 m)), (λ n. (h.exact p).1 ((exact p).1 n)));
}

-- what the code tests of marked statements

pub marked_inside : (bs : List Bool) (i : ℕ) → get_or bs i false ≡ true → i < length bs
marked_inside [] i h = absurd (cc h)
marked_inside (b ∷ bs) zero h = omega arith
marked_inside (b ∷ bs) (suc i) h = omega (arith, marked_inside bs i h)

-- a test that fails is of a marked statement
pub test_fails : (b : Bool) (H : Type 0) → ¬ (b ≡ true → H) → (b ≡ true) × ¬ H
test_fails true H n = (refl, λ h. n (λ e. h))
test_fails false H n = absurd (n (λ e. absurd (false≢true e)))

pub holds_more : (a : Item) (P : ℕ → Type 0) (n : ℕ) → (NeededIn a n → P n) → HoldsBelow a P n → HoldsBelow a P (n + 1)
holds_more a P n here before p d l = elim (eqb_tells p n) [
  | inl t ↦ subst P (sym t.1) (here (subst (NeededIn a) t.1 d))
  | inr t ↦ before p d (omega (arith, t.1, l))
]

pub holds_all : (a : Item) (P : ℕ → Type 0) (bs : List Bool) (n : ℕ) → MarkNeeded a bs → length bs ≤ n → HoldsBelow a P n → HoldsNeeded a P
holds_all a P bs n k l h = λ p d. h p d (omega (arith, l, marked_inside bs p ((k.exact p).1 d)))
