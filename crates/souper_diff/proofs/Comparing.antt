-- Texts that come part by part, compared.
use Rattle.std.proofs.Common.{◌≡◌, ◌⊎◌, inl, inr, ℕ, ◌+◌, ◌-◌, ◌^◌, ◌<◌, Bool, true, false, cond, List, [], ◌∷◌, ◌++◌, length, take, drop, refl, sym, ap, ◌∙◌, arith, append_assoc, take-append-drop, length-append, ◌==◌, min, MatchBool}
use Rattle.std.proofs.lemmas.List.{append_cancel_left}
use Rattle.std.proofs.lemmas.List.Sums.{sum_by-append, count_by-le-length}
use Rattle.souper_diff.specs.declared.comparison.Comparison.{Comparison}
use Rattle.souper_diff.specs.Comparisons.{line_ends, FirstDiffer, OneIsEmpty, DifferFrom, AgreeUpTo, IsCompared}

first_longer : (a b x y : List ℕ) → FirstDiffer a b → FirstDiffer (a ++ x) (b ++ y)
first_longer [] b x y h = absurd h
first_longer (a ∷ xs) [] x y h = absurd h
first_longer (a ∷ xs) (b ∷ ys) x y h = h

first_not : (a b : List ℕ) → FirstDiffer a b → ¬ (a ≡ b)
first_not [] b h e = absurd h
first_not (a ∷ xs) [] h e = absurd h
first_not (a ∷ xs) (b ∷ ys) h e = h cc

line_ends-append : (xs ys : List ℕ) → line_ends (xs ++ ys) ≡ line_ends xs + line_ends ys
line_ends-append xs ys = sum_by-append (λ b. cond (b == 10) 1 0) xs ys

-- more comes of texts that differ
pub compared_differs : (c : Comparison) (before others text other : List ℕ) → c.differs ≡ true → IsCompared c before others → IsCompared c (before ++ text) (others ++ other)
compared_differs c before others text other bad h = record {
  same = h.same;
  rest = h.rest ++ text;
  more = h.more ++ other;
  text_is = ap (λ (x : List ℕ). x ++ text) h.text_is ∙ append_assoc h.same h.rest text;
  other_is = ap (λ (x : List ℕ). x ++ other) h.other_is ∙ append_assoc h.same h.more other;
  line_is = h.line_is;
  kept = rw bad (first_longer h.rest h.more text other (rw bad at h.kept));
}

-- more comes of texts that agreed so far: what is held of them agrees up to `len`
pub compared_more : (old new : Comparison) (before others text other held held_other : List ℕ) (len lines : ℕ) → IsCompared old before others → old.differs ≡ false → held ≡ old.text.items ++ text → held_other ≡ old.other.items ++ other
    → AgreeUpTo held held_other len new.differs → lines ≡ line_ends (take len held) → new.line ≡ min (old.line + lines) (2 ^ 64 - 1) → new.text.items ≡ drop len held → new.other.items ≡ drop len held_other → IsCompared new (before ++ text) (others ++ other)
compared_more old new before others text other held held_other len lines h good held_is other_is agree lines_are line text_left other_left =
    let k = rw good at h.kept in
    let front = take len held in
    let whole : (base rest more all : List ℕ) → base ≡ h.same ++ rest → all ≡ rest ++ more → take len all ≡ front → base ++ more ≡ (h.same ++ front) ++ drop len all =
    λ base rest more all base_is all_is front_is. ap (λ (x : List ℕ). x ++ more) base_is ∙ append_assoc h.same rest more ∙ ap (λ (x : List ℕ). h.same ++ x) (sym all_is ∙ sym (take-append-drop len all) ∙ ap (λ (x : List ℕ). x ++ drop len all) front_is) ∙ sym (append_assoc h.same front (drop len all)) in
    let before_line = h.line_is in
    let counts = line_ends-append h.same front in
    record {
      same = h.same ++ front;
      rest = drop len held;
      more = drop len held_other;
      text_is = whole before h.rest text held h.text_is (held_is ∙ ap (λ (x : List ℕ). x ++ text) k.0) refl;
      other_is = whole others h.more other held_other h.other_is (other_is ∙ ap (λ (x : List ℕ). x ++ other) k.1) agree.same;
      line_is = omega arith;
      kept = keeps new.differs agree.apart;
    }
  where
    keeps : (b : Bool) → MatchBool b (FirstDiffer (drop len held) (drop len held_other)) (OneIsEmpty (drop len held) (drop len held_other))
        → MatchBool b (FirstDiffer (drop len held) (drop len held_other)) ((new.text.items ≡ drop len held) × (new.other.items ≡ drop len held_other) × OneIsEmpty (drop len held) (drop len held_other))
    keeps true first = first
    keeps false one = (text_left, other_left, one)

-- ---- the end

pub compared_same : (c : Comparison) (text other : List ℕ) → IsCompared c text other → c.differs ≡ false → c.text.items ≡ [] → c.other.items ≡ [] → text ≡ other
compared_same c text other h good none none_other = let k = rw good at h.kept in h.text_is ∙ ap (λ (x : List ℕ). h.same ++ x) (sym k.0 ∙ none ∙ sym none_other ∙ k.1) ∙ sym h.other_is

pub compared_apart : (c : Comparison) (text other : List ℕ) → IsCompared c text other → (c.differs ≡ false → (c.text.items ≡ []) × (c.other.items ≡ []) → ⊥) → DifferFrom text other c.line
compared_apart c text other h some = (unlike, λ small. (unlike, h.same, h.rest, h.more, h.text_is, h.other_is, begun.0, exact small))
  where
    under : (b : Bool) → c.differs ≡ b → MatchBool b (FirstDiffer h.rest h.more) ((c.text.items ≡ h.rest) × (c.other.items ≡ h.more) × OneIsEmpty h.rest h.more) → (FirstDiffer h.rest h.more ⊎ OneIsEmpty h.rest h.more) × ¬ (h.rest ≡ h.more)
    under true e first = (inl first, first_not h.rest h.more first)
    under false e (text_is, other_is, one) = (inr one, λ same. elim one [ inl none ↦ some e (text_is ∙ none, other_is ∙ sym same ∙ none) | inr none ↦ some e (text_is ∙ same ∙ none, other_is ∙ none) ])

    begun : (FirstDiffer h.rest h.more ⊎ OneIsEmpty h.rest h.more) × ¬ (h.rest ≡ h.more)
    begun = under c.differs refl h.kept

    unlike : ¬ (text ≡ other)
    unlike e = begun.1 (append_cancel_left h.same h.rest h.more (sym h.text_is ∙ e ∙ h.other_is))

    exact : length text + 1 < 2 ^ 64 → c.line ≡ line_ends h.same + 1
    exact small = let few = count_by-le-length (λ b. b == 10) h.same in let line = h.line_is in omega (arith, ap length h.text_is, length-append h.same h.rest)
