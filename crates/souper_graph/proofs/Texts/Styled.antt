-- Writes to a formatter with any options.
use Rattle.std.proofs.Common.{◌≡◌, ℕ, List, [], ◌∷◌, ◌++◌, refl, sym, ap, subst, ◌∙◌}
use Rattle.std.specs.Prelude.{Option, Some, None, Result}
use Rattle.std.specs.List.{FoldsTo}
use Rattle.std.specs.Fmt.{WritesText, HasWritten, HasWrittenStyled, WritesOnOk, WritesStyledOnOk, DisplaysOnOk, DisplaysStyledOnOk}
use Rattle.std.specs.declared.fmt.Error.{Error}
use Rattle.std.specs.declared.fmt.Formatter.{Formatter}
use Rattle.std.proofs.lemmas.List.Folds.{concat-append}
use Rattle.std.proofs.lemmas.Fmt.{contents_after_writes}
use Rattle.arrayvec.specs.ArrayString.{ArrayString}

module _ {W : Type 0} (took : W → List ℕ → W → Type 0) where
  pub folds-append : (w : W) (xs : List (List ℕ)) (v : W) (ys : List (List ℕ)) (u : W) → FoldsTo took w xs v → FoldsTo took v ys u → FoldsTo took w (xs ++ ys) u
  folds-append w [] v ys u p q = subst (λ (x : W). FoldsTo took x ys u) (sym p) q
  folds-append w (x ∷ xs) v ys u p q = (p.0, p.1, folds-append p.0 xs v ys u p.2 q)

  has_written_of_eq : (f : Formatter W) (a b : List ℕ) (g : Formatter W) → a ≡ b → HasWritten took f a g → HasWritten took f b g
  has_written_of_eq f a b g e h = subst (λ (l : List ℕ). HasWritten took f l g) e h

  has_written_styled_of_eq : (f : Formatter W) (a b : List ℕ) (g : Formatter W) → a ≡ b → HasWrittenStyled took f a g → HasWrittenStyled took f b g
  has_written_styled_of_eq f a b g e h = subst (λ (l : List ℕ). HasWrittenStyled took f l g) e h

  pub has_written_styled_append : (f : Formatter W) (a : List ℕ) (g : Formatter W) (b : List ℕ) (h : Formatter W) → HasWrittenStyled took f a g → HasWrittenStyled took g b h → HasWrittenStyled took f (a ++ b) h
  has_written_styled_append f a g b h p q = record {
    wrote = record {
      parts = p.wrote.parts ++ q.wrote.parts;
      calls = folds-append _ p.wrote.parts _ q.wrote.parts _ p.wrote.calls q.wrote.calls;
      whole = concat-append p.wrote.parts q.wrote.parts ∙ (λ i. p.wrote.whole i ++ q.wrote.whole i);
    };
    spec = q.spec ∙ p.spec;
    flush = q.flush;
  }

  -- two, three and five writes in sequence are one
  pub styled_two : (f g h : Formatter W) (a b all : List ℕ) → HasWrittenStyled took f a g → HasWrittenStyled took g b h → a ++ b ≡ all → HasWrittenStyled took f all h
  styled_two f g h a b all p q is = has_written_styled_of_eq _ _ all _ is (has_written_styled_append _ _ _ _ _ p q)

  pub styled_three : (f g h i : Formatter W) (a b c all : List ℕ) → HasWrittenStyled took f a g → HasWrittenStyled took g b h → HasWrittenStyled took h c i → a ++ (b ++ c) ≡ all → HasWrittenStyled took f all i
  styled_three f g h i a b c all p q r is = styled_two f g i a (b ++ c) all p (has_written_styled_append _ _ _ _ _ q r) is

  pub styled_five : (f g h i j k : Formatter W) (a b c d e all : List ℕ) → HasWrittenStyled took f a g → HasWrittenStyled took g b h → HasWrittenStyled took h c i → HasWrittenStyled took i d j → HasWrittenStyled took j e k → a ++ (b ++ (c ++ (d ++ e))) ≡ all → HasWrittenStyled took f all k
  styled_five f g h i j k a b c d e all p q r s t is = styled_three f g h k a b (c ++ (d ++ e)) all p q (styled_three h i j k c d e _ r s t refl) is

  -- a text with what the number writes is written as it is
  pub number_writes : (s t : ArrayString) (o : Option (List ℕ)) (text : List ℕ) (f g : Formatter W) (r : Result (Unit {0}) Error)
      → s.bytes ≡ [] → WritesText (λ (u : ArrayString) bs (v : ArrayString). v.bytes ≡ u.bytes ++ bs) s o t → text ≡ t.bytes
      → WritesOnOk took f r text g → DisplaysOnOk took f r o g
  number_writes s t None text f g r none wrote is w = tt
  number_writes s t (Some bs) text f g r none wrote is w = λ plain ok.
      has_written_of_eq _ _ bs _ (is ∙ contents_after_writes _ (λ u. u.bytes) (λ _ _ _ e. e) s bs t wrote ∙ ap (λ xs. xs ++ bs) none) (w plain ok)

  pub number_writes_styled : (s t : ArrayString) (o : Option (List ℕ)) (text : List ℕ) (f g : Formatter W) (r : Result (Unit {0}) Error)
      → s.bytes ≡ [] → WritesText (λ (u : ArrayString) bs (v : ArrayString). v.bytes ≡ u.bytes ++ bs) s o t → text ≡ t.bytes
      → WritesStyledOnOk took f r text g → DisplaysStyledOnOk took f r o g
  number_writes_styled s t None text f g r none wrote is w = tt
  number_writes_styled s t (Some bs) text f g r none wrote is w = λ flush ok.
      has_written_styled_of_eq _ _ bs _ (is ∙ contents_after_writes _ (λ u. u.bytes) (λ _ _ _ e. e) s bs t wrote ∙ ap (λ xs. xs ++ bs) none) (w flush ok)
