-- Writes through a formatter whose options are ignored.
use Rattle.std.proofs.Common.{◌≡◌, ℕ, ◌^◌, ◌-◌, List, [], ◌∷◌, ◌++◌, sym, refl, subst, ◌∙◌}
use Rattle.std.specs.Prelude.{Option, None, Some, Result, Ok, Err, OnOk}
use Rattle.std.specs.List.{concat, FoldsTo}
use Rattle.std.specs.Fmt.{WritesText, IsFlush, IsDefaultSpec, HasWritten, HasWrittenStyled, DisplaysOnOk, DisplaysStyledOnOk, format_spec}
use Rattle.std.specs.declared.fmt.Error.{Error}
use Rattle.std.specs.declared.fmt.Formatter.{Formatter}
use Rattle.std.proofs.lemmas.Grind.{put_two}
use Rattle.souper_errors.specs.declared.unstyled.Unstyled.{Unstyled}

module _ {W : Type 0} (took : W → List ℕ → W → Type 0) where
  -- the formatter without its options
  abbrev plain_of : Formatter W → Formatter W
  plain_of f = record f { spec = format_spec 32 3 0 0 (2 ^ 64 - 1); depth = 0 }

  written_plain : (f : Formatter W) (a : List ℕ) (g : Formatter W) → HasWrittenStyled took f a g → HasWritten took (plain_of f) a (plain_of g)
  written_plain f a g h = record { wrote = h.wrote; plain = record { bare = record { width = refl; precision = refl; plus = refl; alternate = refl }; flush = refl } }

  -- two writes in sequence are one
  pub styled_two : (f g h : Formatter W) (a b all : List ℕ) → HasWrittenStyled took f a g → HasWrittenStyled took g b h → a ++ b ≡ all → HasWrittenStyled took f all h
  styled_two f g h a b all p q is = record {
    wrote = (put_two took (plain_of f) (plain_of g) (plain_of h) a b all (written_plain f a g p) (written_plain g b h q) is).wrote;
    spec = q.spec ∙ p.spec;
    flush = q.flush;
  }

  -- what a text that is written as it is makes of a formatter
  abbrev pub TakesText : Unstyled W → List ℕ → Unstyled W → Type 0
  TakesText s bs t = (IsFlush s.formatter.now → HasWrittenStyled took s.formatter.now bs t.formatter.now) × (t.formatter.ghost_name ≡ s.formatter.ghost_name)

  nothing : (f : Formatter W) → IsFlush f → HasWrittenStyled took f [] f
  nothing f flush = record { wrote = record { parts = []; calls = refl; whole = refl }; spec = refl; flush = flush }

  -- the texts of some calls, in sequence
  all_taken : (s : Unstyled W) (xs : List (List ℕ)) (t : Unstyled W) → FoldsTo TakesText s xs t → TakesText s (concat xs) t
  all_taken s [] t p = subst (λ (x : Unstyled W). TakesText s [] x) p (nothing s.formatter.now, refl)
  all_taken s (x ∷ xs) t p =
      let rest = all_taken p.0 xs t p.2 in
      (λ flush. let first = p.1.0 flush in styled_two _ _ _ x (concat xs) _ first (rest.0 first.flush) refl, rest.1 ∙ p.1.1)

  -- a value that is shown through them, where h is what the formatter holds in the end
  pub shows_styled : (s t : Unstyled W) (h : Formatter W) (r : Result (Unit {0}) Error) (o : Option (List ℕ))
      → (t.formatter.ghost_name ≡ s.formatter.ghost_name → h ≡ t.formatter.now) → OnOk r (WritesText TakesText s o t)
      → DisplaysStyledOnOk took s.formatter.now r o h
  shows_styled s t h r None back w = tt
  shows_styled s t h (Ok u) (Some bs) back w = λ flush ok.
      let all = all_taken s w.parts t w.calls in
      subst (λ (x : Formatter W). HasWrittenStyled took s.formatter.now bs x) (sym (back all.1)) (subst (λ (l : List ℕ). HasWrittenStyled took s.formatter.now l t.formatter.now) w.whole (all.0 flush))
  shows_styled s t h (Err e) (Some bs) back w = λ flush ok. absurd cc

  -- what holds whatever the options are holds if there are none
  pub plainly : (f g : Formatter W) (r : Result (Unit {0}) Error) (o : Option (List ℕ)) → DisplaysStyledOnOk took f r o g → DisplaysOnOk took f r o g
  plainly f g r None w = tt
  plainly f g r (Some bs) w = λ plain ok.
      let done = w plain.flush ok in
      record { wrote = done.wrote; plain = record { bare = subst IsDefaultSpec (sym done.spec) plain.bare; flush = done.flush } }
