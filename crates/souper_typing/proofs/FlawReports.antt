-- The lines of the errors of a part.
use Rattle.std.proofs.Common.{◌≡◌, ◌⊎◌, inl, inr, ℕ, List, [], ◌∷◌, ◌++◌, map, flat_map, Option, option_map, refl, ap, String, string_bytes}
use Rattle.std.specs.List.{zip}
use Rattle.std.specs.declared.alloc.Global.{Global}
use Rattle.souper_stream.specs.declared.starts.Start.{Start}
use Rattle.souper_typing.specs.Parts.{flaw_report, flaw_reports}

abbrev pub report_by : List ℕ → Start × Option (String Global) → List ℕ
report_by name p = flaw_report name p.0 (option_map string_bytes p.1)

pub reports_viewed : (name : List ℕ) (starts : List Start) (flaws : List (Option (String Global))) → flat_map (report_by name) (zip starts flaws) ≡ flaw_reports name starts (map (option_map string_bytes) flaws)
reports_viewed name [] flaws = refl
reports_viewed name (s ∷ starts) [] = refl
reports_viewed name (s ∷ starts) (flaw ∷ flaws) = ap (λ (x : List ℕ). flaw_report name s (option_map string_bytes flaw) ++ x) (reports_viewed name starts flaws)

pub no_pairs : {A B : Type 0} (xs : List A) (ys : List B) → (xs ≡ []) ⊎ (ys ≡ []) → zip xs ys ≡ []
no_pairs xs ys (inl e) = rw e refl
no_pairs [] ys (inr e) = refl
no_pairs (x ∷ xs) ys (inr e) = rw e refl
