-- Definitions. What the sink holds that writes the widths of items before another sink takes them.
use Rattle.std.specs.Prelude.{◌≡◌, ℕ, List, [], ◌∷◌, map, Option, option_map, string_bytes}
use Rattle.souper_graph.specs.Values.{Item}
use Rattle.souper_records.specs.Outcomes.{Outcome}
use Rattle.souper_typing.specs.declared.widened.Widened.{Widened}
use Rattle.souper_typing.specs.Rows.{Row, typed_of, flaw_lines, any_flawed, IsTaken}
use Rattle.souper_typing.specs.Parts.{Rowed, outcomes_of, typed_outcomes, AreTaken, part_report}

-- it took the items, and the inner sink those with widths, as they are written
pub record WidenedHolds {S : Type 0} (holds : S → S → List Item → Type 0) (a b : Widened S) (items : List Item) : Type 0 where
  pub form : b.form ≡ a.form
  pub recover : b.recover ≡ a.recover
  pub rows : List Row
  pub taken : IsTaken a.recover a.form items rows
  pub inner : holds a.inner b.inner (typed_of rows)
  pub flaws : map (option_map string_bytes) b.flaws.items ≡ map flaw_lines rows
  pub any : b.any ≡ any_flawed rows

-- the report of the last of these parts
abbrev pub EndsWithReport : List ℕ → Option (List ℕ) → List Rowed → Type 0
EndsWithReport name report [] = Unit {0}
EndsWithReport name report (p ∷ []) = report ≡ part_report name p
EndsWithReport name report (p ∷ q ∷ ps) = EndsWithReport name report (q ∷ ps)

-- the inner sink wrote the outcomes with the written items, and the report of the last part is there
pub record WidenedWrote {S : Type 0} (wrote : List ℕ → S → Option (List ℕ) → S → Option (List ℕ) → List Outcome → Type 0) (name : List ℕ) (a : Widened S) (x : Option (List ℕ)) (b : Widened S) (y : Option (List ℕ)) (os : List Outcome) : Type 0 where
  pub form : b.form ≡ a.form
  pub recover : b.recover ≡ a.recover
  pub parts : List Rowed
  pub are : outcomes_of parts ≡ os
  pub taken : AreTaken a.recover a.form parts
  pub inner : wrote name a.inner x b.inner y (typed_outcomes parts)
  pub last : EndsWithReport name (option_map string_bytes b.report) parts
