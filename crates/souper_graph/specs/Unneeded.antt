-- Definitions. What is said of the statements that an item does not need.
use Rattle.std.specs.Prelude.{◌≡◌, ℕ, ◌<◌, Some, length, slice_get}
use Rattle.souper_graph.specs.Values.{PlainAssignment, PlainStatement, assigned, Item}
use Rattle.souper_graph.specs.Uses.{conditions, roots_of, NeededIn}
use Rattle.souper_graph.specs.WellFormed.{AreMet, Closed, FitsEnding}

-- every statement, needed or not, is closed, and all names are distinct
pub record EachClosed (a : Item) : Type 0 where
  pub roots_met : AreMet a.statements (roots_of a.ending)
  pub ending_fits : FitsEnding a.ending
  pub closed : (p : ℕ) (s : PlainStatement) → slice_get a.statements p ≡ Some s → Closed a.statements p s
  pub named_apart : (p q : ℕ) (v w : PlainAssignment) → slice_get a.statements p ≡ Some (assigned v) → slice_get a.statements q ≡ Some (assigned w) → v.name ≡ w.name → p ≡ q

-- each statement is needed
abbrev pub AllNeeded : Item → Type 0
AllNeeded a = (p : ℕ) → p < length a.statements → NeededIn a p

-- b has the roots, the path conditions and the needed statements of a at their positions, and any others
pub record SameNeeded (a b : Item) : Type 0 where
  pub same_ending : b.ending ≡ a.ending
  pub same_conditions : conditions b ≡ conditions a
  pub same_statements : (i : ℕ) → NeededIn a i → slice_get b.statements i ≡ slice_get a.statements i
