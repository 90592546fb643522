-- Definitions. Marks on statements while the needed ones are looked for, from the last position to the first.
use Rattle.std.specs.Prelude.{◌≡◌, ◌≤◌, ◌↔◌, ◌⊎◌, ℕ, Bool, true, false, List, length, map, get_or}
use Rattle.souper_graph.specs.Values.{Item}
use Rattle.souper_graph.specs.Uses.{Has, position_of, used_at, conditions, roots_of, NeededIn}

-- the new marks are the old ones and those on these positions
pub record AddsMarks (old new : List Bool) (ids : List ℕ) : Type 0 where
  pub size : length new ≡ length old
  pub exact : (i : ℕ) → (get_or new i false ≡ true) ↔ ((get_or old i false ≡ true) ⊎ Has ids i)

-- Needed statements alone are marked: the roots, and from position p on the path conditions and all that needed statements use.
pub record MarkFrom (a : Item) (p : ℕ) (marks : List Bool) : Type 0 where
  pub size : length marks ≡ length a.statements
  pub needed : (i : ℕ) → get_or marks i false ≡ true → NeededIn a i
  pub roots : (i : ℕ) → Has (map position_of (roots_of a.ending)) i → get_or marks i false ≡ true
  pub conditions : (i : ℕ) → p ≤ i → Has (conditions a) i → get_or marks i false ≡ true
  pub uses : (i j : ℕ) → p ≤ i → NeededIn a i → Has (used_at a.statements i) j → get_or marks j false ≡ true
