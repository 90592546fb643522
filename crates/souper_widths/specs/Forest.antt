-- Definitions. Forests of nodes that have one width, as lists: the parent of each node, and the number of each tree at its root.
use Rattle.std.specs.Prelude.{◌≡◌, ◌≢◌, ℕ, zero, suc, ◌<◌, ◌≤◌, ◌==◌, List, [], ◌∷◌, ◌++◌, length, slice_index, if◌then◌else◌}
use Rattle.souper_widths.specs.declared.ties.Side.{Side}
use Rattle.souper_widths.specs.declared.ties.Side.TheVariants.{Node, Number}

-- a root is its own parent; any other node has a lower one
pub record IsForest (parents : List ℕ) : Type 0 where
  pub lower : (i : ℕ) → i < length parents → slice_index parents i ≤ i

-- each node has the width of its parent
abbrev pub Follows : (ℕ → ℕ) → List ℕ → Type 0
Follows u parents = (i : ℕ) → i < length parents → u i ≡ u (slice_index parents i)

-- the same widths follow both, and both have the same roots
pub record SameTrees (old new : List ℕ) : Type 0 where
  pub size : length new ≡ length old
  pub to : (u : ℕ → ℕ) → Follows u old → Follows u new
  pub back : (u : ℕ → ℕ) → Follows u new → Follows u old
  pub roots : (i : ℕ) → slice_index old i ≡ i → slice_index new i ≡ i

-- only roots have numbers; 0 stands for none
pub record AreClasses (parents numbers : List ℕ) : Type 0 where
  pub size : length numbers ≡ length parents
  pub forest : IsForest parents
  pub rooted : (i : ℕ) → slice_index numbers i ≢ 0 → slice_index parents i ≡ i

-- each node has the width of its parent, and a root that has a number this width
pub record Solves (u : ℕ → ℕ) (parents numbers : List ℕ) : Type 0 where
  pub follows : Follows u parents
  pub numbered : (i : ℕ) → slice_index numbers i ≢ 0 → u i ≡ slice_index numbers i

-- the width of a side: of a node, or a number
abbrev pub side_width : (ℕ → ℕ) → Side → ℕ
side_width u (Node x) = u x
side_width u (Number n) = n

-- a node below the count, or a number above 0
abbrev pub IsSide : ℕ → Side → Type 0
IsSide count (Node x) = x < count
IsSide count (Number n) = 0 < n

-- what solves the new classes is what solves the old ones and gives both sides one width
pub record AddsTie (parents numbers parents' numbers' : List ℕ) (left right : Side) : Type 0 where
  pub to : (u : ℕ → ℕ) → Solves u parents numbers → side_width u left ≡ side_width u right → Solves u parents' numbers'
  pub back : (u : ℕ → ℕ) → Solves u parents' numbers' → Solves u parents numbers
  pub tied : (u : ℕ → ℕ) → Solves u parents' numbers' → side_width u left ≡ side_width u right

-- whatever solves the classes gives the two sides these two widths
pub record Refuses (parents numbers : List ℕ) (left right : Side) (x y : ℕ) : Type 0 where
  pub differ : x ≢ y
  pub left_positive : 0 < x
  pub right_positive : 0 < y
  pub sides : (u : ℕ → ℕ) → Solves u parents numbers → (side_width u left ≡ x) × (side_width u right ≡ y)

-- The widths of the first n nodes: of a root its number, of any other node the width of its parent. 0 stands for a width that
-- no number tells.
abbrev pub widths_below : List ℕ → List ℕ → ℕ → List ℕ
widths_below parents numbers zero = []
widths_below parents numbers (suc n) = widths_below parents numbers n ++ (if slice_index parents n == n then slice_index numbers n else slice_index (widths_below parents numbers n) (slice_index parents n)) ∷ []

-- the widths, with d for those that no number tells
abbrev pub filled : ℕ → List ℕ → ℕ → ℕ
filled d widths i = if slice_index widths i == 0 then d else slice_index widths i

-- Widths that are not 0 are those of each solution. Any d above 0 in the place of the others is a solution.
pub record TellsWidths (parents numbers widths : List ℕ) : Type 0 where
  pub size : length widths ≡ length parents
  pub known : (u : ℕ → ℕ) → Solves u parents numbers → (i : ℕ) → slice_index widths i ≢ 0 → u i ≡ slice_index widths i
  pub free : (d : ℕ) → 0 < d → Solves (filled d widths) parents numbers
