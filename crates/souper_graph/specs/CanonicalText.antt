-- Definitions. What the laws of canonical texts speak of: items in another arena order, the lines of a text.
use Rattle.std.specs.Prelude.{◌≡◌, ◌⊎◌, ℕ, ◌<◌, List, [], ◌∷◌, ◌++◌, flat_map, length, codes, Some, slice_get}
use Rattle.std.specs.List.{AllByRecursion}
use Rattle.souper_graph.specs.Values.{PlainStatement, assigned, condition, block_condition, Item}
use Rattle.souper_graph.specs.Uses.{Has, conditions}
use Rattle.souper_graph.specs.Text.{text_of_statement, text_of}
use Rattle.souper_graph.specs.Sameness.{carried, carried_ending}

-- the same statements in another order, each position in them moved along; path conditions keep their order
pub record IsRearranged (a b : Item) : Type 0 where
  pub to : ℕ → ℕ
  pub from : ℕ → ℕ
  pub inside : (i : ℕ) → i < length a.statements → to i < length b.statements
  pub from_inside : (j : ℕ) → j < length b.statements → from j < length a.statements
  pub to_from : (i : ℕ) → i < length a.statements → from (to i) ≡ i
  pub from_to : (j : ℕ) → j < length b.statements → to (from j) ≡ j
  pub statements_moved : (i : ℕ) (s : PlainStatement) → slice_get a.statements i ≡ Some s → slice_get b.statements (to i) ≡ Some (carried to s)
  pub ending_moved : b.ending ≡ carried_ending to a.ending
  pub condition_order : (i j : ℕ) → Has (conditions a) i → Has (conditions a) j → i < j → to i < to j

-- the bytes end in a newline
abbrev pub IsLine : List ℕ → Type 0
IsLine l = (text : List ℕ) × (l ≡ text ++ codes "\n")

-- each of the first lists is one of the others, in order
abbrev pub IsSublist : List (List ℕ) → List (List ℕ) → Type 0
IsSublist [] ys = Unit {0}
IsSublist (x ∷ xs) [] = ⊥
IsSublist (x ∷ xs) (y ∷ ys) = ((x ≡ y) × IsSublist xs ys) ⊎ IsSublist (x ∷ xs) ys

-- the lines of the path conditions among some statements of ss, in order
abbrev pub condition_lines : List PlainStatement → List PlainStatement → List (List ℕ)
condition_lines ss [] = []
condition_lines ss (assigned a ∷ us) = condition_lines ss us
condition_lines ss (condition p ∷ us) = text_of_statement ss (condition p) ∷ condition_lines ss us
condition_lines ss (block_condition p ∷ us) = text_of_statement ss (block_condition p) ∷ condition_lines ss us

-- the canonical text begins with lines that include the lines of all path conditions, in the order in which the item has
-- them
pub record HasConditionLines (a : Item) : Type 0 where
  pub lines : List (List ℕ)
  pub rest : List ℕ
  pub whole : text_of a ≡ flat_map (λ l. l) lines ++ rest
  pub each_line : AllByRecursion IsLine lines
  pub conditions_among : IsSublist (condition_lines a.statements a.statements) lines
