-- Definitions. Where the path conditions of a replacement go, and which of several embeddings is the first.
use Rattle.std.specs.Prelude.{◌≡◌, ◌↔◌, ◌⊎◌, ℕ, ◌<◌, ◌≤◌, List, [], ◌∷◌, length, Option, Some, slice_get}
use Rattle.souper_graph.specs.Values.{PlainStatement, PlainInfer, Item}
use Rattle.souper_graph.specs.Uses.{conditions_from, conditions, NeededIn}
use Rattle.souper_graph.specs.WellFormed.{IsAssigned}
use Rattle.souper_graph.specs.Sameness.{carried}
use Rattle.souper_graph.specs.LeftSides.{infer_of, with_infer}
use Rattle.souper_embedding.specs.Embedding.{Embeds}
use Rattle.souper_embedding.specs.Maps.{GoesTo, Follows}

-- under the map, the first path conditions are the statements at these positions
abbrev pub GoThere : List PlainStatement → List PlainStatement → (ℕ → ℕ) → List ℕ → Type 0
GoThere ss qs to images = (n c d : ℕ) (p : PlainStatement) → slice_get (conditions_from 0 ss) n ≡ Some c → slice_get images n ≡ Some d → slice_get ss c ≡ Some p → slice_get qs d ≡ Some (carried to p)

-- no statement before is the one at position d
abbrev pub IsFirstOfEqual : List PlainStatement → ℕ → Type 0
IsFirstOfEqual qs d = (k : ℕ) → slice_get qs k ≡ slice_get qs d → d ≤ k

abbrev pub AreFirstOfEqual : List PlainStatement → List ℕ → Type 0
AreFirstOfEqual qs images = (n d : ℕ) → slice_get images n ≡ Some d → IsFirstOfEqual qs d

-- under the map, the path conditions of s, in order, are the statements of q at these positions, each the first of equal ones
pub record AreImages (s q : Item) (to : ℕ → ℕ) (images : List ℕ) : Type 0 where
  pub long : length images ≡ length (conditions s)
  pub there : GoThere s.statements q.statements to images
  pub first : AreFirstOfEqual q.statements images

-- the first of these numbers that differs is lower
abbrev pub Precedes : List ℕ → List ℕ → Type 0
Precedes [] es = ⊥
Precedes (d ∷ ds) [] = ⊥
Precedes (d ∷ ds) (e ∷ es) = (d < e) ⊎ ((d ≡ e) × Precedes ds es)

-- the map is known at the assignments of the left-hand side, and nowhere else
abbrev pub IsKnownOnLeft : Item → List (Option ℕ) → Type 0
IsKnownOnLeft s m = (i : PlainInfer) → infer_of s.ending ≡ Some i → (p : ℕ) → ((k : ℕ) × GoesTo m p k) ↔ (NeededIn (with_infer s i) p × IsAssigned (slice_get s.statements p))

-- a map by which s embeds into q, and where it takes the path conditions
pub record IsEmbedding (s q : Item) (m : List (Option ℕ)) (images : List ℕ) : Type 0 where
  pub long : length m ≡ length s.statements
  pub known : IsKnownOnLeft s m
  pub embeds : (f : ℕ → ℕ) → Follows m f → Embeds s q f
  pub taken : (f : ℕ → ℕ) → Follows m f → AreImages s q f images

-- it takes the path conditions to later positions than these
abbrev pub IsLater : Item → Item → List ℕ → (ℕ → ℕ) → Type 0
IsLater s q images f = (others : List ℕ) × AreImages s q f others × Precedes images others

-- of all embeddings the first
pub record IsFirst (s q : Item) (m : List (Option ℕ)) (images : List ℕ) : Type 0 where
  pub is : IsEmbedding s q m images
  pub first : (f : ℕ → ℕ) → Embeds s q f → Follows m f ⊎ IsLater s q images f
