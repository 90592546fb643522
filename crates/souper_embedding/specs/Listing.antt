-- Definitions. The embeddings of a replacement into a query, in their order, up to a limit.
use Rattle.std.specs.Prelude.{◌≡◌, ◌↔◌, ◌⊎◌, ◌≤◌, ℕ, Bool, false, List, [], ◌∷◌, length}
use Rattle.souper_graph.specs.Values.{Item}
use Rattle.souper_graph.specs.Uses.{Has}
use Rattle.souper_embedding.specs.declared.search.Embedding.{Embedding}
use Rattle.souper_embedding.specs.Embedding.{Embeds}
use Rattle.souper_embedding.specs.Images.{AreImages, Precedes, IsEmbedding}
use Rattle.souper_embedding.specs.Maps.{Follows}

-- each takes the path conditions to earlier positions than those after it
abbrev pub AreOrdered : List Embedding → Type 0
AreOrdered [] = Unit {0}
AreOrdered (x ∷ xs) = ((y : Embedding) → Has xs y → Precedes x.images.items y.images.items) × AreOrdered xs

-- the function follows the map of one of these
abbrev pub IsAmong : List Embedding → (ℕ → ℕ) → Type 0
IsAmong xs f = (x : Embedding) × Has xs x × Follows x.map.items f

-- it takes the path conditions to later positions than all of these
abbrev pub IsPast : Item → Item → List Embedding → (ℕ → ℕ) → Type 0
IsPast s q xs f = (images : List ℕ) × AreImages s q f images × ((x : Embedding) → Has xs x → Precedes x.images.items images)

-- the first embeddings, at most as many as the limit, and whether there is no other
pub record AreFirst (s q : Item) (limit : ℕ) (found : List Embedding) (are_all : Bool) : Type 0 where
  pub each : (x : Embedding) → Has found x → IsEmbedding s q x.map.items x.images.items
  pub ordered : AreOrdered found
  pub first : (f : ℕ → ℕ) → Embeds s q f → IsAmong found f ⊎ IsPast s q found f
  pub few : length found ≤ limit
  pub full : are_all ≡ false → length found ≡ limit
  pub cut : (are_all ≡ false) ↔ ((f : ℕ → ℕ) × Embeds s q f × (IsAmong found f → ⊥))
