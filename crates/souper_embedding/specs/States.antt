-- Definitions. The states of the search.
use Rattle.std.specs.Prelude.{◌≡◌, ◌≤◌, ◌⊎◌, ◌+◌, ◌-◌, ◌^◌, ◌++◌, ℕ, suc, true, false, List, [], ◌∷◌, length, map, Option, Some, slice_get}
use Rattle.souper_graph.specs.Values.{PlainStatement, PlainInfer}
use Rattle.souper_graph.specs.View.{view_statement}
use Rattle.souper_graph.specs.Uses.{Has}
use Rattle.souper_embedding.specs.declared.search.Embedding.{Embedding}
use Rattle.souper_embedding.specs.declared.search.Embeddings.{Embeddings}
use Rattle.souper_embedding.specs.declared.search.Search.{Search}
use Rattle.souper_embedding.specs.Embedding.{WantsWithin, EmbedsLeft}
use Rattle.souper_embedding.specs.Given.{AreGiven}
use Rattle.souper_embedding.specs.Images.{GoThere, AreFirstOfEqual, Precedes}
use Rattle.souper_embedding.specs.Listing.{AreOrdered, IsAmong}
use Rattle.souper_embedding.specs.Maps.{Follows}
use Rattle.souper_embedding.specs.Search.{conditions_in, left_item, IsReached}

abbrev pub stored_of : Search → List PlainStatement
stored_of x = map view_statement x.stored.now

abbrev pub query_of : Search → List PlainStatement
query_of x = map view_statement x.query.now

-- it has the positions of the path conditions of both items, of equal ones of the query the first
pub record IsSearch (x : Search) : Type 0 where
  pub conditions : x.conditions.now ≡ conditions_in (stored_of x)
  pub given : AreGiven (query_of x) x.given.now

-- the map is known at what the root and the first path conditions need, and takes these conditions to the images
pub record IsState (ss qs : List PlainStatement) (i j : PlainInfer) (x : Embedding) : Type 0 where
  pub reached : IsReached ss qs i j x.map.items (length x.images.items)
  pub within : length x.images.items ≤ length (conditions_in ss)
  pub images : (f : ℕ → ℕ) → Follows x.map.items f → GoThere ss qs f x.images.items
  pub first : AreFirstOfEqual qs x.images.items

-- y is x with one path condition more, which it takes to q
pub record IsNext (ss qs : List PlainStatement) (i j : PlainInfer) (x : Embedding) (q : ℕ) (y : Embedding) : Type 0 where
  pub state : IsState ss qs i j y
  pub kept : (f : ℕ → ℕ) → Follows y.map.items f → Follows x.map.items f
  pub images : y.images.items ≡ x.images.items ++ q ∷ []

-- a function that embeds follows the map, and takes the path conditions to these images
pub record IsTarget (ss qs : List PlainStatement) (i j : PlainInfer) (m : List (Option ℕ)) (f : ℕ → ℕ) (images : List ℕ) : Type 0 where
  pub embeds : EmbedsLeft (left_item ss i) (left_item qs j) i j f
  pub follows : Follows m f
  pub long : length images ≡ length (conditions_in ss)
  pub there : GoThere ss qs f images
  pub first : AreFirstOfEqual qs images

-- the images of each state precede those of the states before it in the list
abbrev pub IsStacked : List Embedding → Type 0
IsStacked [] = Unit {0}
IsStacked (x ∷ xs) = ((y : Embedding) → Has xs y → Precedes y.images.items x.images.items) × IsStacked xs

-- the states that follow x by the path conditions of the query from index low on
pub record AreNext (ss qs : List PlainStatement) (i j : PlainInfer) (given : List ℕ) (x : Embedding) (low : ℕ) (ys : List Embedding) : Type 0 where
  pub each : (y : Embedding) → Has ys y → (n : ℕ) × (q : ℕ) × (low ≤ n) × (slice_get given n ≡ Some q) × IsNext ss qs i j x q y
  pub stacked : IsStacked ys
  pub all : (n q : ℕ) (f : ℕ → ℕ) (images rest : List ℕ) → low ≤ n → slice_get given n ≡ Some q → IsTarget ss qs i j x.map.items f images → images ≡ x.images.items ++ q ∷ rest
      → (y : Embedding) × Has ys y × Follows y.map.items f × (y.images.items ≡ x.images.items ++ q ∷ [])

-- the function follows one of these states, and its images begin as those of the state
pub record IsAwaited (xs : List Embedding) (f : ℕ → ℕ) (images : List ℕ) : Type 0 where
  pub state : Embedding
  pub among : Has xs state
  pub follows : Follows state.map.items f
  pub rest : List ℕ
  pub is : images ≡ state.images.items ++ rest

-- the states from which all is reached that is reached from the start, the first one last
pub record AreWaiting (ss qs : List PlainStatement) (i j : PlainInfer) (start : Embedding) (xs : List Embedding) : Type 0 where
  pub each : (x : Embedding) → Has xs x → IsState ss qs i j x
  pub stacked : IsStacked xs
  pub all : (f : ℕ → ℕ) (images : List ℕ) → IsTarget ss qs i j start.map.items f images → IsAwaited xs f images

-- all path conditions are met, and a function that embeds follows the map or takes the conditions to later positions
pub record IsFirstFrom (ss qs : List PlainStatement) (i j : PlainInfer) (start x : Embedding) : Type 0 where
  pub state : IsState ss qs i j x
  pub whole : length x.images.items ≡ length (conditions_in ss)
  pub first : (f : ℕ → ℕ) (images : List ℕ) → IsTarget ss qs i j start.map.items f images → Follows x.map.items f ⊎ Precedes x.images.items images

-- the map of the roots, which demand no more bits, and no path condition yet
pub record IsStart (ss qs : List PlainStatement) (i j : PlainInfer) (x : Embedding) : Type 0 where
  pub state : IsState ss qs i j x
  pub none : x.images.items ≡ []
  pub wanted : WantsWithin i.attributes j.attributes

-- each function that embeds follows the map
abbrev pub AllFollow : List PlainStatement → List PlainStatement → PlainInfer → PlainInfer → List (Option ℕ) → Type 0
AllFollow ss qs i j m = (f : ℕ → ℕ) → EmbedsLeft (left_item ss i) (left_item qs j) i j f → Follows m f

abbrev pub NoneEmbeds : List PlainStatement → List PlainStatement → PlainInfer → PlainInfer → Type 0
NoneEmbeds ss qs i j = (f : ℕ → ℕ) → EmbedsLeft (left_item ss i) (left_item qs j) i j f → ⊥

-- it takes the path conditions to later positions than these
abbrev pub IsLaterTarget : List PlainStatement → List PlainStatement → List ℕ → (ℕ → ℕ) → Type 0
IsLaterTarget ss qs images f = (others : List ℕ) × (length others ≡ length (conditions_in ss)) × GoThere ss qs f others × AreFirstOfEqual qs others × Precedes images others

-- of all functions by which ss with the infer line i embeds into qs with j, the first follow the map of x
pub record IsFirstFor (ss qs : List PlainStatement) (i j : PlainInfer) (x : Embedding) : Type 0 where
  pub state : IsState ss qs i j x
  pub whole : length x.images.items ≡ length (conditions_in ss)
  pub wanted : WantsWithin i.attributes j.attributes
  pub first : (f : ℕ → ℕ) → EmbedsLeft (left_item ss i) (left_item qs j) i j f → Follows x.map.items f ⊎ IsLaterTarget ss qs x.images.items f

-- the states with all path conditions that were found, and the states from which the others are reached, the first one last
pub record AreSearched (ss qs : List PlainStatement) (i j : PlainInfer) (start : Embedding) (found waiting : List Embedding) : Type 0 where
  pub states : (y : Embedding) → Has found y → IsState ss qs i j y
  pub whole : (y : Embedding) → Has found y → length y.images.items ≡ length (conditions_in ss)
  pub ordered : AreOrdered found
  pub each : (x : Embedding) → Has waiting x → IsState ss qs i j x
  pub stacked : IsStacked waiting
  pub before : (y x : Embedding) → Has found y → Has waiting x → Precedes y.images.items x.images.items
  pub all : (f : ℕ → ℕ) (images : List ℕ) → IsTarget ss qs i j start.map.items f images → IsAwaited waiting f images ⊎ IsAmong found f

-- the function takes the path conditions to later positions than all of these
abbrev pub IsPastAll : List PlainStatement → List PlainStatement → List Embedding → (ℕ → ℕ) → Type 0
IsPastAll ss qs xs f = (images : List ℕ) × (length images ≡ length (conditions_in ss)) × GoThere ss qs f images × AreFirstOfEqual qs images × ((x : Embedding) → Has xs x → Precedes x.images.items images)

-- of all functions by which ss with the infer line i embeds into qs with j, the first follow these maps
pub record AreFirstFor (ss qs : List PlainStatement) (i j : PlainInfer) (limit : ℕ) (x : Embeddings) : Type 0 where
  pub states : (y : Embedding) → Has x.found.items y → IsState ss qs i j y
  pub whole : (y : Embedding) → Has x.found.items y → length y.images.items ≡ length (conditions_in ss)
  pub wanted : (y : Embedding) → Has x.found.items y → WantsWithin i.attributes j.attributes
  pub ordered : AreOrdered x.found.items
  pub first : (f : ℕ → ℕ) → EmbedsLeft (left_item ss i) (left_item qs j) i j f → IsAmong x.found.items f ⊎ IsPastAll ss qs x.found.items f
  pub few : length x.found.items ≤ limit
  pub full : x.are_all ≡ false → length x.found.items ≡ limit
  pub all : x.are_all ≡ true → (f : ℕ → ℕ) → EmbedsLeft (left_item ss i) (left_item qs j) i j f → IsAmong x.found.items f
  pub cut : x.are_all ≡ false → (f : ℕ → ℕ) × EmbedsLeft (left_item ss i) (left_item qs j) i j f × (IsAmong x.found.items f → ⊥)

-- the steps that these states can still make, at most: a state of a path conditions b ^ (n - a), if there are n in all
abbrev pub work : ℕ → ℕ → List Embedding → ℕ
work b n [] = 0
work b n (x ∷ xs) = b ^ (n - length x.images.items) + work b n xs

abbrev pub work_in : Search → List Embedding → ℕ
work_in s xs = work (suc (length s.given.now)) (length s.conditions.now) xs
