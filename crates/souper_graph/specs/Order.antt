-- Definitions. The printed order of an item, by full unfoldings.
use Rattle.std.specs.Prelude.{◌≡◌, ℕ, zero, suc, ◌++◌, not, nat_lt, nat_eq, List, [], ◌∷◌, flat_map, filter, length}
use Rattle.souper_graph.specs.Values.{PlainStatement, Item}
use Rattle.souper_graph.specs.Uses.{Has, used_at, first_walks, walks_of}

-- the unfolding of p to a depth: the unfoldings of its uses below it, in order, and then p
abbrev pub unfold_to : List PlainStatement → ℕ → ℕ → List ℕ
unfold_to ss zero p = []
unfold_to ss (suc n) p = flat_map (unfold_to ss n) (filter (λ u. nat_lt u p) (used_at ss p)) ++ p ∷ []

-- each use that is taken is lower, so a depth of p + 1 is always enough
abbrev pub unfolding_of : List PlainStatement → ℕ → List ℕ
unfolding_of ss p = unfold_to ss (suc p) p

-- the first occurrence of each number in a list, in order
abbrev pub firsts : List ℕ → List ℕ
firsts [] = []
firsts (x ∷ xs) = x ∷ filter (λ y. not (nat_eq x y)) (firsts xs)

-- the first occurrences in the unfoldings of the walks, in sequence
abbrev pub order_of_walks : List PlainStatement → List ℕ → List ℕ
order_of_walks ss walks = firsts (flat_map (unfolding_of ss) walks)

abbrev pub printed_order : Item → List ℕ
printed_order a = order_of_walks a.statements (walks_of a)

-- the number of statements before the infer line; in an item without a result line after it, of all
abbrev pub lead_of : Item → ℕ
lead_of a = length (order_of_walks a.statements (first_walks a))

-- no number occurs twice
abbrev pub Distinct : List ℕ → Type 0
Distinct [] = Unit {0}
Distinct (x ∷ xs) = (¬ Has xs x) × Distinct xs

-- all uses of each statement of the list occur before it
abbrev pub EachAfterItsUses : List PlainStatement → List ℕ → Type 0
EachAfterItsUses ss ids = (front back : List ℕ) (i u : ℕ) → ids ≡ front ++ i ∷ back → Has (used_at ss i) u → Has front u
