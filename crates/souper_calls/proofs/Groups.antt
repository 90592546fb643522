-- The groups of answers for left-hand sides, one after the other.
use Rattle.std.proofs.Common.{◌≡◌, List, [], ◌∷◌, ◌++◌, ℕ, refl, sym, ap, ◌∙◌, append_assoc, append-nil}
use Rattle.std.specs.List.{AllByRecursion}
use Rattle.souper_graph.specs.Values.{Item}
use Rattle.souper_graph.specs.WellFormed.{WellFormed}
use Rattle.souper_lookup.specs.Instance.{AreInstances}
use Rattle.souper_lookup.specs.Stored.{Entry}
use Rattle.souper_calls.specs.Answers.{IsGroup, AreGroups}

pub instances-well : (q : Item) (xs ys : List Item) → AreInstances q xs ys → AllByRecursion WellFormed ys
instances-well q [] [] h = tt
instances-well q [] (b ∷ bs) h = absurd h
instances-well q (a ∷ xs) [] h = absurd h
instances-well q (a ∷ xs) (b ∷ ys) h = (h.0.well_formed, instances-well q xs ys h.1)

-- one group more
pub groups-more : (entries : List Entry) (qs : List Item) (q : Item) (bytes group : List ℕ) → AreGroups entries qs bytes → IsGroup entries q group → AreGroups entries (qs ++ q ∷ []) (bytes ++ group)
groups-more entries [] q bytes group none is = rw none (group, [], is, sym (append-nil group), refl)
groups-more entries (p ∷ qs) q bytes group (first, rest, is_first, parts, more) is =
    (first, rest ++ group, is_first, ap (λ (x : List ℕ). x ++ group) parts ∙ append_assoc first rest group, groups-more entries qs q rest group more is)
