-- Replacements that are added one after another.
use Rattle.std.proofs.Common.{List, [], ◌∷◌, ◌++◌, refl}
use Rattle.souper_graph.specs.Values.{Item}
use Rattle.souper_lookup.specs.declared.store.Added.{Added}
use Rattle.souper_lookup.specs.Stored.{Entry, IsAdded, AreAdded}

pub added-more : (items : List Item) (a : Item) (added : Added) (old mid new : List Entry) → AreAdded items old mid → IsAdded a added mid new → AreAdded (items ++ a ∷ []) old new
added-more [] a added old mid new none is = (added, new, rw none at is, refl)
added-more (b ∷ items) a added old mid new (one, next, first, rest) is = (one, next, first, added-more items a added next mid new rest is)
