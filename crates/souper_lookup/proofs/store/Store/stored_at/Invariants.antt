use Rattle.std.proofs.Common.{◌≡◌, map, take}
use Rattle.souper_lookup.specs.Stored.{elements_at, view_stored}
use Rattle.souper_lookup.proofs.store.Store.stored_at.Given as goal

abbrev pub invariant-loop-index : goal.invariant-loop-index
invariant-loop-index l = map (λ s. view_stored s.now) l.found.items ≡ elements_at (map view_stored l.self.stored.items) (take l.index-index l.indices)
