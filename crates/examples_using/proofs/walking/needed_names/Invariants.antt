-- The names so far belong to the statements so far, in order.
use Rattle.std.proofs.Common.{◌≡◌, map, take}
use Rattle.examples_using.specs.Names.{names_at}
use Rattle.examples_using.proofs.walking.needed_names.Given as goal

abbrev pub invariant-loop-id : goal.invariant-loop-id
invariant-loop-id l = map (λ name. name.now) l.names.items ≡ names_at l.item.statements (take l.id-index l.id-items)
