-- the values so far are the numbers
use Rattle.std.proofs.Common.{◌≡◌, ℕ, map, take}
use Rattle.serde_json.specs.Data.{number, unsigned}
use Rattle.serde_json.specs.View.{view}
use Rattle.souper_typing.proofs.objects.widths_value.Given as goal

abbrev pub invariant-loop-width : goal.invariant-loop-width
invariant-loop-width l = map view l.items.items ≡ map (λ (n : ℕ). number (unsigned n)) (take l.width-index l.widths)
