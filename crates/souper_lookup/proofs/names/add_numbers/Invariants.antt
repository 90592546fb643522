use Rattle.std.proofs.Common.{◌≤◌, ℕ, List, map, length}
use Rattle.std.specs.String.{string_bytes}
use Rattle.souper_lookup.specs.Instance.{IsSetOf, HasNumbersOf}
use Rattle.souper_lookup.proofs.Fresh.{AreSoFar}
use Rattle.souper_lookup.proofs.names.add_numbers.Given as goal

abbrev pub invariant-loop-number : goal.invariant-loop-number
invariant-loop-number l = record {
  so_far : (used : List (List ℕ)) → IsSetOf used l.taken → HasNumbersOf (map string_bytes l.fn.names.items) used →
      AreSoFar (map string_bytes l.fn.names.items) used l.number-counter (map string_bytes l.names.items);
  within : length l.fn.names.items ≤ l.count → length l.names.items ≤ l.count;
  longer : length l.fn.names.items ≤ length l.names.items;
  from : length l.fn.names.items ≤ l.number-counter;
}
