use Rattle.std.proofs.Common.{◌≡◌, ◌<◌, ◌^◌}
use Rattle.std.specs.Str.Parse.{digits_value, digits_value_after}
use Rattle.souper_graph.specs.Syntax.Numbers.{are_digits}
use Rattle.souper_ir.proofs.parse.numbers.short_number.Given as goal

abbrev pub invariant-loop-byte : goal.invariant-loop-byte
invariant-loop-byte l = (are_digits l.byte-iterator.rest.now ≡ are_digits l.digits) × (digits_value_after 10 l.value l.byte-iterator.rest.now ≡ digits_value 10 l.digits) × (l.value < 2 ^ 64)
