use Rattle.std.proofs.Common.{◌≡◌, Ok, None}
use Rattle.souper_ir.specs.NodeReadings.{further_at}
use Rattle.souper_ir.proofs.parse.operands.further.Given as goal

abbrev pub invariant-loop : goal.invariant-loop
invariant-loop l = (further_at l.counter l.fn.parser ≡ Ok (l.operands.items, l.parser)) × (l.parser.failed ≡ None) × (l.parser.len ≡ l.fn.parser.len)
