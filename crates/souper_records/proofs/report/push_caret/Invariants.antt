use Rattle.std.proofs.Common.{◌≡◌, ◌-◌, ◌≤◌, ◌++◌, replicate}
use Rattle.std.specs.Prelude.{string_bytes}
use Rattle.souper_records.proofs.report.push_caret.Given as goal

-- each turn has appended a space
abbrev pub invariant-loop : goal.invariant-loop
invariant-loop l = (1 ≤ l.counter) × (l.counter - 1 ≤ l.column - 1) × (string_bytes l.out ≡ string_bytes l.fn.out ++ replicate (l.counter - 1) 32)
