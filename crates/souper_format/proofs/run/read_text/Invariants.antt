-- All bytes so far were the reader's, it has neither failed nor ended, and each turn read one.
use Rattle.std.proofs.Common.{◌≡◌, ◌≤◌, false, length}
use Rattle.std.specs.Io.KnownBytes.{Consumes}
use Rattle.souper_watched.specs.Watching.{watched_inner, has_failed, has_ended}
use Rattle.souper_format.proofs.run.read_text.Given as goal

abbrev pub invariant-loop-turn : goal.invariant-loop-turn
invariant-loop-turn g l = (has_failed l.input ≡ false) × (has_ended l.input ≡ false) × (l._turn ≤ length l.bytes.items)
    × Consumes (g.R.Read.remaining (watched_inner l.fn.input)) (g.R.Read.remaining (watched_inner l.input)) l.bytes.items
