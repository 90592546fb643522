-- The bytes removed from `rest` were appended, and no call has failed.
use Rattle.std.proofs.Common.{◌≡◌, ℕ, List, ◌++◌, length}
use Rattle.std.specs.Io.KnownBytes.{Appends}
use Rattle.souper_watched.proofs.WatchedWrite.write_all.Given as goal

abbrev pub invariant-loop-rest : goal.invariant-loop-rest
invariant-loop-rest g l = (l.self.failed ≡ l.fn.self.failed) × (l.self.ended ≡ l.fn.self.ended)
    × ((done : List ℕ) × (l.buf ≡ done ++ l.rest)
    × Appends (g.W.Write.contents l.fn.self.inner) (g.W.Write.contents l.self.inner) done)

abbrev pub decreases-loop-rest : goal.decreases-loop-rest
decreases-loop-rest g l = length l.rest
