-- Definitions. What a clause reads of a `Watched` stream.
use Rattle.std.specs.Prelude.{Bool}
use Rattle.souper_watched.specs.declared.Watched.{Watched}

-- the stream inside
abbrev pub watched_inner : {S : Type 0} → Watched S → S
watched_inner w = w.inner

-- `w.failed()`
abbrev pub has_failed : {S : Type 0} → Watched S → Bool
has_failed w = w.failed

-- `w.ended()`
abbrev pub has_ended : {S : Type 0} → Watched S → Bool
has_ended w = w.ended
