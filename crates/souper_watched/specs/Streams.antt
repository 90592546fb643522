-- Definitions. What calls did to a stream.
use Rattle.std.specs.Prelude.{◌≡◌, ℕ, List, ◌++◌, Bool, false, codes, Option, IfSome}
use Rattle.std.specs.Io.KnownBytes.{Appends, Keeps}
use Rattle.souper_watched.specs.declared.Watched.{Watched}
use Rattle.souper_watched.specs.Watching.{watched_inner, has_failed, has_ended}

-- its bytes before and after, if they are known (of a reader those that it has left, of a writer those that were
-- written to it), and whether it has failed or ended by then
pub record Stream : Type 0 where
  pub before : Option (List ℕ)
  pub after : Option (List ℕ)
  pub failed : Bool
  pub ended : Bool

-- a watched stream, from how it was to how it is
abbrev pub stream : {S : Type 0} → (S → Option (List ℕ)) → Watched S → Watched S → Stream
stream bytes_of old new = record {
  before = bytes_of (watched_inner old);
  after = bytes_of (watched_inner new);
  failed = has_failed new;
  ended = has_ended new;
}

-- the bytes were written to the writer, and nothing else
abbrev pub IsGiven : Stream → List ℕ → Type 0
IsGiven s bytes = Appends s.before s.after bytes

-- nothing was written to the writer
abbrev pub IsGivenNothing : Stream → Type 0
IsGivenNothing s = Keeps s.before s.after

-- a line of text: this text, if it is known
abbrev pub IsLineOf : Option (List ℕ) → List ℕ → Type 0
IsLineOf known line = (shown : List ℕ) × IfSome known (λ text. shown ≡ text) × (line ≡ shown ++ codes "\n")

-- unless the writer has failed, a line with the property P was written to it
abbrev pub Reported : Stream → (List ℕ → Type 0) → Type 0
Reported err P = err.failed ≡ false → (line : List ℕ) × P line × IsGiven err line
