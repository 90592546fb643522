-- Definitions. What became of a stream whose items are written with their widths.
use Rattle.std.specs.Prelude.{◌≡◌, ◌⊎◌, ℕ, Bool, true, false, ◌||◌, List, [], Option, None, Result, Ok, Err}
use Rattle.souper_watched.specs.Streams.{Stream}
use Rattle.souper_typed.specs.declared.form.Form.{Form}
use Rattle.souper_records.specs.declared.stop.Stop.{Stop}
use Rattle.souper_records.specs.Stops.{UnlessOutput}
use Rattle.souper_records.specs.Outcomes.{InputStream, Outcome, any_refused, HaveItemStarts, WritesParts, IsBegun}
use Rattle.souper_typing.specs.Parts.{Rowed, outcomes_of, typed_outcomes, AreTaken, any_untyped, EndsUntyped, ReportedParts}

-- a writer of which nothing is said
abbrev pub unsaid : Stream
unsaid = record { before = None; after = None; failed = true; ended = false }

-- The parts with these outcomes: their items have rows, the written items were written as `written` says, and the errors were reported.
-- Without recovery the last part alone may have an item without widths.
pub record TypesOutcomes (r : InputStream) (f : Form) (written : List Outcome → Type 0) (err : Stream) (untyped : Bool) (os : List Outcome) : Type 0 where
  pub parts : List Rowed
  pub are : outcomes_of parts ≡ os
  pub taken : AreTaken r.recover f parts
  pub are_written : written (typed_outcomes parts)
  pub reported : ReportedParts r.name err parts
  pub any : untyped ≡ any_untyped parts
  pub first : r.recover ≡ false → (any_untyped parts ≡ false) ⊎ EndsUntyped parts

-- The stream begins with these parts: their items have rows, and begin where the reports say. Without recovery the last part alone may have
-- an item without widths.
pub record TypesBegun (r : InputStream) (f : Form) (parts : List Rowed) : Type 0 where
  pub begun : IsBegun r (outcomes_of parts)
  pub taken : AreTaken r.recover f parts
  pub first : r.recover ≡ false → (any_untyped parts ≡ false) ⊎ EndsUntyped parts
  pub starts : HaveItemStarts r.kind [] (outcomes_of parts)

-- The stream was read to its end, or without recovery to its first rejected part or to the first item without widths. `bad` says whether
-- a part is rejected or an item has none. Items begin where the reports say.
abbrev pub TypesParts : InputStream → Form → Option (List ℕ) → (List Outcome → Type 0) → Stream → Bool → Type 0
TypesParts r f after written err bad =
    ((refused : Bool) × (untyped : Bool) × (bad ≡ (refused || untyped)) × WritesParts r after (λ os. TypesOutcomes r f written err untyped os × HaveItemStarts r.kind [] os) unsaid refused)
    ⊎ ((r.recover ≡ false) × (bad ≡ true) × ((os : List Outcome) × IsBegun r os × (any_refused os ≡ false) × TypesOutcomes r f written err true os × HaveItemStarts r.kind [] os))

-- Reading or writing stopped after these parts: unless the output is the cause, their items were written. If it is, it has failed.
abbrev pub StopsTyping : InputStream → Form → (List Outcome → Type 0) → Bool → Stream → Stop → Type 0
StopsTyping r f known failed err stop = (parts : List Rowed) × TypesBegun r f parts × ReportedParts r.name err parts × UnlessOutput stop failed (known (typed_outcomes parts))

abbrev pub IsTypingResult : InputStream → Form → Option (List ℕ) → (List Outcome → Type 0) → (List Outcome → Type 0) → Bool → Stream → Result Bool Stop → Type 0
IsTypingResult r f after written known failed err (Ok bad) = TypesParts r f after written err bad
IsTypingResult r f after written known failed err (Err stop) = StopsTyping r f known failed err stop
