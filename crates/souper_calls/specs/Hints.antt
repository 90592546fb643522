-- Definitions. What a call says of the hint for a text.
use Rattle.std.specs.Prelude.{◌≡◌, ℕ, ◌<◌, List, length}
use Rattle.souper_graph.specs.Syntax.Spelling.{SpellsNone}
use Rattle.souper_calls.specs.Kinds.{OfType}
use Rattle.souper_calls.specs.Outcomes.{FillsStart}
use Rattle.souper_calls.specs.declared.outcome.SouperOutcome.{SouperOutcome}

-- the source spells no items of the kind
abbrev pub IsRejected : ℕ → List ℕ → Type 0
IsRejected kind source = OfType kind (λ k. SpellsNone k source)

-- the source spells no items of the kind, and the hint was written to the buffer: a text, whose length the outcome has
abbrev pub WritesHint : ℕ → List ℕ → SouperOutcome → List ℕ → List ℕ → Type 0
WritesHint kind source o old new = IsRejected kind source × ((hint : List ℕ) × (o.length ≡ length hint) × FillsStart old new hint)

-- the source spells no items of the kind, and the buffer is shorter than the hint, whose length the outcome has
abbrev pub IsShortHint : ℕ → List ℕ → SouperOutcome → List ℕ → Type 0
IsShortHint kind source o old = IsRejected kind source × (length old < o.length)
