-- Definitions. What the answer to a question for the flaw of an item says.
use Rattle.std.specs.Prelude.{◌≡◌, ℕ, ◌⊎◌, List, Some, None}
use Rattle.souper_graph.specs.declared.ast.flaws.Flaw.{Flaw}
use Rattle.souper_graph.specs.declared.ast.flaws.FlawLocation.{FlawLocation}
use Rattle.souper_graph.specs.declared.ast.flaws.FlawLocation.TheVariants.{Statement, Infer, Result, Cand}
use Rattle.souper_graph.specs.declared.ast.flaws.FlawReason.{FlawReason}
use Rattle.souper_graph.specs.declared.ast.flaws.FlawReason.TheVariants.{InvalidName, EmptyBits, ZeroWidth, UseBeforeDefinition, NotAnAssignment, NotABlock, ValueCount, PredecessorOutOfRange, DuplicateName}
use Rattle.souper_graph.specs.Syntax.Spelling.{ItemType}
use Rattle.souper_code.specs.Writing.{BeginsWithNone}
use Rattle.souper_code.specs.FrontFlaw.{BeginsWithFlaw}
use Rattle.souper_calls.specs.declared.flaw.SouperFlaw.{SouperFlaw}

abbrev pub number_of_location : FlawLocation → ℕ
number_of_location (Statement p) = 1
number_of_location Infer = 2
number_of_location Result = 3
number_of_location Cand = 4

-- the position of the statement; 0 for a last line
abbrev pub position_of_location : FlawLocation → ℕ
position_of_location (Statement p) = p
position_of_location Infer = 0
position_of_location Result = 0
position_of_location Cand = 0

abbrev pub number_of_reason : FlawReason → ℕ
number_of_reason InvalidName = 1
number_of_reason EmptyBits = 2
number_of_reason ZeroWidth = 3
number_of_reason UseBeforeDefinition = 4
number_of_reason NotAnAssignment = 5
number_of_reason NotABlock = 6
number_of_reason ValueCount = 7
number_of_reason PredecessorOutOfRange = 8
number_of_reason DuplicateName = 9

abbrev pub answer_of_flaw : Flaw → SouperFlaw
answer_of_flaw flaw = record { status = 8; location = number_of_location flaw.location; reason = number_of_reason flaw.reason; position = position_of_location flaw.location }

abbrev pub answer_without : ℕ → SouperFlaw
answer_without status = record { status = status; location = 0; reason = 0; position = 0 }

-- the bytes begin with the code of a well-formed item of the type, or of one that has the flaw, or of none; or memory ran out
abbrev pub IsFlawAnswer : ItemType → List ℕ → SouperFlaw → Type 0
IsFlawAnswer k code r = ((r ≡ answer_without 0) × BeginsWithFlaw k code None)
    ⊎ ((flaw : Flaw) × (r ≡ answer_of_flaw flaw) × BeginsWithFlaw k code (Some flaw))
    ⊎ ((r ≡ answer_without 7) × BeginsWithNone k code)
    ⊎ (r ≡ answer_without 3)
