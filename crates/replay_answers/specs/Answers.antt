-- Definitions. What a stored result says of its text.
use Rattle.std.specs.Prelude.{ℕ, List, [], Bool, true, false}
use Rattle.souper_graph.specs.Syntax.Spelling.{ItemType, SpellsNone}
use Rattle.souper_format.specs.Formatted.{IsFormatted}
use Rattle.souper_ir.specs.Kinds.{item_type_of}
use Rattle.replay_answers.specs.declared.records.Record.{Record}
use Rattle.replay_answers.specs.Records.{IsTaken}

-- the text spells no items if it is rejected, and else the result is the canonical texts of the items that it spells
abbrev pub right_of : ItemType → Bool → List ℕ → List ℕ → Type 0
right_of k true text answer = SpellsNone k text
right_of k false text answer = IsFormatted k text answer

abbrev pub IsRight : Record → Type 0
IsRight r = right_of (item_type_of r.kind) r.is_refused r.text.now r.answer.now

-- the bytes are records from end to end, and each is right
pub data AllRight : List ℕ → Type 0 where
  no_record : AllRight []
  one_more : {bytes rest : List ℕ} → (r : Record) → IsTaken bytes r rest → IsRight r → AllRight rest → AllRight bytes
