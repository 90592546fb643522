-- Definitions. The bytes of a record.
use Rattle.std.specs.Prelude.{◌≡◌, ℕ, List, ◌∷◌, ◌++◌}
use Rattle.replay_answers.specs.declared.records.Record.{Record}
use Rattle.replay_answers.specs.Words.{IsHead}

-- the head, the text and the stored result, each with a newline after it, and then the rest
abbrev pub IsTaken : List ℕ → Record → List ℕ → Type 0
IsTaken bytes r rest =
    (head : List ℕ) × IsHead head r.kind r.is_refused × (bytes ≡ head ++ 10 ∷ (r.text.now ++ 10 ∷ (r.answer.now ++ 10 ∷ rest)))
