-- Definitions. Words on numbers, all of one width, for worked examples.
use Rattle.std.specs.Prelude.{ℕ, ◌+◌}
use Rattle.souper_words.specs.declared.outcome.Outcome.{Outcome}
use Rattle.souper_words.specs.declared.outcome.Outcome.TheVariants.{Number}
use Rattle.souper_words.specs.declared.words.Word.{Word}
use Rattle.souper_words.specs.declared.words.Word.TheVariants.{Select}
use Rattle.souper_words.specs.Words.{outcome}

-- one operand, two, and three
abbrev pub of_one : Word → ℕ → ℕ → Outcome
of_one x w a = outcome x w w 0 (Number a) (Number 0) (Number 0)

abbrev pub of_two : Word → ℕ → ℕ → ℕ → Outcome
of_two x w a b = outcome x w w 0 (Number a) (Number b) (Number 0)

abbrev pub of_three : Word → ℕ → ℕ → ℕ → ℕ → Outcome
of_three x w a b c = outcome x w w 0 (Number a) (Number b) (Number c)

-- a comparison, a change of width, and a pair of operands of v bits
abbrev pub compared : Word → ℕ → ℕ → ℕ → Outcome
compared x v a b = outcome x 1 v 0 (Number a) (Number b) (Number 0)

abbrev pub resized : Word → ℕ → ℕ → ℕ → Outcome
resized x w v a = outcome x w v 0 (Number a) (Number 0) (Number 0)

abbrev pub paired : Word → ℕ → ℕ → ℕ → Outcome
paired x v a b = outcome x (v + 1) v 0 (Number a) (Number b) (Number 0)

-- a select among two arms, by a condition
abbrev pub chosen : Outcome → Outcome → Outcome → Outcome
chosen c a b = outcome Select 8 8 0 c a b
