-- Definitions. What remains for a parser, and its state.
use Rattle.std.specs.Prelude.{ℕ, Bool, List, Option}
use Rattle.souper_graph.specs.Syntax.Tokens.{Lexeme}
use Rattle.souper_graph.specs.Syntax.Spelling.{Scope}

-- why a parser has failed
pub data Cause : Type 0 where
  refused : ℕ → Cause
  no_memory : Cause

pub record Parsing : Type 0 where
  -- the remaining tokens, with their offsets
  pub tokens : List (ℕ × Lexeme)
  -- whether a lexical fault follows them
  pub faulty : Bool
  -- whether the text ends after them, or in the word `knownBits`
  pub cut : Bool
  -- the length of the text in bytes
  pub len : ℕ
  -- the statements so far
  pub scope : Scope
  pub failed : Option Cause
