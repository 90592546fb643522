-- Definitions. What a parser is seen as.
use Rattle.std.specs.Prelude.{◌≡◌, ℕ, ◌≤◌, List, ◌∷◌, map, Option, Some, None, option_map}
use Rattle.souper_graph.specs.View.{view_statement}
use Rattle.souper_lexer.specs.declared.Token.{Token}
use Rattle.souper_ir.specs.declared.parse.parser.Failure.{Failure}
use Rattle.souper_ir.specs.declared.parse.parser.Failure.TheVariants.{Refused, Memory}
use Rattle.souper_ir.specs.declared.parse.parser.Parser.TheInside.{Inside}
use Rattle.souper_graph.specs.Syntax.Tokens.{Lexeme}
use Rattle.souper_lexer.specs.TokenView.{lexeme_of}
use Rattle.souper_ir.specs.NamesView.{AreNames}
use Rattle.souper_ir.specs.Parsing.{Parsing}
use Rattle.souper_ir.specs.FailureView.{cause_of_failure}

abbrev pub placed_lexeme : ℕ × Token → ℕ × Lexeme
placed_lexeme t = (t.0, lexeme_of t.1)

-- the token that was looked at and not taken, before the others
abbrev pub with_ahead : Option (ℕ × Token) → List (ℕ × Lexeme) → List (ℕ × Lexeme)
with_ahead None ts = ts
with_ahead (Some t) ts = placed_lexeme t ∷ ts

abbrev pub parsing_of : Inside → Parsing
parsing_of p = record {
  tokens = with_ahead p.ahead p.lexer.tokens;
  faulty = p.lexer.fault;
  cut = p.lexer.cut;
  len = p.lexer.len;
  scope = map view_statement p.statements;
  failed = option_map cause_of_failure p.failed;
}

abbrev pub FailedWithin : ℕ → Option Failure → Type 0
FailedWithin len None = Unit {0}
FailedWithin len (Some (Refused o)) = o ≤ len
FailedWithin len (Some Memory) = Unit {0}

-- offsets are within the text, and until the parser fails it has the names of the statements so far
pub record IsParser (p : Inside) : Type 0 where
  pub offset : p.offset ≤ p.lexer.len
  pub failed : FailedWithin p.lexer.len p.failed
  pub names : p.failed ≡ None → AreNames p.names (map view_statement p.statements)
