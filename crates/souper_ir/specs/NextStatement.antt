-- Definitions. Which statement the next token begins.
use Rattle.std.specs.Prelude.{Bool, Option, Ok, if◌then◌else◌, codes}
use Rattle.souper_graph.specs.Syntax.Tokens.{Lexeme}
use Rattle.souper_ir.specs.declared.parse.item.Next.{Next}
use Rattle.souper_ir.specs.declared.parse.item.Next.TheVariants.{Assignment, Pc, BlockPc, Other}
use Rattle.souper_ir.specs.Parsing.{Parsing}
use Rattle.souper_ir.specs.Reading.{Reads, ◌>>=◌, look_at, IsRead}
use Rattle.souper_ir.specs.Grammar.{starts_next}
use Rattle.souper_ir.specs.NodeReadings.{is_name, is_word}

-- by whether the token is `pc`, `blockpc` or a name
abbrev pub next_statement_by : Bool → Bool → Bool → Next
next_statement_by pc block_pc name = if pc then Pc else (if block_pc then BlockPc else (if name then Assignment else Other))

abbrev pub next_statement_of : Option Lexeme → Next
next_statement_of t = next_statement_by (starts_next (is_word (codes "pc")) t) (starts_next (is_word (codes "blockpc")) t) (starts_next is_name t)

unfoldable pub next_at : Parsing → Reads Next
next_at p = do
  t ← look_at p
  Ok (next_statement_of t.0, t.1)

-- a parser that has not failed, and whose next token begins this
abbrev pub NextIs : Next → Parsing → Type 0
NextIs n p = IsRead (next_at p) n p p
