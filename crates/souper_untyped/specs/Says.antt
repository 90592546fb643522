-- Definitions. What is said of a flaw: the message, the number and the line of the statement, and a hint.
use Rattle.std.specs.Prelude.{ℕ, ◌+◌, List, ◌++◌, codes, decimal, Option, Some, None, option_map}
use Rattle.std.specs.String.{string_bytes}
use Rattle.souper_graph.specs.declared.ast.flaws.FlawLocation.{FlawLocation}
use Rattle.souper_graph.specs.declared.ast.flaws.FlawLocation.TheVariants.{Statement}
use Rattle.souper_graph.specs.Values.{Item}
use Rattle.souper_widths.specs.declared.flaws.WidthFlaw.{WidthFlaw}
use Rattle.souper_untyped.specs.declared.says.FlawText.{FlawText}
use Rattle.souper_untyped.specs.Messages.{message_of}
use Rattle.souper_untyped.specs.Lines.{line_of}
use Rattle.souper_untyped.specs.Hints.{hint_of, hint_line}

pub record Says : Type 0 where
  pub message : List ℕ
  pub statement : Option ℕ
  pub line : List ℕ
  pub hint : Option (List ℕ)

abbrev pub view_flaw_text : FlawText → Says
view_flaw_text t = record { message = string_bytes t.message; statement = t.statement; line = string_bytes t.line; hint = option_map string_bytes t.hint }

-- the number of a statement, from 1; none of a last line
abbrev pub number_of : FlawLocation → Option ℕ
number_of (Statement p) = Some (p + 1)
number_of l = None

-- what is said of the flaw of this item
abbrev pub says_of : Item → WidthFlaw → Says
says_of a flaw = record { message = message_of flaw.reason; statement = number_of flaw.location; line = line_of a flaw.location; hint = hint_of a flaw }

abbrev pub place_text : Option ℕ → List ℕ
place_text (Some n) = codes "statement " ++ (decimal n ++ codes ": ")
place_text None = codes "last line: "

-- the lines of the error
abbrev pub lines_of : Says → List ℕ
lines_of s = s.message ++ (codes "\n" ++ (place_text s.statement ++ (s.line ++ hint_line s.hint)))
