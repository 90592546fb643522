-- The tokens that are left lead to the same state as all tokens.
use Rattle.std.proofs.Common.{◌≡◌, length}
use Rattle.souper_stream.proofs.Prelude.{kinds}
use Rattle.souper_stream.specs.Lines.{scanned}
use Rattle.souper_stream.specs.Segments.{tokens_of}
use Rattle.souper_stream.proofs.lines.scan_line.Given as goal

abbrev pub invariant-tokens : goal.invariant-tokens
invariant-tokens g l = scanned g.T.Item.item_type l.state (kinds l.lexer.tokens) ≡ scanned g.T.Item.item_type l.fn.before (tokens_of l.fn.line)

abbrev pub decreases-tokens : goal.decreases-tokens
decreases-tokens g l = length l.lexer.tokens
