use Rattle.std.proofs.Common.{◌≡◌, ℕ, List}
use Rattle.souper_graph.specs.Syntax.Tokens.{Lexeme, val_name}
use Rattle.souper_ir.proofs.Nodes.Taken.{comes}
use Rattle.souper_ir.proofs.parse.parser.Parser.name_on_next_line.Goals as goal

pub returns : goal.returns
returns c h = comes (λ (t : Lexeme). (n : List ℕ) × (t ≡ val_name n)) c.self.inside c.args.self.now c.self.view_is c.if-is_some.ensures c.if-is_some-2.ensures (c.name_on_next_line.ensures h)
