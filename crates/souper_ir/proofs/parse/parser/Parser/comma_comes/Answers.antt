use Rattle.std.proofs.Common.{◌≡◌}
use Rattle.souper_graph.specs.Syntax.Tokens.{Lexeme, comma}
use Rattle.souper_ir.proofs.Nodes.Taken.{comes}
use Rattle.souper_ir.proofs.parse.parser.Parser.comma_comes.Goals as goal

pub returns : goal.returns
returns c h = comes (λ (t : Lexeme). t ≡ comma) c.self.inside c.args.self.now c.self.view_is c.if-is_some.ensures c.if-is_some-2.ensures (c.comma_comes.ensures h)
