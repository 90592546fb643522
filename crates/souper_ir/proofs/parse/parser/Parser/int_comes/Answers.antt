use Rattle.std.proofs.Common.{◌≡◌, ℕ, List}
use Rattle.souper_graph.specs.Syntax.Tokens.{Lexeme, int}
use Rattle.souper_ir.proofs.Nodes.Taken.{comes}
use Rattle.souper_ir.proofs.parse.parser.Parser.int_comes.Goals as goal

pub returns : goal.returns
returns c h = comes (λ (t : Lexeme). (w : List ℕ) × (t ≡ int w)) c.self.inside c.args.self.now c.self.view_is c.if-is_some.ensures c.if-is_some-2.ensures (c.int_comes.ensures h)
