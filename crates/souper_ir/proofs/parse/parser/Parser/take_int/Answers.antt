use Rattle.std.proofs.Common.{refl}
use Rattle.souper_graph.specs.Syntax.Tokens.{int}
use Rattle.souper_ir.proofs.Nodes.Taken.{taken_itself}
use Rattle.souper_ir.proofs.parse.parser.Parser.take_int.Goals as goal

pub returns-clause-taken : goal.returns-clause-taken
returns-clause-taken c =
    taken_itself c.self.inside (record c.self.inside { lexer = c.take_int.new.self; offset = c.in_ok-offset.offset }) c.in_ok-offset.offset (int c.in_ok-offset.digits.now) c.args.self.now c.self.view_is c.if-is_some.ensures c.if-is_some-2.ensures c.in_ok-offset.ensures.taken (refl, refl, refl)
