use Rattle.std.proofs.Common.{refl}
use Rattle.souper_graph.specs.Syntax.Tokens.{ident}
use Rattle.souper_ir.specs.NodeReadings.{is_any}
use Rattle.souper_ir.proofs.Nodes.Taken.{taken_itself, seen}
use Rattle.souper_ir.proofs.parse.parser.Parser.take_word.Goals as goal

pub returns-clause-taken : goal.returns-clause-taken
returns-clause-taken c =
    taken_itself c.self.inside (record c.self.inside { lexer = c.take_word.new.self; offset = c.in_ok-offset.offset }) c.in_ok-offset.offset (ident c.in_ok-offset.word.now) c.args.self.now c.self.view_is c.if-is_some.ensures c.if-is_some-2.ensures c.in_ok-offset.ensures.taken (refl, refl, refl)

pub returns-clause-seen : goal.returns-clause-seen
returns-clause-seen c =
    seen c.self.inside (record c.self.inside { lexer = c.take_word.new.self; offset = c.in_ok-offset.offset }) c.in_ok-offset.offset (ident c.in_ok-offset.word.now) c.args.self.now c.self.view_is c.if-is_some.ensures c.if-is_some-2.ensures c.in_ok-offset.ensures.taken (refl, refl, refl)
    is_any _ refl
