use Rattle.std.proofs.Common.{refl}
use Rattle.souper_graph.specs.Syntax.Tokens.{val_name}
use Rattle.souper_ir.specs.NodeReadings.{as_name, is_name}
use Rattle.souper_ir.proofs.Nodes.Taken.{taken, seen}
use Rattle.souper_ir.proofs.parse.parser.Parser.take_name.Goals as goal

pub returns-clause-taken : goal.returns-clause-taken
returns-clause-taken c =
    taken c.self.inside (record c.self.inside { lexer = c.take_name.new.self; offset = c.in_ok-offset.offset }) c.in_ok-offset.offset (val_name c.in_ok-offset.name.now) c.args.self.now c.self.view_is c.if-is_some.ensures c.if-is_some-2.ensures c.in_ok-offset.ensures.taken (refl, refl, refl)
    as_name c.in_ok-offset.name.now refl

pub returns-clause-seen : goal.returns-clause-seen
returns-clause-seen c =
    seen c.self.inside (record c.self.inside { lexer = c.take_name.new.self; offset = c.in_ok-offset.offset }) c.in_ok-offset.offset (val_name c.in_ok-offset.name.now) c.args.self.now c.self.view_is c.if-is_some.ensures c.if-is_some-2.ensures c.in_ok-offset.ensures.taken (refl, refl, refl)
    is_name _ refl
