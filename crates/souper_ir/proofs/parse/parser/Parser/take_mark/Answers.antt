use Rattle.std.proofs.Common.{refl, ap}
use Rattle.std.specs.Prelude.{is_some}
use Rattle.souper_ir.specs.MarkView.{lexeme_of_mark}
use Rattle.souper_ir.specs.NodeReadings.{as_mark, is_mark}
use Rattle.souper_ir.proofs.Nodes.Taken.{mark_itself, taken, seen}
use Rattle.souper_ir.proofs.parse.parser.Parser.take_mark.Goals as goal

pub returns-in-Some-clause-taken : goal.returns-in-Some-clause-taken
returns-in-Some-clause-taken c is_true =
    taken c.self.inside (record c.self.inside { lexer = c.take_mark.new.self; offset = c.in-Some.offset }) c.in-Some.offset (lexeme_of_mark c.args.mark) c.args.self.now c.self.view_is c.if-is_some.ensures c.if-is_some-2.ensures
    (c.in-Some.ensures.taken (lexeme_of_mark c.args.mark) c.byte_of.ensures) (refl, refl, refl)
    (as_mark (lexeme_of_mark c.args.mark)) tt (mark_itself c.args.mark)

pub returns-in-Some-clause-seen : goal.returns-in-Some-clause-seen
returns-in-Some-clause-seen c is_true =
    seen c.self.inside (record c.self.inside { lexer = c.take_mark.new.self; offset = c.in-Some.offset }) c.in-Some.offset (lexeme_of_mark c.args.mark) c.args.self.now c.self.view_is c.if-is_some.ensures c.if-is_some-2.ensures
    (c.in-Some.ensures.taken (lexeme_of_mark c.args.mark) c.byte_of.ensures) (refl, refl, refl)
    (is_mark (lexeme_of_mark c.args.mark)) _ (ap is_some (mark_itself c.args.mark))
