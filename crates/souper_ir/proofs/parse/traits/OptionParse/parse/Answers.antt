use Rattle.souper_ir.proofs.Exits.{exit}
use Rattle.souper_ir.proofs.Nodes.Options.{peek_refused, member_refused, some_taken, none_taken}
use Rattle.souper_ir.proofs.parse.traits.OptionParse.parse.Goals as goal

pub returns-in_err-peek-clause-err : goal.returns-in_err-peek-clause-err
returns-in_err-peek-clause-err g c =
    rw (exit c.from_residual.result c.from_residual.ensures.1) (peek_refused g.P.Parse.spells g.P.Parse.continues g.P.Peek.starts c.in_err-peek.field-0.0 c.args.parser.now c.peek.new.parser c.in_err-peek.ensures)

pub returns-in_err-parse-clause-err : goal.returns-in_err-parse-clause-err
returns-in_err-parse-clause-err g c =
    rw (exit c.from_residual-in_err-parse.result c.from_residual-in_err-parse.ensures.1) (member_refused g.P.Parse.spells g.P.Parse.continues g.P.Peek.starts c.in_err-parse.field-0.0 c.args.parser.now c.peek.new.parser c.parse.new.parser (rw c.if-branch.true at c.in_ok-peek.ensures) c.in_err-parse.ensures.err)

pub returns-in_ok-parse-clause-ok : goal.returns-in_ok-parse-clause-ok
returns-in_ok-parse-clause-ok g c =
    some_taken g.P.Parse.spells g.P.Parse.continues g.P.Peek.starts g.P.Parse.leaves (g.P.Parse.view c.in_ok-parse.field-0) c.args.parser.now c.peek.new.parser c.parse.new.parser g.met.P.Peek.stays (rw c.if-branch.true at c.in_ok-peek.ensures) c.in_ok-parse.ensures.ok

pub returns-else-branch-clause-ok : goal.returns-else-branch-clause-ok
returns-else-branch-clause-ok g c =
    none_taken g.P.Parse.spells g.P.Parse.continues g.P.Peek.starts c.args.parser.now c.peek.new.parser (rw c.if-branch.false at c.in_ok-peek.ensures)
