use Rattle.std.specs.Prelude.{codes}
use Rattle.souper_ir.proofs.Exits.{exit}
use Rattle.souper_graph.specs.View.{view_assignment}
use Rattle.souper_ir.specs.NodeReadings.{is_word}
use Rattle.souper_ir.proofs.Nodes.Statements.{Refuses, peek_refused, pc_taken, pc_refused, passed, block_pc_taken, block_pc_refused, Takes_it, assignment_taken, assignment_refused}
use Rattle.souper_graph.specs.Values.{block_condition}
use Rattle.souper_errors.specs.Errors.{error_of}
use Rattle.souper_ir.proofs.parse.statements.StatementParse.parse.Goals as goal

pub returns-in_err-word_comes-clause-err : goal.returns-in_err-word_comes-clause-err
returns-in_err-word_comes-clause-err c =
    rw (exit c.from_residual.result c.from_residual.ensures.1) (peek_refused (is_word (codes "pc")) (error_of c.in_err-word_comes.field-0.0) c.args.parser.now c.word_comes.new.parser c.in_err-word_comes.ensures)

pub returns-in_err-pc-clause-err : goal.returns-in_err-pc-clause-err
returns-in_err-pc-clause-err c =
    rw (exit c.from_residual-in_err-pc.result c.from_residual-in_err-pc.ensures.1) (pc_refused (error_of c.in_err-pc.field-0.0) c.args.parser.now c.word_comes.new.parser c.pc.new.parser (rw c.if-branch.true at c.in_ok-word_comes.ensures) c.in_err-pc.ensures)

pub returns-in_err-word_comes-2-clause-err : goal.returns-in_err-word_comes-2-clause-err
returns-in_err-word_comes-2-clause-err c =
    let e = (error_of c.in_err-word_comes-2.field-0.0) in
    rw (exit c.from_residual-in_err-word_comes-2.result c.from_residual-in_err-word_comes-2.ensures.1) (passed (λ x. Refuses e x c.word_comes-else-branch.new.parser) (codes "pc") c.args.parser.now c.word_comes.new.parser (rw c.if-branch.false at c.in_ok-word_comes.ensures)
    (peek_refused (is_word (codes "blockpc")) e c.word_comes.new.parser c.word_comes-else-branch.new.parser c.in_err-word_comes-2.ensures))

pub returns-in_err-block_pc-clause-err : goal.returns-in_err-block_pc-clause-err
returns-in_err-block_pc-clause-err c =
    let e = (error_of c.in_err-block_pc.field-0.0) in
    rw (exit c.from_residual-in_err-block_pc.result c.from_residual-in_err-block_pc.ensures.1) (passed (λ x. Refuses e x c.block_pc.new.parser) (codes "pc") c.args.parser.now c.word_comes.new.parser (rw c.if-branch.false at c.in_ok-word_comes.ensures)
    (block_pc_refused e c.word_comes.new.parser c.word_comes-else-branch.new.parser c.block_pc.new.parser (rw c.if-branch-2.true at c.in_ok-word_comes-2.ensures) c.in_err-block_pc.ensures))

pub returns-in_err-assignment-clause-err : goal.returns-in_err-assignment-clause-err
returns-in_err-assignment-clause-err c =
    rw (exit c.from_residual-in_err-assignment.result c.from_residual-in_err-assignment.ensures.1) (assignment_refused (error_of c.in_err-assignment.field-0.0) c.args.parser.now c.word_comes.new.parser c.word_comes-else-branch.new.parser c.assignment.new.parser
    (rw c.if-branch.false at c.in_ok-word_comes.ensures) (rw c.if-branch-2.false at c.in_ok-word_comes-2.ensures) c.in_err-assignment.ensures.err)

pub returns-in_ok-pc-clause-ok : goal.returns-in_ok-pc-clause-ok
returns-in_ok-pc-clause-ok c =
    rw c.into.ensures (pc_taken c.in_ok-pc.field-0 c.args.parser.now c.word_comes.new.parser c.pc.new.parser (rw c.if-branch.true at c.in_ok-word_comes.ensures) c.in_ok-pc.ensures)

pub returns-in_ok-block_pc-clause-ok : goal.returns-in_ok-block_pc-clause-ok
returns-in_ok-block_pc-clause-ok c =
    rw c.into-then-branch-2.ensures (passed (λ x. Takes_it (block_condition c.in_ok-block_pc.field-0) x c.block_pc.new.parser) (codes "pc") c.args.parser.now c.word_comes.new.parser (rw c.if-branch.false at c.in_ok-word_comes.ensures)
    (block_pc_taken c.in_ok-block_pc.field-0 c.word_comes.new.parser c.word_comes-else-branch.new.parser c.block_pc.new.parser (rw c.if-branch-2.true at c.in_ok-word_comes-2.ensures) c.in_ok-block_pc.ensures))

pub returns-in_ok-assignment-clause-ok : goal.returns-in_ok-assignment-clause-ok
returns-in_ok-assignment-clause-ok c =
    rw c.into-else-branch-2.ensures (assignment_taken (view_assignment c.in_ok-assignment.field-0) c.args.parser.now c.word_comes.new.parser c.word_comes-else-branch.new.parser c.assignment.new.parser
    (rw c.if-branch.false at c.in_ok-word_comes.ensures) (rw c.if-branch-2.false at c.in_ok-word_comes-2.ensures) c.in_ok-assignment.ensures.ok)
