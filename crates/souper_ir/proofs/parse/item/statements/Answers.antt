use Rattle.souper_ir.proofs.Exits.{exit}
use Rattle.souper_ir.specs.declared.parse.item.Next.TheVariants.{Assignment, Pc, BlockPc}
use Rattle.souper_errors.specs.Errors.{error_of, at_end_of}
use Rattle.souper_ir.specs.Reading.{cause_of, if_refused}
use Rattle.souper_ir.specs.NodeReadings.{starts_statement}
use Rattle.souper_ir.specs.Laws.Series.{behind, shorter, peek_refused, member_refused}
use Rattle.souper_ir.specs.Laws.Items.{statement_series, statements_end, entered_after}
use Rattle.souper_ir.proofs.Items.Stopping.{next_stops, statement_stops}
use Rattle.souper_ir.proofs.Nodes.NextStatements.{unseen, statement_seen, no_statement_seen}
use Rattle.souper_ir.proofs.parse.item.statements.Goals as goal

pub returns-in_err-next_kind : goal.returns-in_err-next_kind
returns-in_err-next_kind c =
    let e = error_of c.in_err-next_kind.field-0.0 in
    let h = c.in_err-next_kind.ensures in
    rw (exit c.from_residual.result c.from_residual.ensures.1) (record {
      ok = tt;
      err = peek_refused statement_series _ e _ _ _ c.loop-parser.invariant.1 (if_refused (cause_of e) (λ x. unseen starts_statement c.loop-parser.parser (at_end_of e) x) h.0, h.1);
      stops = next_stops _ e _ _ _ c.loop-parser.invariant.1 h;
    })

pub returns-in-Other-clause-ok : goal.returns-in-Other-clause-ok
returns-in-Other-clause-ok c = (
  c.loop-parser.invariant.0,
  statements_end _ _ _ _ c.loop-parser.invariant.1 (no_statement_seen c.loop-parser.parser c.next_kind.new.parser (rw c.in-Other.is at c.in_ok-next_kind.ensures)),
)

pub loop-parser-smaller-in-Continue-branch-3 : goal.loop-parser-smaller-in-Continue-branch-3
loop-parser-smaller-in-Continue-branch-3 c =
    shorter statement_series _ _ _ _ (behind starts_statement _ _ _ _ _ (statement_seen Assignment c.loop-parser.parser c.next_kind.new.parser tt (rw c.in-Assignment.is at c.in_ok-next_kind.ensures)) c.in_ok-enter_assignment-in-Assignment.ensures.ok.1)

pub loop-parser-preserved-in-Continue-branch-3 : goal.loop-parser-preserved-in-Continue-branch-3
loop-parser-preserved-in-Continue-branch-3 c =
    (_, entered_after _ _ _ _ _ _ c.loop-parser.invariant.1 (statement_seen Assignment c.loop-parser.parser c.next_kind.new.parser tt (rw c.in-Assignment.is at c.in_ok-next_kind.ensures)) c.in_ok-enter_assignment-in-Assignment.ensures.ok.1)

pub returns-in_err-enter_assignment-in-Assignment : goal.returns-in_err-enter_assignment-in-Assignment
returns-in_err-enter_assignment-in-Assignment c =
    let next = rw c.in-Assignment.is at c.in_ok-next_kind.ensures in
    rw (exit c.from_residual-in_err-enter_assignment-in-Assignment.result c.from_residual-in_err-enter_assignment-in-Assignment.ensures.1) (record {
      ok = tt;
      err = member_refused statement_series _ (error_of c.in_err-enter_assignment-in-Assignment.field-0.0) _ _ _ _ c.loop-parser.invariant.1 (statement_seen Assignment c.loop-parser.parser c.next_kind.new.parser tt next) c.in_err-enter_assignment-in-Assignment.ensures.err;
      stops = statement_stops Assignment _ (error_of c.in_err-enter_assignment-in-Assignment.field-0.0) _ _ _ c.loop-parser.invariant.1 next c.in_err-enter_assignment-in-Assignment.ensures.stops;
    })

pub loop-parser-smaller-in-Continue-branch-4 : goal.loop-parser-smaller-in-Continue-branch-4
loop-parser-smaller-in-Continue-branch-4 c =
    shorter statement_series _ _ _ _ (behind starts_statement _ _ _ _ _ (statement_seen Pc c.loop-parser.parser c.next_kind.new.parser tt (rw c.in-Pc.is at c.in_ok-next_kind.ensures)) c.in_ok-enter_pc-in-Pc.ensures.ok.1)

pub loop-parser-preserved-in-Continue-branch-4 : goal.loop-parser-preserved-in-Continue-branch-4
loop-parser-preserved-in-Continue-branch-4 c =
    (_, entered_after _ _ _ _ _ _ c.loop-parser.invariant.1 (statement_seen Pc c.loop-parser.parser c.next_kind.new.parser tt (rw c.in-Pc.is at c.in_ok-next_kind.ensures)) c.in_ok-enter_pc-in-Pc.ensures.ok.1)

pub returns-in_err-enter_pc-in-Pc : goal.returns-in_err-enter_pc-in-Pc
returns-in_err-enter_pc-in-Pc c =
    let next = rw c.in-Pc.is at c.in_ok-next_kind.ensures in
    rw (exit c.from_residual-in_err-enter_pc-in-Pc.result c.from_residual-in_err-enter_pc-in-Pc.ensures.1) (record {
      ok = tt;
      err = member_refused statement_series _ (error_of c.in_err-enter_pc-in-Pc.field-0.0) _ _ _ _ c.loop-parser.invariant.1 (statement_seen Pc c.loop-parser.parser c.next_kind.new.parser tt next) c.in_err-enter_pc-in-Pc.ensures.err;
      stops = statement_stops Pc _ (error_of c.in_err-enter_pc-in-Pc.field-0.0) _ _ _ c.loop-parser.invariant.1 next c.in_err-enter_pc-in-Pc.ensures.stops;
    })

pub loop-parser-smaller : goal.loop-parser-smaller
loop-parser-smaller c =
    shorter statement_series _ _ _ _ (behind starts_statement _ _ _ _ _ (statement_seen BlockPc c.loop-parser.parser c.next_kind.new.parser tt (rw c.in-BlockPc.is at c.in_ok-next_kind.ensures)) c.in_ok-enter_block_pc-in-BlockPc.ensures.ok.1)

pub loop-parser-preserved : goal.loop-parser-preserved
loop-parser-preserved c =
    (_, entered_after _ _ _ _ _ _ c.loop-parser.invariant.1 (statement_seen BlockPc c.loop-parser.parser c.next_kind.new.parser tt (rw c.in-BlockPc.is at c.in_ok-next_kind.ensures)) c.in_ok-enter_block_pc-in-BlockPc.ensures.ok.1)

pub returns-in_err-enter_block_pc-in-BlockPc : goal.returns-in_err-enter_block_pc-in-BlockPc
returns-in_err-enter_block_pc-in-BlockPc c =
    let next = rw c.in-BlockPc.is at c.in_ok-next_kind.ensures in
    rw (exit c.from_residual-in_err-enter_block_pc-in-BlockPc.result c.from_residual-in_err-enter_block_pc-in-BlockPc.ensures.1) (record {
      ok = tt;
      err = member_refused statement_series _ (error_of c.in_err-enter_block_pc-in-BlockPc.field-0.0) _ _ _ _ c.loop-parser.invariant.1 (statement_seen BlockPc c.loop-parser.parser c.next_kind.new.parser tt next) c.in_err-enter_block_pc-in-BlockPc.ensures.err;
      stops = statement_stops BlockPc _ (error_of c.in_err-enter_block_pc-in-BlockPc.field-0.0) _ _ _ c.loop-parser.invariant.1 next c.in_err-enter_block_pc-in-BlockPc.ensures.stops;
    })
