use Rattle.std.proofs.Common.{[]}
use Rattle.souper_ir.proofs.Exits.{exit}
use Rattle.souper_graph.specs.declared.ast.items.LeftHandSide.{LeftHandSide}
use Rattle.souper_graph.specs.View.{view_infer, view_left_hand_side}
use Rattle.souper_graph.specs.Syntax.Spelling.{left_hand_side}
use Rattle.souper_ir.proofs.Items.Steps.{item_taken, statements_refused, tail_refused, infer_tail, infer_tail_refused}
use Rattle.souper_errors.specs.Errors.{error_of}
use Rattle.souper_ir.specs.Stopping.{TailStops}
use Rattle.souper_ir.proofs.Items.Stopping.{first_stops, last_stops}
use Rattle.souper_ir.proofs.parse.item.LeftHandSideWholeItem.item.Goals as goal

pub returns-in_err-statements : goal.returns-in_err-statements
returns-in_err-statements c =
    let e = error_of c.in_err-statements.field-0.0 in
    rw (exit c.from_residual.result c.from_residual.ensures.1) (record {
      ok = tt;
      err = statements_refused left_hand_side e c.args.parser.now c.statements.new.parser c.in_err-statements.ensures.err;
      stops = first_stops (TailStops left_hand_side) e c.args.parser.now c.in_err-statements.ensures.stops;
    })

pub returns-in_err-infer : goal.returns-in_err-infer
returns-in_err-infer c =
    let e = c.in_err-infer.field-0.0 in
    let so = c.in_ok-statements.ensures.ok.1 in
    rw (exit c.from_residual-in_err-infer.result c.from_residual-in_err-infer.ensures.1) (record {
      ok = tt;
      err = tail_refused left_hand_side _ e _ _ _ so (infer_tail_refused e c.statements.new.parser c.infer.new.parser c.in_err-infer.ensures.err);
      stops = last_stops (TailStops left_hand_side) _ e _ _ so c.in_err-infer.ensures.stops;
    })

pub returns-clause-ok : goal.returns-clause-ok
returns-clause-ok c =
    let item : LeftHandSide = record { statements = c.finish-statements.result; infer = c.in_ok-infer.infer } in
    item_taken left_hand_side (view_left_hand_side item) c.in_ok-statements.ensures.ok.0 [] c.args.parser.now c.statements.new.parser c.infer.new.parser c.finish-statements.new.self c.in_ok-statements.ensures.ok.1
    (infer_tail (view_infer c.in_ok-infer.infer) c.statements.new.parser c.infer.new.parser c.in_ok-infer.ensures.ok) c.finish-statements.ensures.statements c.finish-statements.ensures.empty
