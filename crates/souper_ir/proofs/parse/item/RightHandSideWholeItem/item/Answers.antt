use Rattle.std.proofs.Common.{[]}
use Rattle.souper_ir.proofs.Exits.{exit}
use Rattle.souper_graph.specs.declared.ast.items.RightHandSide.{RightHandSide}
use Rattle.souper_graph.specs.View.{view_right_hand_side}
use Rattle.souper_graph.specs.Syntax.Spelling.{right_hand_side}
use Rattle.souper_ir.specs.Laws.Statements.{result_rule}
use Rattle.souper_ir.specs.Laws.FromReadings.{is_taken, is_refused}
use Rattle.souper_ir.proofs.Items.Steps.{item_taken, statements_refused, tail_refused, result_tail, result_tail_refused}
use Rattle.souper_errors.specs.Errors.{error_of}
use Rattle.souper_ir.specs.Stopping.{TailStops}
use Rattle.souper_ir.proofs.Items.Stopping.{first_stops, last_stops, result_stops}
use Rattle.souper_ir.proofs.parse.item.RightHandSideWholeItem.item.Goals as goal

pub returns-in_err-statements : goal.returns-in_err-statements
returns-in_err-statements c =
    let e = error_of c.in_err-statements.field-0.0 in
    rw (exit c.from_residual.result c.from_residual.ensures.1) (record {
      ok = tt;
      err = statements_refused right_hand_side e c.args.parser.now c.statements.new.parser c.in_err-statements.ensures.err;
      stops = first_stops (TailStops right_hand_side) e c.args.parser.now c.in_err-statements.ensures.stops;
    })

pub returns-in_err-result : goal.returns-in_err-result
returns-in_err-result c =
    let e = error_of c.in_err-result.field-0.0 in
    let so = c.in_ok-statements.ensures.ok.1 in
    let bad = is_refused result_rule e c.statements.new.parser c.result.new.parser c.in_err-result.ensures in
    rw (exit c.from_residual-in_err-result.result c.from_residual-in_err-result.ensures.1) (record {
      ok = tt;
      err = tail_refused right_hand_side _ e _ _ _ so (result_tail_refused e c.statements.new.parser c.result.new.parser bad);
      stops = last_stops (TailStops right_hand_side) _ e _ _ so (result_stops e c.statements.new.parser c.result.new.parser c.in_err-result.ensures);
    })

pub returns-clause-ok : goal.returns-clause-ok
returns-clause-ok c =
    let item : RightHandSide = record { statements = c.finish-statements.result; result = c.in_ok-result.result } in
    item_taken right_hand_side (view_right_hand_side item) c.in_ok-statements.ensures.ok.0 [] c.args.parser.now c.statements.new.parser c.result.new.parser c.finish-statements.new.self c.in_ok-statements.ensures.ok.1
    (result_tail c.in_ok-result.result c.statements.new.parser c.result.new.parser (is_taken result_rule (λ x. x) c.in_ok-result.result c.statements.new.parser c.result.new.parser c.in_ok-result.ensures))
    c.finish-statements.ensures.statements c.finish-statements.ensures.empty
