use Rattle.std.proofs.Common.{[], map, true}
use Rattle.std.specs.Prelude.{codes}
use Rattle.souper_ir.proofs.Exits.{exit}
use Rattle.souper_graph.specs.Values.{replaced, candidate, Item}
use Rattle.souper_graph.specs.View.{view_statement, view_infer, view_cand}
use Rattle.souper_graph.specs.Syntax.Spelling.{replacement}
use Rattle.souper_ir.specs.Laws.Statements.{result_rule}
use Rattle.souper_ir.specs.Laws.Series.{behind}
use Rattle.souper_ir.specs.NodeReadings.{is_word}
use Rattle.souper_ir.specs.Laws.FromReadings.{is_taken, is_refused}
use Rattle.souper_ir.proofs.Items.Steps.{item_taken, statements_refused, tail_refused, look_refused, cand_tail, cand_tail_refused, root_refused, middle_refused, last_refused, replaced_tail}
use Rattle.souper_errors.specs.Errors.{error_of}
use Rattle.souper_ir.specs.Stopping.{ResultStops, TailStops}
use Rattle.souper_ir.proofs.Items.Stopping.{first_stops, last_stops, result_stops, word_stops, infer_stops, middle_stops, cand_stops}
use Rattle.souper_ir.proofs.parse.item.ReplacementWholeItem.item.Goals as goal

pub returns-in_err-statements : goal.returns-in_err-statements
returns-in_err-statements c =
    let e = error_of c.in_err-statements.field-0.0 in
    rw (exit c.from_residual.result c.from_residual.ensures.1) (record {
      ok = tt;
      err = statements_refused replacement e c.args.parser.now c.statements.new.parser c.in_err-statements.ensures.err;
      stops = first_stops (TailStops replacement) e c.args.parser.now c.in_err-statements.ensures.stops;
    })

pub returns-in_err-word_comes : goal.returns-in_err-word_comes
returns-in_err-word_comes c =
    let e = error_of c.in_err-word_comes.field-0.0 in
    let so = c.in_ok-statements.ensures.ok.1 in
    rw (exit c.from_residual-in_err-word_comes.result c.from_residual-in_err-word_comes.ensures.1) (record {
      ok = tt;
      err = tail_refused replacement _ e _ _ _ so (look_refused e c.statements.new.parser c.word_comes.new.parser c.in_err-word_comes.ensures);
      stops = last_stops (TailStops replacement) _ e _ _ so (word_stops e c.statements.new.parser c.word_comes.new.parser c.in_err-word_comes.ensures);
    })

pub returns-in_err-lhs : goal.returns-in_err-lhs
returns-in_err-lhs c =
    let e = c.in_err-lhs.field-0.0 in
    let so = c.in_ok-statements.ensures.ok.1 in
    let seen = rw c.if-branch.true at c.in_ok-word_comes.ensures in
    rw (exit c.from_residual-in_err-lhs.result c.from_residual-in_err-lhs.ensures.1) (record {
      ok = tt;
      err = tail_refused replacement _ e _ _ _ so (root_refused e c.statements.new.parser c.word_comes.new.parser c.infer.new.parser seen c.in_err-lhs.ensures.err);
      stops = last_stops (TailStops replacement) _ e _ _ so (infer_stops e c.statements.new.parser c.word_comes.new.parser seen c.in_err-lhs.ensures.stops);
    })

pub returns-in_err-statements-2 : goal.returns-in_err-statements-2
returns-in_err-statements-2 c =
    let e = error_of c.in_err-statements-2.field-0.0 in
    let so = c.in_ok-statements.ensures.ok.1 in
    let seen = rw c.if-branch.true at c.in_ok-word_comes.ensures in
    let root = behind (is_word (codes "infer")) (view_infer c.in_ok-lhs.lhs) true c.statements.new.parser c.word_comes.new.parser c.infer.new.parser seen c.in_ok-lhs.ensures.ok in
    rw (exit c.from_residual-in_err-statements-2.result c.from_residual-in_err-statements-2.ensures.1) (record {
      ok = tt;
      err = tail_refused replacement _ e _ _ _ so (middle_refused _ e _ _ c.statements-then-branch.new.parser root c.in_err-statements-2.ensures.err);
      stops = last_stops (TailStops replacement) _ e _ _ so (middle_stops _ e _ _ _ seen c.in_ok-lhs.ensures.ok (first_stops ResultStops e c.infer.new.parser c.in_err-statements-2.ensures.stops));
    })

pub returns-in_err-rhs : goal.returns-in_err-rhs
returns-in_err-rhs c =
    let e = error_of c.in_err-rhs.field-0.0 in
    let so = c.in_ok-statements.ensures.ok.1 in
    let seen = rw c.if-branch.true at c.in_ok-word_comes.ensures in
    let root = behind (is_word (codes "infer")) (view_infer c.in_ok-lhs.lhs) true c.statements.new.parser c.word_comes.new.parser c.infer.new.parser seen c.in_ok-lhs.ensures.ok in
    let further = c.in_ok-statements-2.ensures.ok.1 in
    let bad = is_refused result_rule e c.statements-then-branch.new.parser c.result.new.parser c.in_err-rhs.ensures in
    let stops = result_stops e c.statements-then-branch.new.parser c.result.new.parser c.in_err-rhs.ensures in
    rw (exit c.from_residual-in_err-rhs.result c.from_residual-in_err-rhs.ensures.1) (record {
      ok = tt;
      err = tail_refused replacement _ e _ _ _ so (last_refused _ _ e _ _ _ _ root further bad);
      stops = last_stops (TailStops replacement) _ e _ _ so (middle_stops _ e _ _ _ seen c.in_ok-lhs.ensures.ok (last_stops ResultStops _ e _ _ further stops));
    })

pub returns-in_err-cand : goal.returns-in_err-cand
returns-in_err-cand c =
    let e = c.in_err-cand.field-0.0 in
    let so = c.in_ok-statements.ensures.ok.1 in
    let seen = rw c.if-branch.false at c.in_ok-word_comes.ensures in
    rw (exit c.from_residual-in_err-cand.result c.from_residual-in_err-cand.ensures.1) (record {
      ok = tt;
      err = tail_refused replacement _ e _ _ _ so (cand_tail_refused e c.statements.new.parser c.word_comes.new.parser c.cand.new.parser seen c.in_err-cand.ensures.err);
      stops = last_stops (TailStops replacement) _ e _ _ so (cand_stops e c.statements.new.parser c.word_comes.new.parser seen c.in_err-cand.ensures.stops);
    })

pub returns-in_ok-rhs-clause-ok : goal.returns-in_ok-rhs-clause-ok
returns-in_ok-rhs-clause-ok c =
    let item : Item = record { statements = map view_statement c.finish-statements.result; ending = replaced (view_infer c.in_ok-lhs.lhs) c.in_ok-rhs.rhs } in
    let root = behind (is_word (codes "infer")) (view_infer c.in_ok-lhs.lhs) true c.statements.new.parser c.word_comes.new.parser c.infer.new.parser (rw c.if-branch.true at c.in_ok-word_comes.ensures) c.in_ok-lhs.ensures.ok in
    let last = is_taken result_rule (λ x. x) c.in_ok-rhs.rhs c.statements-then-branch.new.parser c.result.new.parser c.in_ok-rhs.ensures in
    item_taken replacement item c.in_ok-statements.ensures.ok.0 c.in_ok-statements-2.ensures.ok.0 c.args.parser.now c.statements.new.parser c.result.new.parser c.finish-statements.new.self c.in_ok-statements.ensures.ok.1
    (replaced_tail (view_infer c.in_ok-lhs.lhs) c.in_ok-statements-2.ensures.ok.0 c.in_ok-rhs.rhs c.statements.new.parser c.infer.new.parser c.statements-then-branch.new.parser c.result.new.parser root c.in_ok-statements-2.ensures.ok.1 last)
    c.finish-statements.ensures.statements c.finish-statements.ensures.empty

pub returns-in_ok-cand-clause-ok : goal.returns-in_ok-cand-clause-ok
returns-in_ok-cand-clause-ok c =
    let item : Item = record { statements = map view_statement c.finish-statements-else-branch.result; ending = candidate (view_cand c.in_ok-cand.cand) } in
    item_taken replacement item c.in_ok-statements.ensures.ok.0 [] c.args.parser.now c.statements.new.parser c.cand.new.parser c.finish-statements-else-branch.new.self c.in_ok-statements.ensures.ok.1
    (cand_tail (view_cand c.in_ok-cand.cand) c.statements.new.parser c.word_comes.new.parser c.cand.new.parser (rw c.if-branch.false at c.in_ok-word_comes.ensures) c.in_ok-cand.ensures.ok)
    c.finish-statements-else-branch.ensures.statements c.finish-statements-else-branch.ensures.empty
