use Rattle.std.proofs.Common.{◌≡◌, ◌<◌, true, false, length, take, sym, ap, ◌∙◌, arith, eqb-true, length-drop}
use Rattle.std.proofs.lemmas.List.{take_rest}
use Rattle.std.proofs.lemmas.Result.{err_from_is_err_and}
use Rattle.std.proofs.lemmas.Bool.Decides.{nat_tests}
use Rattle.souper_stream.specs.Lines.{starts_line}
use Rattle.souper_stream.specs.Segments.{tokens_of}
use Rattle.souper_stream.proofs.Cutting.{scanned_step, first_cut, first_end, scan_on, scan_begun, scan_to, passed_over, bad_line}
use Rattle.souper_stream.proofs.cuts.scan_segment.Goals as goal
use Rattle.souper_stream.proofs.cuts.scan_segment.Goals.{else-state-via-then-state+else-starts_line, else-state-via-else-state}

pub loop-line-init : goal.loop-line-init
loop-line-init g c =
    let text = c.args.text.now in
    let before = c.args.before in
    let rest_is = take_rest text before.len in
    record {
      within = omega (arith, length-drop before.len text, ap length rest_is);
      begun = λ e. omega (arith, scan_begun _ text before c.requires.scanned e, c.requires.within, length-drop before.len text, ap length rest_is);
      scanned = λ ls e lines. rw rest_is (scan_on _ ls text before e (c.requires.scanned ls e lines));
    }

pub loop-line-preserved : goal.loop-line-preserved
loop-line-preserved g c =
    let rest = c.loop-line.rest.now in
    let n = c.first_line_len.result in
    let over = c.pass_without_end.ensures in
    let some : 0 < length rest = grind (arith, nat_tests, c.is_empty.ensures, c.loop-line-test.true) in
    let less : length c.pass_without_end.result.0.now < length c.args.text.now = omega (arith, c.loop-line.invariant.within, c.split_at.ensures.back_len, over.within, c.first_line_len.ensures.some) in
    let line : c.in_ok-line.line.now ≡ take n rest = c.in_ok-line.ensures.same ∙ c.split_at.ensures.front in
    let not_both : c.loop-line.state.ends_item ≡ true → starts_line (tokens_of (take n rest)) ≡ true → ⊥ =
    elim c.else-state.branch [
      | else-state-via-then-state+else-starts_line w ↦ (λ e starts. (let no : starts_line (tokens_of (take n rest)) ≡ false = rw (← line, ← w.starts_line.ensures) w.if-starts_line.false in cc))
      | else-state-via-else-state w ↦ (λ e starts. (let no = w.if-state.false in cc))
    ] in
    record {
      within = omega arith;
      begun = λ e. less;
      scanned = λ ls e lines. passed_over g.T.Item.item_type ls c.split_at.result.1.now c.pass_without_end.result.0.now c.scan_line-state.result lines
          (rw (c.split_at.ensures.back, c.scan_line-state.ensures, line) (scanned_step g.T.Item.item_type ls rest c.loop-line.state lines (c.loop-line.invariant.scanned ls e lines) n some c.first_line_len.ensures.line not_both)) over.over;
    }

pub returns-then-starts_line-clause-segment : goal.returns-then-starts_line-clause-segment
returns-then-starts_line-clause-segment g c = λ ls e lines.
    let line : c.in_ok-line.line.now ≡ take c.first_line_len.result c.loop-line.rest.now = c.in_ok-line.ensures.same ∙ c.split_at.ensures.front in
    first_cut _ _ _ _ lines (c.loop-line.invariant.scanned ls e lines) c.args.text.now _ e (grind (arith, nat_tests, c.is_empty.ensures, c.loop-line-test.true)) c.first_line_len.ensures.line
    c.if-state.true (rw (← line, ← c.starts_line.ensures) c.if-starts_line.true)

pub returns-clause-segment : goal.returns-clause-segment
returns-clause-segment g c = λ ls e lines.
    first_end _ _ _ _ lines (c.loop-line.invariant.scanned ls e lines) c.args.text.now e (eqb-true _ 0 (sym c.is_empty.ensures ∙ c.loop-line-test.false))

pub returns-in_err-line-clause-failed : goal.returns-in_err-line-clause-failed
returns-in_err-line-clause-failed g c =
    rw (err_from_is_err_and c.from_residual.result c.from_residual.ensures.1).1 (λ ls e lines.
    bad_line _ _ _ _ lines (c.loop-line.invariant.scanned ls e lines) _ (grind (arith, nat_tests, c.is_empty.ensures, c.loop-line-test.true)) c.first_line_len.ensures.line (rw c.split_at.ensures.front at c.in_err-line.ensures.failed))

pub returns-then-starts_line-clause-scanned : goal.returns-then-starts_line-clause-scanned
returns-then-starts_line-clause-scanned g c = λ ls e lines. scan_to _ _ _ _ lines (c.loop-line.invariant.scanned ls e lines) c.args.text.now e

pub returns-clause-scanned : goal.returns-clause-scanned
returns-clause-scanned g c = λ ls e lines. scan_to _ _ _ _ lines (c.loop-line.invariant.scanned ls e lines) c.args.text.now e
