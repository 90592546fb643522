use Rattle.std.proofs.Common.{◌<◌, ℕ, ◌∙◌, ap, map, length, arith}
use Rattle.std.specs.Prelude.{slice_set}
use Rattle.std.specs.List.{slice_get}
use Rattle.std.proofs.lemmas.List.{length-map}
use Rattle.souper_graph.specs.View.{view_statement}
use Rattle.souper_widths.specs.Maps.{WidthMap, result_width}
use Rattle.souper_widths.specs.View.{view_widths}
use Rattle.souper_typed.specs.Written.{written_with}
use Rattle.souper_typed.proofs.Loops.{statement-next, statement-there, within-index}
use Rattle.souper_typed.proofs.statements.write_statements.Goals as goal
use Rattle.souper_typed.proofs.statements.write_statements.Goals.{in-Some, in_default}

pub loop-index-preserved : goal.loop-index-preserved
loop-index-preserved c =
    let f = c.args.form in
    let m : WidthMap = view_widths c.args.widths.now in
    let xs = map view_statement c.args.statements.now in
    let ss = c.loop-index.statements in
    let i = c.loop-index.index in
    let long = length-map c.args.statements.now view_statement in
    let within : i < length xs = omega (arith, long, c.loop-index-test.true, c.len-index-end.ensures) in
    let some : i < length m.results = omega (arith, c.requires.results, c.loop-index-test.true, c.len-index-end.ensures) in
    let used : i < length m.operands = omega (arith, c.requires.operands, c.loop-index-test.true, c.len-index-end.ensures) in
    let w0 = c.index-result_width.ensures ∙ within-index m.results i c.index-result_width.result.now some in
    let v0 = c.index-operand_width.ensures ∙ within-index m.operands i c.index-operand_width.result.now used in
    elim c.match-get_mut.branch [
      | in-Some w ↦
          ap (map view_statement) w.statements-is
          ∙ ap (λ (n : ℕ). map view_statement (slice_set ss n w.write_statement.new.statement)) c.at.ensures
          ∙ statement-next f m xs ss i w.in-Some.statement.now w.write_statement.new.statement c.loop-index.invariant within (w.in-Some.ensures.value ∙ ap (λ (n : ℕ). slice_get ss n) c.at.ensures)
          (w.write_statement.ensures
          ∙ ap (λ (n : ℕ). written_with f n c.index-operand_width.result.now (view_statement w.in-Some.statement.now)) w0
          ∙ ap (λ (n : ℕ). written_with f (result_width m i) n (view_statement w.in-Some.statement.now)) v0)
      | in_default w ↦ statement-there f m xs ss i c.loop-index.invariant within (w.in_default.ensures.value ∙ ap (λ (n : ℕ). slice_get ss n) c.at.ensures)
    ]
