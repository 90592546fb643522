use Rattle.std.proofs.Common.{map, refl}
use Rattle.std.specs.String.{string_bytes}
use Rattle.std.proofs.lemmas.Result.{err_from_is_err_and}
use Rattle.souper_graph.specs.View.{view_statement}
use Rattle.souper_graph.specs.Uses.{uses_at}
use Rattle.souper_graph.specs.Text.{line_at}
use Rattle.souper_graph.proofs.Texts.Naming.{AreMet-more, IsFaultAmong-part, texts_more}
use Rattle.souper_graph.proofs.stringify.lines.append_lines.Goals as goal

pub loop-id-preserved : goal.loop-id-preserved
loop-id-preserved c =
    let ss = map view_statement c.args.statements.now in
    record {
      written =
          texts_more (line_at ss) c.args.ids.now c.loop-id.id-index c.id-item.result (string_bytes c.args.out.now) (string_bytes c.loop-id.out) (line_at ss c.id-item.result) (string_bytes c.append_line.new.out)
          c.loop-id-test.true c.id-item.is c.loop-id.invariant.written refl c.in_ok-append_line.ensures.ok;
      met =
          AreMet-more ss (uses_at ss) c.args.ids.now c.loop-id.id-index c.id-item.result c.loop-id-test.true c.id-item.is
          c.loop-id.invariant.met c.in_ok-append_line.ensures.met;
    }

pub returns-in_err-append_line-clause-refused : goal.returns-in_err-append_line-clause-refused
returns-in_err-append_line-clause-refused c =
    let ss = map view_statement c.args.statements.now in
    let p = err_from_is_err_and c.from_residual.result c.from_residual.ensures.1 in
    rw (p.1, p.2)
    (IsFaultAmong-part ss (uses_at ss) c.args.ids.now c.loop-id.id-index c.id-item.result _ c.loop-id-test.true c.id-item.is c.in_err-append_line.ensures.refused)
