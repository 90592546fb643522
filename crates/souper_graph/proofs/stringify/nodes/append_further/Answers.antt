use Rattle.std.proofs.Common.{◌∷◌, map, refl}
use Rattle.std.specs.String.{string_bytes}
use Rattle.std.proofs.lemmas.Result.{err_from_is_err_and}
use Rattle.souper_graph.specs.View.{view_statement}
use Rattle.souper_graph.specs.Uses.{uses_of_operand}
use Rattle.souper_graph.specs.Text.{text_of_operand}
use Rattle.souper_graph.proofs.Texts.Naming.{AreMet-more, IsFaultAmong-part, texts_more}
use Rattle.souper_graph.proofs.stringify.nodes.append_further.Goals as goal

pub loop-operand-preserved : goal.loop-operand-preserved
loop-operand-preserved c =
    let ss = map view_statement c.args.statements.now in
    record {
      written =
          texts_more (λ x. 44 ∷ 32 ∷ text_of_operand ss x) c.args.operands.now c.loop-operand.operand-index c.operand-item.result (string_bytes c.args.out.now) (string_bytes c.loop-operand.out) (44 ∷ 32 ∷ text_of_operand ss c.operand-item.result) (string_bytes c.append_next.new.out)
          c.loop-operand-test.true c.operand-item.is c.loop-operand.invariant.written refl c.in_ok-append_next.ensures.ok;
      met =
          AreMet-more ss uses_of_operand c.args.operands.now c.loop-operand.operand-index c.operand-item.result c.loop-operand-test.true c.operand-item.is
          c.loop-operand.invariant.met c.in_ok-append_next.ensures.met;
    }

pub returns-in_err-append_next-clause-refused : goal.returns-in_err-append_next-clause-refused
returns-in_err-append_next-clause-refused c =
    let p = err_from_is_err_and c.from_residual.result c.from_residual.ensures.1 in
    rw (p.1, p.2)
    (IsFaultAmong-part (map view_statement c.args.statements.now) uses_of_operand c.args.operands.now c.loop-operand.operand-index c.operand-item.result _ c.loop-operand-test.true c.operand-item.is c.in_err-append_next.ensures.refused)
