use Rattle.std.proofs.Common.{map, sym, ◌∙◌}
use Rattle.std.proofs.lemmas.Result.{err_from_is_err_and}
use Rattle.souper_graph.specs.Values.{replaced}
use Rattle.souper_graph.specs.View.{view_statement, view_infer}
use Rattle.souper_graph.specs.Uses.{uses_at, roots_of}
use Rattle.souper_graph.proofs.Texts.Naming.{IsFaultAmong-first, IsFaultAmong-second}
use Rattle.souper_graph.proofs.stringify.texts.lhs_rhs_texts.Goals as goal

pub returns-in_err-append_lines-clause-refused : goal.returns-in_err-append_lines-clause-refused
returns-in_err-append_lines-clause-refused c =
    let ss = map view_statement c.args.statements.now in
    let p = err_from_is_err_and c.from_residual.result c.from_residual.ensures.1 in
    rw (p.1, p.2)
    (IsFaultAmong-first ss (uses_at ss) (roots_of (replaced (view_infer c.args.lhs.now) c.args.rhs.now)) _ _ c.args.order.now.ids.items _
    (sym c.deref.ensures.value ∙ c.split_at.ensures.by_index.0) c.in_err-append_lines.ensures.refused)

pub returns-in_err-append_lines-2-clause-refused : goal.returns-in_err-append_lines-2-clause-refused
returns-in_err-append_lines-2-clause-refused c =
    let ss = map view_statement c.args.statements.now in
    let p = err_from_is_err_and c.from_residual-in_err-append_lines-2.result c.from_residual-in_err-append_lines-2.ensures.1 in
    rw (p.1, p.2)
    (IsFaultAmong-second ss (uses_at ss) (roots_of (replaced (view_infer c.args.lhs.now) c.args.rhs.now)) _ _ c.args.order.now.ids.items _
    (sym c.deref.ensures.value ∙ c.split_at.ensures.by_index.0) c.in_err-append_lines-2.ensures.refused)
