use Rattle.std.proofs.Common.{◌∷◌, [], map}
use Rattle.std.proofs.lemmas.Result.{err_from_is_err_and}
use Rattle.souper_graph.specs.Values.{replaced}
use Rattle.souper_graph.specs.View.{view_statement, view_infer}
use Rattle.souper_graph.specs.Uses.{value_use, uses_of_operand, uses_at, roots_of}
use Rattle.souper_graph.proofs.Texts.Naming.{AreMet-append, AreMet-parts, IsFaultAmong-first, IsFaultAmong-second}
use Rattle.souper_graph.proofs.stringify.lines.append_lhs_rhs.Goals as goal

pub returns-in_err-append_lines-clause-refused : goal.returns-in_err-append_lines-clause-refused
returns-in_err-append_lines-clause-refused c =
    let ss = map view_statement c.args.statements.now in
    let p = err_from_is_err_and c.from_residual.result c.from_residual.ensures.1 in
    rw (p.1, p.2)
    (IsFaultAmong-first ss (uses_at ss) (roots_of (replaced (view_infer c.args.lhs.now) c.args.rhs.now)) _ _ c.args.ids.now _ c.split_at.ensures.by_index.0 c.in_err-append_lines.ensures.refused)

pub returns-in_err-append_lines-2-clause-refused : goal.returns-in_err-append_lines-2-clause-refused
returns-in_err-append_lines-2-clause-refused c =
    let ss = map view_statement c.args.statements.now in
    let p = err_from_is_err_and c.from_residual-in_err-append_lines-2.result c.from_residual-in_err-append_lines-2.ensures.1 in
    rw (p.1, p.2)
    (IsFaultAmong-second ss (uses_at ss) (roots_of (replaced (view_infer c.args.lhs.now) c.args.rhs.now)) _ _ c.args.ids.now _ c.split_at.ensures.by_index.0 c.in_err-append_lines-2.ensures.refused)

pub returns-clause-met : goal.returns-clause-met
returns-clause-met c =
    let ss = map view_statement c.args.statements.now in
    AreMet-parts ss (uses_at ss) (roots_of (replaced (view_infer c.args.lhs.now) c.args.rhs.now)) _ _ c.args.ids.now c.split_at.ensures.by_index.0
    (AreMet-append ss (value_use c.args.lhs.now.value ∷ []) (uses_of_operand c.args.rhs.now) c.in_ok-append.ensures.met c.in_ok-append_result.ensures.met)
    c.in_ok-append_lines.ensures.met c.in_ok-append_lines-2.ensures.met
