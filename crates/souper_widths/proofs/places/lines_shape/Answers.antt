use Rattle.std.proofs.Common.{◌≡◌, List, map, sym, subst}
use Rattle.std.specs.List.{AllByRecursion}
use Rattle.souper_graph.specs.declared.ast.flaws.FlawLocation.{FlawLocation}
use Rattle.souper_graph.specs.declared.ast.flaws.FlawLocation.TheVariants.{Infer, Result as result_line, Cand}
use Rattle.souper_graph.specs.declared.ast.parts.Ending.{Ending as ByReference}
use Rattle.souper_graph.specs.Values.{PlainStatement}
use Rattle.souper_graph.specs.View.{view_statement}
use Rattle.souper_graph.specs.PartsView.{view_ending}
use Rattle.souper_graph.specs.Flaws.{line_operands}
use Rattle.souper_widths.specs.declared.flaws.WidthReason.{WidthReason}
use Rattle.souper_widths.specs.Shape.{ShapedLine, shape_reasons}
use Rattle.souper_widths.specs.Flaws.{IsFirstFailing}
use Rattle.souper_widths.specs.Lines.{IsShapeFlawOfLines}
use Rattle.souper_widths.proofs.places.lines_shape.Goals as goal
use Rattle.souper_widths.proofs.places.lines_shape.Goals.{in-Infer+in_ok-line_shape_reason-in-Infer, in-Result+in_ok-line_shape_reason-in-Result, in-Cand+in_ok-line_shape_reason-in-Cand, in-Replaced+in-Some, in-Replaced+in-None+in_ok-line_shape_reason-in-None}

abbrev FailsAt : List PlainStatement → FlawLocation → WidthReason → ByReference → Type 0
FailsAt ss l r e = IsFirstFailing (ShapedLine ss (line_operands l (view_ending e))) shape_reasons r

abbrev InferShaped : List PlainStatement → ByReference → Type 0
InferShaped ss e = AllByRecursion (ShapedLine ss (line_operands Infer (view_ending e))) shape_reasons

abbrev AtLine : List PlainStatement → ByReference → FlawLocation × WidthReason → Type 0
AtLine ss e z = IsShapeFlawOfLines ss (view_ending e) z.0 z.1

infer-flaw : (ss : List PlainStatement) (e f : ByReference) (z : FlawLocation × WidthReason) (r : WidthReason) → e ≡ f → z ≡ (Infer, r) → FailsAt ss Infer r f → AtLine ss e z
infer-flaw ss e f z r q p h = subst (AtLine ss e) (sym p) (subst (FailsAt ss Infer r) (sym q) h)

result-flaw : (ss : List PlainStatement) (e f : ByReference) (z : FlawLocation × WidthReason) (r : WidthReason) → e ≡ f → z ≡ (result_line, r) → InferShaped ss f → FailsAt ss result_line r f → AtLine ss e z
result-flaw ss e f z r q p before h = subst (AtLine ss e) (sym p) (subst (InferShaped ss) (sym q) before, subst (FailsAt ss result_line r) (sym q) h)

cand-flaw : (ss : List PlainStatement) (e f : ByReference) (z : FlawLocation × WidthReason) (r : WidthReason) → e ≡ f → z ≡ (Cand, r) → FailsAt ss Cand r f → AtLine ss e z
cand-flaw ss e f z r q p h = subst (AtLine ss e) (sym p) (subst (FailsAt ss Cand r) (sym q) h)

pub returns : goal.returns
returns c =
    let ss : List PlainStatement = map view_statement c.args.parts.now.statements.now in
    elim c.match-parts.branch [
      | in-Infer+in_ok-line_shape_reason-in-Infer w ↦ infer-flaw ss _ _ _ _ w.in-Infer.is w.location-is w.in_ok-line_shape_reason-in-Infer.ensures
      | in-Result+in_ok-line_shape_reason-in-Result w ↦ result-flaw ss _ _ _ _ w.in-Result.is w.location-is (tt, (tt, (tt, (tt, (tt, (tt, tt)))))) w.in_ok-line_shape_reason-in-Result.ensures
      | in-Cand+in_ok-line_shape_reason-in-Cand w ↦ cand-flaw ss _ _ _ _ w.in-Cand.is w.location-is w.in_ok-line_shape_reason-in-Cand.ensures
      | in-Replaced+in-Some w ↦ infer-flaw ss _ _ _ _ w.in-Replaced.is w.location-is w.in-Some.ensures
      | in-Replaced+in-None+in_ok-line_shape_reason-in-None w ↦ result-flaw ss _ _ _ _ w.in-Replaced.is w.location-is w.in-None.ensures w.in_ok-line_shape_reason-in-None.ensures
    ]
