use Rattle.std.proofs.Common.{ℕ, List, length, sym, ap, subst, ◌∙◌}
use Rattle.souper_graph.specs.Values.{Item}
use Rattle.souper_graph.specs.PartsView.{view_parts}
use Rattle.souper_widths.specs.Maps.{WidthMap}
use Rattle.souper_widths.specs.View.{view_widths}
use Rattle.souper_widths.specs.Flaws.{IsOnlySolution}
use Rattle.souper_widths.specs.Nodes.{shown_at, operands_shown_at}
use Rattle.souper_widths.specs.Forest.{filled}
use Rattle.souper_widths.specs.Told.{AllTold}
use Rattle.souper_widths.proofs.NodeWidths.{length-listed}
use Rattle.souper_widths.proofs.Untold.{undetermined-of, solution-of}
use Rattle.souper_widths.proofs.FlawClasses.{shape-is_flaw, limit-is_flaw}
use Rattle.souper_widths.proofs.typed.marked_widths.Goals as goal

pub returns-in-Some-clause-flawed : goal.returns-in-Some-clause-flawed
returns-in-Some-clause-flawed c =
    let a : Item = view_parts c.args.parts.now in (
      c.requires.well_formed,
      shape-is_flaw a c.in-Some.flaw.location c.in-Some.flaw.reason c.in-Some.ensures,
    )

pub first_untold-requires-clause-size : goal.first_untold-requires-clause-size
first_untold-requires-clause-size c = ap (λ (z : List ℕ). length z) c.deref.ensures.value ∙ c.in-Ok.ensures.ok.size

pub returns-in-Some-first_untold-clause-flawed : goal.returns-in-Some-first_untold-clause-flawed
returns-in-Some-first_untold-clause-flawed c =
    let a : Item = view_parts c.args.parts.now in (
      c.requires.well_formed,
      (
        c.in_default.ensures,
        undetermined-of a c.args.marks.now c.in-Ok.nodes.items c.deref.result.now c.in-Some-first_untold.location c.requires.well_formed c.in_default.ensures c.requires.marked c.in-Ok.ensures.ok c.deref.ensures.value c.in-Some-first_untold.ensures,
      ),
    )

pub widths_by-requires-clause-size : goal.widths_by-requires-clause-size
widths_by-requires-clause-size c = ap (λ (z : List ℕ). length z) c.deref-2.ensures.value ∙ c.in-Ok.ensures.ok.size

pub widths_by-requires-clause-told : goal.widths_by-requires-clause-told
widths_by-requires-clause-told c = subst (AllTold (view_parts c.args.parts.now)) (c.deref.ensures.value ∙ sym c.deref-2.ensures.value) c.in_default-first_untold.ensures

pub limit_flaw-requires-clause-results : goal.limit_flaw-requires-clause-results
limit_flaw-requires-clause-results c =
    let a : Item = view_parts c.args.parts.now in
    ap (λ (m : WidthMap). length m.results) c.in_ok-widths.ensures ∙ length-listed (shown_at a.statements c.args.marks.now (filled 1 c.deref-2.result.now)) (length a.statements) ∙ sym c.requires.marked.size

pub limit_flaw-requires-clause-operands : goal.limit_flaw-requires-clause-operands
limit_flaw-requires-clause-operands c =
    let a : Item = view_parts c.args.parts.now in
    ap (λ (m : WidthMap). length m.operands) c.in_ok-widths.ensures ∙ length-listed (operands_shown_at a.statements c.args.marks.now (filled 1 c.deref-2.result.now)) (length a.statements) ∙ sym c.requires.marked.size

pub returns-in-Some-limit_flaw-clause-flawed : goal.returns-in-Some-limit_flaw-clause-flawed
returns-in-Some-limit_flaw-clause-flawed c =
    let a : Item = view_parts c.args.parts.now in
    let m : WidthMap = view_widths c.in_ok-widths.widths in
    let told : AllTold a c.deref-2.result.now = subst (AllTold a) (c.deref.ensures.value ∙ sym c.deref-2.ensures.value) c.in_default-first_untold.ensures in
    let only : IsOnlySolution a m = solution-of a c.args.marks.now c.in-Ok.nodes.items c.deref-2.result.now m c.requires.well_formed c.in_default.ensures c.requires.marked c.in-Ok.ensures.ok c.deref-2.ensures.value told c.in_ok-widths.ensures in (
      c.requires.well_formed,
      limit-is_flaw a c.in-Some-limit_flaw.flaw.location c.in-Some-limit_flaw.flaw.reason (m, only, c.in-Some-limit_flaw.ensures),
    )

pub returns-clause-typed : goal.returns-clause-typed
returns-clause-typed c =
    let a : Item = view_parts c.args.parts.now in
    let m : WidthMap = view_widths c.in_ok-widths.widths in
    let told : AllTold a c.deref-2.result.now = subst (AllTold a) (c.deref.ensures.value ∙ sym c.deref-2.ensures.value) c.in_default-first_untold.ensures in
    let only : IsOnlySolution a m = solution-of a c.args.marks.now c.in-Ok.nodes.items c.deref-2.result.now m c.requires.well_formed c.in_default.ensures c.requires.marked c.in-Ok.ensures.ok c.deref-2.ensures.value told c.in_ok-widths.ensures in
    record { shape = only.shape; has = only.has; only = only.only; limits = c.in-None.ensures }
