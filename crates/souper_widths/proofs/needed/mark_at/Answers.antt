use Rattle.std.proofs.Common.{◌≡◌, ◌∙◌, ℕ, ◌<◌, true, false, List, length, map, None, Some, Option, sym, ap, subst, arith}
use Rattle.std.specs.Prelude.{slice_get}
use Rattle.std.proofs.Math.ListN.{set, length-set}
use Rattle.souper_graph.specs.declared.ast.statements.Statement.{Statement as StatementNode}
use Rattle.souper_graph.specs.Values.{PlainStatement, Item}
use Rattle.souper_graph.specs.View.{view_statement}
use Rattle.souper_graph.specs.PartsView.{view_parts}
use Rattle.souper_graph.specs.Uses.{Has, position_of, uses_of, uses_of_optional, used_at, is_condition, NeededIn}
use Rattle.souper_graph.proofs.Judging.Needed.{statement_at, stands, well_formed_below}
use Rattle.souper_widths.specs.Marking.{AddsMarks}
use Rattle.souper_widths.proofs.Marks.{viewed-at}
use Rattle.souper_widths.proofs.NeededMarks.{condition-needed, marks-next, marks-skip}
use Rattle.souper_widths.proofs.needed.mark_at.Goals as goal
use Rattle.souper_widths.proofs.needed.mark_at.Goals.{then-marks-position-via-then-marks-position, then-marks-position-via-else-marks-position+then-is_path_condition}

pub mark_used-requires : goal.mark_used-requires
mark_used-requires c =
    let a : Item = view_parts c.args.parts.now in
    let p : ℕ = c.args.position in
    let xs : List StatementNode = c.args.parts.now.statements.now in
    let s : StatementNode = c.in-Some.statement.now in
    let e : slice_get xs p ≡ Some s = ap (slice_get xs) (sym c.at.ensures) ∙ sym c.in-Some.ensures in
    let there : slice_get a.statements p ≡ Some (view_statement s) = viewed-at xs p (Some s) e in
    let needed : NeededIn a p = elim c.then-marks-position.branch [
      | then-marks-position-via-then-marks-position w ↦ c.requires.later.needed p w.if-marks-position.true
      | then-marks-position-via-else-marks-position+then-is_path_condition w ↦ condition-needed a p (view_statement s) there (sym w.is_path_condition.ensures ∙ w.if-is_path_condition.true)
    ] in
    let same : used_at a.statements p ≡ map position_of (uses_of (view_statement s)) = ap (λ (o : Option PlainStatement). map position_of (uses_of_optional o)) there in
    λ i h.
    let below : i < p = well_formed_below a c.requires.well_formed p i needed (subst (λ (z : List ℕ). Has z i) (sym same) h) in
    omega (arith, below, length-set c.args.marks.now p true, c.requires.later.size, c.requires.inside)

pub returns-then-marks-position : goal.returns-then-marks-position
returns-then-marks-position c =
    let a : Item = view_parts c.args.parts.now in
    let p : ℕ = c.args.position in
    let xs : List StatementNode = c.args.parts.now.statements.now in
    let s : StatementNode = c.in-Some.statement.now in
    let e : slice_get xs p ≡ Some s = ap (slice_get xs) (sym c.at.ensures) ∙ sym c.in-Some.ensures in
    let there : slice_get a.statements p ≡ Some (view_statement s) = viewed-at xs p (Some s) e in
    let needed : NeededIn a p = elim c.then-marks-position.branch [
      | then-marks-position-via-then-marks-position w ↦ c.requires.later.needed p w.if-marks-position.true
      | then-marks-position-via-else-marks-position+then-is_path_condition w ↦ condition-needed a p (view_statement s) there (sym w.is_path_condition.ensures ∙ w.if-is_path_condition.true)
    ] in
    let same : used_at a.statements p ≡ map position_of (uses_of (view_statement s)) = ap (λ (o : Option PlainStatement). map position_of (uses_of_optional o)) there in
    let within : p < length c.args.marks.now = omega (arith, c.requires.later.size, c.requires.inside) in
    marks-next a p c.args.marks.now c.mark_used.new.marks within needed c.requires.later
    (subst (AddsMarks (set c.args.marks.now p true) c.mark_used.new.marks) (sym same) c.mark_used.ensures)

pub returns-else-is_path_condition : goal.returns-else-is_path_condition
returns-else-is_path_condition c =
    let a : Item = view_parts c.args.parts.now in
    let p : ℕ = c.args.position in
    let xs : List StatementNode = c.args.parts.now.statements.now in
    let s : StatementNode = c.in-Some.statement.now in
    let e : slice_get xs p ≡ Some s = ap (slice_get xs) (sym c.at.ensures) ∙ sym c.in-Some.ensures in
    let there : slice_get a.statements p ≡ Some (view_statement s) = viewed-at xs p (Some s) e in
    marks-skip a p (view_statement s) c.args.marks.now c.requires.well_formed there c.if-marks-position.false (sym c.is_path_condition.ensures ∙ c.if-is_path_condition.false) c.requires.later

pub returns-in-None : goal.returns-in-None
returns-in-None c =
    let a : Item = view_parts c.args.parts.now in
    let p : ℕ = c.args.position in
    let xs : List StatementNode = c.args.parts.now.statements.now in
    let e : slice_get xs p ≡ None = ap (slice_get xs) (sym c.at.ensures) ∙ sym c.in-None.ensures in
    let none : slice_get a.statements p ≡ None = viewed-at xs p None e in
    let some : slice_get a.statements p ≡ Some (statement_at a.statements p) = stands a.statements p c.requires.inside in
    absurd (cc (none, some))
