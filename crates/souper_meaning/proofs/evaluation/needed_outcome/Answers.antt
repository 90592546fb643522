use Rattle.std.proofs.Common.{◌≡◌, ℕ, List, Some, None, sym, ap, ◌∙◌}
use Rattle.std.specs.Prelude.{slice_get}
use Rattle.std.proofs.lemmas.Bool.{false≢true}
use Rattle.souper_graph.specs.declared.ast.statements.Statement.{Statement as StatementNode}
use Rattle.souper_graph.specs.Values.{Item}
use Rattle.souper_graph.specs.View.{view_statement}
use Rattle.souper_graph.specs.PartsView.{view_parts}
use Rattle.souper_graph.specs.Uses.{NeededIn}
use Rattle.souper_widths.specs.Maps.{WidthMap}
use Rattle.souper_widths.specs.View.{view_widths}
use Rattle.souper_meaning.specs.Worlds.{World}
use Rattle.souper_meaning.specs.View.{view_world}
use Rattle.souper_meaning.specs.Statements.{outcome_in}
use Rattle.souper_meaning.specs.Plans.{IsPlan}
use Rattle.souper_meaning.proofs.Walked.{viewed, not_none, ready_by, by_widths}
use Rattle.souper_meaning.proofs.ByPosition.{by_outcomes_below}
use Rattle.souper_meaning.proofs.Bounds.{statement_ready}
use Rattle.souper_meaning.proofs.evaluation.needed_outcome.Goals as goal

pub returns-then-not-is_needed : goal.returns-then-not-is_needed
returns-then-not-is_needed c = λ d.
    absurd (false≢true (sym c.if-not-is_needed.true ∙ c.is_needed_at-is_needed.ensures ∙ (c.requires.planned.marked.exact c.args.position).1 d))

pub statement_outcome_of-requires : goal.statement_outcome_of-requires
statement_outcome_of-requires c =
    let a : Item = view_parts c.args.parts.now in
    let m : WidthMap = view_widths c.args.plan.now.widths in
    let xs : List StatementNode = c.args.parts.now.statements.now in
    let s : StatementNode = c.in-Some.statement.now in
    let p : ℕ = c.args.position in
    let k : IsPlan a c.args.plan.now = c.requires.planned in
    let e : slice_get a.statements p ≡ Some (view_statement s) = viewed xs p (Some s) (ap (slice_get xs) (sym c.at.ensures) ∙ sym c.in-Some.ensures) in
    let d : NeededIn a p = (k.marked.exact p).0 (sym c.is_needed_at-is_needed.ensures ∙ c.if-not-is_needed.false) in
    ready_by c.widths_at-widths.result.result c.widths_at-widths.result.operands m p (outcome_in c.args.done.now) (view_statement s) c.widths_at-widths.ensures.result c.widths_at-widths.ensures.operands
    (statement_ready a m (view_world c.args.world.now) k.well_formed k.typed c.requires.world c.args.done.now p (view_statement s) k.evaluable d e c.requires.before)

pub returns-in-Some : goal.returns-in-Some
returns-in-Some c = λ d.
    let a : Item = view_parts c.args.parts.now in
    let m : WidthMap = view_widths c.args.plan.now.widths in
    let x : World = view_world c.args.world.now in
    let xs : List StatementNode = c.args.parts.now.statements.now in
    let s : StatementNode = c.in-Some.statement.now in
    let p : ℕ = c.args.position in
    let e : slice_get a.statements p ≡ Some (view_statement s) = viewed xs p (Some s) (ap (slice_get xs) (sym c.at.ensures) ∙ sym c.in-Some.ensures) in
    c.statement_outcome_of.ensures
    ∙ by_widths c.widths_at-widths.result.result c.widths_at-widths.result.operands m x p (outcome_in c.args.done.now) (view_statement s) c.widths_at-widths.ensures.result c.widths_at-widths.ensures.operands
    ∙ by_outcomes_below a m x c.args.done.now p (view_statement s) c.requires.planned.well_formed d e c.requires.before

pub returns-in-None : goal.returns-in-None
returns-in-None c = λ d.
    let a : Item = view_parts c.args.parts.now in
    let xs : List StatementNode = c.args.parts.now.statements.now in
    let p : ℕ = c.args.position in
    absurd (not_none a p c.requires.planned.well_formed d (viewed xs p None (ap (slice_get xs) (sym c.at.ensures) ∙ sym c.in-None.ensures)))
