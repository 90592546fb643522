use Rattle.std.proofs.Common.{◌≡◌, ℕ, List, Some, None, refl, sym, ap, ◌∙◌, arith}
use Rattle.std.specs.Prelude.{slice_get}
use Rattle.std.proofs.lemmas.Bool.{false≢true}
use Rattle.souper_graph.specs.declared.ast.statements.Statement.{Statement as StatementNode}
use Rattle.souper_graph.specs.Values.{Item}
use Rattle.souper_graph.specs.View.{view_statement}
use Rattle.souper_graph.specs.PartsView.{view_parts}
use Rattle.souper_graph.specs.Uses.{NeededIn}
use Rattle.souper_widths.specs.Maps.{WidthMap}
use Rattle.souper_widths.specs.View.{view_widths}
use Rattle.souper_meaning.specs.View.{view_world, view_mode}
use Rattle.souper_meaning.proofs.Walked.{viewed, not_none, gives_by}
use Rattle.souper_meaning.proofs.giving.is_given_at.Goals as goal

pub returns-then-not-is_needed : goal.returns-then-not-is_needed
returns-then-not-is_needed c = (
  (λ e d. absurd (false≢true (sym c.if-not-is_needed.true ∙ c.is_needed_at-is_needed.ensures ∙ (c.requires.marked.exact c.args.position).1 d))),
  (λ h. refl),
)

pub statement_is_given-requires : goal.statement_is_given-requires
statement_is_given-requires c =
    let a : Item = view_parts c.args.parts.now in
    let p : ℕ = c.args.position in
    let d : NeededIn a p = (c.requires.marked.exact p).0 (sym c.is_needed_at-is_needed.ensures ∙ c.if-not-is_needed.false) in
    omega (arith, c.widths_at-widths.ensures.result, (c.requires.evaluable.narrow p d).0)

pub returns-in-Some : goal.returns-in-Some
returns-in-Some c =
    let a : Item = view_parts c.args.parts.now in
    let m : WidthMap = view_widths c.args.plan.now.widths in
    let xs : List StatementNode = c.args.parts.now.statements.now in
    let s : StatementNode = c.in-Some.statement.now in
    let p : ℕ = c.args.position in
    let e : slice_get a.statements p ≡ Some (view_statement s) = viewed xs p (Some s) (ap (slice_get xs) (sym c.at.ensures) ∙ sym c.in-Some.ensures) in
    let d : NeededIn a p = (c.requires.marked.exact p).0 (sym c.is_needed_at-is_needed.ensures ∙ c.if-not-is_needed.false) in
    let q = gives_by (view_mode c.args.mode) a m (view_world c.args.world.now) p (view_statement s) c.widths_at-widths.result.result e c.widths_at-widths.ensures.result in
    ((λ t n. q.0 (c.statement_is_given.ensures.0 t)), (λ h. c.statement_is_given.ensures.1 (q.1 (h d))))

pub returns-in-None : goal.returns-in-None
returns-in-None c =
    let a : Item = view_parts c.args.parts.now in
    let xs : List StatementNode = c.args.parts.now.statements.now in
    let p : ℕ = c.args.position in (
      (λ t d. absurd (not_none a p c.requires.well_formed d (viewed xs p None (ap (slice_get xs) (sym c.at.ensures) ∙ sym c.in-None.ensures)))),
      (λ h. refl),
    )
