use Rattle.std.proofs.Common.{◌≡◌, List, Option, map, Some, None, sym, ap, subst, ◌∙◌}
use Rattle.std.specs.Prelude.{slice_get}
use Rattle.std.proofs.lemmas.Bool.{false≢true}
use Rattle.souper_graph.specs.declared.ast.statements.Statement.{Statement as StatementNode}
use Rattle.souper_graph.specs.Values.{PlainStatement}
use Rattle.souper_graph.specs.View.{view_statement}
use Rattle.souper_meaning.specs.Sound.{IsHole}
use Rattle.souper_meaning.proofs.Walked.{viewed}
use Rattle.souper_meaning.proofs.refusals.is_hole_at.Goals as goal

pub returns-then-not-is_needed : goal.returns-then-not-is_needed
returns-then-not-is_needed c = ((λ e. absurd (false≢true e)), (λ h. absurd (false≢true (sym c.if-not-is_needed.true ∙ h.0))))

pub returns-in-Some : goal.returns-in-Some
returns-in-Some c =
    let xs : List StatementNode = c.args.statements.now in
    let s : StatementNode = c.in-Some.statement.now in
    let q : slice_get (map view_statement xs) c.args.position ≡ Some (view_statement s) = viewed xs c.args.position (Some s) (ap (slice_get xs) (sym c.at.ensures) ∙ sym c.in-Some.ensures) in (
      (λ e. (c.if-not-is_needed.false, subst (λ (o : Option PlainStatement). IsHole o) (sym q) (c.is_hole.ensures.0 e))),
      (λ h. c.is_hole.ensures.1 (subst (λ (o : Option PlainStatement). IsHole o) q h.1)),
    )

pub returns-in-None : goal.returns-in-None
returns-in-None c =
    let xs : List StatementNode = c.args.statements.now in
    let q : slice_get (map view_statement xs) c.args.position ≡ None = viewed xs c.args.position None (ap (slice_get xs) (sym c.at.ensures) ∙ sym c.in-None.ensures) in (
      (λ e. absurd (false≢true e)),
      (λ h. absurd (subst (λ (o : Option PlainStatement). IsHole o) q h.1)),
    )
