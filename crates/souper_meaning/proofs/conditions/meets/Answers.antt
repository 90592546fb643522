use Rattle.std.proofs.Common.{◌≡◌, ◌∙◌, length, refl, sym, arith}
use Rattle.std.proofs.lemmas.Bool.{false≢true}
use Rattle.std.proofs.lemmas.List.{length-map}
use Rattle.souper_graph.specs.Values.{Item}
use Rattle.souper_graph.specs.View.{view_statement}
use Rattle.souper_graph.specs.PartsView.{view_parts}
use Rattle.souper_graph.proofs.Judging.Needed.{well_formed_inside}
use Rattle.souper_widths.specs.View.{view_widths}
use Rattle.souper_meaning.specs.View.{view_world}
use Rattle.souper_meaning.specs.Sound.{MeetsAt}
use Rattle.souper_meaning.proofs.Marked.{holds_more}
use Rattle.souper_meaning.proofs.conditions.meets.Goals as goal

pub loop-position-preserved : goal.loop-position-preserved
loop-position-preserved c =
    let a : Item = view_parts c.args.parts.now in
    holds_more a (MeetsAt a (view_widths c.args.plan.now.widths) (view_world c.args.world.now)) c.loop-position.position (c.is_met_at-is_met.ensures.0 c.if-not-is_met.false) c.loop-position.invariant

pub returns : goal.returns
returns c =
    let a : Item = view_parts c.args.parts.now in
    let size : c.len-position-end.result ≡ length a.statements = c.len-position-end.ensures ∙ sym (length-map c.args.parts.now.statements.now view_statement) in (
      (λ e p d. c.loop-position.invariant p d (omega (arith, well_formed_inside a c.requires.planned.well_formed p d, size, c.loop-position-test.false))),
      (λ h. refl),
    )

pub returns-then-not-is_met : goal.returns-then-not-is_met
returns-then-not-is_met c = (
  (λ e. absurd (false≢true e)),
  (λ h. sym c.if-not-is_met.true ∙ c.is_met_at-is_met.ensures.1 (h c.loop-position.position)),
)
