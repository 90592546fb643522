use Rattle.std.proofs.Common.{ℕ, refl, arith}
use Rattle.std.proofs.lemmas.List.{length-map}
use Rattle.souper_graph.specs.Values.{Item}
use Rattle.souper_graph.specs.View.{view_statement}
use Rattle.souper_graph.specs.PartsView.{view_parts}
use Rattle.souper_graph.proofs.Judging.Needed.{well_formed_inside}
use Rattle.souper_widths.specs.Maps.{WidthMap}
use Rattle.souper_widths.specs.View.{view_widths}
use Rattle.souper_meaning.specs.View.{view_world, view_mode}
use Rattle.souper_meaning.specs.Sampling.{digit_at}
use Rattle.souper_meaning.proofs.Stepped.{given_more}
use Rattle.souper_meaning.proofs.sampling.put_try.Goals as goal

pub put_at-requires-clause-inside : goal.put_at-requires-clause-inside
put_at-requires-clause-inside c = omega (arith, length-map c.args.parts.now.statements.now view_statement)

pub loop-position-preserved : goal.loop-position-preserved
loop-position-preserved c =
    let a : Item = view_parts c.args.parts.now in
    let m : WidthMap = view_widths c.args.plan.now.widths in
    let digits : ℕ → ℕ = digit_at (view_mode c.args.tried.now.mode) a m c.args.tried.now.number c.args.tried.now.state in
    record {
      places = c.put_at.ensures.places;
      given = given_more a m (view_world c.loop-position.world) (view_world c.put_at.new.world) digits c.loop-position.position (digits c.loop-position.position) refl c.put_at.ensures.given c.put_at.ensures.others
          c.loop-position.invariant.given;
    }

pub returns-clause-given : goal.returns-clause-given
returns-clause-given c = λ p d.
    c.loop-position.invariant.given p (omega (arith, well_formed_inside (view_parts c.args.parts.now) c.requires.planned.well_formed p d, length-map c.args.parts.now.statements.now view_statement)) d
