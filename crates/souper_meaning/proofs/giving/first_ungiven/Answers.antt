use Rattle.std.proofs.Common.{◌≡◌, ◌∙◌, ℕ, false, get_or, length, sym, subst, arith}
use Rattle.std.proofs.lemmas.Bool.{false≢true}
use Rattle.std.proofs.lemmas.List.{length-map}
use Rattle.souper_graph.specs.Values.{Item}
use Rattle.souper_graph.specs.View.{view_statement}
use Rattle.souper_graph.specs.PartsView.{view_parts}
use Rattle.souper_graph.proofs.Judging.Needed.{well_formed_inside}
use Rattle.souper_widths.specs.View.{view_widths}
use Rattle.souper_meaning.specs.View.{view_world, view_mode}
use Rattle.souper_meaning.specs.Worlds.{GivesAt}
use Rattle.souper_meaning.specs.Plans.{IsFirstWithout}
use Rattle.souper_meaning.proofs.Marked.{holds_more, test_fails}
use Rattle.souper_meaning.proofs.giving.first_ungiven.Goals as goal

pub loop-position-preserved : goal.loop-position-preserved
loop-position-preserved c =
    let a : Item = view_parts c.args.parts.now in
    holds_more a (GivesAt (view_mode c.args.mode) a (view_widths c.args.plan.now.widths) (view_world c.args.world.now)) c.loop-position.position (c.is_given_at-is_given.ensures.0 c.if-not-is_given.false) c.loop-position.invariant

pub returns : goal.returns
returns c =
    let a : Item = view_parts c.args.parts.now in
    let size : c.len-position-end.result ≡ length a.statements = c.len-position-end.ensures ∙ sym (length-map c.args.parts.now.statements.now view_statement) in
    λ p d. c.loop-position.invariant p d (omega (arith, well_formed_inside a c.requires.well_formed p d, size, c.loop-position-test.false))

pub returns-then-not-is_given : goal.returns-then-not-is_given
returns-then-not-is_given c =
    let a : Item = view_parts c.args.parts.now in
    let n : ℕ = c.loop-position.position in
    let G : ℕ → Type 0 = GivesAt (view_mode c.args.mode) a (view_widths c.args.plan.now.widths) (view_world c.args.world.now) in
    let t = test_fails (get_or c.args.plan.now.needed.items n false) (G n) (λ f. false≢true (sym c.if-not-is_given.true ∙ c.is_given_at-is_given.ensures.1 (λ d. f ((c.requires.marked.exact n).1 d)))) in
    subst (λ (z : ℕ). IsFirstWithout a G z) (sym c.at.ensures) (record { needed = (c.requires.marked.exact n).0 t.0; before = c.loop-position.invariant; fails = t.1 })
