use Rattle.std.proofs.Common.{◌≡◌, ◌<◌, ◌≤◌, length, get_or, true, false, Some, sym, ◌∙◌, subst, arith, inl, inr}
use Rattle.std.specs.Prelude.{map, slice_get}
use Rattle.souper_graph.specs.View.{view_statement}
use Rattle.souper_embedding.proofs.Given.{number-none, number-more, number-has, number-all}
use Rattle.souper_embedding.proofs.conditions.is_repeated.Goals as goal

pub loop-position-init : goal.loop-position-init
loop-position-init c = λ g s m eg ei t. number-none c.args.found.now g m

pub returns-then-is_same_at-clause-repeated : goal.returns-then-is_same_at-clause-repeated
returns-then-is_same_at-clause-repeated c = λ t.
    let l : c.loop-position.position-index < length c.args.found.now = omega arith in
    (get_or c.args.found.now c.loop-position.position-index 0, number-has c.args.found.now c.loop-position.position-index l, c.is_same_at.ensures.same c.if-is_same_at.true)

pub loop-position-preserved : goal.loop-position-preserved
loop-position-preserved c = λ g s m eg ei t.
    let l : c.loop-position.position-index < length c.args.found.now = omega arith in
    elim (number-more c.args.found.now c.loop-position.position-index g l m) [
      | inl a ↦ c.loop-position.invariant g s a eg ei t
      | inr e ↦ (let r = c.is_same_at.ensures.other s (subst (λ z. slice_get (map view_statement c.args.statements.now) z ≡ Some s) (sym e) eg) ei t in let n : true ≡ false = sym r ∙ c.if-is_same_at.false in absurd (cc))
    ]

pub returns-clause-new : goal.returns-clause-new
returns-clause-new c = λ f g s m eg ei t.
    let l : length c.args.found.now ≤ c.loop-position.position-index = omega arith in
    c.loop-position.invariant g s (number-all c.args.found.now c.loop-position.position-index g l m) eg ei t
