use Rattle.std.proofs.Common.{◌∙◌, ℕ, sym, subst, arith}
use Rattle.std.proofs.lemmas.Bool.{false≢true}
use Rattle.souper_graph.specs.Values.{Item}
use Rattle.souper_graph.specs.PartsView.{view_parts}
use Rattle.souper_meaning.specs.Evaluable.{HasMeaningAt}
use Rattle.souper_meaning.specs.Plans.{IsFirstWithout}
use Rattle.souper_meaning.proofs.Marked.{holds_more, holds_all}
use Rattle.souper_meaning.proofs.refusals.first_hole.Goals as goal

pub loop-position-preserved : goal.loop-position-preserved
loop-position-preserved c =
    let a : Item = view_parts c.args.parts.now in
    let n : ℕ = c.loop-position.position in
    holds_more a (HasMeaningAt a) n (λ d h. false≢true (sym c.if-is_hole.false ∙ c.is_hole_at-is_hole.ensures.1 ((c.requires.exact n).1 d, h))) c.loop-position.invariant

pub returns : goal.returns
returns c =
    let a : Item = view_parts c.args.parts.now in
    holds_all a (HasMeaningAt a) c.args.marks.now c.loop-position.position c.requires (omega arith) c.loop-position.invariant

pub returns-then-is_hole : goal.returns-then-is_hole
returns-then-is_hole c =
    let a : Item = view_parts c.args.parts.now in
    let n : ℕ = c.loop-position.position in
    let t = c.is_hole_at-is_hole.ensures.0 c.if-is_hole.true in
    subst (λ (z : ℕ). IsFirstWithout a (HasMeaningAt a) z) (sym c.at.ensures) (record { needed = (c.requires.exact n).0 t.0; before = c.loop-position.invariant; fails = λ k. k t.1 })
