use Rattle.std.proofs.Common.{◌<◌, ℕ, length, sym, subst, arith}
use Rattle.souper_graph.specs.Values.{Item}
use Rattle.souper_graph.specs.declared.ast.flaws.FlawLocation.TheVariants.{Statement}
use Rattle.souper_widths.specs.Flaws.{IsShapeFlaw}
use Rattle.souper_graph.specs.PartsView.{view_parts}
use Rattle.souper_widths.proofs.Marks.{true-inside, shape-flaw, shape-more}
use Rattle.souper_widths.proofs.places.statements_shape.Goals as goal

pub loop-position-preserved : goal.loop-position-preserved
loop-position-preserved c = shape-more (view_parts c.args.parts.now) c.loop-position.position
    (λ n. c.in-None.ensures ((c.requires.exact c.loop-position.position).1 n)) c.loop-position.invariant

pub returns : goal.returns
returns c = λ p n.
    let within : p < length c.args.marks.now = true-inside c.args.marks.now p ((c.requires.exact p).1 n) in
    c.loop-position.invariant p n (omega (arith, within, c.loop-position-test.false))

pub returns-in-Some : goal.returns-in-Some
returns-in-Some c =
    let a : Item = view_parts c.args.parts.now in
    let n : ℕ = c.loop-position.position in
    subst (λ (z : ℕ). IsShapeFlaw a (Statement z) c.in-Some.reason) (sym c.at.ensures)
    (shape-flaw a n c.in-Some.reason ((c.requires.exact n).0 c.in-Some.ensures.0) c.in-Some.ensures.1 c.loop-position.invariant)
