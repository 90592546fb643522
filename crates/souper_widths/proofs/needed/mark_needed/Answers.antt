use Rattle.std.proofs.Common.{◌≡◌, ℕ, ◌+◌, ◌-◌, ◌<◌, Bool, false, List, length, map, replicate, sym, ap, ◌∙◌, subst, arith}
use Rattle.souper_graph.specs.Values.{Item}
use Rattle.souper_graph.specs.PartsView.{view_parts}
use Rattle.souper_graph.specs.Uses.{position_of, roots_of}
use Rattle.souper_widths.specs.Marking.{AddsMarks, MarkFrom}
use Rattle.souper_widths.proofs.NeededMarks.{length-unmarked, roots-inside, marks-roots, marks-all}
use Rattle.souper_widths.proofs.needed.mark_needed.Goals as goal

pub mark_roots-requires : goal.mark_roots-requires
mark_roots-requires c = λ i h.
    let a : Item = view_parts c.args.parts.now in
    let size : length c.args.marks.now ≡ length a.statements = ap (λ (z : List Bool). length z) c.requires.none ∙ length-unmarked (length a.statements) in
    omega (arith, size, roots-inside a c.requires.well_formed i h)

pub loop-position-init : goal.loop-position-init
loop-position-init c =
    let a : Item = view_parts c.args.parts.now in
    let n : ℕ = length a.statements in
    let new : List Bool = c.mark_roots.new.marks in
    let added : AddsMarks (replicate n false) new (map position_of (roots_of a.ending)) = subst (λ (z : List Bool). AddsMarks z new (map position_of (roots_of a.ending))) c.requires.none c.mark_roots.ensures in
    let from : MarkFrom a n new = marks-roots a n new c.requires.well_formed (length-unmarked n) added in
    record { within = omega (arith, from.size); marked = subst (λ (z : ℕ). MarkFrom a z new) (sym from.size) from }

pub mark_at-requires-clause-later : goal.mark_at-requires-clause-later
mark_at-requires-clause-later c =
    let q : c.loop-position.position ≡ c.loop-position.position - 1 + 1 = omega (arith, c.loop-position-test.true) in
    subst (λ (z : ℕ). MarkFrom (view_parts c.args.parts.now) z c.loop-position.marks) q c.loop-position.invariant.marked

pub returns : goal.returns
returns c =
    let q : c.loop-position.position ≡ 0 = omega (arith, c.loop-position-test.false) in
    marks-all (view_parts c.args.parts.now) c.loop-position.marks (subst (λ (z : ℕ). MarkFrom (view_parts c.args.parts.now) z c.loop-position.marks) q c.loop-position.invariant.marked)
