use Rattle.std.proofs.Common.{◌≡◌, ◌++◌, [], ◌∷◌, ◌∙◌, ℕ, ◌<◌, List, length, map, sym, ap, subst, append-nil, arith}
use Rattle.souper_graph.specs.Uses.{Use, position_of, uses_of}
use Rattle.souper_graph.specs.View.{view_statement}
use Rattle.souper_widths.specs.Marking.{AddsMarks}
use Rattle.souper_widths.proofs.NeededMarks.{marks-none, has-next, marks-next_use}
use Rattle.souper_widths.proofs.needed.mark_used.Goals as goal

pub loop-used-init : goal.loop-used-init
loop-used-init c = (tt, tt, ([], ap (map position_of) (c.into_iter-used-iterator.ensures.into_iter_gives ∙ c.uses-used-items.ensures), marks-none c.args.marks.now))

pub bounds-marks-used_position : goal.bounds-marks-used_position
bounds-marks-used_position c =
    let before : List ℕ = c.loop-used.invariant.2.0 in
    let rest : List ℕ = map position_of c.next.new.self in
    let x : ℕ = c.used_position.result in
    let e : before ++ x ∷ rest ≡ map position_of (uses_of (view_statement c.args.statement.now)) =
    ap (λ (z : ℕ). before ++ z ∷ rest) c.used_position.ensures ∙ ap (λ (us : List Use). before ++ map position_of us) (sym c.in-Some.ensures.steps) ∙ c.loop-used.invariant.2.1 in
    let below : x < length c.args.marks.now = c.requires x (has-next before rest x (map position_of (uses_of (view_statement c.args.statement.now))) e) in
    omega (arith, below, c.loop-used.auto.marks)

pub loop-used-preserved : goal.loop-used-preserved
loop-used-preserved c =
    let before : List ℕ = c.loop-used.invariant.2.0 in
    let rest : List ℕ = map position_of c.next.new.self in
    let x : ℕ = c.used_position.result in
    let e : before ++ x ∷ rest ≡ map position_of (uses_of (view_statement c.args.statement.now)) =
    ap (λ (z : ℕ). before ++ z ∷ rest) c.used_position.ensures ∙ ap (λ (us : List Use). before ++ map position_of us) (sym c.in-Some.ensures.steps) ∙ c.loop-used.invariant.2.1 in
    let below : x < length c.args.marks.now = c.requires x (has-next before rest x (map position_of (uses_of (view_statement c.args.statement.now))) e) in
    let within : x < length c.loop-used.marks = omega (arith, below, c.loop-used.auto.marks) in
    (tt, tt, marks-next_use c.args.marks.now c.loop-used.marks before rest x (map position_of (uses_of (view_statement c.args.statement.now))) within e c.loop-used.invariant.2.2)

pub returns : goal.returns
returns c =
    let before : List ℕ = c.loop-used.invariant.2.0 in
    let whole : before ≡ map position_of (uses_of (view_statement c.args.statement.now)) =
    sym (append-nil before) ∙ ap (λ (us : List Use). before ++ map position_of us) (sym c.in-None.ensures.steps.0) ∙ c.loop-used.invariant.2.1 in
    subst (AddsMarks c.args.marks.now c.loop-used.marks) whole c.loop-used.invariant.2.2
