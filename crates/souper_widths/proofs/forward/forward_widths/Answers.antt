use Rattle.std.proofs.Common.{◌≡◌, ℕ, ◌+◌, List, ◌++◌, ◌∷◌, [], length, sym, subst, arith}
use Rattle.std.specs.Prelude.{slice_get}
use Rattle.souper_graph.specs.Values.{Item}
use Rattle.souper_graph.specs.PartsView.{view_parts}
use Rattle.souper_widths.specs.Forward.{ForcedOptional, ForcedLines}
use Rattle.souper_widths.proofs.ForwardSteps.{ForwardTo, StepAt, start, step, found-step}
use Rattle.souper_widths.proofs.ForwardLines.{forward-typed}
use Rattle.souper_widths.proofs.forward.forward_widths.Goals as goal

pub loop-position-init : goal.loop-position-init
loop-position-init c = start (view_parts c.args.parts.now) c.in_ok-results.results.items c.in_ok-operands.operands.items c.in_ok-results.ensures.items c.in_ok-operands.ensures.items

pub loop-position-preserved : goal.loop-position-preserved
loop-position-preserved c =
    let a : Item = view_parts c.args.parts.now in
    let rs : List ℕ = c.loop-position.results.items in
    let os : List ℕ = c.loop-position.operands.items in
    let p : ℕ = c.loop-position.position in
    let w : ℕ = c.in-Some.own in
    let v : ℕ = c.in-Some.used in
    let found : StepAt a rs p w v = found-step a c.args.marks.now rs p w v c.requires.marked
    (λ e. subst (λ (z : List ℕ). ForcedOptional z (slice_get a.statements p) w v) c.deref.ensures.value (c.in-Some.ensures.needed e)) c.in-Some.ensures.other in
    subst (λ (z : List ℕ). ForwardTo a z c.push-in-Some.new.self.items (p + 1)) (sym c.in_ok-push-in-Some.ensures.items)
    (subst (λ (z : List ℕ). ForwardTo a (rs ++ w ∷ []) z (p + 1)) (sym c.in_ok-push-in-Some-2.ensures.items) (step a rs os p w v c.loop-position.invariant found))

pub returns-in-Some-root_width : goal.returns-in-Some-root_width
returns-in-Some-root_width c =
    let a : Item = view_parts c.args.parts.now in
    let rs : List ℕ = c.loop-position.results.items in
    let os : List ℕ = c.loop-position.operands.items in
    let end : c.loop-position.position ≡ length a.statements = omega (arith, c.loop-position-test.false, c.loop-position.auto.position-end, c.requires.marked.size) in
    forward-typed a rs os c.in-Some-root_width.root c.requires.well_formed (subst (ForwardTo a rs os) end c.loop-position.invariant)
    (subst (λ (z : List ℕ). ForcedLines z a.ending c.in-Some-root_width.root) c.deref-2.ensures.value c.in-Some-root_width.ensures)
