use Rattle.std.proofs.Common.{◌≡◌, ◌∙◌, ℕ, ◌<◌, Bool, true, List, [], ◌∷◌, length, map, take, sym, ap, subst, arith}
use Rattle.std.proofs.Math.ListN.{set}
use Rattle.std.proofs.lemmas.List.{take_all}
use Rattle.souper_graph.specs.declared.ast.operands.Operand.{Operand}
use Rattle.souper_graph.specs.Values.{Item}
use Rattle.souper_graph.specs.PartsView.{view_parts}
use Rattle.souper_graph.specs.Uses.{Has, Use, position_of, uses_of_operand, uses_of_operands, roots_of}
use Rattle.souper_widths.specs.Marking.{AddsMarks}
use Rattle.souper_widths.proofs.NeededMarks.{marks-none, marks-one, roots-are, root-use, marks-operand}
use Rattle.souper_widths.proofs.needed.mark_roots.Goals as goal
use Rattle.souper_widths.proofs.needed.mark_roots.Goals.{in-Value, in-Constant}

pub loop-root-init : goal.loop-root-init
loop-root-init c = marks-none c.args.marks.now

pub bounds-marks-index : goal.bounds-marks-index
bounds-marks-index c =
    let a : Item = view_parts c.args.parts.now in
    let xs : List Operand = c.as_slice-root-items.result.now in
    let x : Operand = c.root-item.result in
    let i : ℕ = c.in-Value.id in
    let whole : uses_of_operands xs ≡ roots_of a.ending = ap uses_of_operands (c.as_slice-root-items.ensures.value ∙ c.roots.ensures) ∙ roots-are a.ending in
    let has : Has (map position_of (uses_of_operands xs)) i = root-use xs c.loop-root.root-index x i c.loop-root-test.true (sym c.root-item.is ∙ c.in-Value.is) in
    let below : i < length c.args.marks.now = c.requires i (subst (λ (us : List Use). Has (map position_of us) i) whole has) in
    omega (arith, below, c.loop-root.auto.marks, c.index.ensures, c.from.ensures)

pub loop-root-preserved : goal.loop-root-preserved
loop-root-preserved c =
    let a : Item = view_parts c.args.parts.now in
    let xs : List Operand = c.as_slice-root-items.result.now in
    let x : Operand = c.root-item.result in
    let old : List Bool = c.args.marks.now in
    let bs : List Bool = c.loop-root.marks in
    let whole : uses_of_operands xs ≡ roots_of a.ending = ap uses_of_operands (c.as_slice-root-items.ensures.value ∙ c.roots.ensures) ∙ roots-are a.ending in
    elim c.match-root.branch [
      | in-Value w ↦
          let i : ℕ = w.in-Value.id in
          let has : Has (map position_of (uses_of_operands xs)) i = root-use xs c.loop-root.root-index x i c.loop-root-test.true (sym c.root-item.is ∙ w.in-Value.is) in
          let below : i < length old = c.requires i (subst (λ (us : List Use). Has (map position_of us) i) whole has) in
          let at : w.index.result ≡ i = w.index.ensures ∙ w.from.ensures in
          let within : w.index.result < length bs = omega (arith, below, at, c.loop-root.auto.marks) in
          let one : AddsMarks bs (set bs w.index.result true) (w.index.result ∷ []) = marks-one bs bs [] w.index.result within (marks-none bs) in
          marks-operand old bs c.match-root.marks xs c.loop-root.root-index x x c.loop-root-test.true c.root-item.is c.loop-root.invariant
          (subst (λ (z : Operand). AddsMarks bs c.match-root.marks (map position_of (uses_of_operand z))) (sym w.in-Value.is)
          (subst (λ (z : List Bool). AddsMarks bs z (i ∷ [])) (sym w.marks-is) (subst (λ (z : ℕ). AddsMarks bs (set bs w.index.result true) (z ∷ [])) at one)))
      | in-Constant w ↦
          marks-operand old bs c.match-root.marks xs c.loop-root.root-index x x c.loop-root-test.true c.root-item.is c.loop-root.invariant
          (subst (λ (z : Operand). AddsMarks bs c.match-root.marks (map position_of (uses_of_operand z))) (sym w.in-Constant.is)
          (subst (λ (z : List Bool). AddsMarks bs z []) (sym w.marks-is) (marks-none bs)))
    ]

pub returns : goal.returns
returns c =
    let a : Item = view_parts c.args.parts.now in
    let xs : List Operand = c.as_slice-root-items.result.now in
    let whole : uses_of_operands xs ≡ roots_of a.ending = ap uses_of_operands (c.as_slice-root-items.ensures.value ∙ c.roots.ensures) ∙ roots-are a.ending in
    let all : take c.loop-root.root-index xs ≡ xs = take_all c.loop-root.root-index xs (omega (arith, c.loop-root-test.false)) in
    subst (λ (us : List Use). AddsMarks c.args.marks.now c.loop-root.marks (map position_of us)) (ap uses_of_operands all ∙ whole) c.loop-root.invariant
