use Rattle.std.proofs.Common.{◌≡◌, ◌≤◌, ◌++◌, ◌∷◌, [], ◌+◌, ℕ, List, length, get_or, ap, ◌∙◌, arith}
use Rattle.std.proofs.lemmas.List.{get_or_default}
use Rattle.souper_widths.specs.Forest.{widths_below}
use Rattle.souper_widths.proofs.ToldWidths.{length-below, tells-widths, next-root, next-child}
use Rattle.souper_widths.proofs.solving.widths_of.Goals as goal
use Rattle.souper_widths.proofs.solving.widths_of.Goals.{then-parent-node, else-parent-node}

pub index-requires : goal.index-requires
index-requires c =
    let ps = c.args.parents.now in
    let ns = c.args.numbers.now in
    let ws = c.loop-node.widths in
    let i : ℕ = c.loop-node.node in
    let same : ws.items ≡ widths_below ps ns i = c.loop-node.invariant in
    let size : length ws.items ≡ i = ap (λ (z : List ℕ). length z) same ∙ length-below ps ns i in
    let low : get_or ps i 0 ≤ i = c.requires.forest.lower i c.loop-node-test.true in
    omega (arith, size, low, ws.ok.0, c.if-parent-node.false)

pub loop-node-preserved : goal.loop-node-preserved
loop-node-preserved c =
    let ps = c.args.parents.now in
    let ns = c.args.numbers.now in
    let ws : List ℕ = c.loop-node.widths.items in
    let i : ℕ = c.loop-node.node in
    let x : ℕ = c.if-parent-node.width in
    c.in_ok-push.ensures.items ∙ elim c.if-parent-node.branch as (λ _. ws ++ x ∷ [] ≡ widths_below ps ns (i + 1)) [
      | then-parent-node w ↦ next-root ps ns ws i x c.loop-node.invariant w.if-parent-node.true w.width-is
      | else-parent-node w ↦
          let size : length ws ≡ i = ap (λ (z : List ℕ). length z) c.loop-node.invariant ∙ length-below ps ns i in
          let low : get_or ps i 0 ≤ i = c.requires.forest.lower i c.loop-node-test.true in
          next-child ps ns ws i x c.loop-node.invariant w.if-parent-node.false
          (w.width-is ∙ w.index.ensures ∙ get_or_default ws (get_or ps i 0) w.index.result.now 0 (omega (arith, size, low, w.if-parent-node.false)))
    ]

pub returns : goal.returns
returns c = tells-widths c.args.parents.now c.args.numbers.now c.loop-node.widths.items c.loop-node.node c.requires (omega (arith, c.loop-node-test.false, c.loop-node.auto.node-end)) c.loop-node.invariant
