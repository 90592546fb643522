use Rattle.std.proofs.Common.{◌<◌, length, refl, arith}
use Rattle.souper_graph.specs.PartsView.{view_parts}
use Rattle.souper_widths.proofs.Marks.{true-inside}
use Rattle.souper_widths.proofs.Untold.{told-more, statement-untold}
use Rattle.souper_widths.proofs.told.untold_statement.Goals as goal

pub loop-position-preserved : goal.loop-position-preserved
loop-position-preserved c = told-more (view_parts c.args.parts.now) c.args.nodes.now c.loop-position.position
    (λ n. c.if-not-is_told.ensures.0 refl ((c.requires.marked.exact c.loop-position.position).1 n)) c.loop-position.invariant

pub returns-then-not-is_told : goal.returns-then-not-is_told
returns-then-not-is_told c = statement-untold (view_parts c.args.parts.now) c.args.marks.now c.args.nodes.now c.loop-position.position c.requires.marked
    (λ f. absurd (cc (c.if-not-is_told.ensures.1 f))) c.loop-position.invariant

pub returns : goal.returns
returns c = λ p n.
    let within : p < length c.args.marks.now = true-inside c.args.marks.now p ((c.requires.marked.exact p).1 n) in
    c.loop-position.invariant p n (omega (arith, within, c.loop-position-test.false))
