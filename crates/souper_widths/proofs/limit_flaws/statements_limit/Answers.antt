use Rattle.std.proofs.Common.{◌<◌, ℕ, length, sym, subst, ◌∙◌, arith}
use Rattle.std.proofs.lemmas.List.{get_or_default}
use Rattle.souper_graph.specs.Values.{Item}
use Rattle.souper_graph.specs.declared.ast.flaws.FlawLocation.TheVariants.{Statement}
use Rattle.souper_graph.specs.PartsView.{view_parts}
use Rattle.souper_widths.specs.View.{view_widths}
use Rattle.souper_widths.specs.Maps.{WidthMap}
use Rattle.souper_widths.specs.Limits.{KeepsAt, limit_reasons}
use Rattle.souper_widths.specs.Flaws.{IsFirstOfClass}
use Rattle.souper_widths.proofs.Marks.{true-inside}
use Rattle.souper_widths.proofs.LimitFlaws.{kept-more, limit-first}
use Rattle.souper_widths.proofs.limit_flaws.statements_limit.Goals as goal

pub loop-position-preserved : goal.loop-position-preserved
loop-position-preserved c =
    let w = c.args.widths.now in
    let n : ℕ = c.loop-position.position in
    kept-more (view_parts c.args.parts.now) (view_widths w) n c.index.result.now c.index-in-loop-position.result.now
    (c.index.ensures ∙ get_or_default w.results.items n c.index.result.now 0 (omega (arith, c.loop-position-test.true, c.requires.results)))
    (c.index-in-loop-position.ensures ∙ get_or_default w.operands.items n c.index-in-loop-position.result.now 0 (omega (arith, c.loop-position-test.true, c.requires.operands)))
    (λ n. c.in-None.ensures ((c.requires.marked.exact c.loop-position.position).1 n)) c.loop-position.invariant

pub returns : goal.returns
returns c = λ p n.
    let within : p < length c.args.marks.now = true-inside c.args.marks.now p ((c.requires.marked.exact p).1 n) in
    c.loop-position.invariant p n (omega (arith, within, c.loop-position-test.false))

pub returns-in-Some : goal.returns-in-Some
returns-in-Some c =
    let a : Item = view_parts c.args.parts.now in
    let m : WidthMap = view_widths c.args.widths.now in
    let n : ℕ = c.loop-position.position in
    subst (λ (z : ℕ). IsFirstOfClass a (KeepsAt a m) limit_reasons (Statement z) c.in-Some.reason) (sym c.at.ensures)
    (limit-first a m n c.index.result.now c.index-in-loop-position.result.now c.in-Some.reason
    (c.index.ensures ∙ get_or_default m.results n c.index.result.now 0 (omega (arith, c.loop-position-test.true, c.requires.results)))
    (c.index-in-loop-position.ensures ∙ get_or_default m.operands n c.index-in-loop-position.result.now 0 (omega (arith, c.loop-position-test.true, c.requires.operands)))
    ((c.requires.marked.exact n).0 c.in-Some.ensures.0) c.in-Some.ensures.1 c.loop-position.invariant)
