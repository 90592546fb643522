use Rattle.std.proofs.Common.{◌≡◌, ◌∙◌, ℕ, false, get_or, sym, subst, arith}
use Rattle.std.proofs.lemmas.Bool.{false≢true}
use Rattle.std.proofs.lemmas.List.{get_or_default}
use Rattle.souper_graph.specs.Values.{Item}
use Rattle.souper_graph.specs.PartsView.{view_parts}
use Rattle.souper_widths.specs.Maps.{WidthMap, result_width, operand_width}
use Rattle.souper_widths.specs.View.{view_widths}
use Rattle.souper_meaning.specs.Evaluable.{IsNarrowAt}
use Rattle.souper_meaning.specs.Plans.{IsFirstWithout}
use Rattle.souper_meaning.proofs.Marked.{holds_more, holds_all, test_fails}
use Rattle.souper_meaning.proofs.Walked.{narrow_to, narrow_from}
use Rattle.souper_meaning.proofs.refusals.first_wide.Goals as goal

pub loop-position-preserved : goal.loop-position-preserved
loop-position-preserved c =
    let a : Item = view_parts c.args.parts.now in
    let m : WidthMap = view_widths c.args.widths.now in
    let n : ℕ = c.loop-position.position in
    let e : c.index.result.now ≡ result_width m n = c.index.ensures ∙ get_or_default m.results n c.index.result.now 0 (omega (arith, c.loop-position-test.true, c.requires.results)) in
    let f : c.index-in-loop-position.result.now ≡ operand_width m n = c.index-in-loop-position.ensures ∙ get_or_default m.operands n c.index-in-loop-position.result.now 0 (omega (arith, c.loop-position-test.true, c.requires.operands)) in
    holds_more a (IsNarrowAt m) n (λ d. narrow_to _ _ m n e f (c.are_narrow-is_narrow.ensures.0 c.if-not-is_narrow.false ((c.requires.marked.exact n).1 d))) c.loop-position.invariant

pub returns : goal.returns
returns c =
    let a : Item = view_parts c.args.parts.now in
    holds_all a (IsNarrowAt (view_widths c.args.widths.now)) c.args.marks.now c.loop-position.position c.requires.marked (omega arith) c.loop-position.invariant

pub returns-then-not-is_narrow : goal.returns-then-not-is_narrow
returns-then-not-is_narrow c =
    let a : Item = view_parts c.args.parts.now in
    let m : WidthMap = view_widths c.args.widths.now in
    let n : ℕ = c.loop-position.position in
    let e : c.index.result.now ≡ result_width m n = c.index.ensures ∙ get_or_default m.results n c.index.result.now 0 (omega (arith, c.loop-position-test.true, c.requires.results)) in
    let f : c.index-in-loop-position.result.now ≡ operand_width m n = c.index-in-loop-position.ensures ∙ get_or_default m.operands n c.index-in-loop-position.result.now 0 (omega (arith, c.loop-position-test.true, c.requires.operands)) in
    let t = test_fails (get_or c.args.marks.now n false) (IsNarrowAt m n) (λ h. false≢true (sym c.if-not-is_narrow.true ∙ c.are_narrow-is_narrow.ensures.1 (λ q. narrow_from _ _ m n e f (h q)))) in
    subst (λ (z : ℕ). IsFirstWithout a (IsNarrowAt m) z) (sym c.at.ensures) (record { needed = (c.requires.marked.exact n).0 t.0; before = c.loop-position.invariant; fails = t.1 })
