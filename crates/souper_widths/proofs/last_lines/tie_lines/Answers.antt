use Rattle.std.proofs.Common.{◌≡◌, ◌≢◌, [], sym, ap, subst}
use Rattle.souper_graph.specs.declared.ast.parts.Ending.{Ending as ByReference}
use Rattle.souper_graph.specs.declared.ast.flaws.FlawLocation.{FlawLocation}
use Rattle.souper_graph.specs.declared.ast.flaws.FlawLocation.TheVariants.{Infer, Result as result_line, Cand}
use Rattle.souper_graph.specs.Values.{Item}
use Rattle.souper_graph.specs.Flaws.{line_operands}
use Rattle.souper_graph.specs.PartsView.{view_ending, view_parts}
use Rattle.souper_widths.specs.Ties.{AddsTies}
use Rattle.souper_widths.specs.Nodes.{ties_at, ClassesOf}
use Rattle.souper_widths.proofs.EndingClasses.{weaken, before-infer, before-result, before-cand, between-lines, after-infer, after-result, after-cand}
use Rattle.souper_widths.proofs.last_lines.tie_lines.Goals as goal

-- the operands of a line of an ending that is known, whether it has the line or not

operands-by : (l : FlawLocation) (e f : ByReference) → e ≡ f → line_operands l (view_ending e) ≡ line_operands l (view_ending f)
operands-by l e f q = ap (λ (z : ByReference). line_operands l (view_ending z)) q

place-by : (l : FlawLocation) (e f : ByReference) → e ≡ f → line_operands l (view_ending f) ≢ [] → line_operands l (view_ending e) ≢ []
place-by l e f q n = subst (λ (z : ByReference). line_operands l (view_ending z) ≢ []) (sym q) n

pub tie_line-requires-clause-before : goal.tie_line-requires-clause-before
tie_line-requires-clause-before c =
    let a : Item = view_parts c.args.parts.now in
    let ps = c.args.parents.now in
    let ns = c.args.numbers.now in
    before-infer a ps ns c.requires.well_formed c.requires.before

pub returns-in-Infer-clause-ok : goal.returns-in-Infer-clause-ok
returns-in-Infer-clause-ok c =
    let a : Item = view_parts c.args.parts.now in
    let ps = c.args.parents.now in
    let ns = c.args.numbers.now in
    let qs = c.tie_line.new.parents in
    let ms = c.tie_line.new.numbers in
    weaken (AddsTies ps ns qs ms (ties_at a Infer)) (ClassesOf a (λ k. Unit {0}) qs ms) c.tie_line.result
    (after-infer a ps ns qs ms (operands-by result_line _ _ c.in-Infer.is) (operands-by Cand _ _ c.in-Infer.is) (before-infer a ps ns c.requires.well_formed c.requires.before) (place-by Infer _ _ c.in-Infer.is (λ z. absurd (cc z))))
    c.tie_line.ensures.ok

pub tie_line-requires-in-Result-clause-before : goal.tie_line-requires-in-Result-clause-before
tie_line-requires-in-Result-clause-before c =
    let a : Item = view_parts c.args.parts.now in
    let ps = c.args.parents.now in
    let ns = c.args.numbers.now in
    before-result a ps ns c.requires.well_formed (operands-by Infer _ _ c.in-Result.is) c.requires.before

pub returns-in-Result-clause-ok : goal.returns-in-Result-clause-ok
returns-in-Result-clause-ok c =
    let a : Item = view_parts c.args.parts.now in
    let ps = c.args.parents.now in
    let ns = c.args.numbers.now in
    let qs = c.tie_line-in-Result.new.parents in
    let ms = c.tie_line-in-Result.new.numbers in
    weaken (AddsTies ps ns qs ms (ties_at a result_line)) (ClassesOf a (λ k. Unit {0}) qs ms) c.tie_line-in-Result.result
    (after-result a ps ns qs ms (operands-by Cand _ _ c.in-Result.is) (before-result a ps ns c.requires.well_formed (operands-by Infer _ _ c.in-Result.is) c.requires.before) (place-by result_line _ _ c.in-Result.is (λ z. absurd (cc z))))
    c.tie_line-in-Result.ensures.ok

pub tie_line-requires-in-Cand-clause-before : goal.tie_line-requires-in-Cand-clause-before
tie_line-requires-in-Cand-clause-before c =
    let a : Item = view_parts c.args.parts.now in
    let ps = c.args.parents.now in
    let ns = c.args.numbers.now in
    before-cand a ps ns c.requires.well_formed c.requires.before

pub returns-in-Cand-clause-ok : goal.returns-in-Cand-clause-ok
returns-in-Cand-clause-ok c =
    let a : Item = view_parts c.args.parts.now in
    let ps = c.args.parents.now in
    let ns = c.args.numbers.now in
    let qs = c.tie_line-in-Cand.new.parents in
    let ms = c.tie_line-in-Cand.new.numbers in
    weaken (AddsTies ps ns qs ms (ties_at a Cand)) (ClassesOf a (λ k. Unit {0}) qs ms) c.tie_line-in-Cand.result
    (after-cand a ps ns qs ms (operands-by Infer _ _ c.in-Cand.is) (operands-by result_line _ _ c.in-Cand.is) (before-cand a ps ns c.requires.well_formed c.requires.before) (place-by Cand _ _ c.in-Cand.is (λ z. absurd (cc z))))
    c.tie_line-in-Cand.ensures.ok

pub tie_line-requires-in-Replaced-clause-before : goal.tie_line-requires-in-Replaced-clause-before
tie_line-requires-in-Replaced-clause-before c =
    let a : Item = view_parts c.args.parts.now in
    let ps = c.args.parents.now in
    let ns = c.args.numbers.now in
    before-infer a ps ns c.requires.well_formed c.requires.before

pub tie_line-requires-in-Ok-clause-before : goal.tie_line-requires-in-Ok-clause-before
tie_line-requires-in-Ok-clause-before c =
    let a : Item = view_parts c.args.parts.now in
    let ps = c.args.parents.now in
    let ns = c.args.numbers.now in
    between-lines a ps ns c.tie_line-in-Replaced.new.parents c.tie_line-in-Replaced.new.numbers (before-infer a ps ns c.requires.well_formed c.requires.before) (place-by Infer _ _ c.in-Replaced.is (λ z. absurd (cc z))) c.in-Ok.ensures.ok

pub returns-in-Ok-clause-ok : goal.returns-in-Ok-clause-ok
returns-in-Ok-clause-ok c =
    let a : Item = view_parts c.args.parts.now in
    let ps = c.args.parents.now in
    let ns = c.args.numbers.now in
    let qs = c.tie_line-in-Ok.new.parents in
    let ms = c.tie_line-in-Ok.new.numbers in
    weaken (AddsTies c.tie_line-in-Replaced.new.parents c.tie_line-in-Replaced.new.numbers qs ms (ties_at a result_line)) (ClassesOf a (λ k. Unit {0}) qs ms) c.tie_line-in-Ok.result
    (after-result a c.tie_line-in-Replaced.new.parents c.tie_line-in-Replaced.new.numbers qs ms (operands-by Cand _ _ c.in-Replaced.is) (between-lines a ps ns c.tie_line-in-Replaced.new.parents c.tie_line-in-Replaced.new.numbers (before-infer a ps ns c.requires.well_formed c.requires.before) (place-by Infer _ _ c.in-Replaced.is (λ z. absurd (cc z))) c.in-Ok.ensures.ok) (place-by result_line _ _ c.in-Replaced.is (λ z. absurd (cc z))))
    c.tie_line-in-Ok.ensures.ok
