use Rattle.std.proofs.Common.{◌≡◌, ℕ, ◌+◌, ◌*◌, ◌++◌, List, sym, ap, ◌∙◌, subst, append_assoc}
use Rattle.std.specs.Prelude.{OnOk, flat_map}
use Rattle.souper_graph.specs.declared.ast.operands.Operand.{Operand}
use Rattle.souper_widths.specs.declared.ties.Side.TheVariants.{Node, Number}
use Rattle.souper_widths.specs.Equations.{operand_equations}
use Rattle.souper_widths.specs.Table.{row_operands}
use Rattle.souper_widths.specs.Ties.{ties_of, operand_tie}
use Rattle.souper_widths.specs.declared.ties.Tie.{Tie}
use Rattle.souper_widths.proofs.Tables.{other-rows, select-row}
use Rattle.souper_widths.proofs.equations.push_row_operands.Goals as goal

pub returns-in_ok-push_operand_tie-in-Some-split_first :
    goal.returns-in_ok-push_operand_tie-in-Some-split_first
returns-in_ok-push_operand_tie-in-Some-split_first c =
    let r = c.push_operand_ties in
    let x : Operand = c.in-Some-split_first.condition.now in
    let xs : List Operand = c.in-Some-split_first.arms.now in
    let p : ℕ = c.args.position in
    let old : List Tie = c.args.ties.now.items in
    let one : List Tie = operand_tie x (Number 1) 0 in
    let more : List Tie = flat_map (λ y. operand_tie y (Node (2 * p + 1)) 0) xs in
    let whole = ap (λ (z : List Tie). z ++ more) (c.in_ok-push_operand_tie-in-Some-split_first.ensures) ∙ append_assoc old one more
    ∙ ap (λ (z : List Tie). old ++ z) (select-row c.args.row c.in-Select.is x xs p ∙ ap (λ (z : List Operand). flat_map (ties_of 0 c.args.row) (flat_map operand_equations (row_operands p c.args.row z))) (sym c.in-Some-split_first.ensures.cases.0)) in
    subst (λ (z : List Tie). OnOk r.result (r.new.ties.items ≡ z)) whole r.ensures

pub returns-in_default : goal.returns-in_default
returns-in_default c =
    let r = c.push_operand_ties-in_default in
    let n = c.in_default in
    subst (λ (z : List Tie). OnOk r.result (r.new.ties.items ≡ c.args.ties.now.items ++ z)) (other-rows c.args.row n.not-Select n.not-Number n.not-Overflow n.not-BadPart c.args.operands.now c.args.position) r.ensures
