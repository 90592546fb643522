use Rattle.std.proofs.Common.{◌≡◌, List, [], ◌∷◌, ap, rules}
use Rattle.souper_graph.specs.declared.ast.operands.Operand.{Operand}
use Rattle.souper_graph.specs.Instructions.{operands_of}
use Rattle.souper_widths.specs.declared.rows.Row.TheVariants.{Input, Same}
use Rattle.souper_widths.specs.Table.{instruction_row}
use Rattle.souper_widths.proofs.ForwardRows.{without-operands, known-row}
use Rattle.souper_widths.proofs.forward.instruction_widths.Goals as goal

pub returns-in-Hole : goal.returns-in-Hole
returns-in-Hole c = without-operands Input c.args.results.now c.args.ty (instruction_row c.args.instruction.now) (operands_of c.args.instruction.now) c.input_widths.result
    (ap instruction_row c.in-Hole.is) (ap operands_of c.in-Hole.is) c.input_widths.ensures

pub returns-in-Add : goal.returns-in-Add
returns-in-Add c =
    let row : instruction_row c.args.instruction.now ≡ Same = search rules in
    let operands : operands_of c.args.instruction.now ≡ c.in-Add.a ∷ c.in-Add.b ∷ [] = search rules in
    known-row Same c.args.results.now c.args.ty (instruction_row c.args.instruction.now) (operands_of c.args.instruction.now) (c.in-Add.a ∷ c.in-Add.b ∷ []) c.same_widths.result row operands c.same_widths.ensures.same
