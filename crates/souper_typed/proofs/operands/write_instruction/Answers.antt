use Rattle.std.proofs.Common.{◌∙◌, sym}
use Rattle.souper_typed.proofs.WrittenOperands.{other-instruction}
use Rattle.souper_typed.proofs.operands.write_instruction.Goals as goal

pub returns-in_default : goal.returns-in_default
returns-in_default c = c.write_each.ensures ∙ sym (other-instruction c.args.form c.args.width c.args.instruction c.in_default.not-Select c.in_default.not-ExtractValue)
