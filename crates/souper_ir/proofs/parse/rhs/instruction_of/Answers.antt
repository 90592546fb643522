use Rattle.std.proofs.Common.{[], ◌∷◌, refl, sym, ◌∙◌, arith}
use Rattle.souper_ir.proofs.Exits.{exit}
use Rattle.souper_errors.specs.Errors.{error_of}
use Rattle.souper_ir.specs.Words.{operand_count}
use Rattle.souper_ir.proofs.Nodes.Operands.{operands_one, operands_more, instruction_of_read, takes_three, operand_fails, first_fails}
use Rattle.souper_ir.proofs.parse.rhs.instruction_of.Goals as goal

pub returns-then-count-eq0 : goal.returns-then-count-eq0
returns-then-count-eq0 c = (
  instruction_of_read 0 c.args.opcode c.args.parser.now c.args.parser.now [] c.nullary.result (sym c.operand_count-count.ensures ∙ c.if-count-eq0.true) refl c.nullary.ensures,
  c.requires,
  c.requires,
  refl,
)

pub returns-in_err-a : goal.returns-in_err-a
returns-in_err-a c =
    let count = c.operand_count-count.ensures in
    let some = c.if-count-eq0.false in
    rw (exit c.from_residual.result c.from_residual.ensures.1) (first_fails (operand_count c.args.opcode) c.args.opcode c.args.parser.now c.operand.new.parser (error_of c.in_err-a.field-0.0) refl (omega arith) c.in_err-a.ensures)

pub returns-then-count-eq1 : goal.returns-then-count-eq1
returns-then-count-eq1 c = (
  instruction_of_read 1 c.args.opcode c.args.parser.now c.operand.new.parser (c.in_ok-a.a ∷ []) c.unary.result (sym c.operand_count-count.ensures ∙ c.if-count-eq1.true)
      (operands_one c.args.parser.now c.operand.new.parser c.in_ok-a.a c.in_ok-a.ensures.0) c.unary.ensures,
  c.requires,
  c.in_ok-a.ensures.2,
  c.in_ok-a.ensures.3,
)

pub returns-in_err-b : goal.returns-in_err-b
returns-in_err-b c =
    let count = c.operand_count-count.ensures in
    let some = c.if-count-eq0.false in
    let more = c.if-count-eq1.false in
    rw (exit c.from_residual-in_err-b.result c.from_residual-in_err-b.ensures.1) (operand_fails 1 (operand_count c.args.opcode) c.args.opcode c.args.parser.now c.operand.new.parser c.next_operand.new.parser (c.in_ok-a.a ∷ []) (error_of c.in_err-b.field-0.0) refl (omega arith) (omega arith)
    (operands_one c.args.parser.now c.operand.new.parser c.in_ok-a.a c.in_ok-a.ensures.0) (c.in_ok-a.ensures.2 ∙ sym c.requires) c.in_ok-a.ensures.3 c.in_err-b.ensures)

pub returns-then-count-eq2 : goal.returns-then-count-eq2
returns-then-count-eq2 c = (
  instruction_of_read 2 c.args.opcode c.args.parser.now c.next_operand.new.parser (c.in_ok-a.a ∷ (c.in_ok-b.b ∷ [])) c.binary.result (sym c.operand_count-count.ensures ∙ c.if-count-eq2.true)
      (operands_more 1 c.args.parser.now c.operand.new.parser c.next_operand.new.parser (c.in_ok-a.a ∷ []) c.in_ok-b.b (omega arith)
      (operands_one c.args.parser.now c.operand.new.parser c.in_ok-a.a c.in_ok-a.ensures.0) c.in_ok-b.ensures.0) c.binary.ensures,
  c.requires,
  c.in_ok-b.ensures.2,
  c.in_ok-b.ensures.3 ∙ c.in_ok-a.ensures.3,
)

pub returns-in_err-c : goal.returns-in_err-c
returns-in_err-c c =
    let count = c.operand_count-count.ensures in
    let some = c.if-count-eq0.false in
    let more = c.if-count-eq1.false in
    let further = c.if-count-eq2.false in
    let two = operands_more 1 c.args.parser.now c.operand.new.parser c.next_operand.new.parser (c.in_ok-a.a ∷ []) c.in_ok-b.b (omega arith)
    (operands_one c.args.parser.now c.operand.new.parser c.in_ok-a.a c.in_ok-a.ensures.0) c.in_ok-b.ensures.0 in
    rw (exit c.from_residual-in_err-c.result c.from_residual-in_err-c.ensures.1) (operand_fails 2 (operand_count c.args.opcode) c.args.opcode c.args.parser.now c.next_operand.new.parser c.next_operand-2.new.parser (c.in_ok-a.a ∷ (c.in_ok-b.b ∷ [])) (error_of c.in_err-c.field-0.0) refl (omega arith) (omega arith)
    two (c.in_ok-b.ensures.2 ∙ sym c.requires) (c.in_ok-b.ensures.3 ∙ c.in_ok-a.ensures.3) c.in_err-c.ensures)

pub returns : goal.returns
returns c =
    let two = operands_more 1 c.args.parser.now c.operand.new.parser c.next_operand.new.parser (c.in_ok-a.a ∷ []) c.in_ok-b.b (omega arith)
    (operands_one c.args.parser.now c.operand.new.parser c.in_ok-a.a c.in_ok-a.ensures.0) c.in_ok-b.ensures.0 in (
      instruction_of_read 3 c.args.opcode c.args.parser.now c.next_operand-2.new.parser (c.in_ok-a.a ∷ (c.in_ok-b.b ∷ (c.in_ok-c.c ∷ []))) c.ternary.result
          (takes_three c.args.opcode c.operand_count-count.result c.operand_count-count.ensures c.if-count-eq0.false c.if-count-eq1.false c.if-count-eq2.false)
          (operands_more 2 c.args.parser.now c.next_operand.new.parser c.next_operand-2.new.parser (c.in_ok-a.a ∷ (c.in_ok-b.b ∷ [])) c.in_ok-c.c (omega arith) two c.in_ok-c.ensures.0) c.ternary.ensures,
      c.requires,
      c.in_ok-c.ensures.2,
      c.in_ok-c.ensures.3 ∙ c.in_ok-b.ensures.3 ∙ c.in_ok-a.ensures.3,
    )
