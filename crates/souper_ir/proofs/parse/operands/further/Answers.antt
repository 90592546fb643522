use Rattle.std.proofs.Common.{◌≡◌, ◌∙◌, sym, ℕ, Ok, subst, arith}
use Rattle.souper_ir.proofs.Exits.{exit}
use Rattle.souper_ir.specs.Reading.{fails_later}
use Rattle.souper_ir.specs.Laws.FromReadings.{of_memory}
use Rattle.souper_ir.specs.NodeReadings.{further_at}
use Rattle.souper_ir.proofs.Nodes.Operands.{further_more, further_fails}
use Rattle.souper_errors.specs.Errors.{error_of}
use Rattle.souper_ir.proofs.parse.operands.further.Goals as goal

pub loop-preserved : goal.loop-preserved
loop-preserved c =
    rw c.in-Ok.ensures.items (
      further_more c.loop.counter c.args.parser.now c.loop.parser c.next_operand.new.parser c.loop.operands.items c.in_ok-operand.operand c.loop.invariant.0 c.in_ok-operand.ensures.0,
      c.in_ok-operand.ensures.2,
      c.in_ok-operand.ensures.3 ∙ c.loop.invariant.2,
    )

pub returns-in_err-operand : goal.returns-in_err-operand
returns-in_err-operand c =
    rw (exit c.from_residual.result c.from_residual.ensures.1) (further_fails c.loop.counter c.args.count c.args.parser.now c.loop.parser c.next_operand.new.parser c.loop.operands.items (error_of c.in_err-operand.field-0.0) (omega arith) c.loop.invariant.0
    (c.loop.invariant.1 ∙ sym c.requires) c.loop.invariant.2 c.in_err-operand.ensures)

pub returns-in-Err : goal.returns-in-Err
returns-in-Err c = (
  of_memory _ (error_of c.want_memory.result) c.want_memory.ensures.0,
  fails_later (error_of c.want_memory.result) c.args.parser.now c.next_operand.new.parser c.want_memory.new.self (c.in_ok-operand.ensures.2 ∙ sym c.requires) (c.in_ok-operand.ensures.3 ∙ c.loop.invariant.2) c.want_memory.ensures.1,
)

pub returns : goal.returns
returns c =
    let all : c.loop.counter ≡ c.args.count = omega arith in
    (subst (λ (n : ℕ). further_at n c.args.parser.now ≡ Ok (c.loop.operands.items, c.loop.parser)) all c.loop.invariant.0, c.requires, c.loop.invariant.1, c.loop.invariant.2)
