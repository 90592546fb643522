use Rattle.std.proofs.Common.{map, refl, rules}
use Rattle.std.specs.List.{AllByRecursion}
use Rattle.souper_graph.specs.View.{view_statement}
use Rattle.souper_graph.specs.Uses.{uses_of_operand}
use Rattle.souper_graph.specs.WellFormed.{IsMet}
use Rattle.souper_graph.proofs.Judging.Closed.{All-at, All-taken}
use Rattle.souper_graph.proofs.FlawSearch.Uses.{uses_all, uses_each}
use Rattle.souper_graph.proofs.ast.well_formed.uses.operands_are_assigned.Goals as goal

pub returns-then-not-operand_is_assigned : goal.returns-then-not-operand_is_assigned
returns-then-not-operand_is_assigned c =
    let ss = map view_statement c.args.statements.now in (
      (λ e. absurd (cc)),
      (λ all. c.if-not-operand_is_assigned.ensures.1 (All-at (λ x. AllByRecursion (IsMet ss) (uses_of_operand x)) c.args.operands.now c.loop-operand.operand-index c.operand-item.result (search rules) c.operand-item.is (uses_each (IsMet ss) c.args.operands.now all))),
    )

pub returns : goal.returns
returns c =
    let ss = map view_statement c.args.statements.now in (
      (λ _. uses_all (IsMet ss) c.args.operands.now (All-taken (λ x. AllByRecursion (IsMet ss) (uses_of_operand x)) c.args.operands.now c.loop-operand.operand-index c.loop-operand-test.false c.loop-operand.invariant)),
      (λ _. refl),
    )
