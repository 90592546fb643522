use Rattle.std.proofs.Common.{◌∙◌, ap, sym, arith, Vec, Global}
use Rattle.souper_graph.specs.declared.stringify.order.Target.{Target}
use Rattle.souper_graph.proofs.Conditions.{conditions_kept, conditions_pushed, nothing_there}
use Rattle.souper_graph.proofs.stringify.order.push_conditions.Goals as goal
use Rattle.souper_graph.proofs.stringify.order.push_conditions.Goals.{in-Some+then-not-is_assignment+in_ok-push, in-Some+else-not-is_assignment, in_default}

pub loop-index-preserved : goal.loop-index-preserved
loop-index-preserved c = elim c.match-get.branch [
  | in-Some+then-not-is_assignment+in_ok-push w ↦
      conditions_pushed c.args.targets.now.items c.loop-index.targets.items c.match-get.targets.items c.args.statements.now c.loop-index.index c.at-id.result
      w.in-Some.statement.now w.is_assignment.result c.loop-index.invariant (sym w.in-Some.ensures) c.at-id.ensures w.is_assignment.ensures w.if-not-is_assignment.true
      (ap (λ (v : Vec Target Global). v.items) w.targets-is ∙ w.in_ok-push.ensures.items)
  | in-Some+else-not-is_assignment w ↦
      ap (λ (v : Vec Target Global). v.items) w.targets-is
      ∙ conditions_kept c.args.targets.now.items c.loop-index.targets.items c.args.statements.now c.loop-index.index c.at-id.result
      w.in-Some.statement.now w.is_assignment.result c.loop-index.invariant (sym w.in-Some.ensures) c.at-id.ensures w.is_assignment.ensures w.if-not-is_assignment.false
  | in_default w ↦
      let length = c.len-index-end.ensures in
      let below = c.loop-index-test.true in
      absurd (nothing_there c.args.statements.now c.at-id.result c.loop-index.index w.in_default.ensures c.at-id.ensures (omega arith))
]
