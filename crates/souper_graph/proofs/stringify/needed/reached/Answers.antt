use Rattle.std.proofs.Common.{◌∙◌, map, sym, ap}
use Rattle.std.proofs.lemmas.List.{length-map}
use Rattle.souper_graph.specs.View.{view_statement}
use Rattle.souper_graph.specs.Walks.{position_of_target}
use Rattle.souper_graph.proofs.FlawSearch.Reached.{walking_start, walking_over}
use Rattle.souper_graph.proofs.FlawSearch.Walk.{mark_inside, dropped_marked, dropped_past, entered_marked, entered_less, emptied}
use Rattle.souper_graph.proofs.stringify.needed.reached.Goals as goal

pub loop-target-init : goal.loop-target-init
loop-target-init c =
    walking_start (map view_statement c.args.statements.now) (map position_of_target c.args.targets.items) c.in_ok-marks.marks c.len.result
    c.in_ok-marks.ensures (c.len.ensures ∙ sym (length-map c.args.statements.now view_statement))

pub is_marked-requires : goal.is_marked-requires
is_marked-requires c =
    mark_inside c.args.statements.now _ _ c.loop-target.marks c.position-id.result c.index.result c.in-Some-get.statement.now c.loop-target.invariant c.in-Some-get.ensures c.index.ensures

pub mark-requires : goal.mark-requires
mark-requires c =
    mark_inside c.args.statements.now _ _ c.loop-target.marks c.position-id.result c.index-then-not-is_marked.result c.in-Some-get.statement.now c.loop-target.invariant c.in-Some-get.ensures c.index-then-not-is_marked.ensures

pub loop-target-smaller-in-Continue-branch-2 : goal.loop-target-smaller-in-Continue-branch-2
loop-target-smaller-in-Continue-branch-2 c =
    entered_less c.args.statements.now _ c.loop-target.stack.items c.pop.new.self.items c.push_used.new.targets.items c.loop-target.marks c.mark.new.self c.in-Some.target
    c.position-id.result c.index-then-not-is_marked.result c.index.result c.in-Some-get.statement.now c.is_marked.result c.loop-target.invariant c.in-Some.ensures.items
    c.index-then-not-is_marked.ensures c.index.ensures c.in-Some-get.ensures c.is_marked.ensures c.if-not-is_marked.true c.mark.ensures c.in_ok-push_used.ensures.ok

pub loop-target-preserved-in-Continue-branch-2 : goal.loop-target-preserved-in-Continue-branch-2
loop-target-preserved-in-Continue-branch-2 c =
    entered_marked c.args.statements.now _ c.loop-target.stack.items c.pop.new.self.items c.push_used.new.targets.items c.loop-target.marks c.mark.new.self c.in-Some.target
    c.position-id.result c.index-then-not-is_marked.result c.in-Some-get.statement.now c.loop-target.invariant c.in-Some.ensures.items
    c.position-id.ensures c.index-then-not-is_marked.ensures c.in-Some-get.ensures c.mark.ensures c.in_ok-push_used.ensures.ok

pub loop-target-preserved-else-not-is_marked : goal.loop-target-preserved-else-not-is_marked
loop-target-preserved-else-not-is_marked c =
    dropped_marked c.args.statements.now _ c.loop-target.stack.items c.pop.new.self.items c.loop-target.marks c.in-Some.target c.position-id.result c.index.result c.is_marked.result
    c.loop-target.invariant c.in-Some.ensures.items c.position-id.ensures c.index.ensures c.is_marked.ensures c.if-not-is_marked.false

pub loop-target-preserved : goal.loop-target-preserved
loop-target-preserved c =
    dropped_past c.args.statements.now _ c.loop-target.stack.items c.pop.new.self.items c.loop-target.marks c.in-Some.target c.position-id.result
    c.loop-target.invariant c.in-Some.ensures.items c.position-id.ensures c.in_default-get.ensures

pub returns-clause-reached : goal.returns-clause-reached
returns-clause-reached c =
    walking_over (map view_statement c.args.statements.now) (map position_of_target c.args.targets.items) _ c.loop-target.marks c.loop-target.invariant
    (ap (map position_of_target) (emptied c.loop-target.stack.items c.pop.new.self.items _ c.in_default.ensures.items c.in_default.ensures.rest c.in_default.ensures.cases.0))
