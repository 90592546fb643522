use Rattle.std.proofs.Common.{◌↔◌, map, Some, sym, subst}
use Rattle.std.specs.Prelude.{IsTrue}
use Rattle.souper_graph.specs.declared.ast.statements.Statement.{Statement}
use Rattle.souper_graph.specs.View.{view_attribute, view_rhs, view_statement}
use Rattle.souper_words.specs.declared.outcome.Outcome.{Outcome}
use Rattle.souper_meaning.specs.View.{view_world}
use Rattle.souper_meaning.specs.Statements.{outcome_in}
use Rattle.souper_meaning.specs.Evaluable.{IsTestableRhs, IsTestable}
use Rattle.souper_meaning.specs.Sound.{MeetsRhs, MeetsStatement}
use Rattle.souper_meaning.proofs.conditions.statement_is_met.Goals as goal

pub assignment_is_met-requires : goal.assignment_is_met-requires
assignment_is_met-requires c =
    subst (λ (o : Outcome). IsTestableRhs c.args.widths.result o (map view_attribute c.in-Assignment.assignment.attributes.items) (view_rhs c.in-Assignment.assignment.value)) (sym c.value.ensures)
    (subst (λ (s : Statement). IsTestable c.args.widths.result c.args.widths.operands (view_world c.args.world.now) c.args.position (view_statement s)) c.in-Assignment.is c.requires)

pub returns-in-Assignment : goal.returns-in-Assignment
returns-in-Assignment c =
    subst (λ (s : Statement). IsTrue c.assignment_is_met.result ↔ MeetsStatement c.args.widths.result c.args.widths.operands (view_world c.args.world.now) (outcome_in c.args.done.now) c.args.position (Some (view_statement s))) (sym c.in-Assignment.is)
    (subst (λ (o : Outcome). IsTrue c.assignment_is_met.result ↔ MeetsRhs c.args.widths.result o (map view_attribute c.in-Assignment.assignment.attributes.items) (view_rhs c.in-Assignment.assignment.value)) c.value.ensures c.assignment_is_met.ensures)

pub are_equal-requires-clause-low : goal.are_equal-requires-clause-low
are_equal-requires-clause-low c =
    (subst (λ (s : Statement). IsTestable c.args.widths.result c.args.widths.operands (view_world c.args.world.now) c.args.position (view_statement s)) c.in-Pc.is c.requires).0

pub are_equal-requires-clause-high : goal.are_equal-requires-clause-high
are_equal-requires-clause-high c =
    (subst (λ (s : Statement). IsTestable c.args.widths.result c.args.widths.operands (view_world c.args.world.now) c.args.position (view_statement s)) c.in-Pc.is c.requires).1

pub returns-in-Pc : goal.returns-in-Pc
returns-in-Pc c =
    subst (λ (s : Statement). IsTrue c.are_equal.result ↔ MeetsStatement c.args.widths.result c.args.widths.operands (view_world c.args.world.now) (outcome_in c.args.done.now) c.args.position (Some (view_statement s))) (sym c.in-Pc.is) c.are_equal.ensures

pub block_condition_is_met-requires-clause-low : goal.block_condition_is_met-requires-clause-low
block_condition_is_met-requires-clause-low c =
    (subst (λ (s : Statement). IsTestable c.args.widths.result c.args.widths.operands (view_world c.args.world.now) c.args.position (view_statement s)) c.in-BlockPc.is c.requires).0

pub block_condition_is_met-requires-clause-high : goal.block_condition_is_met-requires-clause-high
block_condition_is_met-requires-clause-high c =
    (subst (λ (s : Statement). IsTestable c.args.widths.result c.args.widths.operands (view_world c.args.world.now) c.args.position (view_statement s)) c.in-BlockPc.is c.requires).1

pub returns-in-BlockPc : goal.returns-in-BlockPc
returns-in-BlockPc c =
    subst (λ (s : Statement). IsTrue c.block_condition_is_met.result ↔ MeetsStatement c.args.widths.result c.args.widths.operands (view_world c.args.world.now) (outcome_in c.args.done.now) c.args.position (Some (view_statement s))) (sym c.in-BlockPc.is) c.block_condition_is_met.ensures
