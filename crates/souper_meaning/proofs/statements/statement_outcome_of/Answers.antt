use Rattle.std.proofs.Common.{sym, ap, subst, ◌∙◌}
use Rattle.souper_graph.specs.declared.ast.statements.Statement.{Statement}
use Rattle.souper_graph.specs.View.{view_statement}
use Rattle.souper_meaning.specs.Statements.{outcome_in, outcome_by}
use Rattle.souper_meaning.specs.View.{view_world}
use Rattle.souper_meaning.specs.Evaluable.{IsReadyStatement}
use Rattle.souper_meaning.proofs.statements.statement_outcome_of.Goals as goal

pub rhs_outcome_of-requires : goal.rhs_outcome_of-requires
rhs_outcome_of-requires c =
    subst (λ (s : Statement). IsReadyStatement c.args.widths.result c.args.widths.operands (outcome_in c.args.done.now) (view_statement s)) c.in-Assignment.is c.requires

pub returns-in-Assignment : goal.returns-in-Assignment
returns-in-Assignment c =
    c.rhs_outcome_of.ensures
    ∙ ap (λ (s : Statement). outcome_by c.args.widths.result c.args.widths.operands (view_world c.args.world.now) c.args.position (outcome_in c.args.done.now) (view_statement s)) (sym c.in-Assignment.is)
