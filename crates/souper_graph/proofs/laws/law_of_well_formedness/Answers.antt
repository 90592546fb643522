use Rattle.std.proofs.Common.{Option, ap}
use Rattle.souper_graph.specs.Values.{PlainStatement}
use Rattle.souper_graph.specs.Uses.{is_condition}
use Rattle.souper_graph.proofs.Judging.Needed.{stood, well_formed_below, well_formed_no_bad_id}
use Rattle.souper_graph.proofs.Sameness.PrintedOrder.{condition-needed}
use Rattle.souper_graph.proofs.Judging.Lower.{below_if_lower, lower_if_below}
use Rattle.souper_graph.proofs.laws.law_of_well_formedness.Goals as goal

pub returns-clause-no_bad_id : goal.returns-clause-no_bad_id
returns-clause-no_bad_id c = well_formed_no_bad_id

pub returns-clause-below : goal.returns-clause-below
returns-clause-below c = well_formed_below

pub returns-clause-told : goal.returns-clause-told
returns-clause-told c = λ a. (below_if_lower a, lower_if_below a)

pub returns-clause-conditions_needed : goal.returns-clause-conditions_needed
returns-clause-conditions_needed c = λ a i p e. condition-needed a i (ap (λ (o : Option PlainStatement). is_condition (stood o)) e)

pub returns-clause-block_conditions_needed : goal.returns-clause-block_conditions_needed
returns-clause-block_conditions_needed c = λ a i p e. condition-needed a i (ap (λ (o : Option PlainStatement). is_condition (stood o)) e)
