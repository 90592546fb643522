use Rattle.std.proofs.Common.{rules, ◌∙◌, ap, map}
use Rattle.std.proofs.lemmas.List.{map-append}
use Rattle.souper_graph.specs.Values.{assigned, condition, block_condition}
use Rattle.souper_graph.specs.View.{view_assignment, view_statement}
use Rattle.souper_code.proofs.decode.Reader.statement.Goals as goal

pub returns-in_ok-alloc-in-0-clause-read : goal.returns-in_ok-alloc-in-0-clause-read
returns-in_ok-alloc-in-0-clause-read c = (
  assigned (view_assignment c.in_ok-assignment-in-0.assignment),
  search rules,
  ap (map view_statement) c.in_ok-alloc-in-0.ensures.grows ∙ map-append view_statement _ _,
  search rules,
)

pub returns-in_ok-alloc-in-1-clause-read : goal.returns-in_ok-alloc-in-1-clause-read
returns-in_ok-alloc-in-1-clause-read c = (
  condition c.in_ok-condition-in-1.condition,
  search rules,
  ap (map view_statement) c.in_ok-alloc-in-1.ensures.grows ∙ map-append view_statement _ _,
  search rules,
)

pub returns-in_ok-alloc-in-2-clause-read : goal.returns-in_ok-alloc-in-2-clause-read
returns-in_ok-alloc-in-2-clause-read c = (
  block_condition c.in_ok-condition-in-2.condition,
  search rules,
  ap (map view_statement) c.in_ok-alloc-in-2.ensures.grows ∙ map-append view_statement _ _,
  search rules,
)
