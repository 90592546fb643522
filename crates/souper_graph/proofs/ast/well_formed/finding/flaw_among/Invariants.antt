use Rattle.std.proofs.Common.{take, map}
use Rattle.std.specs.List.{AllByRecursion}
use Rattle.souper_graph.specs.View.{view_statement}
use Rattle.souper_graph.specs.Judging.{MayStandAt}
use Rattle.souper_graph.proofs.Judging.Names.{NamesAre, Apart}
use Rattle.souper_graph.proofs.ast.well_formed.finding.flaw_among.Given as goal

-- the statements so far are valid, the set has their names, and these are distinct
abbrev pub invariant-loop-id : goal.invariant-loop-id
invariant-loop-id l = record {
  stand : AllByRecursion (MayStandAt (map view_statement l.statements)) (take l.id-index l.ids);
  tie : NamesAre l.names (map view_statement l.statements) (take l.id-index l.ids);
  apart : Apart (map view_statement l.statements) (take l.id-index l.ids);
}
