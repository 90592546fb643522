use Rattle.std.proofs.Common.{◌≡◌, ◌++◌, length, map, flat_map}
use Rattle.std.specs.List.{AllByRecursion}
use Rattle.souper_graph.specs.View.{view_statement}
use Rattle.souper_code.specs.Codes.{code_of_statement}
use Rattle.souper_code.specs.Codable.{CodableStatement}
use Rattle.souper_code.proofs.Lists.{Begins}
use Rattle.souper_code.proofs.decode.Reader.statements.Given as goal

-- the statements so far were read, and no others are there
abbrev pub invariant-loop : goal.invariant-loop
invariant-loop l = record {
  read : l.initial.self.rest.now ≡ flat_map code_of_statement (map view_statement l.statements) ++ l.self.rest.now;
  fit : AllByRecursion CodableStatement (map view_statement l.statements);
  count : length (map view_statement l.statements) ≡ l.counter;
  begins : Begins code_of_statement CodableStatement l.count l.initial.self.rest.now (map view_statement l.statements) l.self.rest.now;
}
