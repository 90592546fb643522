use Rattle.std.proofs.Common.{◌≡◌, ◌++◌, length, map, flat_map}
use Rattle.std.specs.List.{AllByRecursion}
use Rattle.souper_graph.specs.View.{view_attribute}
use Rattle.souper_code.specs.Codes.{code_of_attribute}
use Rattle.souper_code.specs.Codable.{CodableAttribute}
use Rattle.souper_code.proofs.Lists.{Begins}
use Rattle.souper_code.proofs.decode.Reader.attributes.Given as goal

-- the attributes so far were read, and no others are there
abbrev pub invariant-loop : goal.invariant-loop
invariant-loop l = record {
  read : l.initial.self.rest.now ≡ flat_map code_of_attribute (map view_attribute l.attributes.items) ++ l.self.rest.now;
  fit : AllByRecursion CodableAttribute (map view_attribute l.attributes.items);
  count : length (map view_attribute l.attributes.items) ≡ l.counter;
  begins : Begins code_of_attribute CodableAttribute l.count l.initial.self.rest.now (map view_attribute l.attributes.items) l.self.rest.now;
}
