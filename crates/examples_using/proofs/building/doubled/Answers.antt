use Rattle.std.proofs.Common.{◌≡◌, length, [], ◌∷◌, ◌++◌, map, Some, None, refl, ap}
use Rattle.souper_graph.specs.Building.{added_assignment}
use Rattle.souper_graph.specs.View.{view_statement, view_rhs, view_attribute}
use Rattle.souper_graph.specs.Values.{var}
use Rattle.examples_using.proofs.Doubling.{grown}
use Rattle.examples_using.proofs.building.doubled.Goals as goal

pub returns : goal.returns
returns c =
    let first : map view_statement c.assignment.new.self ≡ map view_statement c.new-builder.result
    ++ added_assignment (Some c.in_ok-name.name) (length c.new-builder.result) (Some (record { width = 32 })) var (map view_attribute c.new.result.items) ∷ []
    = c.in_ok-x.ensures.grows in
    let second : map view_statement c.assignment-2.new.self ≡ map view_statement c.assignment.new.self
    ++ added_assignment None (length c.assignment.new.self) None (view_rhs c.into-2.result) (map view_attribute c.new-2.result.items) ∷ []
    = c.in_ok-twice.ensures.grows in
    let third : map view_statement c.assignment-3.new.self ≡ map view_statement c.assignment-2.new.self
    ++ added_assignment None (length c.assignment-2.new.self) None (view_rhs c.into-4.result) (map view_attribute c.new-3.result.items) ∷ []
    = c.in_ok-shifted.ensures.grows in
    let none : length c.new-builder.result ≡ 0 = ap length c.new-builder.ensures in
    let one : length c.assignment.new.self ≡ 1 = grown c.new-builder.result c.assignment.new.self _ 0 none first in
    let two : length c.assignment-2.new.self ≡ 2 = grown c.assignment.new.self c.assignment-2.new.self _ 1 one second in
    rw (
      c.finish.ensures,
      third,
      second,
      first,
      c.into-5.ensures,
      c.into-4.ensures,
      c.into-3.ensures,
      c.number-2.ensures,
      c.into-2.ensures,
      c.into.ensures,
      c.number.ensures,
      c.in_ok-x.ensures.position,
      c.in_ok-twice.ensures.position,
      c.in_ok-shifted.ensures.position,
      c.new-builder.ensures,
      one,
      two,
      c.in_ok-name.ensures.ok,
      c.new.ensures.items,
      c.new-2.ensures.items,
      c.new-3.ensures.items,
      c.new-4.ensures.items,
    ) refl
