use Rattle.std.proofs.Common.{◌≡◌, ◌++◌, map, take, drop}
use Rattle.souper_graph.specs.View.{view_attribute}
use Rattle.souper_typed.specs.Written.{written_attribute}
use Rattle.souper_typed.proofs.statements.write_attributes.Given as goal

-- the first attributes are written
abbrev pub invariant-loop-attribute : goal.invariant-loop-attribute
invariant-loop-attribute l =
    let before = map view_attribute l.initial.attributes in
    map view_attribute l.attributes ≡ map (written_attribute l.form l.width) (take l.attribute-index before) ++ drop l.attribute-index before
