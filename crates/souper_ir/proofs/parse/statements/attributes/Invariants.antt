use Rattle.std.proofs.Common.{length, map}
use Rattle.souper_graph.specs.View.{view_attribute}
use Rattle.souper_graph.specs.Syntax.Spelling.{attribute as attribute_form}
use Rattle.souper_ir.proofs.Nodes.Lists.{SoFar}
use Rattle.souper_ir.proofs.parse.statements.attributes.Given as goal

abbrev pub invariant-loop-attributes : goal.invariant-loop-attributes
invariant-loop-attributes l = SoFar (λ s. attribute_form) (λ a t. ⊥) (map view_attribute l.attributes.items) l.fn.parser l.parser

abbrev pub decreases-loop-attributes : goal.decreases-loop-attributes
decreases-loop-attributes l = length l.parser.tokens
