use Rattle.std.proofs.Common.{length, map}
use Rattle.souper_graph.specs.View.{view_root_attribute}
use Rattle.souper_graph.specs.Syntax.Spelling.{root_attribute as root_attribute_form}
use Rattle.souper_ir.proofs.Nodes.Lists.{SoFar}
use Rattle.souper_ir.proofs.parse.last_lines.root_attributes.Given as goal

abbrev pub invariant-loop-attributes : goal.invariant-loop-attributes
invariant-loop-attributes l = SoFar (λ s. root_attribute_form) (λ a t. ⊥) (map view_root_attribute l.attributes.items) l.fn.parser l.parser

abbrev pub decreases-loop-attributes : goal.decreases-loop-attributes
decreases-loop-attributes l = length l.parser.tokens
