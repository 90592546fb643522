-- Definitions. An item whose parts the code passes on by reference, and the operands of its last lines.
use Rattle.std.specs.Prelude.{List, [], ◌∷◌, map}
use Rattle.souper_graph.specs.declared.ast.parts.Ending.{Ending as ByReference}
use Rattle.souper_graph.specs.declared.ast.parts.Ending.TheVariants.{Infer, Result, Replaced, Cand}
use Rattle.souper_graph.specs.declared.ast.parts.Parts.{Parts}
use Rattle.souper_graph.specs.declared.ast.operands.Operand.{Operand}
use Rattle.souper_graph.specs.declared.ast.operands.Operand.TheVariants.{Value}
use Rattle.souper_graph.specs.Values.{Ending, inferred, resulting, replaced, candidate, Item}
use Rattle.souper_graph.specs.View.{view_statement, view_infer, view_cand}

abbrev pub view_ending : ByReference → Ending
view_ending (Infer i) = inferred (view_infer i.now)
view_ending (Result r) = resulting r.now
view_ending (Replaced i r) = replaced (view_infer i.now) r.now
view_ending (Cand c) = candidate (view_cand c.now)

abbrev pub view_parts : Parts → Item
view_parts p = record { statements = map view_statement p.statements.now; ending = view_ending p.ending }

-- the operands of the last lines, in the order of the text
abbrev pub root_operands : Ending → List Operand
root_operands (inferred i) = Value i.value ∷ []
root_operands (resulting r) = r ∷ []
root_operands (replaced i r) = Value i.value ∷ r ∷ []
root_operands (candidate c) = c.lhs ∷ c.rhs ∷ []
