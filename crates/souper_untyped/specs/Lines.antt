-- Definitions. The line of an item at a location, as the canonical text has it.
use Rattle.std.specs.Prelude.{ℕ, List, [], ◌++◌, codes}
use Rattle.souper_graph.specs.declared.ast.operands.Operand.{Operand}
use Rattle.souper_graph.specs.declared.ast.flaws.FlawLocation.{FlawLocation}
use Rattle.souper_graph.specs.declared.ast.flaws.FlawLocation.TheVariants.{Statement, Infer, Result, Cand}
use Rattle.souper_graph.specs.Values.{PlainStatement, Ending, inferred, resulting, replaced, candidate, Item}
use Rattle.souper_graph.specs.Text.{line_at, text_of_infer, text_of_result, text_of_cand}

abbrev pub infer_line_by : List PlainStatement → Ending → List ℕ
infer_line_by ss (inferred i) = text_of_infer ss i
infer_line_by ss (resulting x) = []
infer_line_by ss (replaced i x) = text_of_infer ss i
infer_line_by ss (candidate c) = []

abbrev pub infer_line : Item → List ℕ
infer_line a = infer_line_by a.statements a.ending

abbrev pub result_line : List PlainStatement → Operand → List ℕ
result_line ss x = text_of_result ss x ++ codes "\n"

abbrev pub result_line_by : List PlainStatement → Ending → List ℕ
result_line_by ss (inferred i) = []
result_line_by ss (resulting x) = result_line ss x
result_line_by ss (replaced i x) = result_line ss x
result_line_by ss (candidate c) = []

abbrev pub result_line_of : Item → List ℕ
result_line_of a = result_line_by a.statements a.ending

abbrev pub cand_line_by : List PlainStatement → Ending → List ℕ
cand_line_by ss (inferred i) = []
cand_line_by ss (resulting x) = []
cand_line_by ss (replaced i x) = []
cand_line_by ss (candidate c) = text_of_cand ss c

abbrev pub cand_line : Item → List ℕ
cand_line a = cand_line_by a.statements a.ending

-- the line at the location, if the item has one there
abbrev pub line_of : Item → FlawLocation → List ℕ
line_of a (Statement p) = line_at a.statements p
line_of a Infer = infer_line a
line_of a Result = result_line_of a
line_of a Cand = cand_line a
