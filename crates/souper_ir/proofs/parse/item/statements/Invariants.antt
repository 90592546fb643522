use Rattle.std.proofs.Common.{List, length}
use Rattle.souper_graph.specs.Values.{PlainStatement}
use Rattle.souper_ir.specs.Items.{Stated}
use Rattle.souper_ir.proofs.parse.item.statements.Given as goal

abbrev pub invariant-loop-parser : goal.invariant-loop-parser
invariant-loop-parser l = (new : List PlainStatement) × Stated new l.fn.parser l.parser

abbrev pub decreases-loop-parser : goal.decreases-loop-parser
decreases-loop-parser l = length l.parser.tokens
