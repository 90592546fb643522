use Rattle.std.proofs.Common.{length, map}
use Rattle.souper_ir.proofs.Nodes.Lists.{SoFar}
use Rattle.souper_ir.proofs.parse.traits.VecParse.parse.Given as goal

abbrev pub invariant-loop-values : goal.invariant-loop-values
invariant-loop-values g l = SoFar g.P.Parse.spells g.P.Parse.continues (map g.P.Parse.view l.values.items) l.fn.parser l.parser

abbrev pub decreases-loop-values : goal.decreases-loop-values
decreases-loop-values g l = length l.parser.tokens
