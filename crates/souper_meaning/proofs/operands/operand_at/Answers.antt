use Rattle.std.proofs.Common.{Some, sym, ap, ◌∙◌}
use Rattle.std.proofs.lemmas.Option.{slice_get-get_or, slice_get_past}
use Rattle.souper_graph.specs.declared.ast.operands.Operand.{Operand}
use Rattle.souper_meaning.proofs.operands.operand_at.Goals as goal

pub returns-in-Some : goal.returns-in-Some
returns-in-Some c =
    ap (λ (o : Operand). Some o) c.in-Some.ensures.lookup.1 ∙ sym (slice_get-get_or c.args.operands.now c.args.index c.in-Some.operand.now c.in-Some.ensures.lookup.3.0)

pub returns-in-None : goal.returns-in-None
returns-in-None c = sym (slice_get_past c.args.operands.now c.args.index c.in-None.ensures.lookup.3)
