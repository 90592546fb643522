use Rattle.std.proofs.Common.{◌∙◌, sym, ap, map, arith}
use Rattle.std.specs.String.{string_bytes}
use Rattle.souper_graph.specs.View.{view_statement}
use Rattle.souper_graph.specs.Renaming.{name_of_index}
use Rattle.souper_graph.proofs.Sameness.Naming.{named-none, named-next, named-past}
use Rattle.souper_graph.proofs.stringify.renamed.named_statements.Goals as goal
use Rattle.souper_graph.proofs.stringify.renamed.named_statements.Goals.{in-Some, in_default}

pub loop-index-init : goal.loop-index-init
loop-index-init c = λ once. c.in_ok-copy.ensures ∙ sym (named-none name_of_index 0 (map view_statement c.args.statements.now))

pub loop-index-preserved : goal.loop-index-preserved
loop-index-preserved c = elim c.match-get_mut.branch [
  | in-Some w ↦ λ once. ap (map view_statement) w.copy-is
      ∙ named-next name_of_index c.loop-index.copy (map view_statement c.args.statements.now) c.args.ids.now c.loop-index.index-counter c.index-ids-index.result w.in-Some.statement.now w.set_name.new.statement
      (string_bytes c.in_ok-name.name) c.index-ids-index.is once (omega (arith, c.loop-index-test.true)) (c.loop-index.invariant once) w.in-Some.ensures.value w.set_name.ensures c.in_ok-name.ensures.ok
  | in_default w ↦ λ once. ap (map view_statement) w.copy-is
      ∙ named-past name_of_index c.loop-index.copy (map view_statement c.args.statements.now) c.args.ids.now c.loop-index.index-counter c.index-ids-index.result
      c.index-ids-index.is (omega (arith, c.loop-index-test.true)) (c.loop-index.invariant once) w.in_default.ensures.value
]
