use Rattle.std.proofs.Common.{◌∙◌, sym, ap, map, refl, arith}
use Rattle.souper_graph.specs.View.{view_statement}
use Rattle.souper_graph.specs.Renaming.{name_of_index}
use Rattle.souper_graph.proofs.Sameness.Naming.{named-none, named-next, named-past}
use Rattle.souper_graph.proofs.stringify.renamed.write_names.Goals as goal
use Rattle.souper_graph.proofs.stringify.renamed.write_names.Goals.{in-Some+in_ok-write_name, in_default}

pub loop-index-init : goal.loop-index-init
loop-index-init c = λ once. sym (named-none name_of_index 0 (map view_statement c.args.statements.now))

pub loop-index-preserved : goal.loop-index-preserved
loop-index-preserved c = elim c.match-get_mut.branch [
  | in-Some+in_ok-write_name w ↦ λ once. ap (map view_statement) w.statements-is
      ∙ named-next name_of_index c.loop-index.statements (map view_statement c.args.statements.now) c.args.ids.now c.loop-index.index c.index-ids-index.result w.in-Some.statement.now w.write_name.new.statement
      (name_of_index c.loop-index.index) c.index-ids-index.is once (omega (arith, c.loop-index-test.true)) (c.loop-index.invariant once) w.in-Some.ensures.value w.in_ok-write_name.ensures refl
  | in_default w ↦ λ once. ap (map view_statement) w.statements-is
      ∙ named-past name_of_index c.loop-index.statements (map view_statement c.args.statements.now) c.args.ids.now c.loop-index.index c.index-ids-index.result
      c.index-ids-index.is (omega (arith, c.loop-index-test.true)) (c.loop-index.invariant once) w.in_default.ensures.value
]
