use Rattle.std.proofs.Common.{◌∙◌, sym, ap, map, [], arith}
use Rattle.std.proofs.lemmas.List.{get_or-map}
use Rattle.std.specs.String.{string_bytes}
use Rattle.souper_graph.specs.View.{view_statement}
use Rattle.souper_graph.specs.Renaming.{name_in}
use Rattle.souper_graph.proofs.Sameness.Naming.{named-none, named-next, named-past}
use Rattle.souper_lookup.proofs.names.put_names.Goals as goal
use Rattle.souper_lookup.proofs.names.put_names.Goals.{in-Some+in_ok-put_name, in_default}

pub loop-index-init : goal.loop-index-init
loop-index-init c = λ once. sym (named-none (name_in (map string_bytes c.args.names.now)) 0 (map view_statement c.args.statements.now))

pub loop-index-preserved : goal.loop-index-preserved
loop-index-preserved c = elim c.match-get_mut.branch [
  | in-Some+in_ok-put_name w ↦ λ once. ap (map view_statement) w.statements-is
      ∙ named-next (name_in (map string_bytes c.args.names.now)) c.loop-index.statements (map view_statement c.args.statements.now) c.args.ids.now c.loop-index.index c.index-ids-index.result w.in-Some.statement.now w.put_name.new.statement
      (string_bytes w.index-names-index.result) c.index-ids-index.is once (omega (arith, c.loop-index-test.true)) (c.loop-index.invariant once) w.in-Some.ensures.value w.in_ok-put_name.ensures
      (ap string_bytes w.index-names-index.is ∙ sym (get_or-map string_bytes c.args.names.now c.loop-index.index w.index-names-index.result [] (omega (arith, c.loop-index-test.true, c.requires))))
  | in_default w ↦ λ once. ap (map view_statement) w.statements-is
      ∙ named-past (name_in (map string_bytes c.args.names.now)) c.loop-index.statements (map view_statement c.args.statements.now) c.args.ids.now c.loop-index.index c.index-ids-index.result
      c.index-ids-index.is (omega (arith, c.loop-index-test.true)) (c.loop-index.invariant once) w.in_default.ensures.value
]
