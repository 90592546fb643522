use Rattle.std.proofs.Common.{map, arith, rules}
use Rattle.std.proofs.lemmas.List.{length-map}
use Rattle.std.specs.String.{string_bytes}
use Rattle.souper_graph.specs.View.{view_statement}
use Rattle.souper_graph.proofs.TakenNames.{more-names, looked-at}
use Rattle.souper_graph.proofs.ast.taken_names.TakenNames.look_at.Goals as goal

pub loop-index-preserved : goal.loop-index-preserved
loop-index-preserved c =
    let ss = c.args.statements.now in
    let long = length-map ss view_statement in
    let test = c.loop-index-test.true in
    let len = c.len-index-end.ensures in
    record {
      kept = λ k. looked-at (map view_statement ss) c.loop-index.self c.enter.new.names c.loop-index.index c.name_at.result.now (string_bytes c.write_number.new.text) (c.loop-index.invariant.kept k) c.loop-index.invariant.at
          (omega arith) (omega arith) c.name_at.ensures c.in_ok-write_number.ensures c.in_ok-enter.ensures.kept c.in_ok-enter.ensures.only c.in_ok-enter.ensures.entered;
      at = search rules;
    }

pub returns-in_err-enter-clause-kept : goal.returns-in_err-enter-clause-kept
returns-in_err-enter-clause-kept c = λ k.
    let ss = c.args.statements.now in
    let long = length-map ss view_statement in
    let test = c.loop-index-test.true in
    let len = c.len-index-end.ensures in
    more-names (map view_statement ss) c.loop-index.self c.enter.new.names c.loop-index.index c.name_at.result.now (c.loop-index.invariant.kept k) (omega arith) c.name_at.ensures c.enter.ensures.kept c.enter.ensures.only
