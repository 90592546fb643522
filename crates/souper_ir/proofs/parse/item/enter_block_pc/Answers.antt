use Rattle.std.proofs.lemmas.Result.{on_ok_weaker}
use Rattle.souper_ir.proofs.Exits.{exit}
use Rattle.souper_graph.specs.Values.{block_condition}
use Rattle.souper_errors.specs.Errors.{error_of}
use Rattle.souper_ir.proofs.Nodes.Statements.{block_pc_taken, block_pc_refused}
use Rattle.souper_ir.proofs.Nodes.NextStatements.{block_pc_seen}
use Rattle.souper_ir.proofs.Items.Steps.{entered}
use Rattle.souper_ir.proofs.Items.Stopping.{block_pc_stops}
use Rattle.souper_ir.proofs.parse.item.enter_block_pc.Goals as goal

pub returns-in_err-condition : goal.returns-in_err-condition
returns-in_err-condition c =
    let e = error_of c.in_err-condition.field-0.0 in
    let here = c.args.parser.now in
    rw (exit c.from_residual.result c.from_residual.ensures.1) (record {
      ok = tt;
      err = block_pc_refused e here here c.block_pc.new.parser (block_pc_seen here here c.requires) c.in_err-condition.ensures;
      stops = block_pc_stops e here c.block_pc.new.parser c.requires c.in_err-condition.ensures;
    })

pub returns-clause-ok : goal.returns-clause-ok
returns-clause-ok c =
    on_ok_weaker c.add.result
    (entered (block_condition c.in_ok-condition.condition) c.args.parser.now c.block_pc.new.parser c.add.new.self
    (block_pc_taken c.in_ok-condition.condition c.args.parser.now c.args.parser.now c.block_pc.new.parser (block_pc_seen c.args.parser.now c.args.parser.now c.requires) c.in_ok-condition.ensures))
    (rw c.into.ensures at c.add.ensures.ok)
