use Rattle.std.proofs.Common.{refl, sym}
use Rattle.std.proofs.lemmas.Result.{on_ok_weaker}
use Rattle.souper_ir.proofs.Scope.Entered.{define_in_table}
use Rattle.souper_ir.proofs.parse.names.Names.enter.Goals as goal

pub returns : goal.returns
returns c = on_ok_weaker c.put.result
    (λ put s a are fresh name v predecessors. define_in_table c.args.self.now _ s a are fresh (rw (sym name, sym v, sym predecessors) put) refl refl) c.put.ensures
