use Rattle.std.proofs.Common.{arith}
use Rattle.std.proofs.lemmas.Result.{IfOk-weaker}
use Rattle.souper_stream.proofs.Cutting.{scan_none}
use Rattle.souper_stream.proofs.cuts.find_cut.Goals as goal

pub returns-then-is_eager-clause-within : goal.returns-then-is_eager-clause-within
returns-then-is_eager-clause-within g c = IfOk-weaker c.scan_to_last_cut.result _ _ (λ found h. omega (arith, h)) c.scan_to_last_cut.ensures.within

pub returns-clause-scanned : goal.returns-clause-scanned
returns-clause-scanned g c = rw c.new.ensures (scan_none _ _)
