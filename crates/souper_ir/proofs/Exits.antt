-- What a function returns at the exit of a `?`.
use Rattle.std.specs.Prelude.{◌≡◌, Result, Ok, Err}
use Rattle.std.proofs.Common.{ap}
use Rattle.std.specs.Result.{IsErrAnd}

pub exit : {T E : Type 0} {e : E} (r : Result T E) → IsErrAnd r (λ x. x ≡ e) → r ≡ Err e
exit (Ok v) h = absurd h
exit (Err x) h = ap Err h
