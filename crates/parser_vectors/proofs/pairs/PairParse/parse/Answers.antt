use Rattle.std.proofs.lemmas.Result.{err_from_is_err_and}
use Rattle.parser_vectors.proofs.PairSteps.{first_is_refused, second_is_refused, both_are_taken}
use Rattle.parser_vectors.proofs.pairs.PairParse.parse.Goals as goal

pub returns-in_err-first-clause-err : goal.returns-in_err-first-clause-err
returns-in_err-first-clause-err c =
    let p = err_from_is_err_and c.from_residual.result c.from_residual.ensures.1 in
    rw (p.1, p.2) (first_is_refused c.in_err-first.field-0.0 c.args.parser.now c.parse.new.parser c.in_err-first.ensures.err)

pub returns-in_err-second-clause-err : goal.returns-in_err-second-clause-err
returns-in_err-second-clause-err c =
    let p = err_from_is_err_and c.from_residual-in_err-second.result c.from_residual-in_err-second.ensures.1 in
    rw (p.1, p.2) (second_is_refused c.in_ok-first.first c.in_err-second.field-0.0 c.args.parser.now c.parse.new.parser c.parse-2.new.parser c.in_ok-first.ensures.ok c.in_err-second.ensures.err)

pub returns-clause-ok : goal.returns-clause-ok
returns-clause-ok c =
    both_are_taken (record { first = c.in_ok-first.first; second = c.in_ok-second.second }) c.args.parser.now c.parse.new.parser c.parse-2.new.parser c.in_ok-first.ensures.ok c.in_ok-second.ensures.ok
