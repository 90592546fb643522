use Rattle.souper_lexer.proofs.TokenGap.{remark_found, remark_without}
use Rattle.souper_lexer.proofs.after_comment.Goals as goal

pub returns-in-Some-clause-rest : goal.returns-in-Some-clause-rest
returns-in-Some-clause-rest c =
    let first = rw c.as_bytes.ensures.value at c.in-Some.ensures in
    rw c.range_from.ensures.value (remark_found c.args.text.now c.in-Some.n first.0 first.1)

pub returns-in-None-clause-rest : goal.returns-in-None-clause-rest
returns-in-None-clause-rest c = remark_without c.args.text.now (rw c.as_bytes.ensures.value at c.in-None.ensures)
