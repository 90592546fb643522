use Rattle.std.proofs.Common.{arith}
use Rattle.std.proofs.lemmas.List.{take_rest}
use Rattle.souper_stream.proofs.Buffers.{closed_after, open_after, none_open}
use Rattle.souper_stream.proofs.reader.closed_len.Goals as goal

pub returns-then-lines-eq0-clause-rest : goal.returns-then-lines-eq0-clause-rest
returns-then-lines-eq0-clause-rest c = λ h.
    let found = rw (take_rest c.args.bytes.now c.args.start) at c.lines_len-lines.ensures in
    none_open c.args.bytes.now c.args.start h (rw c.if-lines-eq0.true at found.rest)

pub returns-clause-lines : goal.returns-clause-lines
returns-clause-lines c = λ going.
    let found = rw (take_rest c.args.bytes.now c.args.start) at c.lines_len-lines.ensures in
    closed_after c.args.bytes.now c.args.start c.lines_len-lines.result (omega (arith, c.if-lines-eq0.false)) found.bound c.requires found.lines

pub returns-clause-rest : goal.returns-clause-rest
returns-clause-rest c = λ h.
    let found = rw (take_rest c.args.bytes.now c.args.start) at c.lines_len-lines.ensures in
    open_after c.args.bytes.now c.args.start c.lines_len-lines.result found.rest
