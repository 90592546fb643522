use Rattle.std.proofs.Common.{arith, refl}
use Rattle.souper_ir.specs.Kinds.{item_type_of}
use Rattle.souper_calls.proofs.WholeLines.{no_other_lines, cuts_last}
use Rattle.souper_calls.proofs.cuts.souper_last_cut.Goals as goal

pub returns-in-Ok-clause-cut : goal.returns-in-Ok-clause-cut
returns-in-Ok-clause-cut c = λ done.
    rw c.new.ensures (cuts_last c.args.kind (item_type_of c.in-Ok.kind) c.args.bytes.now c.in-Ok.source.now c.lines_len.result c.last_cut_of.result c.in-Ok.ensures.kind c.in-Ok.ensures.source
    c.lines_len.ensures.lines c.lines_len.ensures.rest c.last_cut_of.ensures)

pub returns-in-Ok-clause-no_text : goal.returns-in-Ok-clause-no_text
returns-in-Ok-clause-no_text c = (
  λ status. (let done = rw c.new.ensures at status in absurd (omega (arith, done))),
  λ some. absurd (no_other_lines c.args.bytes.now c.lines_len.result c.lines_len.ensures.lines c.lines_len.ensures.rest (c.in-Ok.ensures.text refl) some.1),
)
