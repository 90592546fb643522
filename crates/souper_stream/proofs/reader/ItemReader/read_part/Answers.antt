use Rattle.std.proofs.Common.{rules, ◌<◌, [], refl, ◌∙◌, arith}
use Rattle.std.proofs.lemmas.Result.{err_from_is_err_and}
use Rattle.souper_stream.specs.declared.reader.ItemReader.{ItemReader}
use Rattle.souper_stream.proofs.Passing.{pending_fits, part_taken, passed_buffered, due_passed}
use Rattle.souper_stream.proofs.reader.ItemReader.read_part.Goals as goal

pub read_segment-requires-clause-within : goal.read_segment-requires-clause-within
read_segment-requires-clause-within g c =
    let r = c.args.self.now in
    omega (arith, pending_fits g.T.Item.item_type c.requires.0 (g.R.Read.remaining c.args.reader.now) c.requires.1 r c.requires.2 c.if-self-gt0.true, r.buffer.bytes.ok)

pub returns-then-len-eq0-clause-ended : goal.returns-then-len-eq0-clause-ended
returns-then-len-eq0-clause-ended g c = λ e start ps had. ((c.in-Ok.ensures.next start ps had).1 c.if-len-eq0.true, refl)

pub returns-in_ok-pass-in-Ok-read_text-clause-read : goal.returns-in_ok-pass-in-Ok-read_text-clause-read
returns-in_ok-pass-in-Ok-read_text-clause-read g c = λ e start ps had.
    let r : ItemReader = record c.next_chunk.new.self { memory = c.read_text.new.self.memory } in
    let now = (c.in-Ok.ensures.next start ps had).0 in
    let some : 0 < r.pending = omega (arith, c.if-len-eq0.false) in
    part_taken g.T.Item.item_type start (g.R.Read.remaining c.next_chunk.new.reader) ps r c.pass.new.self r.pending now (now.1.chunk some) (λ s. absurd (omega arith)) some (omega arith)
    (rw c.read_text.ensures.same at c.in_ok-pass-in-Ok-read_text.ensures.advanced) g.S.Sink.holds c.args.sink.now c.args.sink.now c.read_text.new.sink c.next_chunk.new.self.memory (λ s y. y) c.in-Ok-read_text.ensures.taken

pub returns-in_ok-read_segment-in-Err-2-read_text-clause-read : goal.returns-in_ok-read_segment-in-Err-2-read_text-clause-read
returns-in_ok-read_segment-in-Err-2-read_text-clause-read g c =
    let (items, over) = c.in-Err-2-read_text.ensures.over (search rules) in
    λ e start ps had. c.in_ok-read_segment-in-Err-2-read_text.ensures.taken start (g.R.Read.remaining c.next_chunk.new.reader) ps c.args.sink.now (rw c.read_text.ensures.same (c.in-Ok.ensures.next start ps had).0) (λ s y. c.rollback.ensures s items (over s [] y))

pub returns-in_err-read_segment-in-Err-2-read_text-clause-refused : goal.returns-in_err-read_segment-in-Err-2-read_text-clause-refused
returns-in_err-read_segment-in-Err-2-read_text-clause-refused g c =
    let (items, over) = c.in-Err-2-read_text.ensures.over (search rules) in
    let p = err_from_is_err_and c.from_residual-in_err-read_segment-in-Err-2-read_text.result c.from_residual-in_err-read_segment-in-Err-2-read_text.ensures.1 in
    rw (p.1, p.2) (λ kind start ps had. c.in_err-read_segment-in-Err-2-read_text.ensures.refused kind start (g.R.Read.remaining c.next_chunk.new.reader) ps c.args.sink.now (rw c.read_text.ensures.same (c.in-Ok.ensures.next start ps had).0) (λ s y. c.rollback.ensures s items (over s [] y)))

pub returns-in_ok-pass-in-Ok-read_text-clause-due : goal.returns-in_ok-pass-in-Ok-read_text-clause-due
returns-in_ok-pass-in-Ok-read_text-clause-due g c = λ eager.
    let r : ItemReader = record c.next_chunk.new.self { memory = c.read_text.new.self.memory } in
    due_passed g.T.Item.item_type _ _ (passed_buffered r c.pass.new.self r.pending (rw c.read_text.ensures.same at c.in_ok-pass-in-Ok-read_text.ensures.advanced)) (c.in-Ok.ensures.due eager)

pub returns-in_ok-read_segment-in-Err-2-read_text-clause-due : goal.returns-in_ok-read_segment-in-Err-2-read_text-clause-due
returns-in_ok-read_segment-in-Err-2-read_text-clause-due g c = λ eager.
    due_passed g.T.Item.item_type _ _ (rw c.read_text.ensures.same at c.in_ok-read_segment-in-Err-2-read_text.ensures.left) (c.in-Ok.ensures.due eager)

pub returns-in_err-read_segment-in-Err-2-read_text-clause-refused_due : goal.returns-in_err-read_segment-in-Err-2-read_text-clause-refused_due
returns-in_err-read_segment-in-Err-2-read_text-clause-refused_due g c = λ eager.
    let p = err_from_is_err_and c.from_residual-in_err-read_segment-in-Err-2-read_text.result c.from_residual-in_err-read_segment-in-Err-2-read_text.ensures.1 in
    rw (p.1, p.2) (λ kind. due_passed g.T.Item.item_type _ _ (rw c.read_text.ensures.same at (c.in_err-read_segment-in-Err-2-read_text.ensures.refused_left kind)) (c.in-Ok.ensures.due eager))

pub returns-in_err-read_segment-in-Err-2-read_text-clause-refused_kept : goal.returns-in_err-read_segment-in-Err-2-read_text-clause-refused_kept
returns-in_err-read_segment-in-Err-2-read_text-clause-refused_kept g c =
    let p = err_from_is_err_and c.from_residual-in_err-read_segment-in-Err-2-read_text.result c.from_residual-in_err-read_segment-in-Err-2-read_text.ensures.1 in
    let w = c.in-Ok.ensures.kept in
    rw (p.1, p.2) (λ kind. record {
      chunk = λ none. record { more = w.more; bytes_are = (rw c.read_text.ensures.same at (c.in_err-read_segment-in-Err-2-read_text.ensures.refused_bytes kind)) ∙ w.bytes_are };
      segment = λ some. absurd (omega (arith, some, c.if-self-gt0.false));
    })
