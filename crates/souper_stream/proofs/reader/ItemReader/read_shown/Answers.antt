use Rattle.std.proofs.Common.{◌≡◌, ◌++◌, ℕ, inl, inr, true, false, is_some, List, [], length, take, drop, Ok, refl, sym, ap, ◌∙◌, arith, append-nil, take-append-drop}
use Rattle.std.specs.Io.{appended_bytes}
use Rattle.std.proofs.KnownBytes.{starts_with_rest}
use Rattle.std.proofs.lemmas.List.{nil_from_length, drop_all}
use Rattle.souper_stream.proofs.Prelude.{IsOneLine}
use Rattle.souper_stream.specs.Buffering.{unparsed}
use Rattle.souper_stream.proofs.Passing.{read_more, buffered_more}
use Rattle.souper_stream.proofs.reader.ItemReader.read_shown.Goals as goal

pub returns-then-len-eq0-clause-shown : goal.returns-then-len-eq0-clause-shown
returns-then-len-eq0-clause-shown g c =
    let p = c.args.self.now in
    let read = c.read_block.ensures.read in
    let shown = c.read_block.new.bytes.items in
    let block : List ℕ = appended_bytes p.open_line.items shown in
    (p.open_line.items, block, inl refl, c.read_block.ensures.short, buffered_more p.buffer p.buffer p.open_line.items shown block 0 (omega (arith, c.requires.parsed, p.buffer.bytes.ok)) (sym (append-nil _)) (starts_with_rest shown p.open_line.items read.kept))

pub returns-clause-shown : goal.returns-clause-shown
returns-clause-shown g c =
    let p = c.args.self.now in
    let read = c.read_block.ensures.read in
    let shown = c.read_block.new.bytes.items in
    let block : List ℕ = appended_bytes p.open_line.items shown in
    let n = c.closed_len-len.result in
    let bytes = rw c.in_ok-after.ensures.items at c.in_ok-append.ensures.items in
    let left = c.in_ok-append-2.ensures.items ∙ (λ i. c.in_ok-append.ensures.other_items i ++ c.in_ok-after.ensures.tail i) in
    rw left (p.open_line.items, block, inl refl, c.read_block.ensures.short, buffered_more p.buffer (record p.buffer { bytes = c.append.new.self }) p.open_line.items shown block n (omega (arith, c.requires.parsed, p.buffer.bytes.ok)) bytes (starts_with_rest shown p.open_line.items read.kept))

pub returns-then-len-eq0-clause-read : goal.returns-then-len-eq0-clause-read
returns-then-len-eq0-clause-read g c = λ k start ps had.
    let p = c.args.self.now in
    let read = c.read_block.ensures.read in
    let open_line = p.open_line.items in
    let shown = c.read_block.new.bytes.items in
    let block : List ℕ = appended_bytes open_line shown in
    let closed = rw c.deref.ensures.value at c.closed_len-len.ensures in
    let begin : c.len-start.result ≡ length open_line = omega (arith, c.len-start.ensures, p.open_line.ok) in
    let front : take c.len-start.result shown ≡ open_line = ap (λ (n : ℕ). take n shown) begin ∙ read.kept in
    let one : IsOneLine shown = rw c.if-len-eq0.true at (closed.rest (rw front had.1.lines.one_line)) in
    rw c.take.ensures.after (read_more k start (g.R.Read.remaining c.args.reader.now) (g.R.Read.remaining c.read_block.new.reader) ps p had c.requires.going (ap is_some (sym c.take.ensures.value ∙ c.in_default.is)) c.requires.none p.buffer
    [] shown (sym (append-nil _)) shown c.in-Ok.ended false block read.consumed (starts_with_rest shown open_line read.kept) (λ e. refl) (λ e. refl) (λ e. nil_from_length shown (sym (closed.all e) ∙ c.if-len-eq0.true)) (λ e. inl refl) one (λ e. read.all_read (c.in-Ok.is ∙ ap Ok e)))

pub returns-clause-read : goal.returns-clause-read
returns-clause-read g c = λ k start ps had.
    let p = c.args.self.now in
    let read = c.read_block.ensures.read in
    let open_line = p.open_line.items in
    let shown = c.read_block.new.bytes.items in
    let block : List ℕ = appended_bytes open_line shown in
    let n = c.closed_len-len.result in
    let closed = rw c.deref.ensures.value at c.closed_len-len.ensures in
    let begin : c.len-start.result ≡ length open_line = omega (arith, c.len-start.ensures, p.open_line.ok) in
    let front : take c.len-start.result shown ≡ open_line = ap (λ (m : ℕ). take m shown) begin ∙ read.kept in
    let bytes = rw c.in_ok-after.ensures.items at c.in_ok-append.ensures.items in
    let left = c.in_ok-append-2.ensures.items ∙ (λ i. c.in_ok-append.ensures.other_items i ++ c.in_ok-after.ensures.tail i) in
    rw (c.take.ensures.after, left) (read_more k start (g.R.Read.remaining c.args.reader.now) (g.R.Read.remaining c.read_block.new.reader) ps p had c.requires.going (ap is_some (sym c.take.ensures.value ∙ c.in_default.is)) c.requires.none (record p.buffer { bytes = c.append.new.self })
    (take n shown) (drop n shown) bytes (drop n shown) c.in-Ok.ended false block read.consumed (take-append-drop n shown ∙ starts_with_rest shown open_line read.kept) (λ e. refl) (λ e. refl) (λ e. drop_all n shown (omega (arith, closed.all e))) closed.lines (closed.rest (rw front had.1.lines.one_line)) (λ e. read.all_read (c.in-Ok.is ∙ ap Ok e)))

pub returns-in-Err-clause-shown : goal.returns-in-Err-clause-shown
returns-in-Err-clause-shown g c =
    let text = unparsed c.args.self.now.buffer in
    ([], [], inr refl, omega arith, ap (λ (x : List ℕ). text ++ x) c.clear.ensures.items ∙ sym (append-nil (text ++ [])))

pub returns-in-Err-clause-read : goal.returns-in-Err-clause-read
returns-in-Err-clause-read g c = λ k start ps had.
    let p = c.args.self.now in
    let read = c.read_block.ensures.read in
    let shown = c.read_block.new.bytes.items in
    rw (c.requires.going, c.clear.ensures.items) (read_more k start (g.R.Read.remaining c.args.reader.now) (g.R.Read.remaining c.read_block.new.reader) ps p had c.requires.going (ap is_some (sym c.take.ensures.value ∙ c.in_default.is)) c.requires.none p.buffer
    [] shown (sym (append-nil _)) [] false true (appended_bytes p.open_line.items shown) read.consumed (starts_with_rest shown p.open_line.items read.kept) (λ e. absurd cc) (λ e. absurd cc) (λ e. refl) (λ e. inl refl) tt (λ e. absurd cc))
