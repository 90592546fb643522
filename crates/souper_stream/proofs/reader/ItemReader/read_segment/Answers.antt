use Rattle.std.proofs.Common.{◌≡◌, ◌<◌, ◌≤◌, ◌+◌, rules, length, take, ap, ◌∙◌, subst, arith, option_copied, length-drop, length-take}
use Rattle.souper_stream.proofs.Prelude.{Parse, kind_of, HasLocationAfter, IsLocatedAfter}
use Rattle.souper_stream.specs.declared.reader.ItemReader.{ItemReader}
use Rattle.souper_stream.specs.Buffering.{window}
use Rattle.souper_stream.proofs.Passing.{first, first_chunk, first_left, part_taken, part_refused, passed_buffered}
use Rattle.souper_stream.proofs.reader.ItemReader.read_segment.Goals as goal
use Rattle.souper_stream.proofs.reader.ItemReader.read_segment.Goals.{in-Ok-utf8, in-Err-utf8}

pub returns-in_ok-pass-in-Ok-read_text-clause-taken : goal.returns-in_ok-pass-in-Ok-read_text-clause-taken
returns-in_ok-pass-in-Ok-read_text-clause-taken g c = λ start now ps before had none.
    let len = c.in-Ok.len in
    let r : ItemReader = record c.args.self.now { memory = c.read_text.new.self.memory } in
    let segment = rw c.unparsed.ensures at c.in-Ok.ensures.segment in
    let below : len ≤ r.pending = omega (arith, c.in-Ok.ensures.within, length-take r.pending c.unparsed.result.now) in
    let some : 0 < len = c.in-Ok.ensures.some (omega (arith, c.requires.some, c.requires.within, r.buffer.bytes.ok, length-take r.pending c.unparsed.result.now, ap length c.unparsed.ensures, length-drop r.buffer.start r.buffer.bytes.items, length-drop r.buffer.parsed (window r.buffer))) in
    part_taken _ _ _ _ r c.pass.new.self len had (first_chunk _ _ _ _ r len c.requires.some segment had) (first_left _ _ _ _ r len c.requires.some segment had) some below
    (rw c.read_text.ensures.same at c.in_ok-pass-in-Ok-read_text.ensures.advanced) g.S.Sink.holds before c.args.sink.now c.read_text.new.sink c.args.self.now.memory none c.in-Ok-read_text.ensures.taken

pub returns-in_ok-pass-in-Err-read_text-clause-refused : goal.returns-in_ok-pass-in-Err-read_text-clause-refused
returns-in_ok-pass-in-Err-read_text-clause-refused g c =
    let len = c.in-Ok.len in
    let file = option_copied c.args.filename in
    let e = c.in-Err-read_text.error in
    let r : ItemReader = record c.args.self.now { memory = c.read_text.new.self.memory } in
    let same = c.read_text.ensures.same in
    let kind : kind_of e ≡ Parse = search rules in
    let segment = rw c.unparsed.ensures at c.in-Ok.ensures.segment in
    let below : len ≤ r.pending = omega (arith, c.in-Ok.ensures.within, length-take r.pending c.unparsed.result.now) in
    let some : 0 < len = c.in-Ok.ensures.some (omega (arith, c.requires.some, c.requires.within, r.buffer.bytes.ok, length-take r.pending c.unparsed.result.now, ap length c.unparsed.ensures, length-drop r.buffer.start r.buffer.bytes.items, length-drop r.buffer.parsed (window r.buffer))) in
    elim c.match-utf8.branch [
      | in-Ok-utf8 w ↦ rw w.error2-is (λ shown_kind start now ps before had none. (
          let shown = w.locate_after-error.result in
          let source = w.in-Ok-utf8.ensures.same ∙ c.window.ensures in
          part_refused _ _ _ _ r c.pass-in-Err-read_text.new.self len had (first_chunk _ _ _ _ r len c.requires.some segment had) (first_left _ _ _ _ r len c.requires.some segment had) some below
          (rw same at c.in_ok-pass-in-Err-read_text.ensures.advanced) g.S.Sink.holds before c.args.sink.now c.read_text.new.sink c.args.self.now.memory file e shown none
          (c.in-Err-read_text.ensures.begun kind) (first _ _ _ _ r len c.requires.some segment had).uncut kind shown_kind (c.in-Err-read_text.ensures.refused kind)
          (subst (λ (x : ItemReader). IsLocatedAfter file x.buffer.before (take (x.buffer.parsed + len) (window x.buffer)) x.buffer.parsed e shown) same (rw source at w.locate_after-error.ensures.located))
          (subst (λ (x : ItemReader). HasLocationAfter x.buffer.before (take (x.buffer.parsed + len) (window x.buffer)) shown) same (rw source at (w.locate_after-error.ensures.location shown_kind)))
          (c.in-Err-read_text.ensures.stops kind) (w.locate_after-error.ensures.at_end shown_kind)))
      | in-Err-utf8 w ↦ rw w.error2-is (λ shown_kind start now ps before had none. (let io = w.from-error.ensures in absurd (search rules)))
    ]

pub returns-in_ok-pass-in-Ok-read_text-clause-left : goal.returns-in_ok-pass-in-Ok-read_text-clause-left
returns-in_ok-pass-in-Ok-read_text-clause-left g c = passed_buffered (record c.args.self.now { memory = c.read_text.new.self.memory }) c.pass.new.self c.in-Ok.len (rw c.read_text.ensures.same at c.in_ok-pass-in-Ok-read_text.ensures.advanced)

pub returns-in_ok-pass-in-Err-read_text-clause-refused_left : goal.returns-in_ok-pass-in-Err-read_text-clause-refused_left
returns-in_ok-pass-in-Err-read_text-clause-refused_left g c = λ kind. passed_buffered (record c.args.self.now { memory = c.read_text.new.self.memory }) c.pass-in-Err-read_text.new.self c.in-Ok.len (rw c.read_text.ensures.same at c.in_ok-pass-in-Err-read_text.ensures.advanced)
