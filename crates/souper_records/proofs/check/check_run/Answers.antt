use Rattle.std.proofs.Common.{inl, inr, refl}
use Rattle.souper_records.proofs.Prelude.{stream, texts_of}
use Rattle.souper_records.specs.Reports.{IsMemoryLine, IsReadFaultLine}
use Rattle.souper_records.proofs.Outcomes.{parts_mapped, none_reported}
use Rattle.souper_records.proofs.Checking.{checked_parts, check_other, reported_after}
use Rattle.souper_records.proofs.check.check_run.Goals as goal

pub returns-in-Ok-true : goal.returns-in-Ok-true
returns-in-Ok-true g c =
    let p = rw (c.new-source.ensures.options, c.in-Ok-true.field-0-test) at c.in-Ok-true.ensures.returned in
    inr (parts_mapped (λ os w. tt) (λ es r. r) p)

pub returns-in-None : goal.returns-in-None
returns-in-None g c =
    let (h, quiet) = checked_parts _ _ _ _ _ c.write_parts.new.sink.comparison _ (rw (c.new-source.ensures.options, c.new.ensures.layout, c.in-Ok-false.field-0-test) at c.in-Ok-false.ensures.returned) in
    (h.read, h.whole, (h.items, h.spelled, c.in-None.ensures.same h.read (texts_of h.items) h.compared), quiet)

pub returns-in-Ok-false : goal.returns-in-Ok-false
returns-in-Ok-false g c =
    let (h, quiet) = checked_parts _ _ _ _ _ c.write_parts.new.sink.comparison _ (rw (c.new-source.ensures.options, c.new.ensures.layout, c.in-Ok-false.field-0-test) at c.in-Ok-false.ensures.returned) in
    check_other g.E.Write.contents c.args.err.now c.write_parts.new.err c.report_other_line.new.err quiet g.T.Item.item_type c.args.name.now c.args.hints (g.R.Read.remaining c.args.reader.now) (g.R.Read.remaining c.write_parts.new.reader) _ c.in-Some.line c.report_other_line.result h
    (c.in-Some.ensures.differs h.read (texts_of h.items) h.compared) c.report_other_line.ensures

pub returns-in-Err-Input : goal.returns-in-Err-Input
returns-in-Err-Input g c =
    let e = rw (c.new-source.ensures.options, c.in-Err-Input.field-0-is) at c.in-Err-Input.ensures.returned in
    let quiet = none_reported _ (stream g.E.Write.contents c.args.err.now c.write_parts.new.err) e.0 e.1.1.are (e.2 refl) e.3 in
    inl (c.in-Err-Input.fault, reported_after g.E.Write.contents c.args.err.now c.write_parts.new.err c.report_read_fault.new.err quiet (IsReadFaultLine c.in-Err-Input.fault c.args.name.now) c.report_read_fault.ensures.reported)

pub returns : goal.returns
returns g c =
    let e = rw (c.new-source.ensures.options) at c.in-Err.ensures.returned in
    let quiet = none_reported _ (stream g.E.Write.contents c.args.err.now c.write_parts.new.err) e.0 e.1.1.are (e.2 refl) e.3 in
    inr (reported_after g.E.Write.contents c.args.err.now c.write_parts.new.err c.report_memory.new.err quiet IsMemoryLine c.report_memory.ensures.reported)
