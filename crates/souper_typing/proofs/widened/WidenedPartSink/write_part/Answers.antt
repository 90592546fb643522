use Rattle.std.proofs.Common.{◌≡◌, map, option_map, refl, sym, ap, ◌∙◌, string_bytes}
use Rattle.souper_watched.specs.Watching.{watched_inner}
use Rattle.souper_typing.specs.Parts.{Rowed, typed_outcome, typed_outcomes, report_if, part_report}
use Rattle.souper_typing.proofs.Holding.{held_none, wrote_more, idle_inner}
use Rattle.souper_typing.proofs.widened.WidenedPartSink.write_part.Goals as goal

pub returns-clause-written : goal.returns-clause-written
returns-clause-written g c = λ first start os before o wrote idle taken starts text refusal.
    let p : Rowed = record { outcome = o; rows = taken.rows } in
    let name = c.args.part.name.now in
    let flaws = ap (map (option_map string_bytes)) c.as_slice.ensures.value ∙ taken.flaws in
    let made : option_map string_bytes c.in_ok-report.report ≡ part_report name p = c.in_ok-report.ensures ∙ (λ i. report_if (taken.any i) name (sym starts i) (flaws i)) in
    wrote_more g.S.Sink.holds g.S.PartSink.wrote name first before c.args.self.now _ start (g.W.Write.contents (watched_inner c.args.out.now)) (g.W.Write.contents (watched_inner c.write_part.new.out)) os o refl refl wrote taken made
    (c.in_ok-write_part.ensures.written first.inner start (typed_outcomes wrote.parts) before.inner (typed_outcome p) wrote.inner (idle_inner g.S.Sink.holds before idle) taken.inner starts text refusal)

pub returns-clause-none : goal.returns-clause-none
returns-clause-none g c = held_none g.S.Sink.holds _ _ refl refl c.in_ok-write_part.ensures.none c.clear.ensures.items refl
