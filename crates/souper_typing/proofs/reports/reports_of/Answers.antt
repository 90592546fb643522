use Rattle.std.proofs.Common.{◌++◌, ℕ, List, flat_map, sym, ap, ◌∙◌, append_assoc, append-nil, string_bytes}
use Rattle.std.specs.List.{zip}
use Rattle.std.specs.Iterator.Adapters.{zip_first, zip_second}
use Rattle.std.specs.Slice.Iter.{iter_rest}
use Rattle.std.proofs.lemmas.Slice.Zip.{Zip-more, either_empty_from_Zip}
use Rattle.souper_typing.proofs.FlawReports.{report_by, reports_viewed, no_pairs}
use Rattle.souper_typing.proofs.reports.reports_of.Goals as goal

pub loop-start-preserved : goal.loop-start-preserved
loop-start-preserved c =
    let left = Zip-more c.loop-start.start-iterator c.next.new.self c.next.result (c.in-Some.start, c.in-Some.flaw) c.in-Some.is c.next.ensures.steps in
    let lines = report_by c.args.part.name.now in
    let line = lines (c.in-Some.start.now, c.in-Some.flaw.now) in
    let later = flat_map lines (zip (iter_rest (zip_first c.next.new.self)) (iter_rest (zip_second c.next.new.self))) in (
      (tt, tt),
      tt,
      ap (λ (x : List ℕ). x ++ later) c.in_ok-append_report.ensures ∙ append_assoc (string_bytes c.loop-start.out) line later
          ∙ (λ i. string_bytes c.loop-start.out ++ flat_map lines (zip (sym left.0 i) (sym left.1 i))) ∙ c.loop-start.invariant.2,
    )

pub returns : goal.returns
returns c =
    let left = either_empty_from_Zip c.loop-start.start-iterator c.next.new.self c.next.result c.in-None.is c.next.ensures.steps in
    let out = string_bytes c.loop-start.out in
    let none = no_pairs (iter_rest (zip_first c.loop-start.start-iterator)) (iter_rest (zip_second c.loop-start.start-iterator)) left in
    sym (append-nil out) ∙ ap (λ ps. out ++ flat_map (report_by c.args.part.name.now) ps) (sym none) ∙ c.loop-start.invariant.2 ∙ reports_viewed c.args.part.name.now c.args.part.starts.now c.args.flaws.now
