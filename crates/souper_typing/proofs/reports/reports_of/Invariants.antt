-- The reports of the items that are left are to be appended yet.
use Rattle.std.proofs.Common.{◌≡◌, ◌++◌, flat_map, string_bytes}
use Rattle.std.specs.List.{zip}
use Rattle.std.specs.Iterator.Adapters.{zip_first, zip_second}
use Rattle.std.specs.Slice.Iter.{iter_rest}
use Rattle.souper_typing.proofs.FlawReports.{report_by}
use Rattle.souper_typing.proofs.reports.reports_of.Given as goal

abbrev pub invariant-loop-start : goal.invariant-loop-start
invariant-loop-start l = (goal.iterator-loop-start).can_next l.start-iterator × (goal.iterator-loop-start).is_finite l.start-iterator
    × (string_bytes l.out ++ flat_map (report_by l.part.name.now) (zip (iter_rest (zip_first l.start-iterator)) (iter_rest (zip_second l.start-iterator)))
    ≡ flat_map (report_by l.part.name.now) (zip l.part.starts.now l.flaws))
