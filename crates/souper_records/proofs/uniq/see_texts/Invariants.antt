-- The texts that are left are to be counted yet.
use Rattle.std.proofs.Common.{◌≡◌, map, string_bytes}
use Rattle.souper_records.specs.Distinct.{tally_all}
use Rattle.souper_records.specs.Uniques.{text_count}
use Rattle.souper_records.proofs.uniq.see_texts.Given as goal

abbrev pub invariant-loop-text : goal.invariant-loop-text
invariant-loop-text l = tally_all (map text_count l.seen.counts.entries) (map string_bytes l.text-iterator.rest.items) ≡ tally_all (map text_count l.fn.seen.counts.entries) (map string_bytes l.fn.texts.items)
