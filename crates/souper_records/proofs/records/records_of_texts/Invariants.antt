-- the records so far are there
use Rattle.std.proofs.Common.{◌≡◌, map, flat_map, take, string_bytes}
use Rattle.souper_records.specs.Records.{record_of_text}
use Rattle.souper_records.proofs.records.records_of_texts.Given as goal

abbrev pub invariant-loop-text : goal.invariant-loop-text
invariant-loop-text l = string_bytes l.out ≡ flat_map (record_of_text l.layout) (map string_bytes (take l.text-index l.texts))
