-- The count is the number of newlines of the bytes so far.
use Rattle.std.proofs.Common.{◌≡◌, ◌≤◌, take}
use Rattle.souper_stream.proofs.Prelude.{newlines}
use Rattle.souper_stream.proofs.buffer.newlines_of_chunk.Given as goal

abbrev pub invariant-loop-byte : goal.invariant-loop-byte
invariant-loop-byte l = (l.count ≡ newlines (take l.byte-index l.bytes)) × (l.count ≤ l.byte-index)
