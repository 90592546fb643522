-- The count so far and the newlines of the remaining bytes add up to the newlines of all bytes.
use Rattle.std.proofs.Common.{◌≡◌, ◌+◌}
use Rattle.souper_stream.proofs.Prelude.{newlines}
use Rattle.std.specs.Slice.Iter.{chunks_rest, chunks_size}
use Rattle.souper_stream.proofs.buffer.newline_count.Given as goal

abbrev pub invariant-loop-chunk : goal.invariant-loop-chunk
invariant-loop-chunk l =
    goal.iterator-loop-chunk.can_next l.chunk-iterator
    × goal.iterator-loop-chunk.is_finite l.chunk-iterator
    × (chunks_size l.chunk-iterator ≡ 224)
    × (l.count + newlines (chunks_rest l.chunk-iterator) ≡ newlines l.bytes)
