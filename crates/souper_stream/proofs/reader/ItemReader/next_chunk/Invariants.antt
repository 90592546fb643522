-- The same parts were parsed as before, and what is not needed of them was dropped.
use Rattle.std.proofs.Common.{◌≡◌, ◌⊎◌, ◌≤◌, ◌+◌, true, vec_len}
use Rattle.souper_stream.specs.Buffering.{KeepsWindow}
use Rattle.souper_stream.specs.Parts.{KeepsParts, keeps_starts, buffered, ReadsLast}
use Rattle.souper_stream.proofs.reader.ItemReader.next_chunk.Given as goal

abbrev pub invariant-loop-turn : goal.invariant-loop-turn
invariant-loop-turn g l = record {
  same : keeps_starts l.self ≡ keeps_starts l.fn.self;
  eager : l.self.is_eager ≡ l.fn.self.is_eager;
  parsed : l.self.buffer.start + l.self.buffer.parsed ≤ vec_len l.self.buffer.bytes;
  none : l.self.pending ≡ 0;
  last : l.self.buffer.last ≡ 0;
  kept : KeepsWindow l.fn.self.buffer l.self.buffer;
  due : l.fn.self.is_eager ≡ true → (g.R.Read.remaining l.reader ≡ g.R.Read.remaining l.fn.reader) ⊎ ReadsLast g.T.Item.item_type (buffered l.self);
  parts : KeepsParts g.T.Item.item_type (g.R.Read.remaining l.fn.reader) (g.R.Read.remaining l.reader) l.fn.self l.self;
}
