-- Definitions. The buffer of a stream, and its relation to the parsed text (`done`).
use Rattle.std.specs.Prelude.{◌≡◌, ◌⊎◌, ℕ, ◌+◌, ◌-◌, ◌^◌, ◌<◌, ◌≤◌, List, [], ◌++◌, length, take, drop}
use Rattle.souper_stream.specs.Prelude.{IsOneLine, Before, IsSizeOf, newlines, IsLines}
use Rattle.souper_stream.specs.declared.buffer.Buffer.{Buffer}
use Rattle.souper_stream.specs.declared.faults.NotUtf8.{NotUtf8}

-- the last parsed line, if there is one, and the bytes after it
abbrev pub window : Buffer → List ℕ
window b = drop b.start b.bytes.items

-- the bytes that are not parsed
abbrev pub unparsed : Buffer → List ℕ
unparsed b = drop b.parsed (window b)

-- the bytes that were parsed last
abbrev pub last_part : Buffer → List ℕ
last_part b = take b.last (drop (b.start + b.parsed - b.last) b.bytes.items)

-- the numbers of bytes and of lines of a text
abbrev pub Counts : Before → List ℕ → Type 0
Counts before text = (before.bytes ≡ length text) × (before.lines ≡ newlines text)

-- bytes that are not UTF-8 come after this text of a stream
abbrev pub IsFaultAfter : List ℕ → NotUtf8 → Type 0
IsFaultAfter text fault = (fault.line ≡ newlines text + 1) × (fault.offset ≡ length text)

-- The parsed text of a buffer, whole lines that were counted and then at most one line, which is in the buffer; and the bytes after it.
pub record Buffers (done rest : List ℕ) (b : Buffer) : Type 0 where
  pub gone : List ℕ
  pub lines : IsLines gone
  pub counted : length gone + 1 < 2 ^ 64 → IsSizeOf b.before gone
  pub done_is : done ≡ gone ++ take b.parsed (window b)
  pub rest_is : unparsed b ≡ rest
  pub placed : (0 < b.parsed) ⊎ (gone ≡ [])
  pub one_line : IsOneLine (take (b.parsed - 1) (window b))
  pub within : b.start + b.parsed ≤ length b.bytes.items
  pub last : b.last ≤ b.start + b.parsed

-- `len` bytes more are parsed
pub record Passes (old : Buffer) (len : ℕ) (new : Buffer) : Type 0 where
  pub bytes_are : new.bytes.items ≡ old.bytes.items
  pub part : last_part new ≡ take len (unparsed old)
  pub left : unparsed new ≡ drop len (unparsed old)
  pub buffers : (done rest : List ℕ) → Buffers done rest old → Buffers (done ++ take len rest) (drop len rest) new

-- the parsed lines but the last were dropped, and bytes were read
pub record KeepsWindow (old new : Buffer) : Type 0 where
  pub more : List ℕ
  pub bytes_are : new.bytes.items ≡ window old ++ more
