-- Definitions. Reads of a stream, and their outcomes.
use Rattle.std.specs.Prelude.{◌≡◌, ◌⊎◌, ℕ, ◌+◌, ◌^◌, ◌<◌, ◌≤◌, Bool, true, List, ◌++◌, length, Option, IfSome, Result, Ok}
use Rattle.std.specs.Io.{StartsWith, appended_bytes}
use Rattle.std.specs.Io.KnownBytes.{Consumes}
use Rattle.souper_stream.specs.Prelude.{Item, ItemType, SpellsNone, ParseError, HasLocation, IsRefusalAt, TakesOver, TakesText, PrefixSpells, TextStops, at_end_of}

-- if the bytes of a reader are known, they are these
abbrev pub AreAll : Option (List ℕ) → List ℕ → Type 0
AreAll known bytes = IfSome known (λ all. all ≡ bytes)

-- bytes were read and appended to the buffer; at `Ok true` they are all that was left of the input
pub record ReadsBytes {E : Type 0} (before after : Option (List ℕ)) (old new : List ℕ) (result : Result Bool E) : Type 0 where
  pub kept : StartsWith new old
  pub consumed : Consumes before after (appended_bytes old new)
  pub all_read : result ≡ Ok true → AreAll before (appended_bytes old new)

-- all of a stream was read, it spells items, and the sink took them
pub record IsStreamTaken {S : Type 0} (k : ItemType) (before after : Option (List ℕ)) (holds : S → S → List Item → Type 0) (old new : S) : Type 0 where
  pub read : List ℕ
  pub consumed : Consumes before after read
  pub all_read : AreAll before read
  pub taken : TakesText holds k read old new

-- no text that begins with the text read of a stream spells items; or the text read is all, and spells none
abbrev pub NeverSpells : ItemType → Type 0 → List ℕ → Type 0
NeverSpells k all read = ((more : List ℕ) → SpellsNone k (read ++ more)) ⊎ (all × SpellsNone k read)

-- The text read of a stream is rejected: whatever follows, the whole spells no items. The sink took items that it begins with. The error
-- has and shows its place in the text read, and says where the text up to the end of the rejected segment is at fault, and whether the
-- segment ended there.
pub record IsStreamRefused {S : Type 0} (k : ItemType) (file : Option (List ℕ)) (before after : Option (List ℕ)) (holds : S → S → List Item → Type 0) (old new : S) (e : ParseError) : Type 0 where
  pub read : List ℕ
  pub consumed : Consumes before after read
  pub taken : List Item
  pub over : TakesOver holds taken old new
  pub begun : PrefixSpells k read taken
  pub never : NeverSpells k (AreAll before read) read
  pub placed : length read + 1 < 2 ^ 64 → (offset : ℕ) × (offset ≤ length read) × IsRefusalAt file read offset e
  pub located : length read + 1 < 2 ^ 64 → (front : List ℕ) × (after : List ℕ) × (read ≡ front ++ after) × HasLocation front e
  pub stops : (done : List ℕ) × (segment : List ℕ) × (after : List ℕ) × (read ≡ (done ++ segment) ++ after) × TextStops k segment (at_end_of e)
