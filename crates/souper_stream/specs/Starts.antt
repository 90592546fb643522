-- Definitions. Where the items of a part of a stream begin.
use Rattle.std.specs.Prelude.{◌≡◌, ℕ, ◌+◌, ◌^◌, ◌<◌, ◌≤◌, List, [], ◌∷◌, ◌++◌, length, take}
use Rattle.souper_stream.specs.Prelude.{Item, newlines}
use Rattle.souper_stream.specs.declared.starts.Start.{Start}

-- the offsets ascend, and are within the bounds
abbrev pub Ascend : ℕ → List ℕ → ℕ → Type 0
Ascend from [] to = from ≤ to
Ascend from (offset ∷ offsets) to = (from ≤ offset) × Ascend offset offsets to

-- the start of the byte at this offset of a part, after the parsed text `done`
abbrev pub IsStart : List ℕ → List ℕ → ℕ → Start → Type 0
IsStart done part offset start = (start.offset ≡ length done + offset) × (start.line ≡ newlines (done ++ take offset part) + 1)

-- the starts of the bytes at these offsets
abbrev pub AreStarts : List ℕ → List ℕ → List ℕ → List Start → Type 0
AreStarts done part [] starts = starts ≡ []
AreStarts done part (offset ∷ offsets) [] = ⊥
AreStarts done part (offset ∷ offsets) (start ∷ starts) = IsStart done part offset start × AreStarts done part offsets starts

-- the starts of the items of a part: of the offsets at which it spells them. Numbers have 64 bits.
abbrev pub ItemsStartAt : (List Item → List ℕ → Type 0) → List ℕ → List ℕ → List Item → List Start → Type 0
ItemsStartAt spells done part items starts = (offsets : List ℕ) × spells items offsets × (length (done ++ part) + 1 < 2 ^ 64 → AreStarts done part offsets starts)
