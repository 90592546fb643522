-- Definitions. A hash of names, and the heads of the slots of a table.
use Rattle.std.specs.Prelude.{ℕ, ◌+◌, ◌*◌, ◌-◌, ◌/◌, ◌%◌, ◌^◌, List, [], ◌∷◌, length, nat_eq, nat_le, nat_lt, slice_index, if◌then◌else◌}
use Rattle.std.specs.Vec.{vec_len}
use Rattle.std.specs.Int.{w32, w64, from_le_bytes}
use Rattle.souper_names.specs.declared.heads.Heads.TheInside.{Inside}

-- the number that the 4 bytes from a position on spell, the lowest first
unfoldable pub half_at : List ℕ → ℕ → ℕ
half_at b i = from_le_bytes w32 (slice_index b i ∷ slice_index b (i + 1) ∷ slice_index b (i + 2) ∷ slice_index b (i + 3) ∷ [])

-- the number that the 8 bytes from a position on spell
unfoldable pub eight_bytes_at : List ℕ → ℕ → ℕ
eight_bytes_at b i = from_le_bytes w64 (
    slice_index b i ∷ slice_index b (i + 1) ∷ slice_index b (i + 2) ∷ slice_index b (i + 3)
    ∷ slice_index b (i + 4) ∷ slice_index b (i + 5) ∷ slice_index b (i + 6) ∷ slice_index b (i + 7) ∷ []
    )

-- 2 to the 64th over the golden ratio
abbrev pub factor : ℕ
factor = 0x9e3779b97f4a7c15

-- the number of the words before, with one more word
abbrev pub joined : ℕ → ℕ → ℕ
joined words word = (words * factor % 2 ^ 64 + word) % 2 ^ 64

-- the number of a name of up to 3 bytes
abbrev pub few_bytes : List ℕ → ℕ
few_bytes n = if nat_lt (length n) 2 then 0 else joined (slice_index n 1) (slice_index n (length n - 1))

-- the number of a name, by its first 16 bytes and its last 32
abbrev pub number_by_ends : List ℕ → ℕ
number_by_ends n =
    if nat_lt (length n) 4 then few_bytes n else
    if nat_lt (length n) 8 then joined (half_at n 0) (half_at n (length n - 4)) else
    if nat_le (length n) 16 then joined (eight_bytes_at n 0) (eight_bytes_at n (length n - 8)) else
    if nat_le (length n) 24 then joined (joined (eight_bytes_at n 0) (eight_bytes_at n (length n - 8))) (eight_bytes_at n (length n - 16)) else
    if nat_le (length n) 32 then joined (joined (joined (eight_bytes_at n 0) (eight_bytes_at n (length n - 8))) (eight_bytes_at n (length n - 16))) (eight_bytes_at n (length n - 24)) else
    joined (joined (joined (joined (joined (eight_bytes_at n 0) (eight_bytes_at n (length n - 8))) (eight_bytes_at n (length n - 16))) (eight_bytes_at n (length n - 24))) (eight_bytes_at n (length n - 32))) (eight_bytes_at n 8)

-- the hash of a name
unfoldable pub name_hash : List ℕ → ℕ
name_hash n = number_by_ends n * factor % 2 ^ 64

-- the slot of a hash in a table with this number of slots
abbrev pub slot : ℕ → ℕ → ℕ
slot h slots = h * slots / 2 ^ 64

-- the heads of a small table, or of any other
abbrev pub heads_of : Inside → List ℕ
heads_of h = if nat_eq (vec_len h.many) 0 then h.few else h.many.items
