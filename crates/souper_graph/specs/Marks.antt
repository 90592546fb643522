-- Definitions. Marks that are kept as bits of words.
use Rattle.std.specs.Prelude.{ℕ, ◌/◌, ◌%◌, Bool, List, map, get_or, nat_eq}
use Rattle.std.specs.List.{range_with_len}
use Rattle.std.specs.Int.{bit_at}

-- 64 marks per word, the lowest bit first
abbrev pub mark_at : List ℕ → ℕ → Bool
mark_at words i = nat_eq (bit_at (get_or words (i / 64) 0) (i % 64)) 1

-- the first `len` marks
abbrev pub marks_of : List ℕ → ℕ → List Bool
marks_of words len = map (mark_at words) (range_with_len 0 len)
