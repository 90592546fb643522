-- Definitions. Types of widths, and the signed number that has the bits of a number.
use Rattle.std.specs.Prelude.{ℕ, ◌+◌, ◌-◌, ◌^◌, Bool, ◌&&◌, ℤ, pos, negsuc, Option, Some, None, if◌then◌else◌, nat_le, nat_lt}
use Rattle.souper_graph.specs.declared.ast.operands.«Type».{«Type» as Ty}
use Rattle.souper_typed.specs.declared.form.Form.{Form}
use Rattle.souper_typed.specs.declared.form.Form.TheVariants.{Widths, Complete}

-- a type may have 1 to 65535 bits
abbrev pub is_width : ℕ → Bool
is_width n = nat_lt 0 n && nat_lt n 65536

-- the type of n bits, if there is one
abbrev pub type_of : ℕ → Option Ty
type_of n = if is_width n then Some (record { width = n }) else None

-- k fits n bits, and the top bit is 1
abbrev pub has_top_bit : ℕ → ℕ → Bool
has_top_bit n k = nat_le (2 ^ (n - 1)) k && nat_lt k (2 ^ n)

-- The number with the same n bits, read as a signed number of n bits. A number that does not fit stays.
abbrev pub signed_number : ℕ → ℤ → ℤ
signed_number n (pos k) = if has_top_bit n k then negsuc (2 ^ n - 1 - k) else pos k
signed_number n (negsuc k) = negsuc k

-- a number of n bits in this form
abbrev pub written_number : Form → ℕ → ℤ → ℤ
written_number Widths n z = z
written_number Complete n z = signed_number n z

-- the type of an index in this form: it stays, or is `i32`
abbrev pub index_type : Form → Option Ty → Option Ty
index_type Widths t = t
index_type Complete t = Some (record { width = 32 })
