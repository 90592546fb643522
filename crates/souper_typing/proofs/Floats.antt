-- The objects have no number with a fraction.
use Rattle.std.proofs.Common.{◌≡◌, ◌||◌, ℕ, Bool, false, List, [], ◌∷◌, map, Option, Some, None, Ok, Err, refl, ap}
use Rattle.serde_json.specs.Data.{number, unsigned}
use Rattle.serde_json.specs.View.{items_of}
use Rattle.serde_json.specs.Written.{has_float, items_have_float}
use Rattle.souper_stream.specs.declared.starts.Start.{Start}
use Rattle.souper_records.specs.Objects.{optional_number, optional_string}
use Rattle.souper_typing.specs.Objects.{ObjectRow, row_object}

items_whole : (ns : List ℕ) → items_have_float (items_of (map (λ (n : ℕ). number (unsigned n)) ns)) ≡ false
items_whole [] = refl
items_whole (n ∷ ns) = items_whole ns

string_whole : (s : Option (List ℕ)) → has_float (optional_string s) ≡ false
string_whole None = refl
string_whole (Some text) = refl

number_whole : (n : Option ℕ) → has_float (optional_number n) ≡ false
number_whole None = refl
number_whole (Some m) = refl

pub row_whole : (name : List ℕ) (start : Start) (row : ObjectRow) → has_float (row_object name start row) ≡ false
row_whole name start (Ok p) = ap (λ (b : Bool). b || false) (items_whole p.1)
row_whole name start (Err s) = λ i. string_whole s.hint i || (number_whole s.statement i || false)
