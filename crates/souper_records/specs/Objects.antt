-- Definitions. The JSON objects of items and of refusals.
use Rattle.std.specs.Prelude.{ℕ, List, [], ◌++◌, codes, Option, None, Some, option_map}
use Rattle.serde_json.specs.Data.{Data, null, number, unsigned, string, object, member, no_members}
use Rattle.souper_records.specs.Prelude.{compact_text, Start, ParseError}
use Rattle.souper_errors.specs.declared.place.Location.{Location}
use Rattle.souper_errors.specs.Errors.{location_of, message_of, offset_of}
use Rattle.souper_records.specs.Records.{key_of}
use Rattle.souper_records.specs.Reports.{Refusal}

-- the object of an item that has this text, in the stream of this name, and begins there
abbrev pub item_object : List ℕ → Start → List ℕ → Data
item_object name start text =
    object (member (codes "file") (string name) (member (codes "key") (string (key_of text)) (member (codes "line") (number (unsigned start.line)) (member (codes "offset") (number (unsigned start.offset)) (member (codes "text") (string text) no_members)))))

-- a number that may be missing
abbrev pub optional_number : Option ℕ → Data
optional_number None = null
optional_number (Some n) = number (unsigned n)

-- a text that may be missing
abbrev pub optional_string : Option (List ℕ) → Data
optional_string None = null
optional_string (Some text) = string text

-- the line and the column of the location of a refusal
abbrev pub error_line : ParseError → Option ℕ
error_line e = option_map (λ (location : Location). location.line) (location_of e)

abbrev pub error_column : ParseError → Option ℕ
error_column e = option_map (λ (location : Location). location.column) (location_of e)

-- the object of a refusal of the stream of this name
abbrev pub refusal_object : List ℕ → Refusal → Data
refusal_object name r =
    object (member (codes "column") (optional_number (error_column r.error)) (member (codes "file") (string name) (member (codes "hint") (optional_string r.hint)
    (member (codes "line") (optional_number (error_line r.error)) (member (codes "message") (optional_string (message_of r.error)) (member (codes "offset") (optional_number (offset_of r.error)) no_members))))))

-- the text of an object, with no space in it, and a newline
abbrev pub object_line : Data → List ℕ
object_line d = compact_text d ++ codes "\n"

-- the line of an item that has this text and begins there
abbrev pub text_line : List ℕ → Start × List ℕ → List ℕ
text_line name item = object_line (item_object name item.0 item.1)

-- the line of a refusal, if there is one
abbrev pub refusal_line : List ℕ → Option Refusal → List ℕ
refusal_line name None = []
refusal_line name (Some r) = object_line (refusal_object name r)
