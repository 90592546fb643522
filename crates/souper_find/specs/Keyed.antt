-- Definitions. Replacements with the keys of their left-hand sides.
use Rattle.std.specs.Prelude.{ℕ, Bool, List, [], ◌++◌, codes, Option, None, Some, option_map, string_bytes}
use Rattle.serde_json.specs.Data.{Data, number, unsigned, string, object, member, no_members}
use Rattle.souper_graph.specs.Values.{PlainInfer, Item}
use Rattle.souper_stream.specs.declared.starts.Start.{Start}
use Rattle.souper_graph.specs.LeftSides.{infer_of, with_infer}
use Rattle.souper_lookup.specs.Stored.{key_of_left}
use Rattle.souper_records.specs.declared.layout.Layout.{Layout}
use Rattle.souper_records.specs.Records.{key_of, record_of_text}
use Rattle.souper_records.specs.Uniques.{text_by}
use Rattle.souper_records.specs.Objects.{optional_string, object_line}
use Rattle.souper_find.specs.declared.keyed.Keyed.{Keyed}

-- The key of the left-hand side of a replacement: the SHA-256 of its canonical text with names by its printed order. None of a replacement
-- of a constant.
abbrev pub lhs_key : Item → Option (List ℕ)
lhs_key a = option_map (λ (i : PlainInfer). key_of (key_of_left (with_infer a i))) (infer_of a.ending)

-- the text of a replacement, and the key of its left-hand side
abbrev pub keyed_by : Bool → Item → List ℕ × Option (List ℕ)
keyed_by rename a = (text_by rename a, lhs_key a)

-- a value of the code as such a pair
abbrev pub view_keyed : Keyed → List ℕ × Option (List ℕ)
view_keyed k = (string_bytes k.text, option_map string_bytes k.lhs_key)

-- a comment line with the key of a left-hand side, if there is one
abbrev pub lhs_line : Option (List ℕ) → List ℕ
lhs_line None = []
lhs_line (Some key) = codes "; lhs " ++ (key ++ codes "\n")

-- the record of a replacement
abbrev pub keyed_record : Layout → List ℕ × Option (List ℕ) → List ℕ
keyed_record l k = lhs_line k.1 ++ record_of_text l k.0

-- the object of a replacement, in the stream of this name, which begins there
abbrev pub keyed_object : List ℕ → Start → List ℕ × Option (List ℕ) → Data
keyed_object name start k =
    object (member (codes "file") (string name) (member (codes "key") (string (key_of k.0)) (member (codes "lhs_key") (optional_string k.1)
    (member (codes "line") (number (unsigned start.line)) (member (codes "offset") (number (unsigned start.offset)) (member (codes "text") (string k.0) no_members))))))

-- its line
abbrev pub keyed_line : List ℕ → Start × (List ℕ × Option (List ℕ)) → List ℕ
keyed_line name k = object_line (keyed_object name k.0 k.1)
