-- Definitions. The record of an item.
use Rattle.std.specs.Prelude.{◌≡◌, Bool, ℕ, List, [], ◌∷◌, ◌++◌, flat_map, codes, if◌then◌else◌}
use Rattle.souper_records.specs.Prelude.{Item, text_of, renamed, ItemType, TextSpells}
use Rattle.sha2.specs.Sha256.{sha256}
use Rattle.hex.specs.Hex.{encode_lower}
use Rattle.souper_records.specs.declared.layout.Delimiter.{Delimiter}
use Rattle.souper_records.specs.declared.layout.Delimiter.TheVariants.{Newline, Nul}
use Rattle.souper_records.specs.declared.layout.Layout.{Layout}

-- the item, or the item with names by its printed order
abbrev pub chosen : Bool → Item → Item
chosen rename a = if rename then renamed a else a

-- the text, and what ends its record
abbrev pub delimited : Delimiter → List ℕ → List ℕ
delimited Newline text = text ++ codes "\n"
delimited Nul text = text ++ 0 ∷ []

-- the key of a text
abbrev pub key_of : List ℕ → List ℕ
key_of text = encode_lower (sha256 text)

-- a comment line with the key of a text
abbrev pub key_line : List ℕ → List ℕ
key_line text = codes "; " ++ (key_of text ++ codes "\n")

-- the record of an item whose text is this
abbrev pub record_of_text : Layout → List ℕ → List ℕ
record_of_text l text = (if l.key then key_line text else []) ++ delimited l.delimiter text

-- the record of an item
abbrev pub record_of : Layout → Item → List ℕ
record_of l a = record_of_text l (text_of (chosen l.rename a))

-- the records of items
abbrev pub records_of : Layout → List Item → List ℕ
records_of l items = flat_map (record_of l) items

-- the source spells items, and the bytes are their records
abbrev pub AreRecordsOf : Layout → ItemType → List ℕ → List ℕ → Type 0
AreRecordsOf l k source bytes = (items : List Item) × TextSpells k source items × (bytes ≡ records_of l items)
