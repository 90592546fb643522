-- Definitions. The JSON objects of items with their widths, and of items without.
use Rattle.std.specs.Prelude.{◌≡◌, ◌||◌, ℕ, Bool, true, false, List, [], map, codes, Option, Result, Ok, Err, string_bytes}
use Rattle.std.specs.List.{AllByRecursion}
use Rattle.std.specs.Io.KnownBytes.{Appends}
use Rattle.serde_json.specs.Data.{Data, null, number, unsigned, string, array, object, member, no_members}
use Rattle.serde_json.specs.View.{items_of}
use Rattle.souper_graph.specs.Values.{Item}
use Rattle.souper_widths.specs.Maps.{WidthMap}
use Rattle.souper_widths.specs.declared.flaws.WidthFlaw.{WidthFlaw}
use Rattle.souper_widths.specs.Flaws.{IsFirstWidthFlaw}
use Rattle.souper_typed.specs.declared.form.Form.{Form}
use Rattle.souper_typed.specs.Written.{IsWritten}
use Rattle.souper_untyped.specs.Says.{Says, says_of, view_flaw_text}
use Rattle.souper_stream.specs.declared.starts.Start.{Start}
use Rattle.souper_watched.specs.Streams.{Stream}
use Rattle.souper_records.specs.declared.layout.Layout.{Layout}
use Rattle.souper_records.specs.declared.stop.Stop.{Stop}
use Rattle.souper_records.specs.Records.{key_of, record_of_text}
use Rattle.souper_records.specs.Uniques.{text_by}
use Rattle.souper_records.specs.declared.output.Output.{Output}
use Rattle.souper_records.specs.declared.output.Output.TheVariants.{Objects}
use Rattle.souper_records.specs.Distinct.{HoldsOfOne}
use Rattle.souper_records.specs.Objects.{optional_number, optional_string, object_line}
use Rattle.souper_records.specs.Outputs.{outcome_text, AreRowTexts, WritesRows}
use Rattle.souper_records.specs.Outcomes.{InputStream, Outcome, items_of as items_of_parts, WritesParts, StopsAfter}
use Rattle.souper_typing.specs.declared.objects.TypedRow.{TypedRow}
use Rattle.souper_typing.specs.declared.objects.TypedRow.TheVariants.{Typed, Flawed}
use Rattle.souper_typing.specs.declared.objects.TypedObjects.{TypedObjects}
use Rattle.souper_typing.specs.declared.objects.Objects.{Objects as ObjectSink}

-- the text of an item with its widths written, and the widths of its statements; or what is said of its flaw
abbrev pub ObjectRow : Type 0
ObjectRow = Result (List ℕ × List ℕ) Says

abbrev pub view_row : TypedRow → ObjectRow
view_row (Typed text widths) = Ok (string_bytes text, widths.items)
view_row (Flawed t) = Err (view_flaw_text t)

abbrev pub IsObjectRow : Form → Bool → Item → ObjectRow → Type 0
IsObjectRow f rename a (Ok p) = (m : WidthMap) × (b : Item) × IsWritten f m a b × (p.0 ≡ text_by rename b) × (p.1 ≡ m.results)
IsObjectRow f rename a (Err s) = (flaw : WidthFlaw) × IsFirstWidthFlaw a flaw × (s ≡ says_of a flaw)

abbrev pub is_flawed_row : TypedRow → Bool
is_flawed_row (Typed text widths) = false
is_flawed_row (Flawed t) = true

-- a row that these make of an item
abbrev pub IsRowOf : TypedObjects → Item → TypedRow → Type 0
IsRowOf maker a row = IsObjectRow maker.form maker.rename a (view_row row)

abbrev pub widths_data : List ℕ → Data
widths_data ns = array (items_of (map (λ (n : ℕ). number (unsigned n)) ns))

-- the object of an item with widths, in the stream of this name, which begins there
abbrev pub typed_object : List ℕ → Start → List ℕ → List ℕ → Data
typed_object name start text widths =
    object (member (codes "file") (string name) (member (codes "key") (string (key_of text)) (member (codes "line") (number (unsigned start.line))
    (member (codes "offset") (number (unsigned start.offset)) (member (codes "text") (string text) (member (codes "widths") (widths_data widths) no_members))))))

-- of one without: it has the members of a parse error's, and the line and the number of the statement
abbrev pub flaw_object : List ℕ → Start → Says → Data
flaw_object name start s =
    object (member (codes "column") null (member (codes "file") (string name) (member (codes "hint") (optional_string s.hint) (member (codes "line") (number (unsigned start.line))
    (member (codes "message") (string s.message) (member (codes "offset") (number (unsigned start.offset)) (member (codes "source") (string s.line) (member (codes "statement") (optional_number s.statement) no_members))))))))

abbrev pub row_object : List ℕ → Start → ObjectRow → Data
row_object name start (Ok p) = typed_object name start p.0 p.1
row_object name start (Err s) = flaw_object name start s

abbrev pub row_line : List ℕ → Start × ObjectRow → List ℕ
row_line name p = object_line (row_object name p.0 p.1)

abbrev pub row_record : Layout → ObjectRow → List ℕ
row_record l (Ok p) = record_of_text l p.0
row_record l (Err s) = []

abbrev pub objects_of : TypedObjects → Output
objects_of maker = Objects maker.rename

-- what is written for the rows of a part
abbrev pub rows_text : TypedObjects → List ℕ → Outcome → List TypedRow → List ℕ
rows_text maker name = outcome_text {V = TypedRow} (λ l r. row_record l (view_row r)) (λ n p. row_line n (p.0, view_row p.1)) (objects_of maker) name

-- the item has widths, and is written with them
abbrev pub HasForm : Form → Item → Type 0
HasForm f a = (m : WidthMap) × (b : Item) × IsWritten f m a b

-- the item has none
abbrev pub IsUntyped : Item → Type 0
IsUntyped a = (flaw : WidthFlaw) × IsFirstWidthFlaw a flaw

-- whether one of the items has no widths
abbrev pub TellsUntyped : Form → Bool → List Item → Type 0
TellsUntyped f true items = HoldsOfOne IsUntyped items
TellsUntyped f false items = AllByRecursion (HasForm f) items

pub record ObjectsWrote (name : List ℕ) (a : ObjectSink) (x : Option (List ℕ)) (b : ObjectSink) (y : Option (List ℕ)) (os : List Outcome) : Type 0 where
  pub maker : b.rows.maker ≡ a.rows.maker
  pub text : List ℕ
  pub are : AreRowTexts (IsRowOf a.rows.maker) (rows_text a.rows.maker name) os text
  pub written : Appends x y text
  pub more : Bool
  pub untyped : b.untyped ≡ (a.untyped || more)
  pub tells : TellsUntyped a.rows.maker.form more (items_of_parts os)

-- the objects of the items were written, and nothing else; the items begin where these say; and whether one has no widths
abbrev pub WritesTypedObjects : TypedObjects → InputStream → Stream → Bool → List Outcome → Type 0
WritesTypedObjects maker r out untyped os = WritesRows (IsRowOf maker) (rows_text maker r.name) r.kind out os × TellsUntyped maker.form untyped (items_of_parts os)

-- whether a part is rejected or an item has no widths; or why writing stopped
abbrev pub IsTypedObjectsResult : TypedObjects → InputStream → Option (List ℕ) → Stream → Stream → Result Bool Stop → Type 0
IsTypedObjectsResult maker r after out err (Ok bad) = (refused : Bool) × (untyped : Bool) × (bad ≡ (refused || untyped)) × WritesParts r after (WritesTypedObjects maker r out untyped) err refused
IsTypedObjectsResult maker r after out err (Err stop) = StopsAfter r (λ os. (untyped : Bool) × WritesTypedObjects maker r out untyped os) out.failed err stop
