-- Definitions. The distinct items: the first of each graph.
use Rattle.std.specs.Prelude.{◌≡◌, ℕ, Bool, true, false, List, [], ◌++◌, map, flat_map, take, codes, decimal, Option, nat_le, not, ◌||◌, if◌then◌else◌, String, string_bytes}
use Rattle.std.specs.List.{AllByRecursion, filter}
use Rattle.std.specs.Io.KnownBytes.{Appends}
use Rattle.souper_records.specs.Prelude.{Item, text_of, WellFormed, ItemType, Stream, IsGiven}
use Rattle.souper_graph.specs.Sameness.{SameGraph}
use Rattle.souper_graph.specs.Renaming.{SameUpToNames}
use Rattle.souper_graph.specs.ItemText.{IsWellFormedOf}
use Rattle.souper_records.specs.declared.layout.Layout.{Layout}
use Rattle.souper_records.specs.declared.layout.Summary.{Summary}
use Rattle.souper_records.specs.declared.seen.Seen.{Seen}
use Rattle.souper_records.specs.Records.{chosen, record_of_text, records_of}
use Rattle.souper_records.specs.Distinct.{distinct_by, NoTwo, HoldsOfOne, count_with_key, counts_by}

-- the canonical text of the item, or of the item with names by its printed order
abbrev pub text_by : Bool → Item → List ℕ
text_by rename a = text_of (chosen rename a)

-- the distinct items: those whose text no earlier one has, neither one of `earlier` nor one of these
abbrev pub distinct_items : Bool → List Item → List Item → List Item
distinct_items rename earlier items = distinct_by (text_by rename) earlier items

-- the same graph, or the same graph up to names
abbrev pub AreSame : Bool → Item → Item → Type 0
AreSame false a b = SameGraph a b
AreSame true a b = SameUpToNames a b

-- The distinct items, in order: no two of them are the same, nor one of them and an earlier one; and each of the items is the same as
-- one of them, or as an earlier one.
pub record AreDistinct (rename : Bool) (earlier items first : List Item) : Type 0 where
  pub in_order : first ≡ distinct_items rename earlier items
  pub unseen : AllByRecursion (λ b. AllByRecursion (λ a. AreSame rename a b → ⊥) earlier) first
  pub distinct : NoTwo (AreSame rename) first
  pub covered : AllByRecursion (λ a. HoldsOfOne (AreSame rename a) (earlier ++ first)) items

-- the item is well formed, and so is, with `rename`, its copy with names by its printed order
abbrev pub HasText : ItemType → Bool → Item → Type 0
HasText k rename a = IsWellFormedOf k a × WellFormed (chosen rename a)

-- the bytes of a text, and its count
abbrev pub text_count : {M : Type 0} → String M × ℕ → List ℕ × ℕ
text_count e = (string_bytes e.0, e.1)

-- these items were seen: the index has the texts of the first ones among them, and how many have each
abbrev pub HasSeen : ItemType → Bool → List Item → Seen → Type 0
HasSeen k rename items s = AllByRecursion (HasText k rename) items × (map text_count s.counts.entries ≡ counts_by (text_by rename) items)

-- of these items, after earlier ones, the first of each graph had their records written, and nothing else
abbrev pub WritesDistinct : Layout → List Item → Stream → List Item → Type 0
WritesDistinct l earlier out items = (first : List Item) × AreDistinct l.rename earlier items first × IsGiven out (records_of l first)

-- and all were seen
abbrev pub WritesSeenDistinct : ItemType → Layout → List Item → Stream → Seen → List Item → Type 0
WritesSeenDistinct k l earlier out seen items = WritesDistinct l earlier out items × HasSeen k l.rename (earlier ++ items) seen

-- the same, whatever items were seen before
abbrev pub WritesNewDistinct : ItemType → Layout → Option (List ℕ) → Option (List ℕ) → Seen → Seen → List Item → Type 0
WritesNewDistinct k l old new before after items = (earlier : List Item) → HasSeen k l.rename earlier before → HasSeen k l.rename (earlier ++ items) after × Appends old new (records_of l (distinct_items l.rename earlier items))

-- a comment line with a number
abbrev pub count_line : ℕ → List ℕ
count_line n = codes "; count " ++ (decimal n ++ codes "\n")

-- whether a graph with this count has a record
abbrev pub is_listed : Summary → ℕ → Bool
is_listed s n = not s.repeated || nat_le 2 n

-- the record of a graph with this text and count, after a line with the count if it is asked for
abbrev pub counted_record : Layout → Summary → List ℕ → ℕ → List ℕ
counted_record l s text n = (if s.counts then count_line n else []) ++ record_of_text l text

-- the same, or nothing if the graph has no record
abbrev pub summary_of_text : Layout → Summary → List ℕ → ℕ → List ℕ
summary_of_text l s text n = if is_listed s n then counted_record l s text n else []

-- the distinct items that have a record
abbrev pub listed_items : Layout → Summary → List Item → List Item
listed_items l s items = filter (λ a. is_listed s (count_with_key (text_by l.rename) items a)) (distinct_items l.rename [] items)

-- the record of a distinct item among these
abbrev pub summary_of_item : Layout → Summary → List Item → Item → List ℕ
summary_of_item l s items a = counted_record l s (text_by l.rename a) (count_with_key (text_by l.rename) items a)

-- the records of all graphs that have one
abbrev pub summary_of : Layout → Summary → List Item → List ℕ
summary_of l s items = flat_map (summary_of_item l s items) (listed_items l s items)

-- the first of these records were written, each whole, and nothing else
abbrev pub WritesSummaryBegun : Layout → Summary → List Item → Stream → Type 0
WritesSummaryBegun l s items out = (n : ℕ) × IsGiven out (flat_map (summary_of_item l s items) (take n (listed_items l s items)))
