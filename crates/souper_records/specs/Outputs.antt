-- Definitions. How the items of a stream are written by rows: what is kept of each item.
use Rattle.std.specs.Prelude.{◌≡◌, ℕ, Bool, List, [], ◌∷◌, ◌++◌, flat_map, Option}
use Rattle.std.specs.List.{zip, AllZip}
use Rattle.souper_records.specs.Prelude.{Item, ItemType, Start, Stream, IsGiven}
use Rattle.souper_records.specs.declared.layout.Layout.{Layout}
use Rattle.souper_records.specs.declared.output.Output.{Output}
use Rattle.souper_records.specs.declared.output.Output.TheVariants.{Records, Objects}
use Rattle.souper_records.specs.Reports.{Refusal}
use Rattle.souper_records.specs.Objects.{refusal_line}
use Rattle.souper_records.specs.Outcomes.{Outcome, HaveItemStarts}

-- whether the names in texts are by the printed order
abbrev pub renames : Output → Bool
renames (Records l) = l.rename
renames (Objects rename) = rename

-- What is written for a part, whose items begin there and have these rows, and for its refusal, if it is refused: given the records of a row,
-- and the lines of one whose item begins there, in the stream of this name.
abbrev pub part_text : {V : Type 0} → (Layout → V → List ℕ) → (List ℕ → Start × V → List ℕ) → Output → List ℕ → List Start → Option Refusal → List V → List ℕ
part_text records lines (Records l) name starts refusal rows = flat_map (records l) rows
part_text records lines (Objects rename) name starts refusal rows = flat_map (lines name) (zip starts rows) ++ refusal_line name refusal

-- the same of a part with this outcome
abbrev pub outcome_text : {V : Type 0} → (Layout → V → List ℕ) → (List ℕ → Start × V → List ℕ) → Output → List ℕ → Outcome → List V → List ℕ
outcome_text records lines output name o rows = part_text records lines output name o.starts o.refusal rows

-- what is written for parts with these outcomes, given that a row is of an item, and what is written for the rows of a part
abbrev pub AreRowTexts : {V : Type 0} → (Item → V → Type 0) → (Outcome → List V → List ℕ) → List Outcome → List ℕ → Type 0
AreRowTexts is_row text_of [] text = text ≡ []
AreRowTexts {V} is_row text_of (o ∷ os) text = (rows : List V) × (rest : List ℕ) × AllZip is_row o.items rows × (text ≡ text_of o rows ++ rest) × AreRowTexts is_row text_of os rest

-- it was written, and nothing else; the items begin where it says
abbrev pub WritesRows : {V : Type 0} → (Item → V → Type 0) → (Outcome → List V → List ℕ) → ItemType → Stream → List Outcome → Type 0
WritesRows is_row text_of k out os = ((text : List ℕ) × AreRowTexts is_row text_of os text × IsGiven out text) × HaveItemStarts k [] os
