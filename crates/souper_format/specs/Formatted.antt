-- Definitions. The output for a text.
use Rattle.std.specs.Prelude.{◌≡◌, ◌↔◌, ℕ, List, map}
use Rattle.souper_graph.specs.Values.{Item}
use Rattle.souper_graph.specs.Text.{texts_of}
use Rattle.souper_graph.specs.Sameness.{renumbered}
use Rattle.souper_graph.specs.Syntax.Spelling.{ItemType, TextSpells}

-- the source spells items of the type, and the text is their canonical texts, a newline after each
abbrev pub IsFormatted : ItemType → List ℕ → List ℕ → Type 0
IsFormatted k source text = (items : List Item) × TextSpells k source items × (text ≡ texts_of items)

-- whatever items the source spells, the text spells them renumbered, and no others
abbrev pub SpellsRenumbered : ItemType → List ℕ → List ℕ → Type 0
SpellsRenumbered k source text = (items : List Item) → TextSpells k source items → (others : List Item) → TextSpells k text others ↔ (others ≡ map renumbered items)
