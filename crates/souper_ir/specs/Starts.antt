-- Definitions. Where the items of a text begin: at which offset is the first token of each.
use Rattle.std.specs.Prelude.{◌≡◌, ℕ, List, [], ◌∷◌, ◌++◌, Option, option_map}
use Rattle.souper_graph.specs.Values.{Item}
use Rattle.souper_graph.specs.Syntax.Tokens.{Lexeme, IsTextOf, Begins}
use Rattle.souper_graph.specs.Syntax.Spelling.{kinds, ItemType, items as items_form, item}
use Rattle.souper_ir.specs.declared.parse.memory.Kept.{Kept}
use Rattle.souper_ir.specs.declared.parse.memory.Memory.{Memory}
use Rattle.souper_ir.specs.Parsing.{Parsing}
use Rattle.souper_ir.specs.Sinks.{TakesOver}

-- the first of these tokens is at this offset
abbrev pub StartsAt : ℕ → List (ℕ × Lexeme) → Type 0
StartsAt start [] = ⊥
StartsAt start (t ∷ ts) = t.0 ≡ start

-- the item is spelled by the first tokens, which begin at this offset; and P holds of the others
pub record SpellsFrom (k : ItemType) (a : Item) (start : ℕ) (P : List (ℕ × Lexeme) → Type 0) (ts : List (ℕ × Lexeme)) : Type 0 where
  pub used : List (ℕ × Lexeme)
  pub others : List (ℕ × Lexeme)
  pub whole : ts ≡ used ++ others
  pub starts : StartsAt start used
  pub spelled : item k a (kinds used)
  pub further : P others

-- the tokens spell the items, which begin at these offsets
abbrev pub SpellEachFrom : ItemType → List Item → List ℕ → List (ℕ × Lexeme) → Type 0
SpellEachFrom k [] [] ts = ts ≡ []
SpellEachFrom k [] (start ∷ starts) ts = ⊥
SpellEachFrom k (a ∷ items) [] ts = ⊥
SpellEachFrom k (a ∷ items) (start ∷ starts) ts = SpellsFrom k a start (SpellEachFrom k items starts) ts

-- the text spells the items, which begin at these offsets
abbrev pub TextSpellsFrom : ItemType → List ℕ → List Item → List ℕ → Type 0
TextSpellsFrom k source items starts = (ts : List (ℕ × Lexeme)) × IsTextOf source ts × SpellEachFrom k items starts ts

-- the tokens that the text begins with spell the items, which begin at these offsets
abbrev pub PrefixSpellsFrom : ItemType → List ℕ → List Item → List ℕ → Type 0
PrefixSpellsFrom k source items starts = (ts : List (ℕ × Lexeme)) × (rest : List ℕ) × Begins 0 source ts rest × SpellEachFrom k items starts ts

-- the offsets that are kept, if they are
abbrev pub starts_kept : Kept → Option (List ℕ)
starts_kept kept = option_map (λ starts. starts.items) kept.starts

abbrev pub starts_of : Memory → Option (List ℕ)
starts_of memory = starts_kept memory.kept

-- these offsets were kept after the others, if they are kept
abbrev pub Keeps : Kept → Kept → List ℕ → Type 0
Keeps old new starts = starts_kept new ≡ option_map (λ before. before ++ starts) (starts_kept old)

-- the memory has these offsets, if it keeps offsets
abbrev pub HasStarts : Memory → Memory → List ℕ → Type 0
HasStarts old new starts = starts_of new ≡ option_map (λ before. starts) (starts_of old)

-- the sink took the items of a text, and the offsets at which they begin have the property `kept`
pub record TakesFrom {S : Type 0} (holds : S → S → List Item → Type 0) (spells : List Item → List ℕ → Type 0) (kept : List ℕ → Type 0) (old new : S) : Type 0 where
  pub items : List Item
  pub starts : List ℕ
  pub spelled : spells items starts
  pub taken : TakesOver holds items old new
  pub has : kept starts

-- the sink took the items that the parser's first tokens spell, and the offsets at which they begin have the property `kept`
pub record TakesFirst {S : Type 0} (holds : S → S → List Item → Type 0) (k : ItemType) (kept : List ℕ → Type 0) (p : Parsing) (old new : S) : Type 0 where
  pub items : List Item
  pub starts : List ℕ
  pub used : List (ℕ × Lexeme)
  pub others : List (ℕ × Lexeme)
  pub parts : p.tokens ≡ used ++ others
  pub spelled : items_form k items (kinds used)
  pub each : SpellEachFrom k items starts used
  pub taken : TakesOver holds items old new
  pub has : kept starts
