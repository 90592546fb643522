-- Definitions. Items that a parser takes, in sequence.
use Rattle.std.specs.Prelude.{◌≡◌, false, List, [], None}
use Rattle.souper_graph.specs.Values.{Item}
use Rattle.souper_errors.specs.declared.error.ParseError.{ParseError}
use Rattle.souper_graph.specs.Syntax.Spelling.{kinds, ItemType, items}
use Rattle.souper_ir.specs.Continuation.{item_continues}
use Rattle.souper_ir.specs.Parsing.{Parsing}
use Rattle.souper_ir.specs.Reading.{cause_of, IfRefused, Fails}
use Rattle.souper_ir.specs.Grammar.{TookAll}

-- items were taken, each from an empty scope to an empty scope
abbrev pub ItemsTaken : ItemType → List Item → Parsing → Parsing → Type 0
ItemsTaken k xs p q = TookAll (λ s xs. items k xs) item_continues (λ s xs. []) xs p q

-- the tokens up to the end of the text spell the items, and no fault follows
pub record SpellsAll (k : ItemType) (xs : List Item) (p : Parsing) : Type 0 where
  pub spelled : items k xs (kinds p.tokens)
  pub sound : p.faulty ≡ false

-- the remaining tokens, up to the end of the text, spell no items
abbrev pub NoList : ItemType → Parsing → Type 0
NoList k p = (xs : List Item) → p.faulty ≡ false → items k xs (kinds p.tokens) → ⊥

pub record ListRefusal (k : ItemType) (e : ParseError) (p q : Parsing) : Type 0 where
  pub failed : Fails e p q
  pub nothing : IfRefused (cause_of e) (p.failed ≡ None → NoList k p)
