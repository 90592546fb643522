-- Definitions. What a store of replacements answers for left-hand sides, and what the outcome of a call says of both texts.
use Rattle.std.specs.Prelude.{◌≡◌, ◌⊎◌, ℕ, ◌<◌, List, [], ◌∷◌, ◌++◌, length}
use Rattle.std.specs.Str.{IsUtf8}
use Rattle.souper_graph.specs.Values.{Item}
use Rattle.souper_graph.specs.Text.{texts_of}
use Rattle.souper_graph.specs.Syntax.Spelling.{left_hand_side, replacement, TextSpells}
use Rattle.souper_lookup.specs.Instance.{AreInstances}
use Rattle.souper_lookup.specs.Stored.{Entry, answers, replacements_of, AreAdded}
use Rattle.souper_calls.specs.Outcomes.{IsRefusedAt, FillsStart, WritesRefusal, SpellsSome}
use Rattle.souper_calls.specs.declared.outcome.SouperOutcome.{SouperOutcome}

-- the entries of a new store to which the replacements that the text spells were added, one after another
abbrev pub AreEntriesOf : List ℕ → List Entry → Type 0
AreEntriesOf text entries = (items : List Item) × TextSpells replacement text items × AreAdded items [] entries

-- the group of a left-hand side: the canonical text of each of its answers, a newline after each, and a byte 0
abbrev pub IsGroup : List Entry → Item → List ℕ → Type 0
IsGroup entries q group = (items : List Item) × AreInstances q (replacements_of (answers q entries)) items × (group ≡ texts_of items ++ 0 ∷ [])

-- the bytes are the groups of these left-hand sides, in order
abbrev pub AreGroups : List Entry → List Item → List ℕ → Type 0
AreGroups entries [] bytes = bytes ≡ []
AreGroups entries (q ∷ qs) bytes = (group : List ℕ) × (rest : List ℕ) × IsGroup entries q group × (bytes ≡ group ++ rest) × AreGroups entries qs rest

-- the text spells left-hand sides, and the bytes are their groups
abbrev pub AreAnswerGroups : List Entry → List ℕ → List ℕ → Type 0
AreAnswerGroups entries queries bytes = (qs : List Item) × TextSpells left_hand_side queries qs × AreGroups entries qs bytes

-- one text spells replacements, the other left-hand sides, and the bytes are what a store of these replacements answers for them
abbrev pub AnswersTo : List ℕ → List ℕ → List ℕ → Type 0
AnswersTo store queries bytes = (entries : List Entry) × AreEntriesOf store entries × AreAnswerGroups entries queries bytes

-- the answers were written to the buffer
abbrev pub WritesAnswerGroups : List ℕ → List ℕ → SouperOutcome → List ℕ → List ℕ → Type 0
WritesAnswerGroups store queries o old new = (bytes : List ℕ) × AnswersTo store queries bytes × (o.length ≡ length bytes) × FillsStart old new bytes

-- the outcome says a thing of the store, whose kind is 2, or after the store spelled replacements of the queries, whose kind is 0
abbrev pub OfStoreOrQueries : List ℕ → List ℕ → SouperOutcome → (ℕ → List ℕ → Type 0) → Type 0
OfStoreOrQueries store queries o fact = ((o.input ≡ 0) × fact 2 store) ⊎ ((o.input ≡ 1) × SpellsSome 2 store × fact 0 queries)

-- one of the texts is rejected, and its parse error was written to the buffer
abbrev pub WritesRefusalOfOne : List ℕ → List ℕ → SouperOutcome → List ℕ → List ℕ → Type 0
WritesRefusalOfOne store queries o old new = OfStoreOrQueries store queries o (λ kind source. WritesRefusal kind source o old new)

-- one of the texts is not UTF-8
abbrev pub IsNoTextOfOne : List ℕ → List ℕ → SouperOutcome → Type 0
IsNoTextOfOne store queries o = OfStoreOrQueries store queries o (λ kind source. ¬ (IsUtf8 source))

-- the bytes show that the source is rejected
abbrev pub ShowRefusal : ℕ → List ℕ → List ℕ → Type 0
ShowRefusal kind source bytes = (offset : ℕ) × (line : ℕ) × (column : ℕ) × IsRefusedAt kind source offset line column bytes

-- the bytes are the output for the texts: the answers, or a parse error of the store, or after it spelled replacements of the queries
abbrev pub IsFindOutput : List ℕ → List ℕ → List ℕ → Type 0
IsFindOutput store queries bytes = AnswersTo store queries bytes ⊎ ShowRefusal 2 store bytes ⊎ (SpellsSome 2 store × ShowRefusal 0 queries bytes)

-- the buffer is shorter than the output for the texts, whose length the outcome has
abbrev pub IsShortFind : List ℕ → List ℕ → SouperOutcome → List ℕ → Type 0
IsShortFind store queries o old = (length old < o.length) × ((bytes : List ℕ) × IsFindOutput store queries bytes × (o.length ≡ length bytes))
