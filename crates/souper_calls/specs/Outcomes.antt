-- Definitions. What the outcome of a call says of the texts and of the buffer.
use Rattle.std.specs.Prelude.{◌≡◌, ◌≢◌, ℕ, ◌<◌, ◌≤◌, List, ◌++◌, length, drop, None, ◌⊎◌}
use Rattle.std.specs.List.{AllZip}
use Rattle.std.specs.Str.{IsUtf8}
use Rattle.souper_graph.specs.Values.{Item}
use Rattle.souper_graph.specs.Sameness.{SameGraph}
use Rattle.souper_graph.specs.Syntax.Spelling.{ItemType, TextSpells, SpellsNone}
use Rattle.souper_errors.specs.Places.{IsRefusalTextAt}
use Rattle.souper_format.specs.Formatted.{IsFormatted}
use Rattle.souper_code.specs.Codes.{code_of_items}
use Rattle.souper_code.specs.Writing.{IsWritten}
use Rattle.souper_code.specs.declared.write.Place.{Place}
use Rattle.souper_calls.specs.Kinds.{OfType}
use Rattle.souper_calls.specs.declared.outcome.SouperOutcome.{SouperOutcome}

-- the source spells items of the type, and the bytes are their code
abbrev pub IsCodeOfText : ItemType → List ℕ → List ℕ → Type 0
IsCodeOfText k source code = (xs : List Item) × TextSpells k source xs × (code ≡ code_of_items xs)

-- the source spells items of the kind, and the text is their canonical texts
abbrev pub FormatsTo : ℕ → List ℕ → List ℕ → Type 0
FormatsTo kind source text = OfType kind (λ k. IsFormatted k source text)

-- the source spells items of the kind, and the bytes are their code
abbrev pub CodesTo : ℕ → List ℕ → List ℕ → Type 0
CodesTo kind source code = OfType kind (λ k. IsCodeOfText k source code)

-- the source spells no items of the kind; its parse error has that place, and the text shows it
abbrev pub IsRefusedAt : ℕ → List ℕ → ℕ → ℕ → ℕ → List ℕ → Type 0
IsRefusedAt kind source offset line column shown = OfType kind (λ k.
    SpellsNone k source × (offset ≤ length source) × IsRefusalTextAt None source offset line column shown)

-- the source spells no items of the kind; the outcome has the place of the parse error, which the text shows, and its length
abbrev pub IsRefused : ℕ → List ℕ → SouperOutcome → List ℕ → Type 0
IsRefused kind source o shown = IsRefusedAt kind source o.offset o.line o.column shown × (o.length ≡ length shown)

-- the same, for some text
abbrev pub Refuses : ℕ → List ℕ → SouperOutcome → Type 0
Refuses kind source o = (shown : List ℕ) × IsRefused kind source o shown

-- the outcome has no place of a parse error
abbrev pub HasNoPlace : SouperOutcome → Type 0
HasNoPlace o = (o.offset ≡ 0) × (o.line ≡ 0) × (o.column ≡ 0)

-- the buffer begins with the text, and has changed nowhere else
abbrev pub FillsStart : List ℕ → List ℕ → List ℕ → Type 0
FillsStart old new text = (length text ≤ length old) × (new ≡ text ++ drop (length text) old)

-- the canonical texts were written to the buffer
abbrev pub WritesTexts : ℕ → List ℕ → SouperOutcome → List ℕ → List ℕ → Type 0
WritesTexts kind source o old new =
    (text : List ℕ) × FormatsTo kind source text × (o.length ≡ length text) × FillsStart old new text

-- the code was written to the buffer
abbrev pub WritesCode : ℕ → List ℕ → SouperOutcome → List ℕ → List ℕ → Type 0
WritesCode kind source o old new =
    (code : List ℕ) × CodesTo kind source code × (o.length ≡ length code) × FillsStart old new code

-- the parse error was written to the buffer
abbrev pub WritesRefusal : ℕ → List ℕ → SouperOutcome → List ℕ → List ℕ → Type 0
WritesRefusal kind source o old new = (shown : List ℕ) × IsRefused kind source o shown × FillsStart old new shown

-- the bytes are the source's output: what a call gives for items, or a parse error
abbrev pub IsOutputOf : (ℕ → List ℕ → List ℕ → Type 0) → ℕ → List ℕ → List ℕ → Type 0
IsOutputOf gives kind source bytes =
    gives kind source bytes ⊎ ((offset : ℕ) × (line : ℕ) × (column : ℕ) × IsRefusedAt kind source offset line column bytes)

-- the buffer is shorter than the source's output, whose length the outcome has
abbrev pub IsShortFor : (ℕ → List ℕ → List ℕ → Type 0) → ℕ → List ℕ → SouperOutcome → List ℕ → Type 0
IsShortFor gives kind source o old =
    (length old < o.length) × ((bytes : List ℕ) × IsOutputOf gives kind source bytes × (o.length ≡ length bytes))

-- of canonical texts
abbrev pub IsShort : ℕ → List ℕ → SouperOutcome → List ℕ → Type 0
IsShort = IsShortFor FormatsTo

-- of code
abbrev pub IsShortCode : ℕ → List ℕ → SouperOutcome → List ℕ → Type 0
IsShortCode = IsShortFor CodesTo

-- the canonical texts of the items of a code were written to the buffer
abbrev pub WritesItems : ℕ → List ℕ → SouperOutcome → List ℕ → List ℕ → Type 0
WritesItems kind code o old new =
    (text : List ℕ) × OfType kind (λ k. IsWritten k code text) × (o.length ≡ length text) × FillsStart old new text

-- the buffer is shorter than the canonical texts of the items of a code, whose length the outcome has
abbrev pub IsShortItems : ℕ → List ℕ → SouperOutcome → List ℕ → Type 0
IsShortItems kind code o old =
    (length old < o.length) × ((text : List ℕ) × OfType kind (λ k. IsWritten k code text) × (o.length ≡ length text))

-- the item that the outcome tells by the number of items and of bytes before it
abbrev pub outcome_place : SouperOutcome → Place
outcome_place o = record { index = o.length; offset = o.offset }

-- the source is its own canonical texts
abbrev pub IsCanonicalSource : ℕ → List ℕ → SouperOutcome → Type 0
IsCanonicalSource kind source o = FormatsTo kind source source × (o.length ≡ length source)

-- the source spells items of the kind, and their canonical texts are another text, whose length the outcome has
abbrev pub IsNotCanonical : ℕ → List ℕ → SouperOutcome → Type 0
IsNotCanonical kind source o =
    (text : List ℕ) × FormatsTo kind source text × (text ≢ source) × (o.length ≡ length text)

-- both sources spell items of the kind, of which the fact holds
abbrev pub BothSpell : ℕ → List ℕ → List ℕ → (List Item → List Item → Type 0) → Type 0
BothSpell kind a b fact = OfType kind (λ k.
    (xs : List Item) × (ys : List Item) × TextSpells k a xs × TextSpells k b ys × fact xs ys)

-- one length, and each item the same graph as the one at its index
abbrev pub AreSameItems : List Item → List Item → Type 0
AreSameItems xs ys = AllZip SameGraph xs ys

abbrev pub AreNotSame : List Item → List Item → Type 0
AreNotSame xs ys = ¬ (AreSameItems xs ys)

-- the source spells items of the kind
abbrev pub SpellsSome : ℕ → List ℕ → Type 0
SpellsSome kind source = OfType kind (λ k. (xs : List Item) × TextSpells k source xs)

-- the outcome says a thing of one of two inputs: of the first, or of the second after the first spelled items
abbrev pub OfInput : ℕ → List ℕ → List ℕ → SouperOutcome → (List ℕ → Type 0) → Type 0
OfInput kind a b o fact = ((o.input ≡ 0) × fact a) ⊎ ((o.input ≡ 1) × SpellsSome kind a × fact b)

-- one of the inputs is rejected
abbrev pub RefusesInput : ℕ → List ℕ → List ℕ → SouperOutcome → Type 0
RefusesInput kind a b o = OfInput kind a b o (λ source. Refuses kind source o)

-- one of the inputs is not UTF-8
abbrev pub IsNoTextInput : ℕ → List ℕ → List ℕ → SouperOutcome → Type 0
IsNoTextInput kind a b o = OfInput kind a b o (λ source. ¬ (IsUtf8 source))
