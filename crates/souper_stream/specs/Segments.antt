-- Definitions. The segments of a text: lines, cut where an item ends and a line of the next begins, as far as tokens show it. A line
-- starts if it begins with a statement, or with one of an item's last lines. A lexical fault hides the tokens after it on its line, and
-- no others; so the next segment can be parsed though this one is invalid.
use Rattle.std.specs.Prelude.{◌≡◌, ◌⊎◌, ◌↔◌, ℕ, ◌-◌, ◌<◌, ◌≤◌, true, List, [], ◌∷◌, ◌++◌, length, take, drop, IsUtf8, flat_map}
use Rattle.souper_stream.specs.Prelude.{Item, Lexeme, IsOneLine, kinds, ItemType, TextSpells, lexed_of, IsLines}
use Rattle.souper_stream.specs.Lines.{starts_line, LastEnds}

-- the bytes of a line, without a newline but at the end
abbrev pub Line : Type 0
Line = List ℕ

-- the bytes of all lines
abbrev pub concat : List Line → List ℕ
concat [] = []
concat (l ∷ ls) = l ++ concat ls

-- a line with its newline
abbrev pub IsWholeLine : Line → Type 0
IsWholeLine l = (body : List ℕ) × IsOneLine body × (l ≡ body ++ 10 ∷ [])

-- the last line of a text, which may have none
abbrev pub IsLastLine : Line → Type 0
IsLastLine l = IsWholeLine l ⊎ (IsOneLine l × (0 < length l))

-- the lines of a text
abbrev pub AreLines : List Line → Type 0
AreLines [] = Unit {0}
AreLines (l ∷ []) = IsLastLine l
AreLines (l ∷ (m ∷ ls)) = IsWholeLine l × AreLines (m ∷ ls)

-- the tokens of a text, up to a fault if it has one
abbrev pub tokens_of : List ℕ → List Lexeme
tokens_of bs = kinds (lexed_of 0 bs).tokens

-- The tokens of lines, each up to a fault if it has one. No token extends into the next line.
abbrev pub tokens_of_lines : List Line → List Lexeme
tokens_of_lines ls = flat_map tokens_of ls

-- an item ends with these lines: of the statements and last lines that begin in them, the last is one that an item of the type ends with
abbrev pub EndsItem : ItemType → List Line → Type 0
EndsItem k ls = LastEnds k (tokens_of_lines ls)

-- the first of these lines starts
abbrev pub FirstStarts : List Line → Type 0
FirstStarts [] = ⊥
FirstStarts (l ∷ ls) = starts_line (tokens_of l) ≡ true

-- no cut point is between the lines
abbrev pub HasNoCut : ItemType → List Line → Type 0
HasNoCut k ls = (front back : List Line) → ls ≡ front ++ back → EndsItem k front → FirstStarts back → ⊥

-- a cut point is between these lines
abbrev pub IsCut : ItemType → List Line → List Line → Type 0
IsCut k front back = EndsItem k front × FirstStarts back

-- Each part has lines. An item ends with each but the last, and a line starts with each but the first.
abbrev pub AreCut : ItemType → List (List Line) → Type 0
AreCut k [] = Unit {0}
AreCut k (p ∷ []) = p ≡ [] → ⊥
AreCut k (p ∷ (q ∷ ps)) = EndsItem k p × FirstStarts q × AreCut k (q ∷ ps)

-- the lines of all parts
abbrev pub all_lines : List (List Line) → List Line
all_lines [] = []
all_lines (p ∷ ps) = p ++ all_lines ps

-- the text is these parts: between each two is a cut point
pub record AreParts (k : ItemType) (text : List ℕ) (ps : List (List Line)) : Type 0 where
  pub whole : text ≡ concat (all_lines ps)
  pub lines : AreLines (all_lines ps)
  pub cut : AreCut k ps

-- each part spells its items, and `ws` has the items of all parts, in order
abbrev pub PartsSpell : ItemType → List (List Line) → List Item → Type 0
PartsSpell k [] ws = ws ≡ []
PartsSpell k (p ∷ ps) ws = (xs : List Item) × (ys : List Item) × (ws ≡ xs ++ ys) × TextSpells k (concat p) xs × PartsSpell k ps ys

-- a text spells the items that its parts spell, as its segments
abbrev pub SpellsByParts : Type 0
SpellsByParts = (k : ItemType) (text : List ℕ) (ps : List (List Line)) (ws : List Item) → AreParts k text ps → TextSpells k text ws ↔ PartsSpell k ps ws

-- ---- by lengths

-- the first `len` bytes of the lines are those before a cut point
pub record CutsAt (k : ItemType) (ls : List Line) (len : ℕ) : Type 0 where
  pub front : List Line
  pub back : List Line
  pub whole : ls ≡ front ++ back
  pub len_is : length (concat front) ≡ len
  pub cut : IsCut k front back

-- no cut point is after the first `len` bytes of the lines
abbrev pub HasNoCutAfter : ItemType → List Line → ℕ → Type 0
HasNoCutAfter k ls len = (front back : List Line) → ls ≡ front ++ back → IsCut k front back → length (concat front) ≤ len

-- the first `len` bytes of the lines are the first segment
pub record IsFirstSegment (k : ItemType) (ls : List Line) (len : ℕ) : Type 0 where
  pub front : List Line
  pub back : List Line
  pub whole : ls ≡ front ++ back
  pub len_is : length (concat front) ≡ len
  pub uncut : HasNoCut k front
  pub cut : (back ≡ []) ⊎ IsCut k front back

-- a line is not UTF-8, and no cut point is between the lines before it
pub record HasBadLine (k : ItemType) (ls : List Line) : Type 0 where
  pub front : List Line
  pub line : Line
  pub back : List Line
  pub whole : ls ≡ front ++ line ∷ back
  pub uncut : HasNoCut k front
  pub fault : ¬ (IsUtf8 line)

-- the last line of a text is after the first `start` bytes
pub record IsLastLineAt (text : List ℕ) (start : ℕ) : Type 0 where
  pub before : start < length text
  pub lines : IsLines (take start text)
  pub one_line : IsOneLine (drop start (take (length text - 1) text))
