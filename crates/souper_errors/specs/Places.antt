-- Definitions. The place of an offset in a source, and the text that shows a parse error there.
use Rattle.std.specs.Prelude.{◌≡◌, ℕ, Bool, true, false, ◌+◌, ◌-◌, ◌≤◌, List, [], ◌∷◌, ◌++◌, ◌⊎◌, ◌==◌, length, replicate, count_by, codes, decimal, Option, None, Some}
use Rattle.std.specs.Str.{IsAsciiWhitespaceFrom}

-- the byte is the last of the text
abbrev pub EndsIn : List ℕ → ℕ → Type 0
EndsIn xs b = (front : List ℕ) × (xs ≡ front ++ b ∷ [])

-- the text is empty, or its last byte is a newline
abbrev pub IsLines : List ℕ → Type 0
IsLines bs = (bs ≡ []) ⊎ EndsIn bs 10

-- the number of newlines in the text
abbrev pub newlines : List ℕ → ℕ
newlines xs = count_by (λ b. b == 10) xs

-- the text of a line whose newline was taken off: one `\r` at its end is left out
abbrev pub IsWithoutReturn : List ℕ → List ℕ → Type 0
IsWithoutReturn body text = (body ≡ text ++ 13 ∷ []) ⊎ ((text ≡ body) × ¬ (EndsIn body 13))

-- the text of a line, of which back is what follows: the end of the source, or a newline
abbrev pub IsLineText : List ℕ → List ℕ → List ℕ → Type 0
IsLineText body [] text = text ≡ body
IsLineText body (b ∷ bs) text = (b ≡ 10) × IsWithoutReturn body text

-- the place of the byte before the offset, or of the first if the offset is 0: a newline ends its line, and lines and
-- columns are counted from 1, columns in bytes
pub record IsPlace (source : List ℕ) (offset line column : ℕ) (text : List ℕ) : Type 0 where
  pub front : List ℕ
  pub body : List ℕ
  pub back : List ℕ
  pub parts : source ≡ front ++ (body ++ back)
  pub begins : (front ≡ []) ⊎ EndsIn front 10
  pub one_line : newlines body ≡ 0
  pub line_text : IsLineText body back text
  pub from : length front ≤ offset - 1
  pub until : offset - 1 ≤ length front + length body
  pub line_is : line ≡ newlines front + 1
  pub column_is : column ≡ offset - 1 - length front + 1

-- the line with this number begins at `start`, not after the byte before the offset, and rest is the source from there on
pub record IsLineFrom (source : List ℕ) (offset number start : ℕ) (rest : List ℕ) : Type 0 where
  pub front : List ℕ
  pub parts : source ≡ front ++ rest
  pub long : length front ≡ start
  pub begins : (front ≡ []) ⊎ EndsIn front 10
  pub counted : number ≡ newlines front + 1
  pub below : start ≤ offset - 1

-- only white space comes at that offset of the source and after it
abbrev pub IsEnd : List ℕ → ℕ → Type 0
IsEnd source at = (at ≤ length source) × IsAsciiWhitespaceFrom source at

-- where a source is at fault that is rejected at an offset: there, or where it ends
abbrev pub AtFault : List ℕ → ℕ → Bool → ℕ → Type 0
AtFault source offset false at = at ≡ offset
AtFault source offset true at = IsEnd source at

-- an offset has one place
abbrev pub OnePlace : Type 0
OnePlace = (source : List ℕ) (offset l c m d : ℕ) (s t : List ℕ) → IsPlace source offset l c s → IsPlace source offset m d t → (l ≡ m) × (c ≡ d) × (s ≡ t)

-- the text after as many spaces as bring it to that width
abbrev pub right_aligned : ℕ → List ℕ → List ℕ
right_aligned width text = replicate (width - length text) 32 ++ text

-- the four lines of a parse error, with no newline at the end
abbrev pub shown_refusal : List ℕ → ℕ → ℕ → List ℕ → List ℕ → List ℕ
shown_refusal file line column text message =
    file ++ codes ":" ++ decimal line ++ codes ":" ++ decimal column ++ codes ": " ++ message ++ codes "\n"
    ++ codes "     |" ++ codes "\n"
    ++ right_aligned 4 (decimal line) ++ codes " | " ++ text ++ codes "\n"
    ++ codes "     | " ++ right_aligned column (codes "^")

-- the file name, or `unknown`
abbrev pub file_or_unknown : Option (List ℕ) → List ℕ
file_or_unknown None = codes "unknown"
file_or_unknown (Some file) = file

-- the text shows a parse error at that offset of the source, whose line and column are those numbers
abbrev pub IsRefusalTextAt : Option (List ℕ) → List ℕ → ℕ → ℕ → ℕ → List ℕ → Type 0
IsRefusalTextAt file source offset line column shown =
    (message : List ℕ) × (text : List ℕ) × IsPlace source offset line column text
    × (shown ≡ shown_refusal (file_or_unknown file) line column text message)

-- the text shows a parse error at that offset of the source
abbrev pub IsRefusalText : Option (List ℕ) → List ℕ → ℕ → List ℕ → Type 0
IsRefusalText file source offset shown = (line : ℕ) × (column : ℕ) × IsRefusalTextAt file source offset line column shown

-- the text of a parse error that has no source
abbrev pub direct_text : ℕ → List ℕ → List ℕ
direct_text offset message = shown_refusal (codes "unknown") 1 1 (codes "byte offset " ++ decimal offset) message

-- the text shows a parse error that has no source
abbrev pub IsDirectRefusalText : ℕ → List ℕ → Type 0
IsDirectRefusalText offset shown = (message : List ℕ) × (shown ≡ direct_text offset message)
