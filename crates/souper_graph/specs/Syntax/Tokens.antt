-- Definitions. Tokens by their contents, gaps, and the texts that a list of tokens has. All texts are lists of bytes.
use Rattle.std.specs.Prelude.{◌≡◌, ◌≢◌, ℕ, ◌+◌, ◌<◌, Bool, true, false, ◌||◌, ◌==◌, List, [], ◌∷◌, ◌++◌, length, flat_map, codes}
use Rattle.souper_graph.specs.Names.{is_name_char}
use Rattle.std.specs.List.{AllByRecursion}
use Rattle.std.specs.Char.{encode_utf8, is_whitespace, is_ascii_digit, is_ascii_alphabetic}

-- a token by its content
pub data Lexeme : Type 0 where
  ident : List ℕ → Lexeme
  val_name : List ℕ → Lexeme
  known_bits : List ℕ → Lexeme
  int : List ℕ → Lexeme
  comma : Lexeme
  colon : Lexeme
  equals : Lexeme
  open_paren : Lexeme
  close_paren : Lexeme
  open_bracket : Lexeme

-- `0`, `1` or `x`
abbrev pub is_bit : ℕ → Bool
is_bit c = (c == 48 || c == 49) || c == 120

-- a digit or `-`
abbrev pub begins_int : ℕ → Bool
begins_int c = is_ascii_digit c || c == 45

-- the word that begins a `KnownBits`, and no `Ident`
abbrev pub known_bits_word : List ℕ
known_bits_word = codes "knownBits"

-- how a token is written: 61 is `=`
abbrev pub spelling : Lexeme → List ℕ
spelling (ident s) = s
spelling (val_name s) = s
spelling (known_bits s) = known_bits_word ++ (codes "=" ++ s)
spelling (int s) = s
spelling comma = codes ","
spelling colon = codes ":"
spelling equals = codes "="
spelling open_paren = codes "("
spelling close_paren = codes ")"
spelling open_bracket = codes "["

-- each of the bytes passes
abbrev pub AllAre : (ℕ → Bool) → List ℕ → Type 0
AllAre p s = AllByRecursion (λ c. p c ≡ true) s

-- what a token of each kind may contain: 37 is `%`
abbrev pub IsLexeme : Lexeme → Type 0
IsLexeme (ident []) = ⊥
IsLexeme (ident (c ∷ s)) = (is_ascii_alphabetic c ≡ true) × AllAre is_name_char s × (c ∷ s ≢ known_bits_word)
IsLexeme (val_name []) = ⊥
IsLexeme (val_name (c ∷ s)) = (c ≡ 37) × (0 < length s) × AllAre is_name_char s
IsLexeme (known_bits s) = (0 < length s) × AllAre is_bit s
IsLexeme (int []) = ⊥
IsLexeme (int (c ∷ s)) = (begins_int c ≡ true) × AllAre is_ascii_digit s
IsLexeme t = Unit {0}

-- the character c, right after the token, would be part of it
abbrev pub continues : Lexeme → ℕ → Bool
continues (ident s) c = is_name_char c
continues (val_name s) c = is_name_char c
continues (known_bits s) c = is_bit c
continues (int s) c = is_ascii_digit c
continues t c = false

-- rest is empty, or its first byte fails
abbrev pub Stops : (ℕ → Bool) → List ℕ → Type 0
Stops p [] = Unit {0}
Stops p (c ∷ rest) = p c ≡ false

-- A gap consists of white space characters and of comments, each with the newline after it.
pub data Piece : Type 0 where
  space : ℕ → Piece
  comment : List ℕ → Piece

abbrev pub piece_text : Piece → List ℕ
piece_text (space c) = encode_utf8 c
piece_text (comment s) = codes ";" ++ (s ++ codes "\n")

-- it has no newline
abbrev pub IsOneLine : List ℕ → Type 0
IsOneLine s = AllByRecursion (λ c. (c == 10) ≡ false) s

abbrev pub IsPiece : Piece → Type 0
IsPiece (space c) = is_whitespace c ≡ true
IsPiece (comment s) = IsOneLine s

abbrev pub IsGap : List ℕ → Type 0
IsGap bs = (ps : List Piece) × AllByRecursion IsPiece ps × (bs ≡ flat_map piece_text ps)

-- nothing, or a comment that the text ends in
abbrev pub IsLastComment : List ℕ → Type 0
IsLastComment [] = Unit {0}
IsLastComment (c ∷ s) = (c ≡ 59) × IsOneLine s

-- a gap up to the end of the text
pub record IsLastGap (bs : List ℕ) : Type 0 where
  pub gap : List ℕ
  pub last : List ℕ
  pub is_gap : IsGap gap
  pub is_last : IsLastComment last
  pub text : bs ≡ gap ++ last

-- bs is a gap, the token t, which ends there, and rest
pub record Stands (gap : List ℕ) (t : Lexeme) (rest : List ℕ) (bs : List ℕ) : Type 0 where
  pub is_gap : IsGap gap
  pub is_token : IsLexeme t
  pub is_over : Stops (continues t) rest
  pub text : bs ≡ gap ++ (spelling t ++ rest)

-- bs, which begins at offset n of a text, is a gap and the token t at its offset, and P holds of the bytes after it
pub record BeginsWith (n : ℕ) (t : ℕ × Lexeme) (P : List ℕ → Type 0) (bs : List ℕ) : Type 0 where
  pub gap : List ℕ
  pub after : List ℕ
  pub stands : Stands gap t.1 after bs
  pub offset_is : t.0 ≡ n + length gap
  pub more : P after

-- bs, which begins at offset n of a text, is these tokens at their offsets, each after a gap, and then rest
abbrev pub Begins : ℕ → List ℕ → List (ℕ × Lexeme) → List ℕ → Type 0
Begins n bs [] rest = bs ≡ rest
Begins n bs (t ∷ ts) rest = BeginsWith n t (λ after. Begins (t.0 + length (spelling t.1)) after ts rest) bs

-- the text is these tokens, and a gap up to its end
abbrev pub IsTextOf : List ℕ → List (ℕ × Lexeme) → Type 0
IsTextOf bs ts = (rest : List ℕ) × Begins 0 bs ts rest × IsLastGap rest
