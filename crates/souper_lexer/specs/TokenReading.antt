-- Definitions. Reading of tokens as a function of the bytes.
use Rattle.std.specs.Prelude.{ℕ, zero, suc, ◌+◌, ◌-◌, Bool, true, false, ◌==◌, List, [], ◌∷◌, length, take, drop, if◌then◌else◌, bytes_eq, chars, Option, Some, None}
use Rattle.std.specs.List.{prefix_len}
use Rattle.std.specs.Char.{is_whitespace, len_utf8, is_ascii_digit, is_ascii_alphabetic}
use Rattle.souper_graph.specs.Names.{is_name_char}
use Rattle.souper_graph.specs.Syntax.Tokens.{Lexeme, ident, val_name, known_bits, int, comma, colon, equals, open_paren, close_paren, open_bracket, is_bit, begins_int, known_bits_word, spelling}

-- where a byte of a gap is: in a white space character of which a number of bytes are left (0: between two pieces), or
-- in a comment
pub data Place : Type 0 where
  inside : ℕ → Place
  remark : Place

-- the length in bytes of the white space character that the text begins with, or 0
abbrev pub first_space : List ℕ → ℕ
first_space [] = 0
first_space (c ∷ cs) = if is_whitespace c then len_utf8 c else 0

unfoldable pub space_len : List ℕ → ℕ
space_len bs = first_space (chars bs)

-- the bytes after the longest gap: 59 is `;`, 10 the newline
unfoldable pub after_from : Place → List ℕ → List ℕ
after_from p [] = []
after_from (inside zero) (b ∷ bs) = elim (space_len (b ∷ bs)) [ zero ↦ if b == 59 then after_from remark bs else b ∷ bs | suc k ↦ after_from (inside k) bs ]
after_from (inside (suc k)) (b ∷ bs) = after_from (inside k) bs
after_from remark (b ∷ bs) = if b == 10 then after_from (inside zero) bs else after_from remark bs

abbrev pub after_gap : List ℕ → List ℕ
after_gap bs = after_from (inside 0) bs

-- what a text begins with: nothing, a token with the bytes after it, or neither: then whether the text ends in the word `knownBits`
pub data Front : Type 0 where
  ends : Front
  faulty : Bool → Front
  found : Lexeme → List ℕ → Front

-- a `KnownBits` from the `=` on
unfoldable pub bits_at : List ℕ → Front
bits_at [] = faulty true
bits_at (c ∷ bs) =
    let n = prefix_len is_bit bs in
    if c == 61 then (if n == 0 then faulty false else found (known_bits (take n bs)) (drop n bs)) else faulty false

-- a letter and name characters, s, and then rest
unfoldable pub word_at : List ℕ → List ℕ → Front
word_at s rest = if bytes_eq s known_bits_word then bits_at rest else found (ident s) rest

-- `%` and name characters, s, and then rest
unfoldable pub name_at : List ℕ → List ℕ → Front
name_at s rest = if length s == 1 then faulty false else found (val_name s) rest

-- the first byte of a token and the bytes after it that pass; the rest after them
abbrev pub run_of : (ℕ → Bool) → ℕ → List ℕ → List ℕ
run_of p c bs = c ∷ take (prefix_len p bs) bs

abbrev pub after_run : (ℕ → Bool) → List ℕ → List ℕ
after_run p bs = drop (prefix_len p bs) bs

-- the token of one character
abbrev pub mark_of : ℕ → Option Lexeme
mark_of c =
    if c == 44 then Some comma
    else (if c == 58 then Some colon
    else (if c == 61 then Some equals
    else (if c == 40 then Some open_paren
    else (if c == 41 then Some close_paren
    else (if c == 91 then Some open_bracket
    else None)))))

-- a token of more characters, from its first one on: 37 is `%`
unfoldable pub longer_at : ℕ → List ℕ → Front
longer_at c bs =
    if c == 37 then name_at (run_of is_name_char c bs) (after_run is_name_char bs)
    else (if is_ascii_alphabetic c then word_at (run_of is_name_char c bs) (after_run is_name_char bs)
    else (if begins_int c then found (int (run_of is_ascii_digit c bs)) (after_run is_ascii_digit bs)
    else faulty false))

unfoldable pub front_of : ℕ → List ℕ → Front
front_of c bs = elim (mark_of c) [ Some t ↦ found t bs | None ↦ longer_at c bs ]

abbrev pub token_at : List ℕ → Front
token_at [] = ends
token_at (c ∷ bs) = front_of c bs

-- the first token, after a gap
abbrev pub next_of : List ℕ → Front
next_of bs = token_at (after_gap bs)

-- A text by its tokens with their offsets, whether a fault follows them, and the offset of its end. It is cut if it ends after
-- them, or in the word `knownBits`.
pub record Lexed : Type 0 where
  pub tokens : List (ℕ × Lexeme)
  pub fault : Bool
  pub cut : Bool
  pub len : ℕ

-- the length of a gap in bytes
abbrev pub gap_len : List ℕ → ℕ
gap_len bs = length bs - length (after_gap bs)

-- what follows a token at the given offset
abbrev pub before : ℕ → Lexeme → Lexed → Lexed
before at t more = record { tokens = (at, t) ∷ more.tokens; fault = more.fault; cut = more.cut; len = more.len }

-- of at most this number of tokens: a text bs that begins at offset n
unfoldable pub lexed_within : ℕ → ℕ → List ℕ → Lexed
lexed_within zero n bs = record { tokens = []; fault = true; cut = false; len = n + length bs }
lexed_within (suc k) n bs =
    elim (next_of bs) [
      | ends ↦ record { tokens = []; fault = false; cut = true; len = n + length bs }
      | faulty cut ↦ record { tokens = []; fault = true; cut = cut; len = n + length bs }
      | found t rest ↦ before (n + gap_len bs) t (lexed_within k (n + gap_len bs + length (spelling t)) rest)
    ]

-- the tokens of a text that begins at offset n
unfoldable pub lexed_of : ℕ → List ℕ → Lexed
lexed_of n bs = lexed_within (suc (length bs)) n bs
