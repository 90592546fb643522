-- Definitions. Which tokens begin a statement or one of an item's last lines.
use Rattle.std.specs.Prelude.{◌≡◌, ◌⊎◌, ◌||◌, Bool, true, false, cond, ℕ, ◌≤◌, List, [], ◌∷◌, ◌++◌, length, take, drop, codes, bytes_eq, IsUtf8}
use Rattle.souper_stream.specs.Prelude.{Lexeme, ident, val_name, equals, colon, ItemType, left_hand_side, right_hand_side, replacement, is_name, IsLines}
use Rattle.souper_stream.specs.declared.lines.ScanState.{ScanState}

-- the word begins one of an item's last lines
abbrev pub last_word : List ℕ → Bool
last_word w = bytes_eq w (codes "infer") || (bytes_eq w (codes "result") || bytes_eq w (codes "cand"))

-- the word begins a path condition, or one of an item's last lines
abbrev pub line_word : List ℕ → Bool
line_word w = last_word w || (bytes_eq w (codes "pc") || bytes_eq w (codes "blockpc"))

-- the word begins the line that an item of the type ends with
abbrev pub begins_terminator : ItemType → List ℕ → Bool
begins_terminator left_hand_side w = bytes_eq w (codes "infer")
begins_terminator right_hand_side w = bytes_eq w (codes "result")
begins_terminator replacement w = bytes_eq w (codes "result") || bytes_eq w (codes "cand")

-- the token is a word that begins the line that an item of the type ends with
abbrev pub token_begins_terminator : ItemType → Lexeme → Bool
token_begins_terminator k (ident w) = begins_terminator k w
token_begins_terminator k _ = false

-- what follows a name that is defined: its type, or the equals sign
abbrev pub defines : List Lexeme → Bool
defines (equals ∷ ts) = true
defines (colon ∷ ts) = true
defines _ = false

-- the tokens begin with a statement, or with one of an item's last lines
abbrev pub starts_line : List Lexeme → Bool
starts_line (ident w ∷ ts) = line_word w
starts_line (val_name n ∷ ts) = defines ts
starts_line _ = false

-- at none of these tokens does a statement or one of an item's last lines begin
abbrev pub NoStart : List Lexeme → Type 0
NoStart [] = Unit {0}
NoStart (t ∷ ts) = (starts_line (t ∷ ts) ≡ false) × NoStart ts

-- of the statements and last lines that begin in the tokens, the last is a line that an item of the type ends with
pub record LastEnds (k : ItemType) (ts : List Lexeme) : Type 0 where
  pub before : List Lexeme
  pub word : List ℕ
  pub after : List Lexeme
  pub whole : ts ≡ before ++ ident word ∷ after
  pub ends : begins_terminator k word ≡ true
  pub quiet : NoStart after

-- the token shows that a line begins: it is the word of one, or it defines the name before it, if there is one
abbrev pub shows_line : Bool → Lexeme → Bool
shows_line named (ident w) = line_word w
shows_line named equals = named
shows_line named colon = named
shows_line named _ = false

-- ---- The next three definitions are the code's, step by step. The promises are in `LastEnds` and `starts_line` alone, and a proof joins
-- the two.

-- the scanner state after no tokens
abbrev pub first_state : ScanState
first_state = record { after_name = false; ends_item = false }

-- the state after one token more
abbrev pub state_after : ItemType → ScanState → Lexeme → ScanState
state_after k s t = record { after_name = is_name t; ends_item = cond (shows_line s.after_name t) (token_begins_terminator k t) s.ends_item }

-- the state after more tokens
abbrev pub scanned : ItemType → ScanState → List Lexeme → ScanState
scanned k s [] = s
scanned k s (t ∷ ts) = scanned k (state_after k s t) ts

-- the word is nowhere in the bytes
abbrev pub IsAbsent : List ℕ → List ℕ → Type 0
IsAbsent w bs = (front back : List ℕ) → bs ≡ front ++ (w ++ back) → ⊥

-- no word that an item of the type ends with is in the bytes
abbrev pub NoTerminatorWord : ItemType → List ℕ → Type 0
NoTerminatorWord k bs = (w : List ℕ) → begins_terminator k w ≡ true → IsAbsent w bs

-- the first `len` bytes are whole lines of UTF-8 without such a word
pub record IsWithoutEnd (k : ItemType) (bytes : List ℕ) (len : ℕ) : Type 0 where
  pub within : len ≤ length bytes
  pub lines : IsLines (take len bytes)
  pub utf8 : IsUtf8 (take len bytes)
  pub none : NoTerminatorWord k (take len bytes)

-- such lines were passed over, if no item ends before them
abbrev pub PassesOver : ItemType → ScanState → List ℕ → List ℕ → Type 0
PassesOver k s bytes rest = (rest ≡ bytes) ⊎ ((s.ends_item ≡ false) × (len : ℕ) × (rest ≡ drop len bytes) × IsWithoutEnd k bytes len)
