-- Definitions. The tokens of any text, and what the laws of tokens say.
use Rattle.std.specs.Prelude.{◌≡◌, ◌↔◌, ℕ, ◌+◌, ◌-◌, Bool, true, false, List, [], ◌∷◌, ◌++◌, length, take, drop, Contains}
use Rattle.std.specs.List.{AllByRecursion}
use Rattle.std.specs.Char.{is_whitespace}
use Rattle.souper_graph.specs.Syntax.Tokens.{Lexeme, spelling, continues, Stops, IsGap, IsLastGap, Begins, IsTextOf}

-- The tokens of any text: they are a prefix of it, every list of tokens that is a prefix of it is a prefix of them, and
-- a fault follows if and only if the rest is no gap.
pub record AreTokensOf (bs : List ℕ) (ts : List (ℕ × Lexeme)) (fault : Bool) : Type 0 where
  pub rest : List ℕ
  pub front : Begins 0 bs ts rest
  pub longest : (us : List (ℕ × Lexeme)) (other : List ℕ) → Begins 0 bs us other → (more : List (ℕ × Lexeme)) × (us ++ more ≡ ts)
  pub ended : fault ≡ false → IsLastGap rest
  pub faulty : fault ≡ true → IsLastGap rest → ⊥

-- the white space characters: tab to carriage return, the space, and 18 more
abbrev pub white_space : List ℕ
white_space =
    0x09 ∷ 0x0a ∷ 0x0b ∷ 0x0c ∷ 0x0d ∷ 0x20 ∷ 0x85 ∷ 0xa0 ∷ 0x1680
    ∷ 0x2000 ∷ 0x2001 ∷ 0x2002 ∷ 0x2003 ∷ 0x2004 ∷ 0x2005 ∷ 0x2006 ∷ 0x2007 ∷ 0x2008 ∷ 0x2009 ∷ 0x200a
    ∷ 0x2028 ∷ 0x2029 ∷ 0x202f ∷ 0x205f ∷ 0x3000 ∷ []

-- std's test of white space passes these and no others
abbrev pub IsWhiteSpaceListed : Type 0
IsWhiteSpaceListed = (c : ℕ) → (is_whitespace c ≡ true) ↔ Contains white_space c

-- a text has at most one list of tokens
abbrev pub OneReading : Type 0
OneReading = (bs : List ℕ) (ts us : List (ℕ × Lexeme)) → IsTextOf bs ts → IsTextOf bs us → ts ≡ us

-- the token is the slice of the text at its offset
abbrev pub StandsAt : List ℕ → ℕ × Lexeme → Type 0
StandsAt bs t = take (length (spelling t.1)) (drop t.0 bs) ≡ spelling t.1

-- each token of a prefix of a text is the slice at its offset
abbrev pub EachInText : Type 0
EachInText = (bs : List ℕ) (ts : List (ℕ × Lexeme)) (rest : List ℕ) → Begins 0 bs ts rest → AllByRecursion (StandsAt bs) ts

-- a gap that is not empty ends each token
abbrev pub GapEndsToken : Type 0
GapEndsToken = (t : Lexeme) (gap body : List ℕ) → IsGap gap → (length gap ≡ 0 → Stops (continues t) body) → Stops (continues t) (gap ++ body)

-- a prefix of tokens, and after it another, are together a prefix
abbrev pub FrontsJoin : Type 0
FrontsJoin = (ts us : List (ℕ × Lexeme)) (n : ℕ) (bs mid rest : List ℕ) → Begins n bs ts mid → Begins (n + (length bs - length mid)) mid us rest → Begins n bs (ts ++ us) rest
