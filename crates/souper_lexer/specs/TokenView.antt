-- Definitions. What contracts see of the code's tokens.
use Rattle.std.specs.Prelude.{◌≡◌, ℕ, ◌<◌, Bool, true, false, List, [], ◌∷◌, ◌++◌, ◌⊎◌, Option, Some, None, Result, Ok, Err}
use Rattle.std.specs.Char.{is_ascii_digit}
use denote.Ref.{Bor}
use Rattle.souper_lexer.specs.declared.Token.{Token}
use Rattle.souper_lexer.specs.declared.Token.TheVariants.{Ident, ValName, KnownBits, Int, Comma, Colon, Eq, OpenParen, CloseParen, OpenBracket}
use Rattle.souper_lexer.specs.declared.Class.{Class}
use Rattle.souper_lexer.specs.declared.Class.TheVariants as classes
use Rattle.souper_lexer.specs.declared.Fault.{Fault}
use Rattle.souper_lexer.specs.declared.FaultKind.{FaultKind}
use Rattle.souper_lexer.specs.declared.FaultKind.TheVariants.{UnexpectedEnd}
use Rattle.souper_graph.specs.Names.{is_name_char}
use Rattle.souper_graph.specs.Syntax.Tokens.{Lexeme, ident, val_name, known_bits, int, comma, colon, equals, open_paren, close_paren, open_bracket, is_bit, known_bits_word, IsGap, IsLastGap, Begins}
use Rattle.souper_lexer.specs.TokenReading.{Front, faulty, found, Lexed}

-- the token by its content
abbrev pub lexeme_of : Token → Lexeme
lexeme_of (Ident s) = ident s.now
lexeme_of (ValName s) = val_name s.now
lexeme_of (KnownBits s) = known_bits s.now
lexeme_of (Int s) = int s.now
lexeme_of Comma = comma
lexeme_of Colon = colon
lexeme_of Eq = equals
lexeme_of OpenParen = open_paren
lexeme_of CloseParen = close_paren
lexeme_of OpenBracket = open_bracket

abbrev pub is_in : Class → ℕ → Bool
is_in classes.Name c = is_name_char c
is_in classes.Digit c = is_ascii_digit c
is_in classes.Bit c = is_bit c

-- whether the text ended
abbrev pub is_end : FaultKind → Bool
is_end UnexpectedEnd = true
is_end _ = false

-- the function returned what the text begins with
abbrev pub Reads : Result (Token × Bor (List ℕ)) Fault → Front → Type 0
Reads (Ok x) front = front ≡ found (lexeme_of x.0) x.1.now
Reads (Err f) front = front ≡ faulty (is_end f.kind)

-- the text is a gap and the word `knownBits`
abbrev pub EndsInWord : List ℕ → Type 0
EndsInWord bs = (gap : List ℕ) × IsGap gap × (bs ≡ gap ++ known_bits_word)

-- these are the tokens of the text: it is cut if and only if it ends after them, or in the word `knownBits`
pub record IsCut (source : List ℕ) (tokens : List (ℕ × Lexeme)) (fault cut : Bool) : Type 0 where
  pub rest : List ℕ
  pub front : Begins 0 source tokens rest
  pub ended : cut ≡ true → IsLastGap rest ⊎ EndsInWord rest
  pub sound : fault ≡ false → cut ≡ true
  pub in_word : EndsInWord rest → cut ≡ true

-- the token at this offset was taken
abbrev pub Takes : Lexed → ℕ → Lexeme → Lexed → Type 0
Takes old o t new = (old.tokens ≡ (o, t) ∷ new.tokens) × (old.fault ≡ new.fault) × (old.cut ≡ new.cut) × (old.len ≡ new.len) × (o < old.len)

-- the next token is one of these
abbrev pub BeginsWith : (Lexeme → Type 0) → Lexed → Type 0
BeginsWith Is l = (o : ℕ) × (t : Lexeme) × (more : List (ℕ × Lexeme)) × (l.tokens ≡ (o, t) ∷ more) × Is t

-- what a call of `next_token` on old returns: its first token, or that there is none, or that there is a fault
abbrev pub Yields : Lexed → Result (Option (ℕ × Token)) Fault → Lexed → Type 0
Yields old (Ok (Some x)) new = Takes old x.0 (lexeme_of x.1) new
Yields old (Ok None) new = (old.tokens ≡ []) × (old.fault ≡ false) × (old.cut ≡ true) × (new ≡ old)
Yields old (Err f) new = (old.tokens ≡ []) × (old.fault ≡ true) × (old.cut ≡ is_end f.kind) × (new ≡ old)

-- the same, with the token in a place of its own
abbrev pub Lexes : Lexed → Result (Unit {0}) Fault → Option (ℕ × Token) → Lexed → Type 0
Lexes old (Ok u) ahead new = Yields old (Ok ahead) new
Lexes old (Err f) ahead new = Yields old (Err f) new
