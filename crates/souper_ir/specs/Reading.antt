-- Definitions, and two lemmas on them. Reading from left to right: a value and the parser after it, or whether the text ended
-- where a token is wanted.
use Rattle.std.specs.Prelude.{◌≡◌, ℕ, ◌≤◌, ◌≢◌, Bool, true, false, List, [], ◌∷◌, Option, Some, None, Result, Ok, Err, option_map, IsSomeAnd}
use Rattle.std.proofs.Common.{◌∙◌}
use Rattle.souper_errors.specs.declared.error.ParseErrorKind.{ParseErrorKind}
use Rattle.souper_errors.specs.declared.error.ParseErrorKind.TheVariants.{Io, Parse, Memory}
use Rattle.souper_errors.specs.declared.error.ParseError.{ParseError}
use Rattle.souper_errors.specs.Errors.{kind_of, offset_of, at_end_of, shown_error}
use Rattle.souper_errors.specs.Places.{IsDirectRefusalText}
use Rattle.souper_graph.specs.Syntax.Tokens.{Lexeme}
use Rattle.souper_ir.specs.Parsing.{Cause, refused, no_memory, Parsing}

abbrev pub cause_by : ParseErrorKind → Option ℕ → Option Cause
cause_by Io o = None
cause_by Parse o = option_map refused o
cause_by Memory o = Some no_memory

-- the cause of an error, unless it is an I/O error
abbrev pub cause_of : ParseError → Option Cause
cause_of e = cause_by (kind_of e) (offset_of e)

-- The error leaves the parser failed by its cause, which is no I/O error. A parser that had failed fails by the same
-- cause again, or with out of memory. The offset of a parse error is within the text, and it shows that offset and some
-- message. If it says that the text ended, all tokens were taken.
pub record Fails (e : ParseError) (old new : Parsing) : Type 0 where
  pub stays : new.failed ≡ cause_of e
  pub caused : cause_of e ≢ None
  pub again : (c : Cause) → old.failed ≡ Some c → cause_of e ≢ Some no_memory → cause_of e ≡ Some c
  pub within : (o : ℕ) → cause_of e ≡ Some (refused o) → o ≤ new.len
  pub shown : (o : ℕ) → cause_of e ≡ Some (refused o) → IsSomeAnd (shown_error e) (IsDirectRefusalText o)
  pub ended : at_end_of e ≡ true → new.tokens ≡ []
  pub len : new.len ≡ old.len

-- the error is out of memory, which is no end of the text, and leaves the parser failed by it
abbrev pub FailsForMemory : ParseError → Parsing → Parsing → Type 0
FailsForMemory e old new = (cause_of e ≡ Some no_memory) × Fails e old new × (at_end_of e ≡ false)

-- the fact, if the parser rejected the text
abbrev pub IfRefused : Option Cause → Type 0 → Type 0
IfRefused (Some (refused o)) fact = fact
IfRefused (Some no_memory) fact = Unit {0}
IfRefused None fact = Unit {0}

pub if_refused : {P Q : Type 0} (f : Option Cause) → (P → Q) → IfRefused f P → IfRefused f Q
if_refused (Some (refused o)) g h = g h
if_refused (Some no_memory) g h = tt
if_refused None g h = tt

-- what a reading returns: a value and the parser after it, or, if there is none, whether the text ended where a token is wanted
abbrev pub Reads : Type 0 → Type 0
Reads Y = Result (Y × Parsing) Bool

-- readings in sequence
infixl 10 ◌>>=◌
abbrev pub ◌>>=◌ : {A B : Type 0} → Result A Bool → (A → Result B Bool) → Result B Bool
(Ok x) >>= f = f x
(Err ended) >>= f = Err ended

-- a value that does not come from the tokens, if there is one
abbrev pub looked_up : {A : Type 0} → Option A → Result A Bool
looked_up (Some a) = Ok a
looked_up None = Err false

-- the reading returns the value, and the parser resumes after it
abbrev pub IsRead : {Y : Type 0} → Reads Y → Y → Parsing → Parsing → Type 0
IsRead read y old new = (read ≡ Ok (y, new)) × (old.failed ≡ None) × (new.failed ≡ None) × (new.len ≡ old.len)

-- What a function returned, seen by view, is what reading returns, unless memory ran out: the error says that the text ended if
-- and only if the reading does.
abbrev pub Gives : {X Y : Type 0} → (X → Y) → Result X ParseError → Reads Y → Parsing → Parsing → Type 0
Gives view (Ok x) read old new = IsRead read (view x) old new
Gives view (Err e) read old new = IfRefused (cause_of e) (read ≡ Err (at_end_of e)) × Fails e old new

-- the next token, or None at the end
abbrev pub look_in : Option Cause → Bool → Bool → List (ℕ × Lexeme) → Result (Option Lexeme) Bool
look_in (Some c) faulty cut ts = Err false
look_in None faulty cut (t ∷ ts) = Ok (Some t.1)
look_in None true cut [] = Err cut
look_in None false cut [] = Ok None

unfoldable pub look_at : Parsing → Reads (Option Lexeme)
look_at p = look_in p.failed p.faulty p.cut p.tokens >>= λ t. Ok (t, p)

-- the next token, taken
abbrev pub take_in : Option Cause → Bool → List (ℕ × Lexeme) → Result (Lexeme × List (ℕ × Lexeme)) Bool
take_in (Some c) cut ts = Err false
take_in None cut [] = Err cut
take_in None cut (t ∷ ts) = Ok (t.1, ts)

unfoldable pub take_at : Parsing → Reads Lexeme
take_at p = take_in p.failed p.cut p.tokens >>= λ t. Ok (t.0, record p { tokens = t.1 })

-- a parse error after steps that changed neither the cause nor the length
pub fails_later : (e : ParseError) (p q r : Parsing) → q.failed ≡ p.failed → q.len ≡ p.len → Fails e q r → Fails e p r
fails_later e p q r f l h = record {
  stays = h.stays;
  caused = h.caused;
  again = λ c x. h.again c (f ∙ x);
  within = h.within;
  shown = h.shown;
  ended = h.ended;
  len = h.len ∙ l;
}
