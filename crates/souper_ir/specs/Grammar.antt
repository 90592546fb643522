-- Definitions. What it is to parse a value, whatever the value is.
use Rattle.std.specs.Prelude.{◌≡◌, ℕ, Bool, true, false, List, [], ◌∷◌, ◌++◌, Option, Some, None, Ok, ◌⊎◌}
use Rattle.souper_errors.specs.declared.error.ParseError.{ParseError}
use Rattle.souper_ir.specs.Parsing.{Parsing}
use Rattle.souper_graph.specs.Syntax.Tokens.{Lexeme}
use Rattle.souper_graph.specs.Syntax.Spelling.{kinds, Scope}
use Rattle.souper_ir.specs.Reading.{Reads, ◌>>=◌, cause_of, IfRefused, Fails, IsRead, look_at}

-- the next token does not go on, if there is one
abbrev pub Free : (Lexeme → Type 0) → List Lexeme → Type 0
Free goes_on [] = Unit {0}
Free goes_on (t ∷ ts) = ¬ goes_on t

-- the next token does not go on, or the text ends without a fault
abbrev pub NextStops : (Lexeme → Type 0) → Bool → List Lexeme → Type 0
NextStops goes_on faulty [] = faulty ≡ false
NextStops goes_on faulty (t ∷ ts) = ¬ goes_on t

-- the next token starts a value
abbrev pub Starts : (Lexeme → Bool) → List Lexeme → Type 0
Starts starts [] = ⊥
Starts starts (t ∷ ts) = starts t ≡ true

-- the tokens taken spell the value, and the next does not continue it
pub record Took {V : Type 0} (spells : Scope → V → List Lexeme → Type 0) (continues : V → Lexeme → Type 0) (leaves : Scope → Scope) (v : V) (old new : Parsing) : Type 0 where
  pub used : List (ℕ × Lexeme)
  pub parts : old.tokens ≡ used ++ new.tokens
  pub spelled : spells old.scope v (kinds used)
  pub free : Free (continues v) (kinds new.tokens)
  pub live : old.failed ≡ None
  pub state : new ≡ record old { tokens = new.tokens; scope = leaves old.scope }

-- no prefix of these tokens spells a value so that a token which does not continue it, or the end of the text, follows
abbrev pub NoFrontOf : {V : Type 0} → (V → List Lexeme → Type 0) → (V → Lexeme → Type 0) → Bool → List Lexeme → Type 0
NoFrontOf {V} spells continues faulty ts = (v : V) (front rest : List Lexeme) → ts ≡ front ++ rest → spells v front → NextStops (continues v) faulty rest → ⊥

-- no prefix of the remaining tokens
abbrev pub NoFront : {V : Type 0} → (Scope → V → List Lexeme → Type 0) → (V → Lexeme → Type 0) → Parsing → Type 0
NoFront spells continues p = NoFrontOf (spells p.scope) continues p.faulty (kinds p.tokens)

-- a parser that had not failed rejects only if nothing is spelled
pub record Refusal {V : Type 0} (spells : Scope → V → List Lexeme → Type 0) (continues : V → Lexeme → Type 0) (e : ParseError) (old new : Parsing) : Type 0 where
  pub failed : Fails e old new
  pub nothing : IfRefused (cause_of e) (old.failed ≡ None → NoFront spells continues old)

-- what a peek returns
abbrev pub starts_next : (Lexeme → Bool) → Option Lexeme → Bool
starts_next starts None = false
starts_next starts (Some t) = starts t

unfoldable pub peek_at : (Lexeme → Bool) → Parsing → Reads Bool
peek_at starts p = look_at p >>= λ t. Ok (starts_next starts t.0, t.1)

-- the next token is one of these
abbrev pub Comes : (Lexeme → Type 0) → Parsing → Type 0
Comes Is p = (t : Lexeme) × IsRead (look_at p) (Some t) p p × Is t

-- ---- lists of values

-- P holds of a prefix of the tokens, Q of the rest, and the rest begins with no token that continues the prefix
pub record Followed (P : List Lexeme → Type 0) (goes_on : Lexeme → Type 0) (Q : List Lexeme → Type 0) (ts : List Lexeme) : Type 0 where
  pub prefix : List Lexeme
  pub suffix : List Lexeme
  pub whole : ts ≡ prefix ++ suffix
  pub first : P prefix
  pub free : Free goes_on suffix
  pub second : Q suffix

-- a spelling of each member in sequence, none continued by the next
abbrev pub Members : {V : Type 0} → (V → List Lexeme → Type 0) → (V → Lexeme → Type 0) → List V → List Lexeme → Type 0
Members spells continues [] ts = ts ≡ []
Members spells continues (v ∷ vs) ts = Followed (spells v) (continues v) (Members spells continues vs) ts

-- the last member is continued
abbrev pub LastGoesOn : {V : Type 0} → (V → Lexeme → Type 0) → List V → Lexeme → Type 0
LastGoesOn continues [] t = ⊥
LastGoesOn continues (v ∷ []) t = continues v t
LastGoesOn continues (v ∷ (w ∷ vs)) t = LastGoesOn continues (w ∷ vs) t

abbrev pub ListGoesOn : {V : Type 0} → (V → Lexeme → Type 0) → (Lexeme → Bool) → List V → Lexeme → Type 0
ListGoesOn continues starts vs t = (starts t ≡ true) ⊎ LastGoesOn continues vs t

-- the tokens taken spell the members, and the next does not continue the last
pub record TookAll {V : Type 0} (spells : Scope → List V → List Lexeme → Type 0) (continues : V → Lexeme → Type 0) (leaves : Scope → List V → Scope) (vs : List V) (old new : Parsing) : Type 0 where
  pub used : List (ℕ × Lexeme)
  pub parts : old.tokens ≡ used ++ new.tokens
  pub spelled : spells old.scope vs (kinds used)
  pub free : Free (λ t. LastGoesOn continues vs t) (kinds new.tokens)
  pub state : new ≡ record old { tokens = new.tokens; scope = leaves old.scope vs }

-- a fault comes, or a token that starts a value though none is spelled
abbrev pub NoneStarted : {V : Type 0} → (V → List Lexeme → Type 0) → (V → Lexeme → Type 0) → (Lexeme → Bool) → Bool → List Lexeme → Type 0
NoneStarted spells continues starts faulty ts = ((ts ≡ []) × (faulty ≡ true)) ⊎ (Starts starts ts × NoFrontOf spells continues faulty ts)

-- members, and then what next says of them and of the tokens that are left
pub record StuckAt {V : Type 0} (spells : List V → List Lexeme → Type 0) (continues : V → Lexeme → Type 0) (next : List V → List Lexeme → Type 0) (ts : List Lexeme) : Type 0 where
  pub members : List V
  pub front : List Lexeme
  pub rest : List Lexeme
  pub parts : ts ≡ front ++ rest
  pub spelled : spells members front
  pub free : Free (λ t. LastGoesOn continues members t) rest
  pub stuck : next members rest

-- members, and then a fault, or a token that starts one more though none is spelled
abbrev pub Stuck : {V : Type 0} → (V → List Lexeme → Type 0) → (V → Lexeme → Type 0) → (Lexeme → Bool) → Bool → List Lexeme → Type 0
Stuck spells continues starts faulty ts = StuckAt (Members spells continues) continues (λ vs rest. NoneStarted spells continues starts faulty rest) ts

-- ---- a value or none

abbrev pub OptionSpells : {V : Type 0} → (V → List Lexeme → Type 0) → Option V → List Lexeme → Type 0
OptionSpells spells None ts = ts ≡ []
OptionSpells spells (Some v) ts = spells v ts

abbrev pub OptionGoesOn : {V : Type 0} → (V → Lexeme → Type 0) → (Lexeme → Bool) → Option V → Lexeme → Type 0
OptionGoesOn continues starts None t = starts t ≡ true
OptionGoesOn continues starts (Some v) t = continues v t
