-- Lemmas. Steps of a reading: what they took, and what comes next.
use Rattle.std.proofs.Common.{◌≡◌, ℕ, List, [], ◌∷◌, ◌++◌, Option, Some, None, Bool, Result, Ok, Err, refl, sym, ◌∙◌, ap, append_assoc}
use Rattle.souper_ir.specs.Parsing.{Parsing}
use Rattle.souper_ir.specs.Reading.{◌>>=◌, looked_up}
use Rattle.souper_graph.specs.Syntax.Tokens.{Lexeme}
use Rattle.souper_graph.specs.Syntax.Spelling.{kinds}
use Rattle.souper_graph.specs.Syntax.Optional.{◌>>=◌ as ◌>>?◌}

-- the tokens were taken, and nothing else changed
pub record TakesTokens (p q : Parsing) (used : List Lexeme) : Type 0 where
  pub places : List (ℕ × Lexeme)
  pub parts : p.tokens ≡ places ++ q.tokens
  pub kinds_are : kinds places ≡ used
  pub state : q ≡ record p { tokens = q.tokens }

pub kinds-append : (a b : List (ℕ × Lexeme)) → kinds (a ++ b) ≡ kinds a ++ kinds b
kinds-append [] b = refl
kinds-append (t ∷ a) b = ap (λ (x : List Lexeme). t.1 ∷ x) (kinds-append a b)

-- the parser after two steps
pub state_then : (p q r : Parsing) → q ≡ record p { tokens = q.tokens } → r ≡ record q { tokens = r.tokens } → r ≡ record p { tokens = r.tokens }
state_then p q r e f = f ∙ ap (λ (x : Parsing). record x { tokens = r.tokens }) e

pub Takes-then : (p q r : Parsing) (a b : List Lexeme) → TakesTokens p q a → TakesTokens q r b → TakesTokens p r (a ++ b)
Takes-then p q r a b m n = record {
  places = m.places ++ n.places;
  parts = m.parts ∙ ap (λ (x : List (ℕ × Lexeme)). m.places ++ x) n.parts ∙ sym (append_assoc m.places n.places r.tokens);
  kinds_are = kinds-append m.places n.places ∙ ap (λ (x : List Lexeme). x ++ kinds n.places) m.kinds_are ∙ ap (λ (x : List Lexeme). a ++ x) n.kinds_are;
  state = state_then p q r m.state n.state;
}

pub Takes-none : (p : Parsing) → TakesTokens p p []
Takes-none p = record { places = []; parts = refl; kinds_are = refl; state = refl }

-- what was next
pub taken_ahead : (p q : Parsing) (used : List Lexeme) → TakesTokens p q used → kinds p.tokens ≡ used ++ kinds q.tokens
taken_ahead p q used h = ap kinds h.parts ∙ kinds-append h.places q.tokens ∙ ap (λ (x : List Lexeme). x ++ kinds q.tokens) h.kinds_are

-- these tokens come next
pub record At (p : Parsing) (ts : List Lexeme) : Type 0 where
  pub kinds_are : kinds p.tokens ≡ ts
  pub live : p.failed ≡ None

-- the value of a step that was read
pub bind_ok : {A B : Type 0} (r : Result A Bool) (f : A → Result B Bool) (y : B) → (r >>= f) ≡ Ok y → (x : A) × (r ≡ Ok x) × (f x ≡ Ok y)
bind_ok (Ok x) f y e = (x, refl, e)
bind_ok (Err b) f y e = absurd cc

-- the value that was looked up
pub up_ok : {A B : Type 0} (o : Option A) (f : A → Result B Bool) (y : B) → (looked_up o >>= f) ≡ Ok y → (x : A) × (o ≡ Some x) × (f x ≡ Ok y)
up_ok (Some x) f y e = (x, refl, e)
up_ok None f y e = absurd cc

-- the value of a step that did not fail
pub bind_some : {A B : Type 0} (o : Option A) (f : A → Option B) (y : B) → (o >>? f) ≡ Some y → (x : A) × (o ≡ Some x) × (f x ≡ Some y)
bind_some (Some x) f y e = (x, refl, e)
bind_some None f y e = absurd cc
