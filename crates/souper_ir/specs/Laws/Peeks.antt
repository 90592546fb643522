-- Lemmas. What a peek returns.
use Rattle.std.proofs.Common.{◌≡◌, ℕ, Bool, true, false, List, [], ◌∷◌, ◌++◌, Option, Some, None, Result, Ok, Err, refl, sym, ◌∙◌, ap, subst}
use Rattle.souper_ir.specs.Parsing.{Cause, Parsing}
use Rattle.souper_graph.specs.Syntax.Tokens.{Lexeme}
use Rattle.souper_graph.specs.Syntax.Spelling.{kinds, Scope}
use Rattle.souper_ir.specs.Reading.{Reads, ◌>>=◌, IfRefused, if_refused, look_in, look_at}
use Rattle.souper_ir.specs.Grammar.{NextStops, Starts, NoFront, starts_next, peek_at}

-- a start comes, or none, and no fault
abbrev pub Answers : (Lexeme → Bool) → Bool → Bool → List Lexeme → Type 0
Answers starts true faulty ts = Starts starts ts
Answers starts false faulty ts = NextStops (λ t. starts t ≡ true) faulty ts

-- the first token decides
pub decided : (starts : Lexeme → Bool) (b faulty : Bool) (t : Lexeme) (ts : List Lexeme) → starts t ≡ b → Answers starts b faulty (t ∷ ts)
decided starts true faulty t ts e = e
decided starts false faulty t ts e = λ y. let bad : true ≡ false = sym y ∙ e in absurd cc

if_not : (b : Bool) → ¬ (b ≡ true) → b ≡ false
if_not true h = absurd (h refl)
if_not false h = refl

pub some_is : {A : Type 0} {x y : A} → Some x ≡ Some y → x ≡ y
some_is e = cc

pub ok_is : {A : Type 0} {x y : A} → ◌≡◌ {A = Result A Bool} (Ok x) (Ok y) → x ≡ y
ok_is e = cc

abbrev pub answer : (Lexeme → Bool) → Parsing → Result (Option Lexeme) Bool → Reads Bool
answer starts p seen =
    let look : Reads (Option Lexeme) = seen >>= λ t. Ok (t, p) in
    look >>= λ t. Ok (starts_next starts t.0, t.1)

peeked_in : (starts : Lexeme → Bool) (p q : Parsing) (b : Bool) (failed : Option Cause) (faulty cut : Bool) (ts : List (ℕ × Lexeme))
    → answer starts p (look_in failed faulty cut ts) ≡ Ok (b, q)
    → (q ≡ p) × (failed ≡ None) × Answers starts b faulty (kinds ts)
peeked_in starts p q b None faulty cut (t ∷ ts) e =
    let same : ◌≡◌ {A = Bool × Parsing} (starts t.1, p) (b, q) = ok_is e in
    (ap (λ (x : Bool × Parsing). x.1) (sym same), refl, decided starts b faulty t.1 (kinds ts) (ap (λ (x : Bool × Parsing). x.0) same))
peeked_in starts p q b None false cut [] e =
    let same : ◌≡◌ {A = Bool × Parsing} (false, p) (b, q) = ok_is e in
    (ap (λ (x : Bool × Parsing). x.1) (sym same), refl, subst (λ (x : Bool). Answers starts x false []) (ap (λ (x : Bool × Parsing). x.0) same) refl)
peeked_in starts p q b _ _ cut _ e = absurd cc

pub peeked : (starts : Lexeme → Bool) (p q : Parsing) (b : Bool) → peek_at starts p ≡ Ok (b, q) → (q ≡ p) × (p.failed ≡ None) × Answers starts b p.faulty (kinds p.tokens)
unfolding peek_at look_at
peeked starts p q b e = peeked_in starts p q b p.failed p.faulty p.cut p.tokens e

answered_in : (starts : Lexeme → Bool) (p : Parsing) (b : Bool) (failed : Option Cause) (faulty cut : Bool) (ts : List (ℕ × Lexeme)) → failed ≡ None → Answers starts b faulty (kinds ts) → answer starts p (look_in failed faulty cut ts) ≡ Ok (b, p)
answered_in starts p true None faulty cut (t ∷ ts) live h = ap (λ (x : Bool). Ok (x, p)) h
answered_in starts p true None faulty cut [] live h = absurd h
answered_in starts p false None faulty cut (t ∷ ts) live h = ap (λ (x : Bool). Ok (x, p)) (if_not (starts t.1) h)
answered_in starts p false None true cut [] live h = let bad : true ≡ false = h in absurd cc
answered_in starts p false None false cut [] live h = refl
answered_in starts p b _ faulty cut ts live h = absurd cc

pub answered : (starts : Lexeme → Bool) (p : Parsing) (b : Bool) → p.failed ≡ None → Answers starts b p.faulty (kinds p.tokens) → peek_at starts p ≡ Ok (b, p)
unfolding peek_at look_at
answered starts p b live h = answered_in starts p b p.failed p.faulty p.cut p.tokens live h

pub peeked_yes : (starts : Lexeme → Bool) (faulty : Bool) (ts : List (ℕ × Lexeme)) → Answers starts true faulty (kinds ts) → Starts starts (kinds ts)
peeked_yes starts faulty ts h = h

pub peeked_no : (starts : Lexeme → Bool) (faulty : Bool) (ts : List (ℕ × Lexeme)) → Answers starts false faulty (kinds ts) → NextStops (λ t. starts t ≡ true) faulty (kinds ts)
peeked_no starts faulty ts h = h

unread_in : (starts : Lexeme → Bool) (p : Parsing) (failed : Option Cause) (faulty cut ended : Bool) (ts : List (ℕ × Lexeme))
    → answer starts p (look_in failed faulty cut ts) ≡ Err ended
    → failed ≡ None → (kinds ts ≡ []) × (faulty ≡ true)
unread_in starts p None true cut ended [] e live = (refl, refl)
unread_in starts p None false cut ended [] e live = absurd cc
unread_in starts p _ _ cut ended _ e live = absurd cc

-- a peek is rejected at a fault alone
pub unread : (starts : Lexeme → Bool) (p : Parsing) (ended : Bool) → peek_at starts p ≡ Err ended → p.failed ≡ None → (kinds p.tokens ≡ []) × (p.faulty ≡ true)
unfolding peek_at look_at
unread starts p ended e live = unread_in starts p p.failed p.faulty p.cut ended p.tokens e live

-- at a fault nothing is spelled
fault_after : (goes_on : Lexeme → Type 0) (faulty : Bool) (front rest : List Lexeme) → [] ≡ front ++ rest → faulty ≡ true → NextStops goes_on faulty rest → ⊥
fault_after goes_on faulty [] [] e f h = absurd cc
fault_after goes_on faulty _ _ e f h = absurd cc

pub none_at_fault : {V : Type 0} (spells : Scope → V → List Lexeme → Type 0) (continues : V → Lexeme → Type 0) (p : Parsing) → (kinds p.tokens ≡ []) × (p.faulty ≡ true) → NoFront spells continues p
none_at_fault spells continues p h v front rest e s st = fault_after (continues v) p.faulty front rest (sym h.0 ∙ e) h.1 st

pub none_if_unread : {V : Type 0} (spells : Scope → V → List Lexeme → Type 0) (continues : V → Lexeme → Type 0) (starts : Lexeme → Bool) (p : Parsing) (ended : Bool) (f : Option Cause)
    → IfRefused f (peek_at starts p ≡ Err ended) → IfRefused f (p.failed ≡ None → NoFront spells continues p)
none_if_unread spells continues starts p ended f = if_refused f (λ h live. none_at_fault spells continues p (unread starts p ended h live))
