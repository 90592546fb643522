-- Lemmas. The next token: it is taken if it has the meaning that is asked for, and a peek sees it.
use Rattle.std.proofs.Common.{◌≡◌, ℕ, Bool, true, false, List, [], ◌∷◌, ◌++◌, Option, Some, None, Ok, refl, ◌∙◌, sym, ap, subst}
use Rattle.souper_graph.specs.Syntax.Tokens.{Lexeme}
use Rattle.souper_graph.specs.Syntax.Spelling.{kinds}
use Rattle.souper_ir.specs.Parsing.{Cause, Parsing}
use Rattle.souper_ir.specs.Reading.{◌>>=◌, looked_up, take_in, take_at}
use Rattle.souper_ir.specs.Grammar.{NextStops, Starts, peek_at}
use Rattle.souper_ir.specs.NodeReadings.{accept}
use Rattle.souper_ir.specs.Laws.Peeks.{ok_is, Answers, decided, answered}
use Rattle.souper_ir.specs.Laws.Steps.{TakesTokens, At, bind_ok, up_ok}

-- ---- a token is taken

take_some : (failed : Option Cause) (cut : Bool) (ts : List (ℕ × Lexeme)) (t : Lexeme) (rest : List (ℕ × Lexeme)) → take_in failed cut ts ≡ Ok (t, rest) → (o : ℕ) × (ts ≡ (o, t) ∷ rest)
take_some None cut (u ∷ ts) t rest e =
    let same : ◌≡◌ {A = Lexeme × List (ℕ × Lexeme)} (u.1, ts) (t, rest) = ok_is e in
    (u.0, ap (λ (x : Lexeme × List (ℕ × Lexeme)). (u.0, x.0) ∷ x.1) same)
take_some _ cut _ t rest e = absurd cc

take_is : (failed : Option Cause) (cut : Bool) (ts : List (ℕ × Lexeme)) (t : Lexeme) (rest : List Lexeme) → failed ≡ None → kinds ts ≡ t ∷ rest → (more : List (ℕ × Lexeme)) × (take_in failed cut ts ≡ Ok (t, more)) × (kinds more ≡ rest)
take_is None cut (u ∷ ts) t rest live e =
    let same : u.1 ≡ t = cc in
    (ts, ap (λ (x : Lexeme). Ok (x, ts)) same, cc)
take_is _ cut _ t rest live e = absurd cc

-- a token with a meaning is taken
pub accepted : {A : Type 0} (meaning : Lexeme → Option A) (p q : Parsing) (a : A) → accept meaning p ≡ Ok (a, q) → (t : Lexeme) × (meaning t ≡ Some a) × TakesTokens p q (t ∷ [])
unfolding accept take_at
accepted {A = A} meaning p q a e =
    let b = bind_ok (take_in p.failed p.cut p.tokens >>= λ x. Ok (x.0, record p { tokens = x.1 })) (λ t. looked_up (meaning t.0) >>= λ a. Ok (a, t.1)) (a, q) e in
    let c = bind_ok (take_in p.failed p.cut p.tokens) (λ x. Ok (x.0, record p { tokens = x.1 })) b.0 b.1 in
    let k = take_some p.failed p.cut p.tokens c.0.0 c.0.1 c.1 in
    let m = up_ok (meaning b.0.0) (λ a. Ok (a, b.0.1)) (a, q) b.2 in
    let taken : ◌≡◌ {A = Lexeme × Parsing} (c.0.0, record p { tokens = c.0.1 }) b.0 = ok_is c.2 in
    let given : ◌≡◌ {A = A × Parsing} (m.0, b.0.1) (a, q) = ok_is m.2 in
    let state : record p { tokens = c.0.1 } ≡ q = ap (λ (x : Lexeme × Parsing). x.1) taken ∙ ap (λ (x : A × Parsing). x.1) given in (
      c.0.0,
      ap (λ (x : Lexeme × Parsing). meaning x.0) taken ∙ m.1 ∙ ap (λ (x : A × Parsing). Some x.0) given,
      subst (λ (x : Parsing). TakesTokens p x (c.0.0 ∷ [])) state (record { places = (k.0, c.0.0) ∷ []; parts = k.1; kinds_are = refl {a = c.0.0 ∷ []}; state = refl {a = record p { tokens = c.0.1 }} }),
    )

pub accepts : {A : Type 0} (meaning : Lexeme → Option A) (p : Parsing) (t : Lexeme) (a : A) (rest : List Lexeme) → At p (t ∷ rest) → meaning t ≡ Some a
    → (q : Parsing) × (accept meaning p ≡ Ok (a, q)) × At q rest × (q ≡ record p { tokens = q.tokens })
unfolding accept take_at
accepts meaning p t a rest at m =
    let k = take_is p.failed p.cut p.tokens t rest at.live at.kinds_are in
    (record p { tokens = k.0 }, rw (k.1, m) refl, record { kinds_are = k.2; live = at.live }, refl)

-- ---- a peek

pub starts_longer : (starts : Lexeme → Bool) (a b : List Lexeme) → Starts starts a → Starts starts (a ++ b)
starts_longer starts [] b h = absurd h
starts_longer starts (t ∷ a) b h = h

-- a start comes next, or none
pub sees : (starts : Lexeme → Bool) (p : Parsing) (ts : List Lexeme) → At p ts → Starts starts ts → peek_at starts p ≡ Ok (true, p)
sees starts p ts at h = answered starts p true at.live (subst (Starts starts) (sym at.kinds_are) h)

pub sees_none : (starts : Lexeme → Bool) (p : Parsing) (ts : List Lexeme) → At p ts → NextStops (λ t. starts t ≡ true) p.faulty ts → peek_at starts p ≡ Ok (false, p)
sees_none starts p ts at h = answered starts p false at.live (subst (NextStops (λ t. starts t ≡ true) p.faulty) (sym at.kinds_are) h)

-- the first token is a start, or it is none
abbrev pub Shows : (Lexeme → Bool) → Bool → List Lexeme → Type 0
Shows starts b [] = ⊥
Shows starts b (t ∷ ts) = starts t ≡ b

shown : (starts : Lexeme → Bool) (b faulty : Bool) (front rest : List Lexeme) → Shows starts b front → Answers starts b faulty (front ++ rest)
shown starts b faulty [] rest h = absurd h
shown starts b faulty (t ∷ front) rest h = decided starts b faulty t (front ++ rest) h

pub shows : (starts : Lexeme → Bool) (b : Bool) (p : Parsing) (front rest : List Lexeme) → At p (front ++ rest) → Shows starts b front → peek_at starts p ≡ Ok (b, p)
shows starts b p front rest at h = answered starts p b at.live (subst (Answers starts b p.faulty) (sym at.kinds_are) (shown starts b p.faulty front rest h))
