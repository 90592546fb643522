-- Lemmas. One value after another: what two parses in sequence took, and when the pair of them is not spelled.
use Rattle.std.specs.Prelude.{◌≡◌, ℕ, Bool, false, List, [], ◌∷◌, ◌++◌}
use Rattle.std.proofs.Common.{sym, ◌∙◌, ap, subst, append_assoc}
use Rattle.std.proofs.lemmas.List.{append_cancel_left}
use Rattle.souper_errors.specs.declared.error.ParseError.{ParseError}
use Rattle.souper_ir.specs.Parsing.{Parsing}
use Rattle.souper_graph.specs.Syntax.Tokens.{Lexeme}
use Rattle.souper_graph.specs.Syntax.Spelling.{kinds, Scope}
use Rattle.souper_ir.specs.Reading.{cause_of, if_refused, fails_later}
use Rattle.souper_ir.specs.Grammar.{Free, NextStops, Followed, Took, NoFront, Refusal}
use Rattle.souper_ir.specs.Laws.Unique.{Alone, Free-weaker, NextStops-weaker, Free-from_NextStops, NextStops-from_Free, Free-front}
use Rattle.souper_ir.specs.Laws.Steps.{kinds-append}

-- the tokens are a spelling of a, and then one of b, which does not continue a
abbrev pub Split : {A B : Type 0} → (Scope → A → List Lexeme → Type 0) → (A → Lexeme → Type 0) → (Scope → B → List Lexeme → Type 0) → Scope → A → B → List Lexeme → Type 0
Split spells_a goes_on_a spells_b s a b ts = Followed (spells_a s a) (goes_on_a a) (spells_b s b) ts

-- C has a part A and a part B. A token continues C if it continues its B, or its A if its B is empty.
module _ {A B C : Type 0} (spells_a : Scope → A → List Lexeme → Type 0) (goes_on_a : A → Lexeme → Type 0) (spells_b : Scope → B → List Lexeme → Type 0) (goes_on_b : B → Lexeme → Type 0) (goes_on_c : C → Lexeme → Type 0)
    (a_of : C → A) (b_of : C → B)
    (last : (c : C) (t : Lexeme) → goes_on_b (b_of c) t → goes_on_c c t)
    (over : (s : Scope) (c : C) (t : Lexeme) → spells_b s (b_of c) [] → goes_on_a (a_of c) t → goes_on_c c t)
    (alone_a : Alone spells_a goes_on_a) where
  abbrev pub Both : Scope → C → List Lexeme → Type 0
  Both s c ts = Split spells_a goes_on_a spells_b s (a_of c) (b_of c) ts

  stops_over : (faulty : Bool) (s : Scope) (c : C) (y rest : List Lexeme) → spells_b s (b_of c) y → Free (goes_on_a (a_of c)) y → NextStops (goes_on_c c) faulty rest → NextStops (goes_on_a (a_of c)) faulty (y ++ rest)
  stops_over faulty s c (t ∷ y) rest sp f g = f
  stops_over faulty s c [] [] sp f g = g
  stops_over faulty s c [] (t ∷ rest) sp f g = λ h. g (over s c t sp h)

  free_over : (s : Scope) (c : C) (y rest : List Lexeme) → spells_b s (b_of c) y → Free (goes_on_a (a_of c)) y → Free (goes_on_c c) rest → Free (goes_on_a (a_of c)) (y ++ rest)
  free_over s c y rest sp f g = Free-from_NextStops (goes_on_a (a_of c)) false (y ++ rest) (stops_over false s c y rest sp f (NextStops-from_Free (goes_on_c c) rest g))

  regroup : (ts front back rest : List Lexeme) → ts ≡ front ++ back → ts ++ rest ≡ front ++ (back ++ rest)
  regroup ts front back rest e = ap (λ (x : List Lexeme). x ++ rest) e ∙ append_assoc front back rest

  pub both_alone : (alone_b : Alone spells_b goes_on_b)
      (s : Scope) (v w : C) (a b c d : List Lexeme) → a ++ c ≡ b ++ d → Both s v a → Both s w b → Free (goes_on_c v) c → Free (goes_on_c w) d → (a ≡ b) × (a_of v ≡ a_of w) × (b_of v ≡ b_of w)
  both_alone alone_b s v w a b c d e m n f g =
      let whole : m.prefix ++ (m.suffix ++ c) ≡ n.prefix ++ (n.suffix ++ d) = sym (regroup a m.prefix m.suffix c m.whole) ∙ e ∙ regroup b n.prefix n.suffix d n.whole in
      let here = alone_a s (a_of v) (a_of w) m.prefix n.prefix (m.suffix ++ c) (n.suffix ++ d) whole m.first n.first (free_over s v m.suffix c m.second m.free f) (free_over s w n.suffix d n.second n.free g) in
      let rest : m.suffix ++ c ≡ n.suffix ++ d = append_cancel_left n.prefix (m.suffix ++ c) (n.suffix ++ d) (ap (λ (x : List Lexeme). x ++ (m.suffix ++ c)) (sym here.0) ∙ whole) in
      let there = alone_b s (b_of v) (b_of w) m.suffix n.suffix c d rest m.second n.second (Free-weaker (goes_on_c v) (goes_on_b (b_of v)) c (last v) f) (Free-weaker (goes_on_c w) (goes_on_b (b_of w)) d (last w) g) in
      (m.whole ∙ ap (λ (x : List Lexeme). x ++ m.suffix) here.0 ∙ ap (λ (x : List Lexeme). n.prefix ++ x) there.0 ∙ sym n.whole, here.1, there.1)

  -- ---- parse errors

  none_first : (p : Parsing) → NoFront spells_a goes_on_a p → NoFront Both goes_on_c p
  none_first p none c front rest e sp st =
      none (a_of c) sp.prefix (sp.suffix ++ rest) (e ∙ regroup front sp.prefix sp.suffix rest sp.whole) sp.first (stops_over p.faulty p.scope c sp.suffix rest sp.second sp.free st)

  pub refused_first : (e : ParseError) (p q : Parsing) → Refusal spells_a goes_on_a e p q → Refusal Both goes_on_c e p q
  refused_first e p q h = record { failed = h.failed; nothing = if_refused (cause_of e) (λ none live. none_first p (none live)) h.nothing }

  none_second : (a : A) (p q : Parsing) → Took spells_a goes_on_a (λ s. s) a p q → NoFront spells_b goes_on_b q → NoFront Both goes_on_c p
  none_second a p q took none c front rest e sp st =
      let ahead : kinds p.tokens ≡ kinds took.used ++ kinds q.tokens = ap kinds took.parts ∙ kinds-append took.used q.tokens in
      let whole : kinds took.used ++ kinds q.tokens ≡ sp.prefix ++ (sp.suffix ++ rest) = sym ahead ∙ e ∙ regroup front sp.prefix sp.suffix rest sp.whole in
      let here = alone_a p.scope a (a_of c) (kinds took.used) sp.prefix (kinds q.tokens) (sp.suffix ++ rest) whole took.spelled sp.first took.free
      (Free-from_NextStops (goes_on_a (a_of c)) p.faulty (sp.suffix ++ rest) (stops_over p.faulty p.scope c sp.suffix rest sp.second sp.free st)) in
      let tail : kinds q.tokens ≡ sp.suffix ++ rest = append_cancel_left sp.prefix (kinds q.tokens) (sp.suffix ++ rest) (ap (λ (x : List Lexeme). x ++ kinds q.tokens) (sym here.0) ∙ whole) in
      let at_q : spells_b q.scope (b_of c) sp.suffix = subst (λ (x : Parsing). spells_b x.scope (b_of c) sp.suffix) (sym took.state) sp.second in
      none (b_of c) sp.suffix rest tail at_q (subst (λ (x : Parsing). NextStops (goes_on_b (b_of c)) x.faulty rest) (sym took.state) (NextStops-weaker (goes_on_c c) (goes_on_b (b_of c)) p.faulty rest (last c) st))

  pub refused_second : (a : A) (e : ParseError) (p q r : Parsing) → Took spells_a goes_on_a (λ s. s) a p q → Refusal spells_b goes_on_b e q r → Refusal Both goes_on_c e p r
  refused_second a e p q r took h = record {
    failed = fails_later e p q r (ap (λ (x : Parsing). x.failed) took.state) (ap (λ (x : Parsing). x.len) took.state) h.failed;
    nothing = if_refused (cause_of e) (λ none live. none_second a p q took (none (ap (λ (x : Parsing). x.failed) took.state ∙ live))) h.nothing;
  }

  -- ---- both were taken

  pub both_taken : (only : (s : Scope) (c : C) (y rest : List Lexeme) → spells_b s (b_of c) y → Free (goes_on_a (a_of c)) (y ++ rest) → Free (goes_on_b (b_of c)) rest → Free (goes_on_c c) rest)
      (c : C) (p q r : Parsing) → Took spells_a goes_on_a (λ s. s) (a_of c) p q → Took spells_b goes_on_b (λ s. s) (b_of c) q r → Took Both goes_on_c (λ s. s) c p r
  both_taken only c p q r m n =
      let second : spells_b p.scope (b_of c) (kinds n.used) = subst (λ (x : Parsing). spells_b x.scope (b_of c) (kinds n.used)) m.state n.spelled in
      let ahead : kinds q.tokens ≡ kinds n.used ++ kinds r.tokens = ap kinds n.parts ∙ kinds-append n.used r.tokens in
      let free_both : Free (goes_on_a (a_of c)) (kinds n.used ++ kinds r.tokens) = subst (λ (x : List Lexeme). Free (goes_on_a (a_of c)) x) ahead m.free in
      record {
        used = m.used ++ n.used;
        parts = m.parts ∙ ap (λ (x : List (ℕ × Lexeme)). m.used ++ x) n.parts ∙ sym (append_assoc m.used n.used r.tokens);
        spelled = record { prefix = kinds m.used; suffix = kinds n.used; whole = kinds-append m.used n.used; first = m.spelled; free = Free-front (goes_on_a (a_of c)) (kinds n.used) (kinds r.tokens) free_both; second = second };
        free = only p.scope c (kinds n.used) (kinds r.tokens) second free_both n.free;
        live = m.live;
        state = n.state ∙ ap (λ (x : Parsing). record x { tokens = r.tokens }) m.state;
      }

-- ---- another way to state a spelling

pub respelled_taken : {V : Type 0} (f g : Scope → V → List Lexeme → Type 0) (continues : V → Lexeme → Type 0) (leaves : Scope → Scope) (v : V) (p q : Parsing)
    → ((s : Scope) (ts : List Lexeme) → f s v ts → g s v ts) → Took f continues leaves v p q → Took g continues leaves v p q
respelled_taken f g continues leaves v p q to took =
    record { used = took.used; parts = took.parts; spelled = to p.scope (kinds took.used) took.spelled; free = took.free; live = took.live; state = took.state }

pub respelled_refused : {V : Type 0} (f g : Scope → V → List Lexeme → Type 0) (continues : V → Lexeme → Type 0) (e : ParseError) (p q : Parsing)
    → ((s : Scope) (v : V) (ts : List Lexeme) → g s v ts → f s v ts) → Refusal f continues e p q → Refusal g continues e p q
respelled_refused f g continues e p q from h =
    record { failed = h.failed; nothing = if_refused (cause_of e) (λ none live v front rest parts spelled stops. none live v front rest parts (from p.scope v front spelled) stops) h.nothing }
