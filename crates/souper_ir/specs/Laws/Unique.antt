-- Lemmas. At most one prefix spells a value, for options and lists of what that holds of.
use Rattle.std.specs.Prelude.{◌≡◌, Bool, true, false, List, [], ◌∷◌, ◌++◌, Option, Some, None}
use Rattle.std.proofs.Common.{refl, sym, ◌∙◌, ap, subst, inl, inr, append_assoc}
use Rattle.std.proofs.lemmas.List.{append_cancel_left}
use Rattle.souper_graph.specs.Syntax.Tokens.{Lexeme}
use Rattle.souper_graph.specs.Syntax.Spelling.{Scope}
use Rattle.souper_ir.specs.Grammar.{Free, NextStops, Starts, Members, LastGoesOn, ListGoesOn, OptionSpells, OptionGoesOn}

-- at most one prefix spells a value so that what follows does not continue it
abbrev pub Alone : {V : Type 0} → (Scope → V → List Lexeme → Type 0) → (V → Lexeme → Type 0) → Type 0
Alone {V} spells continues = (s : Scope) (v w : V) (a b c d : List Lexeme) → a ++ c ≡ b ++ d → spells s v a → spells s w b → Free (continues v) c → Free (continues w) d → (a ≡ b) × (v ≡ w)

-- ---- what comes next

-- nothing continues
pub never : (ts : List Lexeme) → Free (λ t. ⊥) ts
never [] = tt
never (t ∷ ts) = λ h. h

pub Free-weaker : (P Q : Lexeme → Type 0) (ts : List Lexeme) → ((t : Lexeme) → Q t → P t) → Free P ts → Free Q ts
Free-weaker P Q [] f h = tt
Free-weaker P Q (t ∷ ts) f h = λ q. h (f t q)

pub NextStops-weaker : (P Q : Lexeme → Type 0) (faulty : Bool) (ts : List Lexeme) → ((t : Lexeme) → Q t → P t) → NextStops P faulty ts → NextStops Q faulty ts
NextStops-weaker P Q faulty [] f h = h
NextStops-weaker P Q faulty (t ∷ ts) f h = λ q. h (f t q)

pub Free-from_NextStops : (P : Lexeme → Type 0) (faulty : Bool) (ts : List Lexeme) → NextStops P faulty ts → Free P ts
Free-from_NextStops P faulty [] h = tt
Free-from_NextStops P faulty (t ∷ ts) h = h

pub NextStops-from_Free : (P : Lexeme → Type 0) (ts : List Lexeme) → Free P ts → NextStops P false ts
NextStops-from_Free P [] h = refl
NextStops-from_Free P (t ∷ ts) h = h

pub Free-front : (P : Lexeme → Type 0) (a b : List Lexeme) → Free P (a ++ b) → Free P a
Free-front P [] b h = tt
Free-front P (t ∷ a) b h = h

-- a list that begins with a start is no prefix of one that does not
pub clash : (starts : Lexeme → Bool) (b c d : List Lexeme) → Starts starts b → c ≡ b ++ d → Free (λ t. starts t ≡ true) c → ⊥
clash starts [] c d st e f = st
clash starts (t ∷ b) c d st e f = (subst (Free (λ t. starts t ≡ true)) e f) st

pub clash_at : (starts : Lexeme → Bool) (faulty : Bool) (b c d : List Lexeme) → Starts starts b → c ≡ b ++ d → NextStops (λ t. starts t ≡ true) faulty c → ⊥
clash_at starts faulty b c d st e f = clash starts b c d st e (Free-from_NextStops (λ t. starts t ≡ true) faulty c f)

module _ {V : Type 0} (spells : V → List Lexeme → Type 0) (continues : V → Lexeme → Type 0) (starts : Lexeme → Bool)
    (alone : (v w : V) (a b c d : List Lexeme) → a ++ c ≡ b ++ d → spells v a → spells w b → Free (continues v) c → Free (continues w) d → (a ≡ b) × (v ≡ w))
    (first : (v : V) (ts : List Lexeme) → spells v ts → Starts starts ts) where
  pub option_alone : (o q : Option V) (a b c d : List Lexeme) → a ++ c ≡ b ++ d → OptionSpells spells o a → OptionSpells spells q b
      → Free (λ t. OptionGoesOn continues starts o t) c → Free (λ t. OptionGoesOn continues starts q t) d → (a ≡ b) × (o ≡ q)
  option_alone None None a b c d e s r f g = (s ∙ sym r, refl)
  option_alone None (Some w) a b c d e s r f g =
      absurd (clash starts b c d (first w b r) (ap (λ (x : List Lexeme). x ++ c) (sym s) ∙ e) f)
  option_alone (Some v) None a b c d e s r f g =
      absurd (clash starts a d c (first v a s) (ap (λ (x : List Lexeme). x ++ d) (sym r) ∙ sym e) g)
  option_alone (Some v) (Some w) a b c d e s r f g =
      let same = alone v w a b c d e s r f g in
      (same.0, ap (λ (x : V). Some x) same.1)

  -- no member is empty
  pub not_empty : (v : V) (a b : List Lexeme) → spells v a → a ++ b ≡ [] → ⊥
  not_empty v [] b s e = first v [] s
  not_empty v (t ∷ a) b s e = cc

  -- what follows a first member does not continue it
  pub stops_over : (faulty : Bool) (v : V) (vs : List V) (a c : List Lexeme) → Free (continues v) a → Members spells continues vs a → NextStops (λ t. LastGoesOn continues (v ∷ vs) t) faulty c → NextStops (continues v) faulty (a ++ c)
  stops_over faulty v vs (t ∷ a) c f m g = f
  stops_over faulty v [] [] c f m g = g
  stops_over faulty v (w ∷ vs) [] c f m g = absurd (not_empty w m.prefix m.suffix m.first (sym m.whole))

  pub free_over : (v : V) (vs : List V) (a c : List Lexeme) → Free (continues v) a → Members spells continues vs a → Free (λ t. LastGoesOn continues (v ∷ vs) t) c → Free (continues v) (a ++ c)
  free_over v vs a c f m g = Free-from_NextStops (continues v) false (a ++ c) (stops_over false v vs a c f m (NextStops-from_Free (λ t. LastGoesOn continues (v ∷ vs) t) c g))

  pub last_later : (v : V) (vs : List V) (t : Lexeme) → LastGoesOn continues vs t → LastGoesOn continues (v ∷ vs) t
  last_later v [] t h = absurd h
  last_later v (w ∷ vs) t h = h

  pub list_later : (v : V) (vs : List V) (t : Lexeme) → ListGoesOn continues starts vs t → ListGoesOn continues starts (v ∷ vs) t
  list_later v vs t (inl h) = inl h
  list_later v vs t (inr h) = inr (last_later v vs t h)

  pub rest_equal : (a1 a2 b1 b2 c d : List Lexeme) → a1 ≡ b1 → a1 ++ (a2 ++ c) ≡ b1 ++ (b2 ++ d) → a2 ++ c ≡ b2 ++ d
  rest_equal a1 a2 b1 b2 c d s e = append_cancel_left b1 (a2 ++ c) (b2 ++ d) (ap (λ (x : List Lexeme). x ++ (a2 ++ c)) (sym s) ∙ e)

  pub parts_equal : (a b a1 a2 b1 b2 c d : List Lexeme) → a ≡ a1 ++ a2 → b ≡ b1 ++ b2 → a ++ c ≡ b ++ d → a1 ++ (a2 ++ c) ≡ b1 ++ (b2 ++ d)
  parts_equal a b a1 a2 b1 b2 c d p q e = sym (append_assoc a1 a2 c) ∙ ap (λ (x : List Lexeme). x ++ c) (sym p) ∙ e ∙ ap (λ (x : List Lexeme). x ++ d) q ∙ append_assoc b1 b2 d

  pub list_alone : (vs ws : List V) (a b c d : List Lexeme) → a ++ c ≡ b ++ d → Members spells continues vs a → Members spells continues ws b
      → Free (λ t. ListGoesOn continues starts vs t) c → Free (λ t. ListGoesOn continues starts ws t) d → (a ≡ b) × (vs ≡ ws)
  list_alone [] [] a b c d e m n f g = (m ∙ sym n, refl)
  list_alone [] (w ∷ ws) a b c d e m n f g =
      absurd (clash starts n.prefix c (n.suffix ++ d) (first w n.prefix n.first)
      (ap (λ (x : List Lexeme). x ++ c) (sym m) ∙ e ∙ ap (λ (x : List Lexeme). x ++ d) n.whole ∙ append_assoc n.prefix n.suffix d)
      (Free-weaker (λ t. ListGoesOn continues starts [] t) (λ t. starts t ≡ true) c (λ t h. inl h) f))
  list_alone (v ∷ vs) [] a b c d e m n f g =
      absurd (clash starts m.prefix d (m.suffix ++ c) (first v m.prefix m.first)
      (ap (λ (x : List Lexeme). x ++ d) (sym n) ∙ sym e ∙ ap (λ (x : List Lexeme). x ++ c) m.whole ∙ append_assoc m.prefix m.suffix c)
      (Free-weaker (λ t. ListGoesOn continues starts [] t) (λ t. starts t ≡ true) d (λ t h. inl h) g))
  list_alone (v ∷ vs) (w ∷ ws) a b c d e m n f g =
      let whole = parts_equal a b m.prefix m.suffix n.prefix n.suffix c d m.whole n.whole e in
      let here = alone v w m.prefix n.prefix (m.suffix ++ c) (n.suffix ++ d) whole m.first n.first
      (free_over v vs m.suffix c m.free m.second (Free-weaker (λ t. ListGoesOn continues starts (v ∷ vs) t) (λ t. LastGoesOn continues (v ∷ vs) t) c (λ t h. inr h) f))
      (free_over w ws n.suffix d n.free n.second (Free-weaker (λ t. ListGoesOn continues starts (w ∷ ws) t) (λ t. LastGoesOn continues (w ∷ ws) t) d (λ t h. inr h) g)) in
      let there = list_alone vs ws m.suffix n.suffix c d (rest_equal m.prefix m.suffix n.prefix n.suffix c d here.0 whole) m.second n.second
      (Free-weaker (λ t. ListGoesOn continues starts (v ∷ vs) t) (λ t. ListGoesOn continues starts vs t) c (list_later v vs) f)
      (Free-weaker (λ t. ListGoesOn continues starts (w ∷ ws) t) (λ t. ListGoesOn continues starts ws t) d (list_later w ws) g) in
      (m.whole ∙ ap (λ (x : List Lexeme). x ++ m.suffix) here.0 ∙ ap (λ (x : List Lexeme). n.prefix ++ x) there.0 ∙ sym n.whole, ap (λ (x : V). x ∷ vs) here.1 ∙ ap (λ (x : List V). w ∷ x) there.1)
