-- Lemmas. Values in sequence: what a loop that takes them keeps, and that at most one list of them is spelled.
use Rattle.std.proofs.Common.{◌≡◌, ◌⊎◌, ℕ, ◌<◌, Bool, true, false, List, [], ◌∷◌, ◌++◌, length, None, Err, refl, sym, ◌∙◌, ap, subst, inl, inr, append_assoc, arith}
use Rattle.std.proofs.lemmas.List.{append-nil, append_cancel_left, length-append}
use Rattle.souper_errors.specs.declared.error.ParseError.{ParseError}
use Rattle.souper_errors.specs.Errors.{at_end_of}
use Rattle.souper_graph.specs.Syntax.Tokens.{Lexeme}
use Rattle.souper_graph.specs.Syntax.Spelling.{kinds, Scope, Form, Joined}
use Rattle.souper_ir.specs.Parsing.{Parsing}
use Rattle.souper_ir.specs.Reading.{cause_of, IfRefused, if_refused, IsRead, Fails, fails_later}
use Rattle.souper_ir.specs.Grammar.{Free, NextStops, Starts, Took, NoneStarted, Refusal, LastGoesOn, TookAll, StuckAt, peek_at}
use Rattle.souper_ir.specs.Laws.Unique.{Alone, never, Free-weaker, NextStops-weaker, Free-from_NextStops, Free-front}
use Rattle.souper_ir.specs.Laws.Peeks.{peeked, peeked_yes, unread}
use Rattle.souper_ir.specs.Laws.Steps.{kinds-append}

-- ---- lists of tokens

-- the first part, and the tokens after it
pub split : (a f g c : List Lexeme) → a ≡ f ++ g → a ++ c ≡ f ++ (g ++ c)
split a f g c e = ap (λ (x : List Lexeme). x ++ c) e ∙ append_assoc f g c

pub starts_ahead : (starts : Lexeme → Bool) (a b : List Lexeme) → Starts starts a → Starts starts (a ++ b)
starts_ahead starts [] b h = absurd h
starts_ahead starts (t ∷ a) b h = h

-- a start that does not go on
pub starts_stop : (goes_on : Lexeme → Type 0) (starts : Lexeme → Bool) (faulty : Bool) (ts : List Lexeme) → ((t : Lexeme) → starts t ≡ true → ¬ goes_on t) → Starts starts ts → NextStops goes_on faulty ts
starts_stop goes_on starts faulty [] f h = absurd h
starts_stop goes_on starts faulty (t ∷ ts) f h = f t h

pub free_stops : (goes_on : Lexeme → Type 0) (ts : List Lexeme) → Free goes_on ts → NextStops goes_on false ts
free_stops goes_on [] h = refl
free_stops goes_on (t ∷ ts) h = h

pub not_started : (starts : Lexeme → Bool) (faulty : Bool) (ts : List Lexeme) → NextStops (λ t. starts t ≡ true) faulty ts → Starts starts ts → ⊥
not_started starts faulty [] h st = st
not_started starts faulty (t ∷ ts) h st = h st

-- the parser before a peek took what the one after it did
pub behind : {V : Type 0} {spells : Scope → V → List Lexeme → Type 0} {continues : V → Lexeme → Type 0} {leaves : Scope → Scope} (starts : Lexeme → Bool) (v : V) (b : Bool) (q m r : Parsing)
    → IsRead (peek_at starts q) b q m → Took spells continues leaves v m r → Took spells continues leaves v q r
behind {spells} {continues} {leaves} starts v b q m r h took = subst (λ (x : Parsing). Took spells continues leaves v x r) (peeked starts q m b h.0).0 took

-- ---- a node and its lists

-- the form of one and of a list of them, which tokens continue and start one, and the scope after them
pub record Series (V : Type 0) : Type 1 where
  pub one : Scope → V → Form
  pub all : Scope → List V → Form
  pub continues : V → Lexeme → Type 0
  pub starts : Lexeme → Bool
  pub leaves : Scope → List V → Scope
  pub leaves_more : (s : Scope) (v : V) (vs : List V) → leaves (leaves s (v ∷ [])) vs ≡ leaves s (v ∷ vs)
  pub stays : (s : Scope) (v : V) (ts : List Lexeme) → (one (leaves s []) v ts → one s v ts) × (one s v ts → one (leaves s []) v ts)
  pub alone : Alone one continues
  pub first : (s : Scope) (v : V) (ts : List Lexeme) → one s v ts → Starts starts ts
  pub none : (s : Scope) (ts : List Lexeme) → (all s [] ts → ts ≡ []) × (ts ≡ [] → all s [] ts)
  pub joined : (s : Scope) (v : V) (vs : List V) (ts : List Lexeme) → all s (v ∷ vs) ts → Joined (one s v) (all (leaves s (v ∷ [])) vs) ts
  pub join : (s : Scope) (v : V) (vs : List V) (ts : List Lexeme) (h : Joined (one s v) (all (leaves s (v ∷ [])) vs) ts) → Free (continues v) h.suffix → all s (v ∷ vs) ts
  pub over : (faulty : Bool) (s : Scope) (v : V) (vs : List V) (ts c : List Lexeme) (m : all s (v ∷ vs) ts) → NextStops (λ t. LastGoesOn continues (v ∷ vs) t) faulty c → NextStops (continues v) faulty ((joined s v vs ts m).suffix ++ c)

-- one is spelled at these tokens, and nothing continues it
pub record ComesNext {V : Type 0} (one : V → Form) (continues : V → Lexeme → Type 0) (faulty : Bool) (ts : List Lexeme) : Type 0 where
  pub member : V
  pub used : List Lexeme
  pub rest : List Lexeme
  pub parts : ts ≡ used ++ rest
  pub spelled : one member used
  pub stops : NextStops (continues member) faulty rest

pub last_later : {V : Type 0} (continues : V → Lexeme → Type 0) (v : V) (vs : List V) (t : Lexeme) → LastGoesOn continues vs t → LastGoesOn continues (v ∷ vs) t
last_later continues v [] t h = absurd h
last_later continues v (w ∷ vs) t h = h

pub last_of_push : {V : Type 0} (continues : V → Lexeme → Type 0) (vs : List V) (v : V) (t : Lexeme) → LastGoesOn continues (vs ++ v ∷ []) t → continues v t
last_of_push continues [] v t h = h
last_of_push continues (w ∷ []) v t h = h
last_of_push continues (w ∷ (x ∷ xs)) v t h = last_of_push continues (x ∷ xs) v t h

module _ {V : Type 0} (x : Series V) where
  abbrev pub Last : List V → Lexeme → Type 0
  Last vs t = LastGoesOn x.continues vs t

  abbrev pub Loop : List V → Parsing → Parsing → Type 0
  Loop vs p q = TookAll x.all x.continues x.leaves vs p q

  abbrev pub NoMember : Scope → Bool → List Lexeme → Type 0
  NoMember s faulty ts = NoneStarted (x.one s) x.continues x.starts faulty ts

  -- the members of the parser's tokens, and then next
  abbrev pub EndsIn : (Scope → Bool → List Lexeme → Type 0) → Parsing → Type 0
  EndsIn next p = StuckAt (x.all p.scope) x.continues (λ vs ts. next (x.leaves p.scope vs) p.faulty ts) (kinds p.tokens)

  abbrev pub Further : Scope → Bool → List Lexeme → Type 0
  Further s faulty ts = ComesNext (x.one s) x.continues faulty ts

  -- ---- two lists that the same tokens spell

  begun : (faulty : Bool) (s : Scope) (v : V) (vs : List V) (ts a d : List Lexeme) → ts ≡ a ++ d → x.all s (v ∷ vs) a → NextStops (λ t. Last (v ∷ vs) t) faulty d → Further (x.leaves s []) faulty ts
  begun faulty s v vs ts a d e m g =
      let k = x.joined s v vs a m in
      record { member = v; used = k.prefix; rest = k.suffix ++ d; parts = e ∙ split a k.prefix k.suffix d k.whole; spelled = (x.stays s v k.prefix).1 k.first; stops = x.over faulty s v vs a d m g }

  abbrev Along : Bool → Scope → List V → List V → List Lexeme → List Lexeme → List Lexeme → List Lexeme → Type 0
  Along faulty s vs ws a b c d = ((a ≡ b) × (vs ≡ ws)) ⊎ (Further (x.leaves s vs) faulty c ⊎ Further (x.leaves s ws) false d)

  -- they are the same, or one of them has a member more
  pub along : (faulty : Bool) (s : Scope) (vs ws : List V) (a b c d : List Lexeme) → a ++ c ≡ b ++ d → x.all s vs a → x.all s ws b → Free (λ t. Last vs t) c → NextStops (λ t. Last ws t) faulty d → Along faulty s vs ws a b c d
  along faulty s [] [] a b c d e m n f g = inl ((x.none s a).0 m ∙ sym ((x.none s b).0 n), refl)
  along faulty s [] (w ∷ ws) a b c d e m n f g = inr (inl (begun faulty s w ws c b d (ap (λ (y : List Lexeme). y ++ c) (sym ((x.none s a).0 m)) ∙ e) n g))
  along faulty s (v ∷ vs) [] a b c d e m n f g = inr (inr (begun false s v vs d a c (ap (λ (y : List Lexeme). y ++ d) (sym ((x.none s b).0 n)) ∙ sym e) m (free_stops (λ t. Last (v ∷ vs) t) c f)))
  along faulty s (v ∷ vs) (w ∷ ws) a b c d e m n f g =
      let k = x.joined s v vs a m in
      let l = x.joined s w ws b n in
      let whole : k.prefix ++ (k.suffix ++ c) ≡ l.prefix ++ (l.suffix ++ d) = sym (split a k.prefix k.suffix c k.whole) ∙ e ∙ split b l.prefix l.suffix d l.whole in
      let free_v = Free-from_NextStops (x.continues v) false (k.suffix ++ c) (x.over false s v vs a c m (free_stops (λ t. Last (v ∷ vs) t) c f)) in
      let free_w = Free-from_NextStops (x.continues w) faulty (l.suffix ++ d) (x.over faulty s w ws b d n g) in
      let same = x.alone s v w k.prefix l.prefix (k.suffix ++ c) (l.suffix ++ d) whole k.first l.first free_v free_w in
      let rest : k.suffix ++ c ≡ l.suffix ++ d = append_cancel_left l.prefix (k.suffix ++ c) (l.suffix ++ d) (ap (λ (y : List Lexeme). y ++ (k.suffix ++ c)) (sym same.0) ∙ whole) in
      let more : x.all (x.leaves s (v ∷ [])) ws l.suffix = subst (λ (y : V). x.all (x.leaves s (y ∷ [])) ws l.suffix) (sym same.1) l.second in
      elim (along faulty (x.leaves s (v ∷ [])) vs ws k.suffix l.suffix c d rest k.second more (Free-weaker (λ t. Last (v ∷ vs) t) (λ t. Last vs t) c (last_later x.continues v vs) f) (NextStops-weaker (λ t. Last (w ∷ ws) t) (λ t. Last ws t) faulty d (last_later x.continues w ws) g)) [
        | inl h ↦ inl (
          k.whole ∙ ap (λ (y : List Lexeme). y ++ k.suffix) same.0 ∙ ap (λ (y : List Lexeme). l.prefix ++ y) h.0 ∙ sym l.whole,
          ap (λ (y : V). y ∷ vs) same.1 ∙ ap (λ (y : List V). w ∷ y) h.1,
        )
        | inr h ↦ inr (elim h [
          | inl j ↦ inl (subst (λ (y : Scope). Further y faulty c) (x.leaves_more s v vs) j)
          | inr j ↦ inr (subst (λ (y : Scope). Further y false d) (ap (λ (y : V). x.leaves (x.leaves s (y ∷ [])) ws) same.1 ∙ x.leaves_more s w ws) j)
        ])
      ]

  pub further_starts : (s : Scope) (faulty : Bool) (ts : List Lexeme) → Further s faulty ts → Starts x.starts ts
  further_starts s faulty ts h = subst (λ (y : List Lexeme). Starts x.starts y) (sym h.parts) (starts_ahead x.starts h.used h.rest (x.first s h.member h.used h.spelled))

  pub none_further : (s : Scope) (faulty : Bool) (ts : List Lexeme) → NoMember s faulty ts → Further s faulty ts → ⊥
  none_further s faulty ts (inl k) h = subst (λ (y : List Lexeme). Starts x.starts y) k.0 (further_starts s faulty ts h)
  none_further s faulty ts (inr k) h = k.1 h.member h.used h.rest h.parts h.spelled h.stops

  -- lists before tokens that start no more are the same
  pub all_alone : (s : Scope) (vs ws : List V) (a b c d : List Lexeme) → a ++ c ≡ b ++ d → x.all s vs a → x.all s ws b → NextStops (λ t. x.starts t ≡ true) false c → NextStops (λ t. x.starts t ≡ true) false d
      → NextStops (λ t. Last vs t) false c → NextStops (λ t. Last ws t) false d → (a ≡ b) × (vs ≡ ws)
  all_alone s vs ws a b c d e m n no_c no_d f g =
      elim (along false s vs ws a b c d e m n (Free-from_NextStops (λ t. Last vs t) false c f) g) [
        | inl h ↦ h
        | inr h ↦ elim h [
          | inl j ↦ absurd (not_started x.starts false c no_c (further_starts (x.leaves s vs) false c j))
          | inr j ↦ absurd (not_started x.starts false d no_d (further_starts (x.leaves s ws) false d j))
        ]
      ]

  pub stuck_stops : (s : Scope) (faulty : Bool) (ts : List Lexeme) → NoMember s faulty ts → NextStops (λ t. x.starts t ≡ true) faulty ts → ⊥
  stuck_stops s faulty ts (inl k) h = let no : true ≡ false = sym k.1 ∙ subst (λ (y : List Lexeme). NextStops (λ t. x.starts t ≡ true) faulty y) k.0 h in absurd cc
  stuck_stops s faulty ts (inr k) h = not_started x.starts faulty ts h k.0

  -- no list is spelled if members end stuck
  pub no_list : (p : Parsing) (ws : List V) (b d : List Lexeme) → EndsIn NoMember p → kinds p.tokens ≡ b ++ d → x.all p.scope ws b → NextStops (λ t. x.starts t ≡ true) p.faulty d → NextStops (λ t. Last ws t) p.faulty d → ⊥
  no_list p ws b d k e n st g =
      elim (along p.faulty p.scope k.members ws k.front b k.rest d (sym k.parts ∙ e) k.spelled n k.free g) [
        | inl h ↦
            let same : k.rest ≡ d = append_cancel_left b k.rest d (ap (λ (y : List Lexeme). y ++ k.rest) (sym h.0) ∙ sym k.parts ∙ e) in
            stuck_stops (x.leaves p.scope k.members) p.faulty k.rest k.stuck (subst (λ (y : List Lexeme). NextStops (λ t. x.starts t ≡ true) p.faulty y) (sym same) st)
        | inr h ↦ elim h [
          | inl j ↦ none_further (x.leaves p.scope k.members) p.faulty k.rest k.stuck j
          | inr j ↦ not_started x.starts p.faulty d st (further_starts (x.leaves p.scope ws) false d j)
        ]
      ]

  -- ---- the loop

  unfoldable pub begins : (p : Parsing) → p.scope ≡ x.leaves p.scope [] → Loop [] p p
  begins p e = record { used = []; parts = refl; spelled = (x.none p.scope []).1 refl; free = Free-weaker (λ t. ⊥) (λ t. Last [] t) (kinds p.tokens) (λ t h. h) (never (kinds p.tokens)); state = ap (λ (y : Scope). record p { scope = y }) e }

  pub push : (s : Scope) (vs : List V) (v : V) (a b : List Lexeme) → x.all s vs a → Free (λ t. Last vs t) b → x.one (x.leaves s vs) v b → x.all s (vs ++ v ∷ []) (a ++ b)
  push s [] v a b m f sp =
      let whole : a ++ b ≡ b ++ [] = ap (λ (y : List Lexeme). y ++ b) ((x.none s a).0 m) ∙ sym (append-nil b) in
      x.join s v [] (a ++ b) (record { prefix = b; suffix = []; whole = whole; first = (x.stays s v b).0 sp; second = (x.none (x.leaves s (v ∷ [])) []).1 refl }) tt
  push s (w ∷ ws) v a b m f sp =
      let k = x.joined s w ws a m in
      let last : x.one (x.leaves (x.leaves s (w ∷ [])) ws) v b = subst (λ (y : Scope). x.one y v b) (sym (x.leaves_more s w ws)) sp in
      let more = push (x.leaves s (w ∷ [])) ws v k.suffix b k.second (Free-weaker (λ t. Last (w ∷ ws) t) (λ t. Last ws t) b (last_later x.continues w ws) f) last in
      x.join s w (ws ++ v ∷ []) (a ++ b) (record { prefix = k.prefix; suffix = k.suffix ++ b; whole = split a k.prefix k.suffix b k.whole; first = k.first; second = more })
      (Free-from_NextStops (x.continues w) false (k.suffix ++ b) (x.over false s w ws a b m (free_stops (λ t. Last (w ∷ ws) t) b f)))

  -- one more member
  unfoldable pub goes_on : (adds : Scope → Scope) (vs : List V) (v : V) (p q r : Parsing) → adds (x.leaves p.scope vs) ≡ x.leaves p.scope (vs ++ v ∷ []) → Loop vs p q → Took x.one x.continues adds v q r → Loop (vs ++ v ∷ []) p r
  goes_on adds vs v p q r e so took =
      let scope : q.scope ≡ x.leaves p.scope vs = ap (λ (y : Parsing). y.scope) so.state in
      let sp : x.one (x.leaves p.scope vs) v (kinds took.used) = subst (λ (s : Scope). x.one s v (kinds took.used)) scope took.spelled in
      let ahead : kinds q.tokens ≡ kinds took.used ++ kinds r.tokens = ap kinds took.parts ∙ kinds-append took.used r.tokens in
      let free = Free-front (λ t. Last vs t) (kinds took.used) (kinds r.tokens) (subst (λ (y : List Lexeme). Free (λ t. Last vs t) y) ahead so.free) in
      record {
        used = so.used ++ took.used;
        parts = so.parts ∙ ap (λ (y : List (ℕ × Lexeme)). so.used ++ y) took.parts ∙ sym (append_assoc so.used took.used r.tokens);
        spelled = subst (λ (y : List Lexeme). x.all p.scope (vs ++ v ∷ []) y) (sym (kinds-append so.used took.used)) (push p.scope vs v (kinds so.used) (kinds took.used) so.spelled free sp);
        free = Free-weaker (x.continues v) (λ t. Last (vs ++ v ∷ []) t) (kinds r.tokens) (last_of_push x.continues vs v) took.free;
        state = took.state ∙ ap (λ (y : Parsing). record y { tokens = r.tokens; scope = adds y.scope }) so.state ∙ ap (λ (y : Scope). record p { tokens = r.tokens; scope = y }) e;
      }

  -- each member takes a token
  pub shorter : (adds : Scope → Scope) (v : V) (q r : Parsing) → Took x.one x.continues adds v q r → length r.tokens < length q.tokens
  shorter adds v q r took = by_used took.used took.parts (x.first q.scope v (kinds took.used) took.spelled)
    where
      by_used : (used : List (ℕ × Lexeme)) → q.tokens ≡ used ++ r.tokens → Starts x.starts (kinds used) → length r.tokens < length q.tokens
      by_used [] e st = absurd st
      by_used (t ∷ used) e st = omega (arith, ap length e, length-append used r.tokens)

  -- ---- parse errors

  pub ends_in : (next : Scope → Bool → List Lexeme → Type 0) (vs : List V) (p q : Parsing) → Loop vs p q → next q.scope q.faulty (kinds q.tokens) → EndsIn next p
  ends_in next vs p q so k = record {
    members = vs;
    front = kinds so.used;
    rest = kinds q.tokens;
    parts = ap kinds so.parts ∙ kinds-append so.used q.tokens;
    spelled = so.spelled;
    free = so.free;
    stuck = subst (λ (y : Parsing). next y.scope y.faulty (kinds q.tokens)) so.state k;
  }

  pub later : (vs : List V) (e : ParseError) (p q r : Parsing) → Loop vs p q → Fails e q r → Fails e p r
  later vs e p q r so h = fails_later e p q r (ap (λ (y : Parsing). y.failed) so.state) (ap (λ (y : Parsing). y.len) so.state) h

  abbrev pub LoopRefusal : ParseError → Parsing → Parsing → Type 0
  LoopRefusal e p r = Fails e p r × IfRefused (cause_of e) (p.failed ≡ None → EndsIn NoMember p)

  pub peek_refused : (vs : List V) (e : ParseError) (p q r : Parsing) → Loop vs p q → IfRefused (cause_of e) (peek_at x.starts q ≡ Err (at_end_of e)) × Fails e q r → LoopRefusal e p r
  peek_refused vs e p q r so h = (
    later vs e p q r so h.1,
    if_refused (cause_of e) (λ k live. ends_in NoMember vs p q so (inl (unread x.starts q (at_end_of e) k (ap (λ (y : Parsing). y.failed) so.state ∙ live)))) h.0,
  )

  pub member_refused : (vs : List V) (e : ParseError) (p q m r : Parsing) → Loop vs p q → IsRead (peek_at x.starts q) true q m → Refusal x.one x.continues e m r → LoopRefusal e p r
  member_refused vs e p q m r so h bad =
      let seen = peeked x.starts q m true h.0 in
      let here : Refusal x.one x.continues e q r = subst (λ (y : Parsing). Refusal x.one x.continues e y r) seen.0 bad in (
        later vs e p q r so here.failed,
        if_refused (cause_of e) (λ k live. ends_in NoMember vs p q so (inr (peeked_yes x.starts q.faulty q.tokens seen.2, k (ap (λ (y : Parsing). y.failed) so.state ∙ live)))) here.nothing,
      )
