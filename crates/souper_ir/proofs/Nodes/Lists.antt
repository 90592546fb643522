-- Values in sequence, while a peek returns that one more comes.
use Rattle.souper_ir.specs.Laws.FromReadings.{of_memory}
use Rattle.std.proofs.Common.{◌≡◌, Bool, true, false, List, [], ◌∷◌, ◌++◌, map, None, Err, refl, sym, ◌∙◌, ap, subst, inl, inr}
use Rattle.std.proofs.lemmas.List.{map-append}
use Rattle.souper_errors.specs.declared.error.ParseError.{ParseError}
use Rattle.souper_errors.specs.Errors.{at_end_of}
use Rattle.souper_ir.specs.Parsing.{Parsing}
use Rattle.souper_graph.specs.Syntax.Tokens.{Lexeme}
use Rattle.souper_graph.specs.Syntax.Spelling.{kinds, Scope}
use Rattle.souper_ir.specs.Reading.{cause_of, IfRefused, if_refused, Fails, FailsForMemory, IsRead}
use Rattle.souper_ir.specs.Grammar.{Free, Starts, Took, TookAll, NoFront, Stuck, Refusal, peek_at, Members, LastGoesOn, ListGoesOn}
use Rattle.souper_ir.specs.Laws.Unique as unique
use Rattle.souper_ir.specs.Laws.Series as series
use Rattle.souper_ir.specs.Laws.Series.{Series}
use Rattle.souper_ir.specs.Laws.Peeks.{peeked, peeked_no}

-- what the loop has taken so far
abbrev pub SoFar : {V : Type 0} → (Scope → V → List Lexeme → Type 0) → (V → Lexeme → Type 0) → List V → Parsing → Parsing → Type 0
SoFar spells continues vs first now = TookAll (λ s. Members (spells s) continues) continues (λ s vs. s) vs first now

module _ {V : Type 0} (spells : Scope → V → List Lexeme → Type 0) (continues : V → Lexeme → Type 0) (starts : Lexeme → Bool)
    (alone : (s : Scope) (v w : V) (a b c d : List Lexeme) → a ++ c ≡ b ++ d → spells s v a → spells s w b → Free (continues v) c → Free (continues w) d → (a ≡ b) × (v ≡ w))
    (first : (s : Scope) (v : V) (ts : List Lexeme) → spells s v ts → Starts starts ts) where
  abbrev pub list_spells : Scope → List V → List Lexeme → Type 0
  list_spells s vs ts = Members (spells s) continues vs ts

  abbrev pub list_goes_on : List V → Lexeme → Type 0
  list_goes_on vs t = ListGoesOn continues starts vs t

  abbrev pub members : Series V
  members = record {
    one = spells;
    all = list_spells;
    continues = continues;
    starts = starts;
    leaves = λ s vs. s;
    leaves_more = λ s v vs. refl;
    stays = λ s v ts. (λ h. h, λ h. h);
    alone = alone;
    first = first;
    none = λ s ts. (λ h. h, λ h. h);
    joined = λ s v vs ts h. record { prefix = h.prefix; suffix = h.suffix; whole = h.whole; first = h.first; second = h.second };
    join = λ s v vs ts h f. record { prefix = h.prefix; suffix = h.suffix; whole = h.whole; first = h.first; free = f; second = h.second };
    over = λ faulty s v vs ts c m. unique.stops_over (spells s) continues starts (alone s) (first s) faulty v vs m.suffix c m.free m.second;
  }

  -- one more member, seen as plain data
  pub one_more : {X : Type 0} (view : X → V) (leaves : Scope → Scope) (xs : List X) (x : X) (b : Bool) (p q m r : Parsing) → ((s : Scope) → leaves s ≡ s) → SoFar spells continues (map view xs) p q
      → IsRead (peek_at starts q) b q m → Took spells continues leaves (view x) m r → SoFar spells continues (map view (xs ++ x ∷ [])) p r
  one_more view leaves xs x b p q m r stays so seen took =
      rw (map-append view xs (x ∷ [])) (series.goes_on members leaves (map view xs) (view x) p q r (stays p.scope) so (series.behind starts (view x) b q m r seen took))

  -- the loop is done
  pub ends : (vs : List V) (p q r : Parsing) → SoFar spells continues vs p q → IsRead (peek_at starts q) false q r
      → Took list_spells list_goes_on (λ s. s) vs p r
  ends vs p q r so h =
      let seen = peeked starts q r false h.0 in
      let quiet = unique.Free-from_NextStops (λ t. starts t ≡ true) q.faulty (kinds q.tokens) (peeked_no starts q.faulty q.tokens seen.2) in
      let live = sym (ap (λ (x : Parsing). x.failed) so.state) ∙ h.1 in
      let done : Took list_spells list_goes_on (λ s. s) vs p q = record { used = so.used; parts = so.parts; spelled = so.spelled; free = free_both (kinds q.tokens) quiet so.free; live = live; state = so.state } in
      subst (λ (x : Parsing). Took list_spells list_goes_on (λ s. s) vs p x) (sym seen.0) done
    where
      free_both : (ts : List Lexeme) → Free (λ t. starts t ≡ true) ts → Free (λ t. LastGoesOn continues vs t) ts → Free (λ t. list_goes_on vs t) ts
      free_both [] f g = tt
      free_both (t ∷ ts) f g = elim [ inl h ↦ f h | inr h ↦ g h ]

  -- ---- parse errors

  pub none_if_stuck : (p : Parsing) → Stuck (spells p.scope) continues starts p.faulty (kinds p.tokens) → NoFront list_spells list_goes_on p
  none_if_stuck p k w front rest e n st =
      series.no_list members p w front rest k e n (unique.NextStops-weaker (λ t. list_goes_on w t) (λ t. starts t ≡ true) p.faulty rest (λ t h. inl h) st)
      (unique.NextStops-weaker (λ t. list_goes_on w t) (λ t. LastGoesOn continues w t) p.faulty rest (λ t h. inr h) st)

  abbrev pub ListRefusal : ParseError → Parsing → Parsing → Type 0
  ListRefusal e p r = Refusal list_spells list_goes_on e p r
      × IfRefused (cause_of e) (p.failed ≡ None → Stuck (spells p.scope) continues starts p.faulty (kinds p.tokens))

  refused : (e : ParseError) (p r : Parsing) → series.LoopRefusal members e p r → ListRefusal e p r
  refused e p r h = (record { failed = h.0; nothing = if_refused (cause_of e) (λ k live. none_if_stuck p (k live)) h.1 }, h.1)

  pub peek_refused : (vs : List V) (e : ParseError) (p q r : Parsing) → SoFar spells continues vs p q → IfRefused (cause_of e) (peek_at starts q ≡ Err (at_end_of e)) × Fails e q r → ListRefusal e p r
  peek_refused vs e p q r so h = refused e p r (series.peek_refused members vs e p q r so h)

  pub member_refused : (vs : List V) (e : ParseError) (p q m r : Parsing) → SoFar spells continues vs p q → IsRead (peek_at starts q) true q m
      → Refusal spells continues e m r → ListRefusal e p r
  member_refused vs e p q m r so h bad = refused e p r (series.member_refused members vs e p q m r so h bad)

  pub memory_ends : (vs : List V) (e : ParseError) (p q r : Parsing) → SoFar spells continues vs p q → FailsForMemory e q r → ListRefusal e p r
  memory_ends vs e p q r so h = refused e p r (series.later members vs e p q r so h.1, of_memory _ e h.0)
