-- A value or none, by what a peek returns.
use Rattle.std.proofs.Common.{◌≡◌, Bool, true, false, List, [], ◌++◌, Option, Some, None, Err, refl, sym, ◌∙◌, ap, subst}
use Rattle.std.specs.Option.{is_some}
use Rattle.souper_errors.specs.declared.error.ParseError.{ParseError}
use Rattle.souper_errors.specs.Errors.{at_end_of}
use Rattle.souper_ir.specs.Parsing.{Cause, Parsing}
use Rattle.souper_graph.specs.Syntax.Tokens.{Lexeme}
use Rattle.souper_graph.specs.Syntax.Spelling.{kinds, Scope}
use Rattle.souper_ir.specs.Reading.{cause_of, IfRefused, if_refused, Fails, IsRead}
use Rattle.souper_ir.specs.Grammar.{Starts, Took, NoFront, Refusal, peek_at, OptionSpells, OptionGoesOn}
use Rattle.souper_ir.specs.Laws.Unique.{clash_at, Free-from_NextStops}
use Rattle.std.proofs.lemmas.List.{append-nil}
use Rattle.souper_ir.specs.Laws.Peeks.{peeked, peeked_yes, peeked_no, none_if_unread}

-- nothing, by the test for a value
pub none_is : {A : Type 0} (o : Option A) → is_some o ≡ false → o ≡ None
none_is None e = refl
none_is (Some a) e = absurd cc

module _ {V : Type 0} (spells : Scope → V → List Lexeme → Type 0) (continues : V → Lexeme → Type 0) (starts : Lexeme → Bool) where
  abbrev some_spells : Scope → Option V → List Lexeme → Type 0
  some_spells s o ts = OptionSpells (spells s) o ts

  abbrev some_goes_on : Option V → Lexeme → Type 0
  some_goes_on o t = OptionGoesOn continues starts o t

  no_option : (p : Parsing) → Starts starts (kinds p.tokens) → NoFront spells continues p → NoFront some_spells some_goes_on p
  no_option p st none None front rest e s stops =
      clash_at starts p.faulty (kinds p.tokens) rest [] st (ap (λ (x : List Lexeme). x ++ rest) (sym s) ∙ sym e ∙ sym (append-nil (kinds p.tokens))) stops
  no_option p st none (Some v) front rest e s stops = none v front rest e s stops

  none_if : (p : Parsing) (f : Option Cause) → Starts starts (kinds p.tokens) → IfRefused f (p.failed ≡ None → NoFront spells continues p) → IfRefused f (p.failed ≡ None → NoFront some_spells some_goes_on p)
  none_if p f st = if_refused f (λ h live. no_option p st (h live))

  pub peek_refused : (e : ParseError) (p q : Parsing) → IfRefused (cause_of e) (peek_at starts p ≡ Err (at_end_of e)) × Fails e p q → Refusal some_spells some_goes_on e p q
  peek_refused e p q h = record { failed = h.1; nothing = none_if_unread some_spells some_goes_on starts p (at_end_of e) (cause_of e) h.0 }

  pub member_refused : (e : ParseError) (p q r : Parsing) → IsRead (peek_at starts p) true p q → Refusal spells continues e q r → Refusal some_spells some_goes_on e p r
  member_refused e p q r h k =
      let seen = peeked starts p q true h.0 in
      let k2 : Refusal spells continues e p r = subst (λ (x : Parsing). Refusal spells continues e x r) seen.0 k in
      record { failed = k2.failed; nothing = none_if p (cause_of e) (peeked_yes starts p.faulty p.tokens seen.2) k2.nothing }

  pub some_taken : (leaves : Scope → Scope) (v : V) (p q r : Parsing) → ((s : Scope) → leaves s ≡ s) → IsRead (peek_at starts p) true p q → Took spells continues leaves v q r → Took some_spells some_goes_on (λ s. s) (Some v) p r
  some_taken leaves v p q r stays h k =
      let seen = peeked starts p q true h.0 in
      let k2 : Took spells continues leaves v p r = subst (λ (x : Parsing). Took spells continues leaves v x r) seen.0 k in
      record {
        used = k2.used;
        parts = k2.parts;
        spelled = k2.spelled;
        free = k2.free;
        live = k2.live;
        state = k2.state ∙ ap (λ (s : Scope). record p { tokens = r.tokens; scope = s }) (stays p.scope);
      }

  pub none_taken : (p q : Parsing) → IsRead (peek_at starts p) false p q → Took some_spells some_goes_on (λ s. s) None p q
  none_taken p q h =
      let seen = peeked starts p q false h.0 in
      subst (λ (x : Parsing). Took some_spells some_goes_on (λ s. s) None p x) (sym seen.0)
      (record {
        used = [];
        parts = refl;
        spelled = refl;
        free = Free-from_NextStops (λ t. starts t ≡ true) p.faulty (kinds p.tokens) (peeked_no starts p.faulty p.tokens seen.2);
        live = h.1;
        state = refl;
      })
