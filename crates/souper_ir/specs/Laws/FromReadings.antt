-- Lemmas. From a reading that is sound and complete to what the traits ask.
use Rattle.std.proofs.Common.{◌≡◌, Bool, true, false, List, [], ◌∷◌, ◌++◌, map, Option, Some, None, Result, Ok, Err, refl, sym, ◌∙◌, ap, subst}
use Rattle.std.proofs.lemmas.List.{append_cancel_right}
use Rattle.std.specs.Prelude.{IfOk, IfErr}
use Rattle.souper_errors.specs.declared.error.ParseError.{ParseError}
use Rattle.souper_errors.specs.Errors.{at_end_of}
use Rattle.souper_ir.specs.Parsing.{Cause, no_memory, Parsing}
use Rattle.souper_graph.specs.Syntax.Tokens.{Lexeme}
use Rattle.souper_graph.specs.Syntax.Spelling.{kinds, Scope}
use Rattle.souper_ir.specs.Reading.{Gives, cause_of, IfRefused, if_refused, Fails, IsRead}
use Rattle.souper_ir.specs.Grammar.{Took, NoFront, Refusal}
use Rattle.souper_ir.specs.Laws.Peeks.{ok_is}
use Rattle.souper_ir.specs.Laws.Unique.{Alone, NextStops-from_Free}
use Rattle.souper_ir.specs.Laws.Rules.{ReadingOf, Rule, Any}

module _ {Y : Type 0} {spells : Scope → Y → List Lexeme → Type 0} {continues : Y → Lexeme → Type 0} {read : ReadingOf Y} (rule : Rule Any spells continues read) where
  none_read : (p : Parsing) (ended : Bool) → read p ≡ Err ended → p.failed ≡ None → NoFront spells continues p
  none_read p ended unread live y front rest e s st =
      let k = rule.complete p y front rest (record { kinds_are = e; live = live }) tt s st in
      let read : read p ≡ Ok (y, k.next) = k.is_read in
      cc

  -- a parser of these tokens
  kinds_of_places : (ts : List Lexeme) → kinds (map (λ t. (0, t)) ts) ≡ ts
  kinds_of_places [] = refl
  kinds_of_places (t ∷ ts) = ap (λ (x : List Lexeme). t ∷ x) (kinds_of_places ts)

  pub alone : Alone spells continues
  alone s v w a b c d e m n f g =
      let p : Parsing = record { tokens = map (λ t. (0, t)) (a ++ c); faulty = false; cut = true; len = 0; scope = s; failed = None } in
      let j = rule.complete p v a c (record { kinds_are = kinds_of_places (a ++ c); live = refl }) tt m (NextStops-from_Free (continues v) c f) in
      let k = rule.complete p w b d (record { kinds_are = kinds_of_places (a ++ c) ∙ e; live = refl }) tt n (NextStops-from_Free (continues w) d g) in
      let same : ◌≡◌ {A = Y × Parsing} (v, j.next) (w, k.next) = ok_is (sym j.is_read ∙ k.is_read) in
      let rest : c ≡ d = sym j.ahead.kinds_are ∙ ap (λ (x : Y × Parsing). kinds x.1.tokens) same ∙ k.ahead.kinds_are in
      (append_cancel_right a b c (e ∙ ap (λ (x : List Lexeme). b ++ x) (sym rest)), ap (λ (x : Y × Parsing). x.0) same)

  pub is_refused : (e : ParseError) (p q : Parsing) → IfRefused (cause_of e) (read p ≡ Err (at_end_of e)) × Fails e p q → Refusal spells continues e p q
  is_refused e p q h = record { failed = h.1; nothing = if_refused (cause_of e) (λ k. none_read p (at_end_of e) k) h.0 }

  module _ {X : Type 0} (view : X → Y) where
    pub is_taken : (x : X) (p q : Parsing) → IsRead (read p) (view x) p q → Took spells continues (λ s. s) (view x) p q
    is_taken x p q h =
        let k = rule.sound p q (view x) h.1 h.0 in
        record { used = k.taken.places; parts = k.taken.parts; spelled = rw k.taken.kinds_are k.formed; free = k.free; live = h.1; state = k.taken.state }

    pub parsed : (r : Result X ParseError) (p q : Parsing) → Gives view r (read p) p q → IfOk r (λ x. Took spells continues (λ s. s) (view x) p q) × IfErr r (λ e. Refusal spells continues e p q)
    parsed (Ok x) p q h = (is_taken x p q h, tt)
    parsed (Err e) p q h = (tt, is_refused e p q h)

-- out of memory rejects no text
pub of_memory : (P : Type 0) (e : ParseError) → cause_of e ≡ Some no_memory → IfRefused (cause_of e) P
of_memory P e h = subst (λ (o : Option Cause). IfRefused o P) (sym h) tt
