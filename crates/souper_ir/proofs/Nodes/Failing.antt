-- How a parser fails.
use Rattle.std.proofs.Common.{◌≡◌, ℕ, ◌≤◌, true, [], Option, Some, None, sym, ◌∙◌, ap, subst, arith}
use Rattle.std.specs.Prelude.{IsSomeAnd}
use Rattle.souper_errors.specs.declared.error.ParseError.{ParseError}
use Rattle.souper_errors.specs.Places.{IsDirectRefusalText}
use Rattle.souper_errors.specs.Errors.{at_end_of, shown_error}
use Rattle.souper_ir.specs.Parsing.{Cause, refused, Parsing}
use Rattle.souper_ir.specs.Reading.{cause_of, Fails, IfRefused}

pub refused_fails : (e : ParseError) (p q : Parsing) (o : ℕ) → cause_of e ≡ Some (refused o) → IsSomeAnd (shown_error e) (IsDirectRefusalText o)
    → o ≤ p.len → ((c : Cause) → p.failed ≡ Some c → c ≡ refused o) → q.failed ≡ Some (refused o) → (at_end_of e ≡ true → q.tokens ≡ []) → q.len ≡ p.len → Fails e p q
refused_fails e p q o cause shown bound before after ended l = record {
  stays = after ∙ sym cause;
  caused = λ none. let clash : Some (refused o) ≡ None = sym cause ∙ none in absurd cc;
  again = λ c x not_memory. cause ∙ ap Some (sym (before c x));
  within = λ n x. let same : ◌≡◌ {A = Option Cause} (Some (refused o)) (Some (refused n)) = sym cause ∙ x in let e2 : o ≡ n = cc in omega arith;
  shown = λ n x. let same : ◌≡◌ {A = Option Cause} (Some (refused o)) (Some (refused n)) = sym cause ∙ x in let e2 : o ≡ n = cc in
      subst (λ (i : ℕ). IsSomeAnd (shown_error e) (IsDirectRefusalText i)) e2 shown;
  ended = ended;
  len = l;
}

-- a parse error whose cause was set first
pub fails_first : (e : ParseError) (p q r : Parsing) → p.failed ≡ None → q.len ≡ p.len → Fails e q r → Fails e p r
fails_first e p q r live l h = record {
  stays = h.stays;
  caused = h.caused;
  again = λ c x. let clash : ◌≡◌ {A = Option Cause} None (Some c) = sym live ∙ x in absurd cc;
  within = h.within;
  shown = h.shown;
  ended = h.ended;
  len = h.len ∙ l;
}

pub refused_for : {P : Type 0} (f : Option Cause) → P → IfRefused f P
refused_for (Some (refused o)) h = h
refused_for _ h = tt
