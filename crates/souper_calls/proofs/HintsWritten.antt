-- Hints that a call wrote, or found no room for.
use Rattle.std.proofs.Common.{◌≡◌, ℕ, ◌<◌, ◌≤◌, List, Option, Some, length, sym, ◌∙◌, subst, ap, refl, inl, inr, arith}
use Rattle.std.specs.Prelude.{IsSomeAnd}
use Rattle.std.proofs.lemmas.Bool.{cases_lt}
use Rattle.souper_graph.specs.Syntax.Spelling.{ItemType, SpellsNone}
use Rattle.souper_calls.specs.Kinds.{type_of_number}
use Rattle.souper_calls.specs.Outcomes.{FillsStart}
use Rattle.souper_calls.specs.Failures.{short_outcome}
use Rattle.souper_calls.specs.Hints.{IsRejected, WritesHint, IsShortHint}
use Rattle.souper_calls.specs.declared.outcome.SouperOutcome.{SouperOutcome}

-- what is said of the source as a text of the type is said of the bytes
pub is_rejected : (number : ℕ) (bytes source : List ℕ) (k : ItemType) → type_of_number number ≡ Some k → source ≡ bytes → SpellsNone k source → IsRejected number bytes
is_rejected number bytes source k is_kind same none =
    subst (λ (o : Option ItemType). IsSomeAnd o (λ (t : ItemType). SpellsNone t bytes)) (sym is_kind) (subst (SpellsNone k) same none)

pub hint_is_written : (number : ℕ) (source old new hint : List ℕ) (given o : SouperOutcome) → IsRejected number source
    → (length hint ≤ length old → (o ≡ given) × FillsStart old new hint) → (length old < length hint → (o ≡ short_outcome (length hint)) × (new ≡ old))
    → given.length ≡ length hint → o.status ≡ 1 → WritesHint number source o old new
hint_is_written number source old new hint given o rejected fits lacks is_given is_refused =
    elim (cases_lt (length old) (length hint)) [
      | inl l ↦ (let clash : 5 ≡ 1 = sym (ap (λ (o : SouperOutcome). o.status) (lacks l).0) ∙ is_refused in absurd (omega (arith, clash)))
      | inr l ↦ (rejected, (hint, ap (λ (o : SouperOutcome). o.length) (fits l).0 ∙ is_given, (fits l).1))
    ]

pub hint_is_short : (number : ℕ) (source old new hint : List ℕ) (given o : SouperOutcome) → IsRejected number source
    → (length hint ≤ length old → (o ≡ given) × FillsStart old new hint) → (length old < length hint → (o ≡ short_outcome (length hint)) × (new ≡ old))
    → given.status ≡ 1 → o.status ≡ 5 → IsShortHint number source o old
hint_is_short number source old new hint given o rejected fits lacks is_given is_short =
    elim (cases_lt (length old) (length hint)) [
      | inl l ↦ (rejected, subst (λ (n : ℕ). length old < n) (sym (ap (λ (o : SouperOutcome). o.length) (lacks l).0)) l)
      | inr l ↦ (let clash : 1 ≡ 5 = sym is_given ∙ (sym (ap (λ (o : SouperOutcome). o.status) (fits l).0) ∙ is_short) in absurd (omega (arith, clash)))
    ]
