-- From where a map is known, it is made known at all that is needed.
use Rattle.std.proofs.Common.{◌≡◌, ℕ, suc, ◌≤◌, inl, inr, length, List, Option, Some, None, sym, ◌∙◌, subst, arith}
use Rattle.std.specs.Prelude.{slice_get}
use Rattle.std.proofs.lemmas.Option.{same_Some, slice_get_within}
use Rattle.std.proofs.lemmas.Bool.{cases_order}
use Rattle.souper_graph.specs.Values.{PlainStatement}
use Rattle.souper_graph.specs.Uses.{used_at, used}
use Rattle.souper_embedding.specs.Maps.{GoesTo, Follows, Binds, AreBelow, StandsAt, UseBelow, KnownAreNeeded, EachStands, IsClosedAt, IsWalked}
use Rattle.souper_embedding.proofs.KnownMaps.{follows-old}

-- the walk has come down to position n
pub record WalkedAbove (ss qs : List PlainStatement) (walks : List ℕ) (old new : List (Option ℕ)) (n : ℕ) : Type 0 where
  pub kept : (p q : ℕ) → GoesTo old p q → GoesTo new p q
  pub needed : KnownAreNeeded ss walks new
  pub closed : (p q : ℕ) → n ≤ p → GoesTo new p q → IsClosedAt ss qs new p q

pub one-image : (m : List (Option ℕ)) (p q r : ℕ) → GoesTo m p q → GoesTo m p r → q ≡ r
one-image m p q r g h = let z : Some (Some q) ≡ Some (Some r) = sym g ∙ h in same_Some q r (same_Some (Some q) (Some r) z)

pub walked-none : (ss qs : List PlainStatement) (walks : List ℕ) (m : List (Option ℕ)) (n : ℕ) → length m ≤ n → KnownAreNeeded ss walks m → WalkedAbove ss qs walks m m n
walked-none ss qs walks m n l h = record {
  kept = λ p q g. g;
  needed = h;
  closed = λ p q a g. let w = slice_get_within m p (Some q) g in absurd (omega arith);
}

-- nothing is known at the next position
pub walked-past : (ss qs : List PlainStatement) (walks : List ℕ) (old now : List (Option ℕ)) (n k : ℕ) → suc k ≡ n → WalkedAbove ss qs walks old now n → slice_get now k ≡ Some None → WalkedAbove ss qs walks old now k
walked-past ss qs walks old now n k e h none = record {
  kept = h.kept;
  needed = h.needed;
  closed = λ p q a g. elim (cases_order p k) [
    | inl s ↦ (let z : slice_get now k ≡ Some (Some q) = subst (λ i. slice_get now i ≡ Some (Some q)) s g in let y : Some None ≡ Some (Some q) = sym none ∙ z in absurd (cc))
    | inr o ↦ elim o [ inl l ↦ absurd (omega arith) | inr l ↦ h.closed p q (omega arith) g ]
  ];
}

-- what the statement at the next position uses is known now
pub walked-next : (ss qs : List PlainStatement) (walks : List ℕ) (old now new : List (Option ℕ)) (n k q : ℕ) → suc k ≡ n → UseBelow ss walks → WalkedAbove ss qs walks old now n → GoesTo now k q
    → Binds now new (used_at ss k) → ((f : ℕ → ℕ) → Follows new f → StandsAt ss qs f k q) → WalkedAbove ss qs walks old new k
walked-next ss qs walks old now new n k q e below h at b stands = record {
  kept = λ p r g. b.kept p r (h.kept p r g);
  needed = needed;
  closed = closed;
}
  where
    needed : KnownAreNeeded ss walks new
    needed p r g = elim (b.only p r g) [ inl x ↦ h.needed p r x | inr x ↦ used (h.needed k q at) x ]

    closed : (p r : ℕ) → k ≤ p → GoesTo new p r → IsClosedAt ss qs new p r
    closed p r a g = elim (b.only p r g) [
      | inl x ↦ elim (cases_order p k) [
        | inl s ↦ (let same : q ≡ r = one-image now k q r at (subst (λ i. GoesTo now i r) s x) in
            let here : IsClosedAt ss qs new k q = record { stands = stands; uses = b.known } in
            subst (λ i. IsClosedAt ss qs new i r) (sym s) (subst (λ i. IsClosedAt ss qs new k i) same here))
        | inr o ↦ elim o [
          | inl l ↦ absurd (omega arith)
          | inr l ↦ (let c = h.closed p r (omega arith) x in record {
            stands = λ f w. c.stands f (follows-old now new (used_at ss k) f b w);
            uses = λ u m. let y = c.uses u m in (y.0, b.kept u y.0 y.1);
          })
        ]
      ]
      | inr x ↦ (let l = below k p (h.needed k q at) x in absurd (omega arith))
    ]

-- a function that fits is followed further
pub forced-next : (ss qs : List PlainStatement) (walks : List ℕ) (now : List (Option ℕ)) (k q : ℕ) (f : ℕ → ℕ) → UseBelow ss walks → KnownAreNeeded ss walks now → GoesTo now k q → Follows now f → EachStands ss qs walks f
    → StandsAt ss qs f k q × AreBelow (length now) (used_at ss k)
forced-next ss qs walks now k q f below known at w each =
    let n = known k q at in (
      subst (λ i. StandsAt ss qs f k i) (w k q at) (each k n),
      (λ u m. let l = below k u n m in let i = slice_get_within now k (Some q) at in omega arith),
    )

pub walked-all : (ss qs : List PlainStatement) (walks : List ℕ) (old new : List (Option ℕ)) → length new ≡ length old → WalkedAbove ss qs walks old new 0 → IsWalked ss qs walks old new
walked-all ss qs walks old new l h = record { long = l; kept = h.kept; needed = h.needed; closed = λ p q g. h.closed p q (omega arith) g }
