-- The reasons of one statement or line, and the conditions of well-formedness.
use Rattle.std.proofs.Common.{◌≡◌, ℕ, inl, inr, ◌↔◌, ◌++◌, List, [], ◌∷◌, Option, Some, None, refl}
use Rattle.std.specs.List.{AllByRecursion}
use Rattle.souper_graph.specs.declared.ast.flaws.FlawReason.{FlawReason}
use Rattle.souper_graph.specs.declared.ast.flaws.FlawReason.TheVariants.{InvalidName, EmptyBits, ZeroWidth, UseBeforeDefinition, NotAnAssignment, NotABlock, ValueCount, PredecessorOutOfRange, DuplicateName}
use Rattle.souper_graph.specs.Values.{PlainStatement, assigned, condition, block_condition, Ending, inferred, resulting, replaced, candidate}
use Rattle.souper_graph.specs.Uses.{Use, uses_of_operand, uses_of, roots_of}
use Rattle.souper_graph.specs.WellFormed.{FitsStatement, AgreesWithBlock, FitsEnding, IsMet}
use Rattle.souper_graph.specs.Judging.{assigned_name, MayStand}
use Rattle.souper_graph.specs.Flaws.{HasValidName, HasValidBits, HasValidWidths, HasValueCount, HasPredecessor, IsNamedAnew, StatementMeets, reasons_alone, reasons, IsFirstFailing}
use Rattle.souper_graph.specs.FlawSearch.{StatementMeetsAlone, LinesStand}
use Rattle.souper_graph.proofs.Judging.Closed.{All-both, All-first, All-second}
use Rattle.souper_graph.proofs.FlawSearch.Uses.{met_of_checks, earlier_of_met, values_of_met, block_of_met}

-- first failing conditions

pub first-not_all : (P : FlawReason → Type 0) (xs : List FlawReason) (r : FlawReason) → IsFirstFailing P xs r → AllByRecursion P xs → ⊥
first-not_all P [] r h all = h
first-not_all P (x ∷ xs) r (inl a) all = a.1 all.0
first-not_all P (x ∷ xs) r (inr b) all = first-not_all P xs r b.1 all.1

pub first-append : (P : FlawReason → Type 0) (xs ys : List FlawReason) (r : FlawReason) → IsFirstFailing P xs r → IsFirstFailing P (xs ++ ys) r
first-append P [] ys r h = absurd h
first-append P (x ∷ xs) ys r (inl a) = inl a
first-append P (x ∷ xs) ys r (inr b) = inr (b.0, first-append P xs ys r b.1)

pub first-after : (P : FlawReason → Type 0) (xs ys : List FlawReason) (r : FlawReason) → AllByRecursion P xs → IsFirstFailing P ys r → IsFirstFailing P (xs ++ ys) r
first-after P [] ys r all h = h
first-after P (x ∷ xs) ys r all h = inr (all.0, first-after P xs ys r all.1 h)

pub first-same : (P Q : FlawReason → Type 0) (xs : List FlawReason) (r : FlawReason) → ((x : FlawReason) → P x ↔ Q x) → IsFirstFailing P xs r → IsFirstFailing Q xs r
first-same P Q [] r f h = h
first-same P Q (x ∷ xs) r f (inl a) = inl (a.0, (λ q. a.1 ((f x).1 q)))
first-same P Q (x ∷ xs) r f (inr b) = inr ((f x).0 b.0, first-same P Q xs r f b.1)

pub all-append : (P : FlawReason → Type 0) (xs ys : List FlawReason) → AllByRecursion P xs → AllByRecursion P ys → AllByRecursion P (xs ++ ys)
all-append P [] ys h k = k
all-append P (x ∷ xs) ys h k = (h.0, all-append P xs ys h.1 k)

-- the conditions of a statement by itself

fits_of : (s : PlainStatement) → HasValidName s → HasValidBits s → HasValidWidths s → FitsStatement s
fits_of (assigned a) n b w = record { name_fits = n; type_fits = w.0; value_fits = w.1; attributes_fit = b }
fits_of (condition p) n b w = w
fits_of (block_condition p) n b w = w

name_of_fits : (s : PlainStatement) → FitsStatement s → HasValidName s
name_of_fits (assigned a) f = f.name_fits
name_of_fits (condition p) f = tt
name_of_fits (block_condition p) f = tt

bits_of_fits : (s : PlainStatement) → FitsStatement s → HasValidBits s
bits_of_fits (assigned a) f = f.attributes_fit
bits_of_fits (condition p) f = tt
bits_of_fits (block_condition p) f = tt

widths_of_fits : (s : PlainStatement) → FitsStatement s → HasValidWidths s
widths_of_fits (assigned a) f = (f.type_fits, f.value_fits)
widths_of_fits (condition p) f = f
widths_of_fits (block_condition p) f = f

agrees_of : (ss : List PlainStatement) (s : PlainStatement) → HasValueCount ss s → HasPredecessor ss s → AgreesWithBlock ss s
agrees_of ss (assigned a) v p = v
agrees_of ss (condition c) v p = tt
agrees_of ss (block_condition c) v p = p

count_of_agrees : (ss : List PlainStatement) (s : PlainStatement) → AgreesWithBlock ss s → HasValueCount ss s
count_of_agrees ss (assigned a) h = h
count_of_agrees ss (condition c) h = tt
count_of_agrees ss (block_condition c) h = tt

predecessor_of_agrees : (ss : List PlainStatement) (s : PlainStatement) → AgreesWithBlock ss s → HasPredecessor ss s
predecessor_of_agrees ss (assigned a) h = tt
predecessor_of_agrees ss (condition c) h = tt
predecessor_of_agrees ss (block_condition c) h = h

pub stands_of_reasons : (ss : List PlainStatement) (p : ℕ) (o : Option PlainStatement) → AllByRecursion (StatementMeetsAlone ss p o) reasons_alone → MayStand ss p o
stands_of_reasons ss p None h = tt
stands_of_reasons ss p (Some s) h = (
  fits_of s h.0 h.1.0 h.1.1.0,
  met_of_checks ss p s h.1.1.1.0 h.1.1.1.1.0 h.1.1.1.1.1.0,
  agrees_of ss s h.1.1.1.1.1.1.0 h.1.1.1.1.1.1.1.0,
)

pub reasons_of_stands : (ss : List PlainStatement) (p : ℕ) (o : Option PlainStatement) → MayStand ss p o → AllByRecursion (StatementMeetsAlone ss p o) reasons_alone
reasons_of_stands ss p None h = (tt, (tt, (tt, (tt, (tt, (tt, (tt, (tt, tt))))))))
reasons_of_stands ss p (Some s) h = (
  name_of_fits s h.0,
  (
    bits_of_fits s h.0,
    (
      widths_of_fits s h.0,
      (
        earlier_of_met ss p (uses_of s) h.1,
        (
          values_of_met ss p (uses_of s) h.1,
          (
            block_of_met ss p s h.1,
            (
              count_of_agrees ss s h.2,
              (
                predecessor_of_agrees ss s h.2,
                tt,
              ),
            ),
          ),
        ),
      ),
    ),
  ),
)

-- the same with the name

pub first_alone : (ss : List PlainStatement) (Before : ℕ → Type 0) (p : ℕ) (o : Option PlainStatement) (r : FlawReason) → IsFirstFailing (StatementMeetsAlone ss p o) reasons_alone r → IsFirstFailing (StatementMeets ss Before p o) reasons r
first_alone ss Before p None r h = first-append (StatementMeets ss Before p None) reasons_alone (DuplicateName ∷ []) r h
first_alone ss Before p (Some s) r h = first-append (StatementMeets ss Before p (Some s)) reasons_alone (DuplicateName ∷ []) r h

pub first_name : (ss : List PlainStatement) (Before : ℕ → Type 0) (p : ℕ) (o : Option PlainStatement) (n : List ℕ) → assigned_name o ≡ Some n → AllByRecursion (StatementMeetsAlone ss p o) reasons_alone → ¬ IsNamedAnew ss Before p
    → IsFirstFailing (StatementMeets ss Before p o) reasons DuplicateName
first_name ss Before p None n e all not_new = absurd (cc)
first_name ss Before p (Some s) n e all not_new = first-after (StatementMeets ss Before p (Some s)) reasons_alone (DuplicateName ∷ []) DuplicateName all (inl (refl, not_new))

pub all_reasons : (ss : List PlainStatement) (Before : ℕ → Type 0) (p : ℕ) (o : Option PlainStatement) → MayStand ss p o → IsNamedAnew ss Before p → AllByRecursion (StatementMeets ss Before p o) reasons
all_reasons ss Before p None h new = all-append (StatementMeets ss Before p None) reasons_alone (DuplicateName ∷ []) (reasons_of_stands ss p None h) (tt, tt)
all_reasons ss Before p (Some s) h new = all-append (StatementMeets ss Before p (Some s)) reasons_alone (DuplicateName ∷ []) (reasons_of_stands ss p (Some s) h) (new, tt)

-- the earlier statements are others that have the same names
pub meets_same : (ss : List PlainStatement) (Before Before' : ℕ → Type 0) (p : ℕ) (o : Option PlainStatement) → (IsNamedAnew ss Before p ↔ IsNamedAnew ss Before' p) → (r : FlawReason) → StatementMeets ss Before p o r ↔ StatementMeets ss Before' p o r
meets_same ss Before Before' p None f r = ((λ h. h), (λ h. h))
meets_same ss Before Before' p (Some s) f InvalidName = ((λ h. h), (λ h. h))
meets_same ss Before Before' p (Some s) f EmptyBits = ((λ h. h), (λ h. h))
meets_same ss Before Before' p (Some s) f ZeroWidth = ((λ h. h), (λ h. h))
meets_same ss Before Before' p (Some s) f UseBeforeDefinition = ((λ h. h), (λ h. h))
meets_same ss Before Before' p (Some s) f NotAnAssignment = ((λ h. h), (λ h. h))
meets_same ss Before Before' p (Some s) f NotABlock = ((λ h. h), (λ h. h))
meets_same ss Before Before' p (Some s) f ValueCount = ((λ h. h), (λ h. h))
meets_same ss Before Before' p (Some s) f PredecessorOutOfRange = ((λ h. h), (λ h. h))
meets_same ss Before Before' p (Some s) f DuplicateName = f

-- the conditions of the last lines

-- what the lists of roots and of attributes ask of an ending
abbrev pub MetEnding : List PlainStatement → Ending → Type 0
MetEnding ss e = AllByRecursion (IsMet ss) (roots_of e) × FitsEnding e

abbrev Line : Type 0 → Type 0 → Type 0 → Type 0
Line A W U = Unit {0} × (A × (W × (Unit {0} × (U × (Unit {0} × (Unit {0} × (Unit {0} × (Unit {0} × Unit {0}))))))))

line : {A W U : Type 0} → A → W → U → Line A W U
line a w u = (tt, (a, (w, (tt, (u, (tt, (tt, (tt, (tt, tt)))))))))

both : (ss : List PlainStatement) (xs ys : List Use) → AllByRecursion (IsMet ss) xs → AllByRecursion (IsMet ss) ys → AllByRecursion (IsMet ss) (xs ++ ys)
both ss xs ys = All-both (IsMet ss) xs ys

none : (ss : List PlainStatement) (xs : List Use) → AllByRecursion (IsMet ss) xs → AllByRecursion (IsMet ss) (xs ++ [])
none ss xs h = All-both (IsMet ss) xs [] h tt

of_none : (ss : List PlainStatement) (xs : List Use) → AllByRecursion (IsMet ss) (xs ++ []) → AllByRecursion (IsMet ss) xs
of_none ss xs h = All-first (IsMet ss) xs [] h

pub ending_of_lines : (ss : List PlainStatement) (e : Ending) → LinesStand ss e → MetEnding ss e
ending_of_lines ss (inferred i) h = (h.0.1.1.1.1.0, h.0.1.0)
ending_of_lines ss (resulting x) h = (h.1.1.1.1.1.0, h.1.1.1.0.0)
ending_of_lines ss (replaced i x) h = ((h.0.1.1.1.1.0.0, of_none ss (uses_of_operand x) h.1.1.1.1.1.0), (h.0.1.0, h.1.1.1.0.0))
ending_of_lines ss (candidate c) h = (
  none ss (uses_of_operand c.lhs ++ uses_of_operand c.rhs)
      (both ss (uses_of_operand c.lhs) (uses_of_operand c.rhs)
      (All-first (IsMet ss) (uses_of_operand c.lhs) (uses_of_operand c.rhs ++ []) h.2.1.1.1.1.0)
      (of_none ss (uses_of_operand c.rhs) (All-second (IsMet ss) (uses_of_operand c.lhs) (uses_of_operand c.rhs ++ []) h.2.1.1.1.1.0))),
  (h.2.1.1.0.0, h.2.1.1.0.1.0, h.2.1.0),
)

pub lines_of_ending : (ss : List PlainStatement) (e : Ending) → MetEnding ss e → LinesStand ss e
lines_of_ending ss (inferred i) h = (line h.1 (tt, tt) h.0, line tt tt tt, line tt tt tt)
lines_of_ending ss (resulting x) h = (line tt tt tt, line tt (h.1, tt) h.0, line tt tt tt)
lines_of_ending ss (replaced i x) h = (line h.1.0 (tt, tt) (h.0.0, tt), line tt (h.1.1, tt) (none ss (uses_of_operand x) h.0.1), line tt tt tt)
lines_of_ending ss (candidate c) h =
    let uses = of_none ss (uses_of_operand c.lhs ++ uses_of_operand c.rhs) h.0 in (
      line tt tt tt,
      line tt tt tt,
      line h.1.2 (h.1.0, (h.1.1, tt))
          (both ss (uses_of_operand c.lhs) (uses_of_operand c.rhs ++ [])
          (All-first (IsMet ss) (uses_of_operand c.lhs) (uses_of_operand c.rhs) uses)
          (none ss (uses_of_operand c.rhs) (All-second (IsMet ss) (uses_of_operand c.lhs) (uses_of_operand c.rhs) uses))),
    )
