-- The numbers and widths that words spell are within their limits.
use Rattle.std.proofs.Common.{◌≡◌, ℕ, ◌^◌, ◌<◌, ◌==◌, Bool, ◌&&◌, ℤ, pos, negsuc, List, [], ◌∷◌, Some, subst}
use Rattle.std.specs.Prelude.{nat_lt, FitsSigned}
use Rattle.std.specs.Int.{w128}
use Rattle.std.specs.Str.Parse.{digits_value, signed_digits_value, without_leading_sign}
use Rattle.std.proofs.lemmas.Bool.{ltb-true, and_parts}
use Rattle.souper_graph.specs.Syntax.Numbers.{is_numeral, is_within, number_of, below, count_of, width_if, width_of}
use Rattle.souper_ir.specs.Laws.Tokens.{some_of_if}
use Rattle.souper_ir.specs.Laws.Steps.{bind_some}
use Rattle.souper_ir.proofs.Nodes.Numerals.{is_within_decides}

pub number_fits : (w : List ℕ) (z : ℤ) → number_of w ≡ Some z → FitsSigned w128 z
number_fits w z e =
    let k = some_of_if (is_numeral (without_leading_sign w) && is_within (signed_digits_value 10 w)) (signed_digits_value 10 w) z e in
    let within = and_parts (is_numeral (without_leading_sign w)) (is_within (signed_digits_value 10 w)) k.0 in
    subst (FitsSigned w128) k.1 ((is_within_decides (signed_digits_value 10 w)).0 within.1)

below_limit : (limit : ℕ) (z : ℤ) (n : ℕ) → below limit z ≡ Some n → n < limit
below_limit limit (pos m) n e =
    let k = some_of_if (nat_lt m limit) m n e in
    subst (λ (x : ℕ). x < limit) k.1 (ltb-true m limit k.0)
below_limit limit (negsuc m) n e = absurd cc

pub count_fits : (limit : ℕ) (w : List ℕ) (n : ℕ) → count_of limit w ≡ Some n → n < limit
count_fits limit w n e =
    let b = bind_some (number_of w) (below limit) n e in
    below_limit limit b.0 n b.2

width_if_fits : (b : Bool) (m n : ℕ) → width_if b m ≡ Some n → (0 < n) × (n < 2 ^ 16)
width_if_fits b m n e =
    let k = some_of_if (b && (nat_lt 0 m && nat_lt m (2 ^ 16))) m n e in
    let limits = and_parts (nat_lt 0 m) (nat_lt m (2 ^ 16)) (and_parts b (nat_lt 0 m && nat_lt m (2 ^ 16)) k.0).1 in
    subst (λ (x : ℕ). (0 < x) × (x < 2 ^ 16)) k.1 (ltb-true 0 m limits.0, ltb-true m (2 ^ 16) limits.1)

pub width_fits : (w : List ℕ) (n : ℕ) → width_of w ≡ Some n → (0 < n) × (n < 2 ^ 16)
width_fits [] n e = absurd cc
width_fits (c ∷ ds) n e = width_if_fits ((c == 105) && is_numeral ds) (digits_value 10 ds) n e
