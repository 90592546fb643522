-- Tests of two parts.
use Rattle.std.proofs.Common.{◌≡◌, ◌||◌, Bool, true, false, Option, Some, None, is_some, if◌then◌else◌, refl, sym, ◌∙◌}

pub or_none : (a b : Bool) → (a || b) ≡ false → (a ≡ false) × (b ≡ false)
or_none true b e = absurd cc
or_none false b e = (refl, e)

pub or_false : (b : Bool) → (b || false) ≡ b
or_false true = refl
or_false false = refl

pub or_true : (b : Bool) → (b || (true || false)) ≡ true
or_true true = refl
or_true false = refl

-- the test that makes an optional value
pub some_if : {A : Type 0} (b : Bool) (x : A) (o : Option A) → o ≡ (if b then Some x else None) → is_some o ≡ b
some_if true x o e = rw e refl
some_if false x o e = rw e refl

pub or_assoc3 : (a b c : Bool) → ((a || b) || c) ≡ (a || (b || c))
or_assoc3 true b c = refl
or_assoc3 false b c = refl

pub or_swap : (a b c d : Bool) → ((a || b) || (c || d)) ≡ ((a || c) || (b || d))
or_swap true b c d = refl
or_swap false true true d = refl
or_swap false true false d = refl
or_swap false false c d = refl

pub clash : {A : Type 0} {b : Bool} → b ≡ true → b ≡ false → A
clash t f = let bad : true ≡ false = sym t ∙ f in absurd cc
