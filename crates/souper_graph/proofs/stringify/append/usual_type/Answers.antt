use Rattle.std.proofs.Common.{◌≡◌, ℕ, List, [], ◌∷◌, refl, sym, ap, ◌∙◌}
use Rattle.std.specs.Fmt.{decimal, digits}
use Rattle.souper_graph.proofs.stringify.append.usual_type.Goals as goal

decimal_1 : decimal 1 ≡ 49 ∷ []
unfolding digits
decimal_1 = refl

decimal_8 : decimal 8 ≡ 56 ∷ []
unfolding digits
decimal_8 = refl

decimal_16 : decimal 16 ≡ 49 ∷ 54 ∷ []
unfolding digits
decimal_16 = refl

decimal_32 : decimal 32 ≡ 51 ∷ 50 ∷ []
unfolding digits
decimal_32 = refl

decimal_64 : decimal 64 ≡ 54 ∷ 52 ∷ []
unfolding digits
decimal_64 = refl

decimal_128 : decimal 128 ≡ 49 ∷ 50 ∷ 56 ∷ []
unfolding digits
decimal_128 = refl

pub returns-in-1 : goal.returns-in-1
returns-in-1 c = ap (λ (xs : List ℕ). 58 ∷ 105 ∷ xs) (sym (ap (λ (w : ℕ). decimal w) c.in-1.is ∙ decimal_1))

pub returns-in-8 : goal.returns-in-8
returns-in-8 c = ap (λ (xs : List ℕ). 58 ∷ 105 ∷ xs) (sym (ap (λ (w : ℕ). decimal w) c.in-8.is ∙ decimal_8))

pub returns-in-16 : goal.returns-in-16
returns-in-16 c = ap (λ (xs : List ℕ). 58 ∷ 105 ∷ xs) (sym (ap (λ (w : ℕ). decimal w) c.in-16.is ∙ decimal_16))

pub returns-in-32 : goal.returns-in-32
returns-in-32 c = ap (λ (xs : List ℕ). 58 ∷ 105 ∷ xs) (sym (ap (λ (w : ℕ). decimal w) c.in-32.is ∙ decimal_32))

pub returns-in-64 : goal.returns-in-64
returns-in-64 c = ap (λ (xs : List ℕ). 58 ∷ 105 ∷ xs) (sym (ap (λ (w : ℕ). decimal w) c.in-64.is ∙ decimal_64))

pub returns-in-128 : goal.returns-in-128
returns-in-128 c = ap (λ (xs : List ℕ). 58 ∷ 105 ∷ xs) (sym (ap (λ (w : ℕ). decimal w) c.in-128.is ∙ decimal_128))
