-- Lemmas. The words that are read as these bits are the one that shows them, if there is a bit.
use Rattle.std.proofs.Common.{◌≡◌, ℕ, ◌<◌, ◌==◌, Bool, true, false, List, [], ◌∷◌, map, length, Option, Some, None, refl, ◌∙◌, ap, subst, arith, eqb-true}
use Rattle.std.specs.Prelude.{if◌then◌else◌}
use Rattle.souper_graph.specs.Leaves.{text_of_known_bit, text_of_bit}
use Rattle.souper_graph.specs.Syntax.Numbers.{bit_of, known_bit_of, all_of, listed, bits_of, known_bits_of}
use Rattle.souper_graph.specs.Syntax.Optional.{◌>>=◌}

bind_some : {A B : Type 0} (o : Option A) (f : A → Option B) (y : B) → (o >>= f) ≡ Some y → (x : A) × (o ≡ Some x) × (f x ≡ Some y)
bind_some (Some x) f y e = (x, refl, e)
bind_some None f y e = absurd cc

some_is : {A : Type 0} {x y : A} → Some x ≡ Some y → x ≡ y
some_is e = cc

module _ {A : Type 0} (one : ℕ → Option A) (text : A → ℕ) (one_is : (b : A) → one (text b) ≡ Some b) (one_means : (c : ℕ) (b : A) → one c ≡ Some b → c ≡ text b) where
  all_is : (bs : List A) → all_of one (map text bs) ≡ Some bs
  all_is [] = refl
  all_is (b ∷ bs) = rw (one_is b, all_is bs) refl

  all_means : (s : List ℕ) (bs : List A) → all_of one s ≡ Some bs → s ≡ map text bs
  all_means [] bs e = let same : ◌≡◌ {A = List A} [] bs = some_is e in ap (map text) same
  all_means (c ∷ cs) bs e =
      let b = bind_some (one c) (λ b. all_of one cs >>= λ ds. Some (b ∷ ds)) bs e in
      let more = bind_some (all_of one cs) (λ ds. Some (b.0 ∷ ds)) bs b.2 in
      let same : ◌≡◌ {A = List A} (b.0 ∷ more.0) bs = some_is more.2 in
      ap (λ (x : ℕ). x ∷ cs) (one_means c b.0 b.1) ∙ ap (λ (x : List ℕ). text b.0 ∷ x) (all_means cs more.0 more.1) ∙ ap (map text) same

  listed_is : (bs : List A) → 0 < length bs → listed bs ≡ Some bs
  listed_is [] h = absurd (omega arith)
  listed_is (b ∷ bs) h = refl

  listed_means : (bs cs : List A) → listed bs ≡ Some cs → (bs ≡ cs) × (0 < length cs)
  listed_means [] cs e = absurd cc
  listed_means (b ∷ bs) cs e =
      let same : ◌≡◌ {A = List A} (b ∷ bs) cs = some_is e in
      let long : 0 < length (b ∷ bs) = omega arith in
      (same, subst (λ (x : List A). 0 < length x) same long)

  entries_is : (bs : List A) → 0 < length bs → (all_of one (map text bs) >>= listed) ≡ Some bs
  entries_is bs h = rw (all_is bs) (listed_is bs h)

  entries_means : (s : List ℕ) (bs : List A) → (all_of one s >>= listed) ≡ Some bs → (s ≡ map text bs) × (0 < length bs)
  entries_means s bs e =
      let all = bind_some (all_of one s) listed bs e in
      let some = listed_means all.0 bs all.2 in
      (all_means s all.0 all.1 ∙ ap (map text) some.0, some.1)

bit_is : (b : Bool) → bit_of (text_of_bit b) ≡ Some b
bit_is false = refl
bit_is true = refl

bit_by : (x y : Bool) (c : ℕ) (b : Bool) → (x ≡ true → c ≡ 48) → (y ≡ true → c ≡ 49) → (if x then Some false else (if y then Some true else None)) ≡ Some b → c ≡ text_of_bit b
bit_by true y c b f g e = let same : false ≡ b = some_is e in f refl ∙ ap text_of_bit same
bit_by false true c b f g e = let same : true ≡ b = some_is e in g refl ∙ ap text_of_bit same
bit_by false false c b f g e = absurd cc

bit_means : (c : ℕ) (b : Bool) → bit_of c ≡ Some b → c ≡ text_of_bit b
bit_means c b e = bit_by (c == 48) (c == 49) c b (eqb-true c 48) (eqb-true c 49) e

known_bit_is : (b : Option Bool) → known_bit_of (text_of_known_bit b) ≡ Some b
known_bit_is None = refl
known_bit_is (Some false) = refl
known_bit_is (Some true) = refl

as_known : (b : Bool) → text_of_bit b ≡ text_of_known_bit (Some b)
as_known false = refl
as_known true = refl

known_bit_by : (x : Bool) (c : ℕ) (b : Option Bool) → (x ≡ true → c ≡ 120) → (if x then Some None else (bit_of c >>= λ k. Some (Some k))) ≡ Some b → c ≡ text_of_known_bit b
known_bit_by true c b f e = let same : ◌≡◌ {A = Option Bool} None b = some_is e in f refl ∙ ap text_of_known_bit same
known_bit_by false c b f e =
    let k = bind_some (bit_of c) (λ k. Some (Some k)) b e in
    let same : ◌≡◌ {A = Option Bool} (Some k.0) b = some_is k.2 in
    bit_means c k.0 k.1 ∙ as_known k.0 ∙ ap text_of_known_bit same

known_bit_means : (c : ℕ) (b : Option Bool) → known_bit_of c ≡ Some b → c ≡ text_of_known_bit b
known_bit_means c b e = known_bit_by (c == 120) c b (eqb-true c 120) e

pub bits_is : (bits : List Bool) → 0 < length bits → bits_of (map text_of_bit bits) ≡ Some bits
bits_is = entries_is bit_of text_of_bit bit_is bit_means

pub bits_means : (s : List ℕ) (bits : List Bool) → bits_of s ≡ Some bits → (s ≡ map text_of_bit bits) × (0 < length bits)
bits_means = entries_means bit_of text_of_bit bit_is bit_means

pub known_bits_is : (bits : List (Option Bool)) → 0 < length bits → known_bits_of (map text_of_known_bit bits) ≡ Some bits
known_bits_is = entries_is known_bit_of text_of_known_bit known_bit_is known_bit_means

pub known_bits_means : (s : List ℕ) (bits : List (Option Bool)) → known_bits_of s ≡ Some bits → (s ≡ map text_of_known_bit bits) × (0 < length bits)
known_bits_means = entries_means known_bit_of text_of_known_bit known_bit_is known_bit_means
