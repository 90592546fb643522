-- How much work waiting states can still make: it falls with each step.
use Rattle.std.proofs.Common.{◌≡◌, ℕ, suc, ◌+◌, ◌-◌, ◌*◌, ◌^◌, ◌<◌, ◌≤◌, ◌++◌, inl, inr, length, List, [], ◌∷◌, refl, sym, ap, ◌∙◌, subst, arith}
use Rattle.std.proofs.Math.Nat.{pow-succ', one-le-pow, mul-le-mul_right, suc-mul}
use Rattle.souper_graph.specs.Uses.{Has}
use Rattle.souper_embedding.specs.declared.search.Embedding.{Embedding}
use Rattle.souper_embedding.specs.States.{work}

zero-first : (a : ℕ) → a ≡ 0 + a
zero-first a = omega arith

sum-first : (a b c d : ℕ) → d ≡ b + c → a + d ≡ (a + b) + c
sum-first a b c d e = omega arith

work-join : (b n : ℕ) (xs ys : List Embedding) → work b n (xs ++ ys) ≡ work b n xs + work b n ys
work-join b n [] ys = zero-first (work b n ys)
work-join b n (x ∷ xs) ys = sum-first (b ^ (n - length x.images.items)) (work b n xs) (work b n ys) (work b n (xs ++ ys)) (work-join b n xs ys)

none-first : (p : ℕ) → 0 ≡ 0 * p
none-first p = omega arith

times-first : (p w l : ℕ) → w ≡ l * p → p + w ≡ suc l * p
times-first p w l e = let z = suc-mul l p in omega arith

work-next : (b n k : ℕ) (ys : List Embedding) → ((y : Embedding) → Has ys y → length y.images.items ≡ k + 1) → work b n ys ≡ length ys * b ^ (n - (k + 1))
work-next b n k [] h = none-first (b ^ (n - (k + 1)))
work-next b n k (y ∷ ys) h =
    ap (λ z. b ^ (n - z) + work b n ys) (h y (inl refl))
    ∙ times-first (b ^ (n - (k + 1))) (work b n ys) (length ys) (work-next b n k ys (λ z m. h z (inr m)))

less-work : (a w l p g : ℕ) → w ≡ l * p → l ≤ g → 1 ≤ p → a + w < a + (suc g * p + 0)
less-work a w l p g e h one = let m = mul-le-mul_right p h in let s = suc-mul g p in omega arith

pub work-less : (g n k : ℕ) (x : Embedding) (old new ws ys : List Embedding) → old ≡ ws ++ x ∷ [] → new ≡ ws ++ ys → length ys ≤ g → ((y : Embedding) → Has ys y → length y.images.items ≡ k + 1) → length x.images.items ≡ k → k < n
    → work (suc g) n new < work (suc g) n old
work-less g n k x old new ws ys eo en few longer ek l =
    let r : n - k ≡ suc (n - (k + 1)) = omega arith in
    let one : 1 ≤ suc g ^ (n - (k + 1)) = one-le-pow (n - (k + 1)) (suc g) (omega arith) in
    let power : suc g ^ (n - length x.images.items) ≡ suc g * suc g ^ (n - (k + 1)) = ap (λ z. suc g ^ (n - z)) ek ∙ ap (λ z. suc g ^ z) r ∙ pow-succ' (suc g) (n - (k + 1)) in
    let less = less-work (work (suc g) n ws) (work (suc g) n ys) (length ys) (suc g ^ (n - (k + 1))) g (work-next (suc g) n k ys longer) few one in
    let before : work (suc g) n old ≡ work (suc g) n ws + (suc g * suc g ^ (n - (k + 1)) + 0) = ap (work (suc g) n) eo ∙ work-join (suc g) n ws (x ∷ []) ∙ ap (λ z. work (suc g) n ws + (z + 0)) power in
    let after : work (suc g) n new ≡ work (suc g) n ws + work (suc g) n ys = ap (work (suc g) n) en ∙ work-join (suc g) n ws ys in
    subst (λ z. z < work (suc g) n old) (sym after) (subst (λ z. work (suc g) n ws + work (suc g) n ys < z) (sym before) less)

-- a state with all path conditions is taken
pub work-taken : (b n : ℕ) (x : Embedding) (ws : List Embedding) → 0 < b → work b n ws < work b n (ws ++ x ∷ [])
work-taken b n x ws l =
    let one : 1 ≤ b ^ (n - length x.images.items) = one-le-pow (n - length x.images.items) b l in
    subst (λ z. work b n ws < z) (sym (work-join b n ws (x ∷ []))) (more (work b n ws) (b ^ (n - length x.images.items)) one)
  where
    more : (a p : ℕ) → 1 ≤ p → a < a + (p + 0)
    more a p h = omega arith
