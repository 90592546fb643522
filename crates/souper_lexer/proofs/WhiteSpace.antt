-- The white space characters are the characters of the list.
use Rattle.std.proofs.Common.{◌≡◌, ℕ, zero, suc, ◌+◌, ◌-◌, ◌<◌, ◌≤◌, Bool, true, false, ◌||◌, ◌&&◌, ◌==◌, get_or, refl, sym, ◌∙◌, subst, arith, eqb-true, lit<, lit≤}
use Rattle.std.specs.Prelude.{Contains, nat_lt}
use Rattle.std.specs.Char.{is_whitespace}
use Rattle.std.proofs.lemmas.List.Folds.{list_all_at}
use borrow.Author.Tests.{ltb-true}
use Rattle.souper_graph.specs.Syntax.TokenLaws.{white_space}

-- the element at k from the one at index a on
tabs : (k d : ℕ) → k < 5 → get_or white_space k d ≡ 9 + k
tabs zero d h = refl
tabs (suc zero) d h = refl
tabs (suc (suc zero)) d h = refl
tabs (suc (suc (suc zero))) d h = refl
tabs (suc (suc (suc (suc zero)))) d h = refl
tabs (suc (suc (suc (suc (suc k))))) d h = absurd (omega arith)

wide : (k d : ℕ) → k < 11 → get_or white_space (9 + k) d ≡ 8192 + k
wide zero d h = refl
wide (suc zero) d h = refl
wide (suc (suc zero)) d h = refl
wide (suc (suc (suc zero))) d h = refl
wide (suc (suc (suc (suc zero)))) d h = refl
wide (suc (suc (suc (suc (suc zero))))) d h = refl
wide (suc (suc (suc (suc (suc (suc zero)))))) d h = refl
wide (suc (suc (suc (suc (suc (suc (suc zero))))))) d h = refl
wide (suc (suc (suc (suc (suc (suc (suc (suc zero)))))))) d h = refl
wide (suc (suc (suc (suc (suc (suc (suc (suc (suc zero))))))))) d h = refl
wide (suc (suc (suc (suc (suc (suc (suc (suc (suc (suc zero)))))))))) d h = refl
wide (suc (suc (suc (suc (suc (suc (suc (suc (suc (suc (suc k))))))))))) d h = absurd (omega arith)

either : (P : Type 0) (a b : Bool) → (a ≡ true → P) → (b ≡ true → P) → (a || b) ≡ true → P
either P true b f g h = f refl
either P false b f g h = g h

both : (P : Type 0) (a b : Bool) → (a ≡ true → b ≡ true → P) → (a && b) ≡ true → P
both P true true f h = f refl refl
both P true false f h = absurd cc
both P false b f h = absurd cc

-- one of a few characters, at index k
one : (k n c : ℕ) → k < 25 → ((d : ℕ) → get_or white_space k d ≡ n) → (c == n) ≡ true → Contains white_space c
one k n c h e t = (k, h, e c ∙ sym (eqb-true c n t))

-- a run of n characters from m on, which begins at index a
run : (a m n c : ℕ) → a + n ≤ 25 → ((k d : ℕ) → k < n → get_or white_space (a + k) d ≡ m + k) → m ≤ c → c < m + n → Contains white_space c
run a m n c fits e low high = (
  a + (c - m),
  omega arith,
  e (c - m) c (omega arith) ∙ (let sum : m + (c - m) ≡ c = omega arith in sum),
)

tabs_at : (k d : ℕ) → k < 5 → get_or white_space (0 + k) d ≡ 9 + k
tabs_at k d h = subst (λ (i : ℕ). get_or white_space i d ≡ 9 + k) (let e : k ≡ 0 + k = omega arith in e) (tabs k d h)

tab : (c : ℕ) → (nat_lt 8 c && nat_lt c 14) ≡ true → Contains white_space c
tab c h = both (Contains white_space c) (nat_lt 8 c) (nat_lt c 14)
    (λ a b. run 0 9 5 c (lit≤ tt) tabs_at (omega (arith, ltb-true 8 c a)) (omega (arith, ltb-true c 14 b))) h

spaces : (c : ℕ) → (nat_lt 8191 c && nat_lt c 8203) ≡ true → Contains white_space c
spaces c h = both (Contains white_space c) (nat_lt 8191 c) (nat_lt c 8203)
    (λ a b. run 9 8192 11 c (lit≤ tt) wide (omega (arith, ltb-true 8191 c a)) (omega (arith, ltb-true c 8203 b))) h

pub white_listed : (c : ℕ) → is_whitespace c ≡ true → Contains white_space c
white_listed c =
    let P : Type 0 = Contains white_space c in
    either P _ (c == 12288) (either P _ (c == 8287) (either P _ (c == 8239) (either P _ (c == 8233) (either P _ (c == 8232)
    (either P _ _ (either P _ (c == 5760) (either P _ (c == 160) (either P _ (c == 133) (either P _ (c == 32) (tab c)
    (one 5 32 c (lit< tt) (λ d. refl))) (one 6 133 c (lit< tt) (λ d. refl))) (one 7 160 c (lit< tt) (λ d. refl))) (one 8 5760 c (lit< tt) (λ d. refl)))
    (spaces c)) (one 20 8232 c (lit< tt) (λ d. refl))) (one 21 8233 c (lit< tt) (λ d. refl))) (one 22 8239 c (lit< tt) (λ d. refl)))
    (one 23 8287 c (lit< tt) (λ d. refl))) (one 24 12288 c (lit< tt) (λ d. refl))

passes : (b : Bool) → (b ≡ false → ⊥) → b ≡ true
passes true h = refl
passes false h = absurd (h refl)

-- each element passes
all_white : (k c : ℕ) → k < 25 → is_whitespace (get_or white_space k c) ≡ true
all_white k c h = passes (is_whitespace (get_or white_space k c)) (λ f. let e : true ≡ false = list_all_at is_whitespace white_space k c h f in cc)

pub listed_white : (c : ℕ) → Contains white_space c → is_whitespace c ≡ true
listed_white c h = subst (λ (x : ℕ). is_whitespace x ≡ true) h.2 (all_white h.0 c h.1)
