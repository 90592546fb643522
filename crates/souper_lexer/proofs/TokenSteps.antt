-- The tokens of a text, in sequence.
use Rattle.std.proofs.Common.{◌≡◌, ℕ, zero, suc, ◌+◌, ◌-◌, ◌<◌, ◌≤◌, Bool, true, false, List, [], ◌∷◌, length, get_or, drop, sym, refl, ap, ◌∙◌, arith, length-append}
use Rattle.souper_graph.specs.Syntax.Tokens.{Lexeme, spelling}
use Rattle.souper_lexer.specs.TokenReading.{Front, ends, faulty, found, inside, remark, Place, after_from, after_gap, gap_len, front_of, token_at, next_of, Lexed, before, lexed_within, lexed_of, space_len}
use Rattle.std.proofs.lemmas.List.{nil_from_length}
use Rattle.souper_lexer.proofs.TokenFront.{if_both, token_sound, spelled_some}
use Rattle.std.specs.Prelude.{if◌then◌else◌, ◌==◌}

le_step : (b n : ℕ) (bs : List ℕ) → ((k : ℕ) → length (after_from (inside k) bs) ≤ length bs) → length (after_from remark bs) ≤ length bs
    → length (elim n as (λ x. List ℕ) [ zero ↦ if b == 59 then after_from remark bs else b ∷ bs | suc k ↦ after_from (inside k) bs ]) ≤ suc (length bs)
le_step b zero bs hk hr = if_both (λ (l : List ℕ). length l ≤ suc (length bs)) (b == 59) _ _ (λ _. omega arith) (λ _. omega arith)
le_step b (suc k) bs hk hr = omega (arith, hk k)

after_from-le : (p : Place) (bs : List ℕ) → length (after_from p bs) ≤ length bs
unfolding after_from
after_from-le p [] = omega arith
after_from-le (inside zero) (b ∷ bs) = le_step b (space_len (b ∷ bs)) bs (λ k. after_from-le (inside k) bs) (after_from-le remark bs)
after_from-le (inside (suc k)) (b ∷ bs) = let h = after_from-le (inside k) bs in omega arith
after_from-le remark (b ∷ bs) = let h = after_from-le (inside 0) bs in let r = after_from-le remark bs in if_both (λ (l : List ℕ). length l ≤ suc (length bs)) (b == 10) _ _ (λ _. omega arith) (λ _. omega arith)

gap_le : (bs : List ℕ) → length (after_gap bs) ≤ length bs
gap_le bs = after_from-le (inside 0) bs

-- a found token takes at least a byte
found_length : (bs : List ℕ) (t : Lexeme) (rest : List ℕ) → next_of bs ≡ found t rest → length (spelling t) + length rest ≡ length (after_gap bs)
found_length bs t rest e = let h = token_sound (after_gap bs) t rest e in sym (ap length h.text ∙ length-append (spelling t) rest)

pub found_shorter : (bs : List ℕ) (t : Lexeme) (rest : List ℕ) → next_of bs ≡ found t rest → length rest < length bs
found_shorter bs t rest e =
    let h = token_sound (after_gap bs) t rest e in
    omega (arith, found_length bs t rest e, spelled_some t h.is_token, gap_le bs)

-- one step
pub within_ends : (k n : ℕ) (bs : List ℕ) → next_of bs ≡ ends → lexed_within (suc k) n bs ≡ record { tokens = []; fault = false; cut = true; len = n + length bs }
unfolding lexed_within
within_ends k n bs e = rw (e, lexed_within) refl

pub within_faulty : (k n : ℕ) (bs : List ℕ) (cut : Bool) → next_of bs ≡ faulty cut → lexed_within (suc k) n bs ≡ record { tokens = []; fault = true; cut = cut; len = n + length bs }
unfolding lexed_within
within_faulty k n bs cut e = rw (e, lexed_within) refl

pub within_found : (k n : ℕ) (bs : List ℕ) (t : Lexeme) (rest : List ℕ) → next_of bs ≡ found t rest → lexed_within (suc k) n bs ≡ before (n + gap_len bs) t (lexed_within k (n + gap_len bs + length (spelling t)) rest)
unfolding lexed_within
within_found k n bs t rest e = rw (e, lexed_within) refl

-- the bound does not matter
same_by : (k j n : ℕ) (bs : List ℕ) (f : Front) → next_of bs ≡ f
    → ((m : ℕ) (rest : List ℕ) → length rest < length bs → lexed_within k m rest ≡ lexed_within j m rest)
    → lexed_within (suc k) n bs ≡ lexed_within (suc j) n bs
same_by k j n bs ends e ih = within_ends k n bs e ∙ sym (within_ends j n bs e)
same_by k j n bs (faulty cut) e ih = within_faulty k n bs cut e ∙ sym (within_faulty j n bs cut e)
same_by k j n bs (found t rest) e ih =
    within_found k n bs t rest e
    ∙ ap (before (n + gap_len bs) t) (ih (n + gap_len bs + length (spelling t)) rest (found_shorter bs t rest e))
    ∙ sym (within_found j n bs t rest e)

same_within : (k j n : ℕ) (bs : List ℕ) → length bs < k → length bs < j → lexed_within k n bs ≡ lexed_within j n bs
same_within zero j n bs lk lj = absurd (omega arith)
same_within (suc k) zero n bs lk lj = absurd (omega arith)
same_within (suc k) (suc j) n bs lk lj = same_by k j n bs (next_of bs) refl (λ m rest l. same_within k j m rest (omega arith) (omega arith))

pub lexed_ends : (n : ℕ) (bs : List ℕ) → next_of bs ≡ ends → lexed_of n bs ≡ record { tokens = []; fault = false; cut = true; len = n + length bs }
unfolding lexed_of
lexed_ends n bs e = within_ends (length bs) n bs e

lexed_faulty : (n : ℕ) (bs : List ℕ) (cut : Bool) → next_of bs ≡ faulty cut → lexed_of n bs ≡ record { tokens = []; fault = true; cut = cut; len = n + length bs }
unfolding lexed_of
lexed_faulty n bs cut e = within_faulty (length bs) n bs cut e

pub lexed_found : (n : ℕ) (bs : List ℕ) (t : Lexeme) (rest : List ℕ) → next_of bs ≡ found t rest → lexed_of n bs ≡ before (n + gap_len bs) t (lexed_of (n + gap_len bs + length (spelling t)) rest)
unfolding lexed_of
lexed_found n bs t rest e =
    within_found (length bs) n bs t rest e
    ∙ ap (before (n + gap_len bs) t) (same_within (length bs) (suc (length rest)) (n + gap_len bs + length (spelling t)) rest (found_shorter bs t rest e) (omega arith))

-- the offset of the end
len_by : (k n : ℕ) (bs : List ℕ) (f : Front) → next_of bs ≡ f → ((m : ℕ) (rest : List ℕ) → length rest < length bs → (lexed_within k m rest).len ≡ m + length rest) → (lexed_within (suc k) n bs).len ≡ n + length bs
len_by k n bs ends e ih = ap (λ (x : Lexed). x.len) (within_ends k n bs e)
len_by k n bs (faulty cut) e ih = ap (λ (x : Lexed). x.len) (within_faulty k n bs cut e)
len_by k n bs (found t rest) e ih =
    ap (λ (x : Lexed). x.len) (within_found k n bs t rest e)
    ∙ ih (n + gap_len bs + length (spelling t)) rest (found_shorter bs t rest e)
    ∙ omega (arith, found_length bs t rest e, gap_le bs)

len_within : (k n : ℕ) (bs : List ℕ) → length bs < k → (lexed_within k n bs).len ≡ n + length bs
len_within zero n bs l = absurd (omega arith)
len_within (suc k) n bs l = len_by k n bs (next_of bs) refl (λ m rest h. len_within k m rest (omega arith))

pub lexed_len : (n : ℕ) (bs : List ℕ) → (lexed_of n bs).len ≡ n + length bs
unfolding lexed_of
lexed_len n bs = len_within (suc (length bs)) n bs (omega arith)

-- the same as what a call of `next_token` says
next_by : (bs text : List ℕ) → text ≡ after_gap bs → 0 < length text → front_of (get_or text 0 0) (drop 1 text) ≡ next_of bs
next_by bs [] e l = absurd (omega arith)
next_by bs (c ∷ text) e l = ap token_at e

module _ (n : ℕ) (bs text : List ℕ) (v : Lexed) (is : lexed_of n bs ≡ v) (e : text ≡ after_gap bs) where
  pub yields_none : length text ≡ 0 → (v.tokens ≡ []) × (v.fault ≡ false) × (v.cut ≡ true) × (v ≡ v)
  yields_none l =
      let h = lexed_ends n bs (sym (ap token_at e) ∙ ap token_at (nil_from_length text l)) in
      (ap (λ (x : Lexed). x.tokens) (sym is ∙ h), ap (λ (x : Lexed). x.fault) (sym is ∙ h), ap (λ (x : Lexed). x.cut) (sym is ∙ h), refl)

  pub yields_fault : (cut : Bool) → 0 < length text → front_of (get_or text 0 0) (drop 1 text) ≡ faulty cut → (v.tokens ≡ []) × (v.fault ≡ true) × (v.cut ≡ cut) × (v ≡ v)
  yields_fault cut l f =
      let h = lexed_faulty n bs cut (sym (next_by bs text e l) ∙ f) in
      (ap (λ (x : Lexed). x.tokens) (sym is ∙ h), ap (λ (x : Lexed). x.fault) (sym is ∙ h), ap (λ (x : Lexed). x.cut) (sym is ∙ h), refl)

  -- how far the rest is
  pub yields_rest : (t : Lexeme) (rest : List ℕ) → 0 < length text → front_of (get_or text 0 0) (drop 1 text) ≡ found t rest → length (spelling t) + length rest ≡ length text
  yields_rest t rest l f = found_length bs t rest (sym (next_by bs text e l) ∙ f) ∙ ap length (sym e)

  pub yields_token : (t : Lexeme) (rest : List ℕ) (at next : ℕ) → 0 < length text → front_of (get_or text 0 0) (drop 1 text) ≡ found t rest
      → at ≡ n + (length bs - length text) → next ≡ at + (length text - length rest)
      → (v.tokens ≡ (at, t) ∷ (lexed_of next rest).tokens) × (v.fault ≡ (lexed_of next rest).fault) × (v.cut ≡ (lexed_of next rest).cut) × (v.len ≡ (lexed_of next rest).len) × (at < v.len)
  yields_token t rest at next l f is_at is_next =
      let k : n + gap_len bs ≡ at = ap (λ l. n + (length bs - length l)) (sym e) ∙ sym is_at in
      let m : n + gap_len bs + length (spelling t) ≡ next = omega (arith, k, is_next, yields_rest t rest l f) in
      let len : v.len ≡ n + length bs = sym (ap (λ (x : Lexed). x.len) is) ∙ lexed_len n bs in
      let gap = gap_le bs in
      let size = ap length e in
      let inside : at < v.len = omega arith in
      let h = sym is ∙ lexed_found n bs t rest (sym (next_by bs text e l) ∙ f) ∙ (λ i. before (k i) t (lexed_of (m i) rest)) in
      (ap (λ (x : Lexed). x.tokens) h, ap (λ (x : Lexed). x.fault) h, ap (λ (x : Lexed). x.cut) h, ap (λ (x : Lexed). x.len) h, inside)
