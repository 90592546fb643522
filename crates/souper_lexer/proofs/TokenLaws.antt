-- Exactly the tokens of a text are read.
use Rattle.std.proofs.Common.{◌≡◌, ℕ, zero, suc, ◌+◌, ◌-◌, ◌<◌, ◌≤◌, Bool, true, false, ◌⊎◌, inl, inr, List, [], ◌∷◌, ◌++◌, length, IsUtf8, sym, refl, ap, ◌∙◌, subst, arith, take, drop, append-nil, append_assoc, length-append}
use Rattle.std.specs.List.{AllByRecursion}
use Rattle.std.proofs.lemmas.List.{take_at, drop_at}
use Rattle.std.proofs.lemmas.Bool.{false≢true}
use Rattle.souper_graph.specs.Syntax.Tokens.{Lexeme, spelling, Begins, IsLastGap, IsTextOf}
use Rattle.souper_graph.specs.Syntax.TokenLaws.{StandsAt, AreTokensOf, OneReading}
use Rattle.souper_lexer.specs.TokenReading.{Front, ends, faulty, found, next_of, gap_len, Lexed, before, lexed_within, lexed_of}
use Rattle.souper_lexer.proofs.TokenSteps.{found_shorter, within_ends, within_faulty, within_found, lexed_ends, lexed_found}
use Rattle.souper_lexer.proofs.TokenComplete.{next_found, next_gap, next_ends, next_cut}
use Rattle.souper_lexer.proofs.TokenSound.{next_stands, ends_stands, cut_stands}
use Rattle.souper_lexer.specs.TokenView.{EndsInWord, IsCut}

-- tokens before others
abbrev onto : List (ℕ × Lexeme) → Lexed → Lexed
onto [] x = x
onto (t ∷ ts) x = before t.0 t.1 (onto ts x)

onto_tokens : (ts : List (ℕ × Lexeme)) (x : Lexed) → (onto ts x).tokens ≡ ts ++ x.tokens
onto_tokens [] x = refl
onto_tokens (t ∷ ts) x = ap (λ l. t ∷ l) (onto_tokens ts x)

onto_fault : (ts : List (ℕ × Lexeme)) (x : Lexed) → (onto ts x).fault ≡ x.fault
onto_fault [] x = refl
onto_fault (t ∷ ts) x = onto_fault ts x

-- what a prefix of the text is, is read first
begins_lexed : (ts : List (ℕ × Lexeme)) (n : ℕ) (bs rest : List ℕ) → Begins n bs ts rest → (m : ℕ) × (lexed_of n bs ≡ onto ts (lexed_of m rest))
begins_lexed [] n bs rest h = (n, ap (lexed_of n) h)
begins_lexed (t ∷ ts) n bs rest h =
    let at : n + gap_len bs ≡ t.0 = ap (λ k. n + k) (next_gap h.gap t.1 h.after bs h.stands) ∙ sym h.offset_is in
    let more = begins_lexed ts (t.0 + length (spelling t.1)) h.after rest h.more in
    (more.0, lexed_found n bs t.1 h.after (next_found h.gap t.1 h.after bs h.stands) ∙ (λ i. before (at i) t.1 (lexed_of (at i + length (spelling t.1)) h.after)) ∙ ap (before t.0 t.1) more.1)

text_lexed : (bs : List ℕ) (ts : List (ℕ × Lexeme)) → IsTextOf bs ts → (m : ℕ) × (lexed_of 0 bs ≡ onto ts (record { tokens = []; fault = false; cut = true; len = m }))
text_lexed bs ts h =
    let b = begins_lexed ts 0 bs h.0 h.1 in
    (b.0 + length h.0, b.1 ∙ ap (onto ts) (lexed_ends b.0 h.0 (next_ends h.0 h.2)))

pub text_tokens : (bs : List ℕ) (ts : List (ℕ × Lexeme)) → IsTextOf bs ts → ((lexed_of 0 bs).tokens ≡ ts) × ((lexed_of 0 bs).fault ≡ false)
text_tokens bs ts h =
    let e = text_lexed bs ts h in
    let end : Lexed = record { tokens = []; fault = false; cut = true; len = e.0 } in
    (ap (λ (x : Lexed). x.tokens) e.1 ∙ onto_tokens ts end ∙ append-nil ts, ap (λ (x : Lexed). x.fault) e.1 ∙ onto_fault ts end)

pub one_reading : OneReading
one_reading bs ts us h g = sym (text_tokens bs ts h).0 ∙ (text_tokens bs us g).0

-- no token comes: the text ends, or is at fault
abbrev pub Outcome : List ℕ → Bool → Bool → Type 0
Outcome rest fault cut = ((fault ≡ false) × (cut ≡ true) × IsLastGap rest) ⊎ ((fault ≡ true) × (next_of rest ≡ faulty cut))

-- the tokens that are read, as a prefix of the text, and the rest after them
pub record Reading (n : ℕ) (bs : List ℕ) (x : Lexed) : Type 0 where
  pub rest : List ℕ
  pub front : Begins n bs x.tokens rest
  pub utf8 : IsUtf8 rest
  pub outcome : Outcome rest x.fault x.cut

read_by : (k n : ℕ) (bs : List ℕ) (f : Front) → next_of bs ≡ f → IsUtf8 bs
    → ((m : ℕ) (rest : List ℕ) → length rest < length bs → IsUtf8 rest → Reading m rest (lexed_within k m rest))
    → Reading n bs (lexed_within (suc k) n bs)
read_by k n bs ends e utf8 ih = subst (Reading n bs) (sym (within_ends k n bs e)) (record { rest = bs; front = refl; utf8 = utf8; outcome = inl (refl, refl, ends_stands bs utf8 e) })
read_by k n bs (faulty cut) e utf8 ih = subst (Reading n bs) (sym (within_faulty k n bs cut e)) (record { rest = bs; front = refl; utf8 = utf8; outcome = inr (refl, e) })
read_by k n bs (found t rest) e utf8 ih =
    let h = next_stands bs t rest utf8 e in
    let more = ih (n + gap_len bs + length (spelling t)) rest (found_shorter bs t rest e) h.utf8 in
    subst (Reading n bs) (sym (within_found k n bs t rest e))
    (record { rest = more.rest; front = record { gap = h.gap; after = rest; stands = h.stands; offset_is = ap (λ g. n + g) h.gap_len; more = more.front }; utf8 = more.utf8; outcome = more.outcome })

read_within : (k n : ℕ) (bs : List ℕ) → length bs < k → IsUtf8 bs → Reading n bs (lexed_within k n bs)
read_within zero n bs l utf8 = absurd (omega arith)
read_within (suc k) n bs l utf8 = read_by k n bs (next_of bs) refl utf8 (λ m rest h u. read_within k m rest (omega arith) u)

pub reading : (n : ℕ) (bs : List ℕ) → IsUtf8 bs → Reading n bs (lexed_of n bs)
unfolding lexed_of
reading n bs utf8 = read_within (suc (length bs)) n bs (omega arith) utf8

both : {P : Type 0} (b : Bool) → b ≡ true → b ≡ false → P
both b h g = absurd (false≢true (sym g ∙ h))

when_ended : (rest : List ℕ) (fault cut : Bool) → Outcome rest fault cut → fault ≡ false → IsLastGap rest
when_ended rest fault cut (inl h) e = h.2
when_ended rest fault cut (inr h) e = both fault h.0 e

when_faulty : (rest : List ℕ) (fault cut : Bool) → Outcome rest fault cut → fault ≡ true → IsLastGap rest → ⊥
when_faulty rest fault cut (inl h) e g = both fault e h.0
when_faulty rest fault cut (inr h) e g = let c : faulty cut ≡ ends = sym h.1 ∙ next_ends rest g in cc

pub tokens_law : (bs : List ℕ) → IsUtf8 bs → AreTokensOf bs (lexed_of 0 bs).tokens (lexed_of 0 bs).fault
tokens_law bs utf8 =
    let r = reading 0 bs utf8 in
    record {
      rest = r.rest;
      front = r.front;
      longest = λ us other h. let b = begins_lexed us 0 bs other h in ((lexed_of b.0 other).tokens, sym (ap (λ (x : Lexed). x.tokens) b.1 ∙ onto_tokens us (lexed_of b.0 other)));
      ended = when_ended r.rest (lexed_of 0 bs).fault (lexed_of 0 bs).cut r.outcome;
      faulty = when_faulty r.rest (lexed_of 0 bs).fault (lexed_of 0 bs).cut r.outcome;
    }

pub begins_length : (ts : List (ℕ × Lexeme)) (n : ℕ) (bs rest : List ℕ) → Begins n bs ts rest → length rest ≤ length bs
begins_length [] n bs rest h = omega (arith, ap length h)
begins_length (t ∷ ts) n bs rest h =
    let s = h.stands in
    omega (arith, ap length s.text ∙ length-append h.gap (spelling t.1 ++ h.after), length-append (spelling t.1) h.after, begins_length ts (t.0 + length (spelling t.1)) h.after rest h.more)

-- a list of tokens, and then another
pub begins_append : (ts us : List (ℕ × Lexeme)) (n : ℕ) (bs mid rest : List ℕ) → Begins n bs ts mid → Begins (n + (length bs - length mid)) mid us rest → Begins n bs (ts ++ us) rest
begins_append [] us n bs mid rest h g = let e : n + (length bs - length mid) ≡ n = omega (arith, ap length h) in subst (λ l. Begins n l us rest) (sym h) (subst (λ m. Begins m mid us rest) e g)
begins_append (t ∷ ts) us n bs mid rest h g =
    let s = h.stands in
    let l : length bs ≡ length h.gap + (length (spelling t.1) + length h.after) = ap length s.text ∙ length-append h.gap (spelling t.1 ++ h.after) ∙ ap (λ k. length h.gap + k) (length-append (spelling t.1) h.after) in
    let shorter = begins_length ts (t.0 + length (spelling t.1)) h.after mid h.more in
    let e : n + (length bs - length mid) ≡ t.0 + length (spelling t.1) + (length h.after - length mid) = omega (arith, h.offset_is) in
    record { gap = h.gap; after = h.after; stands = s; offset_is = h.offset_is; more = begins_append ts us (t.0 + length (spelling t.1)) h.after mid rest h.more (subst (λ m. Begins m mid us rest) e g) }

-- each token is at its offset: xs are the bytes before bs in the text
in_place : (ts : List (ℕ × Lexeme)) (text xs bs rest : List ℕ) → text ≡ xs ++ bs → Begins (length xs) bs ts rest → AllByRecursion (StandsAt text) ts
in_place [] text xs bs rest e h = tt
in_place (t ∷ ts) text xs bs rest e h =
    let s = h.stands in
    let split : text ≡ (xs ++ h.gap) ++ (spelling t.1 ++ h.after) = e ∙ ap (λ l. xs ++ l) s.text ∙ sym (append_assoc xs h.gap (spelling t.1 ++ h.after)) in
    let at : length (xs ++ h.gap) ≡ t.0 = length-append xs h.gap ∙ sym h.offset_is in
    let past : length ((xs ++ h.gap) ++ spelling t.1) ≡ t.0 + length (spelling t.1) = length-append (xs ++ h.gap) (spelling t.1) ∙ ap (λ k. k + length (spelling t.1)) at in (
      ap (λ l. take (length (spelling t.1)) (drop t.0 l)) split ∙ ap (take (length (spelling t.1))) (drop_at (xs ++ h.gap) (spelling t.1 ++ h.after) t.0 at) ∙ take_at (spelling t.1) h.after (length (spelling t.1)) refl,
      in_place ts text ((xs ++ h.gap) ++ spelling t.1) h.after rest (split ∙ sym (append_assoc (xs ++ h.gap) (spelling t.1) h.after)) (subst (λ m. Begins m h.after ts rest) (sym past) h.more),
    )

-- a token's content is the slice at its place
pub in_text : (bs : List ℕ) (ts : List (ℕ × Lexeme)) (rest : List ℕ) → Begins 0 bs ts rest → AllByRecursion (StandsAt bs) ts
in_text bs ts rest h = in_place ts bs [] bs rest refl h

when_cut : (rest : List ℕ) (fault cut : Bool) → IsUtf8 rest → Outcome rest fault cut → cut ≡ true → IsLastGap rest ⊎ EndsInWord rest
when_cut rest fault cut utf8 (inl h) e = inl h.2
when_cut rest fault cut utf8 (inr h) e = inr (cut_stands rest utf8 (h.1 ∙ ap faulty e))

when_sound : (rest : List ℕ) (fault cut : Bool) → Outcome rest fault cut → fault ≡ false → cut ≡ true
when_sound rest fault cut (inl h) e = h.1
when_sound rest fault cut (inr h) e = both fault h.0 e

when_word : (rest : List ℕ) (fault cut : Bool) → Outcome rest fault cut → EndsInWord rest → cut ≡ true
when_word rest fault cut (inl h) w = h.1
when_word rest fault cut (inr h) w = let same : faulty cut ≡ faulty true = sym h.1 ∙ next_cut rest w in cc

pub cut_law : (bs : List ℕ) → IsUtf8 bs → IsCut bs (lexed_of 0 bs).tokens (lexed_of 0 bs).fault (lexed_of 0 bs).cut
cut_law bs utf8 =
    let r = reading 0 bs utf8 in
    record { rest = r.rest; front = r.front; ended = when_cut r.rest (lexed_of 0 bs).fault (lexed_of 0 bs).cut r.utf8 r.outcome; sound = when_sound r.rest (lexed_of 0 bs).fault (lexed_of 0 bs).cut r.outcome; in_word = when_word r.rest (lexed_of 0 bs).fault (lexed_of 0 bs).cut r.outcome }
