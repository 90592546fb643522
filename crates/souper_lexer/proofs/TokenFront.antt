-- What a text begins with is a token of it, and a token at its beginning is found.
use Rattle.std.proofs.Common.{◌≡◌, ℕ, suc, ◌+◌, ◌<◌, ◌≢◌, Bool, true, false, cond, eqb, List, [], ◌∷◌, ◌++◌, length, take, drop, Option, Some, None, sym, refl, ap, ◌∙◌, subst, arith, take-append-drop}
use Rattle.std.specs.Prelude.{if◌then◌else◌, bytes_eq}
use Rattle.std.specs.List.{prefix_len}
use Rattle.std.specs.Char.{is_ascii_digit, is_ascii_alphabetic}
use Rattle.std.proofs.lemmas.List.{length-take-le}
use Rattle.std.proofs.lemmas.List.Sums.{prefix_len-le-length}
use Rattle.std.proofs.lemmas.Slice.Eq.{bytes_eq-Decides}
use Rattle.std.proofs.lemmas.Bool.{false≢true}
use Rattle.std.proofs.lemmas.Bool.Decides.{nat_tests}
use Rattle.souper_graph.specs.Names.{is_name_char}
use Rattle.souper_graph.specs.Syntax.Tokens.{Lexeme, ident, val_name, known_bits, int, comma, colon, equals, open_paren, close_paren, open_bracket, AllAre, Stops, IsLexeme, continues, spelling, known_bits_word, is_bit, begins_int}
use Rattle.souper_lexer.specs.TokenReading.{Front, ends, faulty, found, run_of, after_run, bits_at, name_at, word_at, longer_at, front_of, token_at}

-- bs is the token t, which ends there, and rest
pub record Leads (t : Lexeme) (rest : List ℕ) (bs : List ℕ) : Type 0 where
  pub is_token : IsLexeme t
  pub is_over : Stops (continues t) rest
  pub text : bs ≡ spelling t ++ rest

-- either way
pub if_both : {A : Type 0} (P : A → Type 0) (b : Bool) (x y : A) → (b ≡ true → P x) → (b ≡ false → P y) → P (if b then x else y)
if_both P true x y f g = f refl
if_both P false x y f g = g refl

eq_of : (a b : ℕ) → eqb a b ≡ true → a ≡ b
eq_of a b h = grind (arith, nat_tests)

ne_of : (a b : ℕ) → eqb a b ≡ false → a ≢ b
ne_of a b h = grind (arith, nat_tests)

-- the longest prefix that passes: all of it does, and what follows does not
all_front_cons : (p : ℕ → Bool) (x : ℕ) (xs : List ℕ) (b : Bool) → p x ≡ b → AllAre p (take (prefix_len p xs) xs) → AllAre p (take (cond b (1 + prefix_len p xs) 0) (x ∷ xs))
all_front_cons p x xs true h all = let e : 1 + prefix_len p xs ≡ suc (prefix_len p xs) = omega arith in subst (λ n. AllAre p (take n (x ∷ xs))) (sym e) (h, all)
all_front_cons p x xs false h all = tt

all_front : (p : ℕ → Bool) (bs : List ℕ) → AllAre p (take (prefix_len p bs) bs)
all_front p [] = tt
all_front p (x ∷ xs) = all_front_cons p x xs (p x) refl (all_front p xs)

stops_front_cons : (p : ℕ → Bool) (x : ℕ) (xs : List ℕ) (b : Bool) → p x ≡ b → Stops p (drop (prefix_len p xs) xs) → Stops p (drop (cond b (1 + prefix_len p xs) 0) (x ∷ xs))
stops_front_cons p x xs true h over = let e : 1 + prefix_len p xs ≡ suc (prefix_len p xs) = omega arith in subst (λ n. Stops p (drop n (x ∷ xs))) (sym e) over
stops_front_cons p x xs false h over = h

stops_front : (p : ℕ → Bool) (bs : List ℕ) → Stops p (drop (prefix_len p bs) bs)
stops_front p [] = tt
stops_front p (x ∷ xs) = stops_front_cons p x xs (p x) refl (stops_front p xs)

-- what was found is a token at the beginning of bs; a text that is cut is the word alone
abbrev pub IsFront : List ℕ → Front → Type 0
IsFront bs ends = ⊥
IsFront bs (faulty true) = bs ≡ known_bits_word
IsFront bs (faulty false) = Unit {0}
IsFront bs (found t rest) = Leads t rest bs

front_some : (p : ℕ → Bool) (bs : List ℕ) → eqb (prefix_len p bs) 0 ≡ false → 0 < length (take (prefix_len p bs) bs)
front_some p bs h = let l = ne_of _ _ h in omega (arith, length-take-le (prefix_len p bs) bs (prefix_len-le-length p bs))

not_alone : (c : ℕ) (s : List ℕ) → eqb (length (c ∷ s)) 1 ≡ false → 0 < length s
not_alone c s h = let l = ne_of _ _ h in omega arith

bits_front : (bs : List ℕ) → IsFront (known_bits_word ++ bs) (bits_at bs)
unfolding bits_at
bits_front [] = refl
bits_front (c ∷ bs) = if_both (IsFront (known_bits_word ++ c ∷ bs)) (eqb c 61) _ _
    (λ is. if_both (IsFront (known_bits_word ++ c ∷ bs)) (eqb (prefix_len is_bit bs) 0) _ _ (λ _. tt)
    (λ some. record {
      is_token = (front_some is_bit bs some, all_front is_bit bs);
      is_over = stops_front is_bit bs;
      text = ap (λ l. known_bits_word ++ l) ((λ i. eq_of c 61 is i ∷ bs) ∙ ap (λ l. 61 ∷ l) (sym (take-append-drop (prefix_len is_bit bs) bs)));
    }))
    (λ _. tt)

word_front : (c : ℕ) (bs : List ℕ) → is_ascii_alphabetic c ≡ true → IsFront (c ∷ bs) (word_at (run_of is_name_char c bs) (after_run is_name_char bs))
unfolding word_at
word_front c bs letter = if_both (IsFront (c ∷ bs)) (bytes_eq (run_of is_name_char c bs) known_bits_word) _ _
    (λ same. subst (λ l. IsFront l (bits_at (after_run is_name_char bs)))
    (ap (λ l. l ++ after_run is_name_char bs) (sym ((bytes_eq-Decides (run_of is_name_char c bs) known_bits_word).0 same)) ∙ ap (λ l. c ∷ l) (take-append-drop (prefix_len is_name_char bs) bs))
    (bits_front (after_run is_name_char bs)))
    (λ other. record {
      is_token = (letter, all_front is_name_char bs, λ same. false≢true (sym other ∙ (bytes_eq-Decides (run_of is_name_char c bs) known_bits_word).1 same));
      is_over = stops_front is_name_char bs;
      text = ap (λ l. c ∷ l) (sym (take-append-drop (prefix_len is_name_char bs) bs));
    })

name_front : (c : ℕ) (bs : List ℕ) → c ≡ 37 → IsFront (c ∷ bs) (name_at (run_of is_name_char c bs) (after_run is_name_char bs))
unfolding name_at
name_front c bs is = if_both (IsFront (c ∷ bs)) (eqb (length (run_of is_name_char c bs)) 1) _ _ (λ _. tt)
    (λ some. record {
      is_token = (is, not_alone c (take (prefix_len is_name_char bs) bs) some, all_front is_name_char bs);
      is_over = stops_front is_name_char bs;
      text = ap (λ l. c ∷ l) (sym (take-append-drop (prefix_len is_name_char bs) bs));
    })

longer_front : (c : ℕ) (bs : List ℕ) → IsFront (c ∷ bs) (longer_at c bs)
unfolding longer_at
longer_front c bs = if_both (IsFront (c ∷ bs)) (eqb c 37) _ _ (λ is. name_front c bs (eq_of c 37 is))
    (λ _. if_both (IsFront (c ∷ bs)) (is_ascii_alphabetic c) _ _ (λ letter. word_front c bs letter)
    (λ _. if_both (IsFront (c ∷ bs)) (begins_int c) _ _
    (λ digit. record {
      is_token = (digit, all_front is_ascii_digit bs);
      is_over = stops_front is_ascii_digit bs;
      text = ap (λ l. c ∷ l) (sym (take-append-drop (prefix_len is_ascii_digit bs) bs));
    })
    (λ _. tt)))

stops_all : (p : ℕ → Bool) (bs : List ℕ) → ((x : ℕ) → p x ≡ false) → Stops p bs
stops_all p [] h = tt
stops_all p (c ∷ bs) h = h c

-- a mark at the beginning
mark_front : (c k : ℕ) (bs : List ℕ) (t : Lexeme) → IsLexeme t → ((x : ℕ) → continues t x ≡ false) → spelling t ≡ k ∷ [] → eqb c k ≡ true → Leads t bs (c ∷ bs)
mark_front c k bs t is over spelled e = record { is_token = is; is_over = stops_all (continues t) bs over; text = (λ i. eq_of c k e i ∷ bs) ∙ sym (ap (λ l. l ++ bs) spelled) }

pub front_sound : (c : ℕ) (bs : List ℕ) → IsFront (c ∷ bs) (front_of c bs)
unfolding front_of
front_sound c bs =
    let P = λ (o : Option Lexeme). IsFront (c ∷ bs) (elim o [ Some t ↦ found t bs | None ↦ longer_at c bs ]) in
    if_both P (eqb c 44) _ _ (mark_front c 44 bs comma tt (λ _. refl) refl)
    (λ _. if_both P (eqb c 58) _ _ (mark_front c 58 bs colon tt (λ _. refl) refl)
    (λ _. if_both P (eqb c 61) _ _ (mark_front c 61 bs equals tt (λ _. refl) refl)
    (λ _. if_both P (eqb c 40) _ _ (mark_front c 40 bs open_paren tt (λ _. refl) refl)
    (λ _. if_both P (eqb c 41) _ _ (mark_front c 41 bs close_paren tt (λ _. refl) refl)
    (λ _. if_both P (eqb c 91) _ _ (mark_front c 91 bs open_bracket tt (λ _. refl) refl)
    (λ _. longer_front c bs))))))

pub token_sound : (bs : List ℕ) (t : Lexeme) (rest : List ℕ) → token_at bs ≡ found t rest → Leads t rest bs
token_sound [] t rest e = cc
token_sound (c ∷ bs) t rest e = subst (IsFront (c ∷ bs)) e (front_sound c bs)

pub token_cut : (bs : List ℕ) → token_at bs ≡ faulty true → bs ≡ known_bits_word
token_cut [] e = cc
token_cut (c ∷ bs) e = subst (IsFront (c ∷ bs)) e (front_sound c bs)

-- a token is not empty
pub spelled_some : (t : Lexeme) → IsLexeme t → 0 < length (spelling t)
spelled_some (ident []) h = absurd h
spelled_some (ident (c ∷ s)) h = omega arith
spelled_some (val_name []) h = absurd h
spelled_some (val_name (c ∷ s)) h = omega arith
spelled_some (known_bits s) h = omega arith
spelled_some (int []) h = absurd h
spelled_some (int (c ∷ s)) h = omega arith
spelled_some comma h = omega arith
spelled_some colon h = omega arith
spelled_some equals h = omega arith
spelled_some open_paren h = omega arith
spelled_some close_paren h = omega arith
spelled_some open_bracket h = omega arith
