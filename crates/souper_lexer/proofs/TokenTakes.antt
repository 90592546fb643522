-- Taking a token that is known by its first byte.
use Rattle.std.proofs.Common.{◌≡◌, ◌≢◌, ℕ, ◌+◌, ◌-◌, ◌<◌, true, false, eqb, List, [], ◌∷◌, length, drop, get_or, Some, None, refl, sym, ◌∙◌, ap, subst, arith}
use Rattle.std.specs.List.{prefix_len}
use Rattle.std.specs.Prelude.{bytes_eq}
use Rattle.std.specs.Char.{is_ascii_alphabetic, is_ascii_digit}
use Rattle.std.proofs.lemmas.Bool.Decides.{nat_tests}
use Rattle.std.proofs.lemmas.List.{length-take}
use Rattle.souper_graph.specs.Names.{is_name_char}
use Rattle.souper_graph.specs.Syntax.Tokens.{Lexeme, ident, val_name, int, comma, known_bits_word, begins_int}
use Rattle.souper_lexer.specs.TokenReading.{Lexed, found, after_gap, run_of, after_run, mark_of, word_at, name_at, longer_at, front_of, lexed_of}
use Rattle.souper_lexer.specs.TokenView.{Takes, BeginsWith}
use Rattle.souper_lexer.proofs.TokenGap.{gap_stops_above, gap_past_control}
use Rattle.souper_lexer.proofs.TokenSteps.{yields_token}

-- the byte of a mark is neither of a gap nor of a wider character
mark_above : (c : ℕ) (t : Lexeme) → mark_of c ≡ Some t → 13 < c
mark_above c t h = grind (arith, nat_tests)

mark_ascii : (c : ℕ) (t : Lexeme) → mark_of c ≡ Some t → c < 128
mark_ascii c t h = grind (arith, nat_tests)

mark_not_space : (c : ℕ) (t : Lexeme) → mark_of c ≡ Some t → c ≢ 32
mark_not_space c t h e = grind (arith, nat_tests)

mark_not_semicolon : (c : ℕ) (t : Lexeme) → mark_of c ≡ Some t → c ≢ 59
mark_not_semicolon c t h e = grind (arith, nat_tests)

mark_front : (c : ℕ) (bs : List ℕ) (t : Lexeme) → mark_of c ≡ Some t → front_of c bs ≡ found t bs
unfolding front_of
mark_front c bs t h = rw (h, front_of) refl

name_front : (bs : List ℕ) → length (run_of is_name_char 37 bs) ≢ 1 → front_of 37 bs ≡ found (val_name (run_of is_name_char 37 bs)) (after_run is_name_char bs)
unfolding front_of longer_at name_at
name_front bs h =
    let more : eqb (length (run_of is_name_char 37 bs)) 1 ≡ false = grind (arith, nat_tests) in
    rw more refl

-- the first byte of a word is a letter
letter_above : (c : ℕ) → is_ascii_alphabetic c ≡ true → 64 < c
letter_above c h = grind (arith, nat_tests)

letter_ascii : (c : ℕ) → is_ascii_alphabetic c ≡ true → c < 128
letter_ascii c h = grind (arith, nat_tests)

letter_no_mark : (c : ℕ) → is_ascii_alphabetic c ≡ true → mark_of c ≡ None
letter_no_mark c h = grind (arith, nat_tests)

is_no_name : (c : ℕ) → is_ascii_alphabetic c ≡ true → eqb c 37 ≡ false
is_no_name c h = grind (arith, nat_tests)

word_found : (c : ℕ) (bs : List ℕ) → is_ascii_alphabetic c ≡ true → bytes_eq (run_of is_name_char c bs) known_bits_word ≡ false → front_of c bs ≡ found (ident (run_of is_name_char c bs)) (after_run is_name_char bs)
unfolding front_of longer_at word_at
word_found c bs h other = rw (letter_no_mark c h, front_of) (rw (is_no_name c h, h, other) refl)

-- the first byte of an integer
int_ascii : (c : ℕ) → begins_int c ≡ true → c < 128
int_ascii c h = grind (arith, nat_tests)

int_above : (c : ℕ) → begins_int c ≡ true → 44 < c
int_above c h = grind (arith, nat_tests)

int_not_semicolon : (c : ℕ) → begins_int c ≡ true → c ≢ 59
int_not_semicolon c h e = grind (arith, nat_tests)

int_no_mark : (c : ℕ) → begins_int c ≡ true → mark_of c ≡ None
int_no_mark c h = grind (arith, nat_tests)

int_no_letter : (c : ℕ) → begins_int c ≡ true → is_ascii_alphabetic c ≡ false
int_no_letter c h = grind (arith, nat_tests)

int_no_name : (c : ℕ) → begins_int c ≡ true → eqb c 37 ≡ false
int_no_name c h = grind (arith, nat_tests)

int_found : (c : ℕ) (bs : List ℕ) → begins_int c ≡ true → front_of c bs ≡ found (int (run_of is_ascii_digit c bs)) (after_run is_ascii_digit bs)
unfolding front_of longer_at
int_found c bs h = rw (int_no_mark c h, front_of) (rw (int_no_name c h, int_no_letter c h, h) refl)

-- after a gap that ends before this text
module _ (n : ℕ) (bs text : List ℕ) (v : Lexed) (is : lexed_of n bs ≡ v) (same : after_gap text ≡ after_gap bs) (some : 0 < length text) where
  abbrev at : ℕ
  at = n + (length bs - length text)

  pub takes_mark : (c : ℕ) → get_or text 0 0 ≡ c → (t : Lexeme) → mark_of c ≡ Some t → (rest : List ℕ) → rest ≡ drop 1 text
      → Takes v at t (lexed_of (at + (length text - length rest)) rest)
  takes_mark c first t h rest is_rest =
      let is_mark : mark_of (get_or text 0 0) ≡ Some t = ap mark_of first ∙ h in
      let stops = gap_stops_above text some (mark_above _ t is_mark) (mark_ascii _ t is_mark) (mark_not_space _ t is_mark) (mark_not_semicolon _ t is_mark) in
      let is_front : front_of (get_or text 0 0) (drop 1 text) ≡ found t rest = mark_front (get_or text 0 0) (drop 1 text) t is_mark ∙ ap (λ (x : List ℕ). found t x) (sym is_rest) in
      yields_token n bs text v is (stops ∙ same) t rest at _ some is_front refl refl

  pub takes_name : (name rest : List ℕ) → get_or text 0 0 ≡ 37 → name ≡ run_of is_name_char (get_or text 0 0) (drop 1 text) → rest ≡ after_run is_name_char (drop 1 text) → length name ≢ 1
      → Takes v at (val_name name) (lexed_of (at + (length text - length rest)) rest)
  takes_name name rest first is_run is_rest more =
      let stops = gap_stops_above text some (omega (arith, first)) (omega (arith, first)) (λ e. absurd (omega (arith, first, e))) (λ e. absurd (omega (arith, first, e))) in
      let run : name ≡ run_of is_name_char 37 (drop 1 text) = is_run ∙ ap (λ (c : ℕ). run_of is_name_char c (drop 1 text)) first in
      let longer : length (run_of is_name_char 37 (drop 1 text)) ≢ 1 = subst (λ (x : List ℕ). length x ≢ 1) run more in
      let is_front : front_of (get_or text 0 0) (drop 1 text) ≡ found (val_name name) rest =
      ap (λ (c : ℕ). front_of c (drop 1 text)) first ∙ name_front (drop 1 text) longer ∙ (λ i. found (val_name (sym run i)) (sym is_rest i)) in
      yields_token n bs text v is (stops ∙ same) (val_name name) rest at _ some is_front refl refl

  pub takes_word : (word rest : List ℕ) → is_ascii_alphabetic (get_or text 0 0) ≡ true → word ≡ run_of is_name_char (get_or text 0 0) (drop 1 text) → rest ≡ after_run is_name_char (drop 1 text) → bytes_eq word known_bits_word ≡ false
      → Takes v at (ident word) (lexed_of (at + (length text - length rest)) rest)
  takes_word word rest letter is_run is_rest other =
      let above = letter_above (get_or text 0 0) letter in
      let stops = gap_stops_above text some (omega arith) (letter_ascii (get_or text 0 0) letter) (λ e. absurd (omega (arith, e))) (λ e. absurd (omega (arith, e))) in
      let is_other : bytes_eq (run_of is_name_char (get_or text 0 0) (drop 1 text)) known_bits_word ≡ false = subst (λ (x : List ℕ). bytes_eq x known_bits_word ≡ false) is_run other in
      let is_found : front_of (get_or text 0 0) (drop 1 text) ≡ found (ident word) rest =
      word_found (get_or text 0 0) (drop 1 text) letter is_other ∙ (λ i. found (ident (sym is_run i)) (sym is_rest i)) in
      yields_token n bs text v is (stops ∙ same) (ident word) rest at _ some is_found refl refl

  pub takes_int : (digits rest : List ℕ) → begins_int (get_or text 0 0) ≡ true → digits ≡ run_of is_ascii_digit (get_or text 0 0) (drop 1 text) → rest ≡ after_run is_ascii_digit (drop 1 text)
      → Takes v at (int digits) (lexed_of (at + (length text - length rest)) rest)
  takes_int digits rest first is_run is_rest =
      let above = int_above (get_or text 0 0) first in
      let stops = gap_stops_above text some (omega arith) (int_ascii (get_or text 0 0) first) (λ e. absurd (omega (arith, e))) (int_not_semicolon (get_or text 0 0) first) in
      let is_found : front_of (get_or text 0 0) (drop 1 text) ≡ found (int digits) rest =
      int_found (get_or text 0 0) (drop 1 text) first ∙ (λ i. found (int (sym is_run i)) (sym is_rest i)) in
      yields_token n bs text v is (stops ∙ same) (int digits) rest at _ some is_found refl refl

  pub begins_int_with : begins_int (get_or text 0 0) ≡ true → BeginsWith (λ t. (w : List ℕ) × (t ≡ int w)) v
  begins_int_with first =
      let t = takes_int (run_of is_ascii_digit (get_or text 0 0) (drop 1 text)) (after_run is_ascii_digit (drop 1 text)) first refl refl in
      (at, int (run_of is_ascii_digit (get_or text 0 0) (drop 1 text)), _, t.0, (run_of is_ascii_digit (get_or text 0 0) (drop 1 text), refl))

  pub begins_comma : get_or text 0 0 ≡ 44 → BeginsWith (λ t. t ≡ comma) v
  begins_comma first =
      let t = takes_mark 44 first comma refl (drop 1 text) refl in
      (at, comma, _, t.0, refl)

-- a run that has a further character
longer_run : (c b : ℕ) (bs : List ℕ) → is_name_char b ≡ true → length (run_of is_name_char c (b ∷ bs)) ≢ 1
longer_run c b bs h e =
    let k = rw h at e in
    let l = length-take (1 + prefix_len is_name_char bs) (b ∷ bs) in
    omega (arith, k, l)

pub begins_name : (n : ℕ) (bs : List ℕ) (v : Lexed) → lexed_of n bs ≡ v → 2 < length bs → get_or bs 0 0 ≡ 10 → get_or bs 1 0 ≡ 37 → is_name_char (get_or bs 2 0) ≡ true → BeginsWith (λ t. (name : List ℕ) × (t ≡ val_name name)) v
begins_name n [] v is l newline percent more = absurd (omega arith)
begins_name n (a ∷ []) v is l newline percent more = absurd (omega arith)
begins_name n (a ∷ b ∷ []) v is l newline percent more = absurd (omega arith)
begins_name n (a ∷ b ∷ c ∷ bs) v is l newline percent more =
    let name = run_of is_name_char b (c ∷ bs) in
    let gap : after_gap (b ∷ c ∷ bs) ≡ after_gap (a ∷ b ∷ c ∷ bs) = gap_past_control (a ∷ b ∷ c ∷ bs) (omega arith) (omega arith) (omega arith) in
    let t = takes_name n (a ∷ b ∷ c ∷ bs) (b ∷ c ∷ bs) v is gap (omega arith) name (after_run is_name_char (c ∷ bs)) percent refl refl (longer_run b c bs more) in
    (_, val_name name, _, t.0, (name, refl))
