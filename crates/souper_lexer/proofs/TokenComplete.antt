-- A token after a gap is found, whatever is after it.
use Rattle.std.proofs.Common.{◌≡◌, ℕ, suc, ◌+◌, ◌<◌, ◌≤◌, ◌≢◌, Bool, true, false, cond, eqb, ◌&&◌, List, [], ◌∷◌, ◌++◌, length, take, drop, Option, Some, None, sym, refl, ap, ◌∙◌, arith, rules, append_assoc, append-nil, length-append}
use Rattle.std.specs.Prelude.{if◌then◌else◌, bytes_eq, chars, flat_map}
use Rattle.std.specs.List.{prefix_len, AllByRecursion}
use Rattle.std.specs.Char.{is_ascii_digit, is_ascii_alphabetic, is_whitespace, encode_utf8, len_utf8, IsScalar}
use lib.Utf8.{low_scalar}
use Rattle.std.proofs.lemmas.List.{take_at, drop_at}
use Rattle.std.proofs.lemmas.Str.{chars-append, chars-encodes, IsUtf8-encode, length-encode, len_utf8_bounds}
use Rattle.std.proofs.lemmas.Slice.Eq.{bytes_eq-Decides}
use Rattle.std.proofs.lemmas.Bool.{false≢true}
use Rattle.std.proofs.lemmas.Bool.Decides.{nat_tests}
use Rattle.souper_graph.specs.Names.{is_name_char}
use Rattle.souper_graph.specs.Syntax.Tokens.{Lexeme, ident, val_name, known_bits, int, comma, colon, equals, open_paren, close_paren, open_bracket, AllAre, Stops, IsLexeme, continues, spelling, known_bits_word, is_bit, begins_int, Piece, space, comment, piece_text, IsPiece, IsOneLine, IsGap, IsLastComment, IsLastGap, Stands}
use Rattle.souper_lexer.specs.TokenReading.{ends, faulty, found, run_of, after_run, bits_at, name_at, word_at, mark_of, longer_at, front_of, token_at, remark, first_space, space_len, after_from, after_gap, gap_len, next_of}
use Rattle.souper_lexer.specs.TokenView.{EndsInWord}
use Rattle.souper_lexer.proofs.TokenGap.{gap_past_space, gap_past_remark, gap_stops_above, remark_cons, remark_newline}

-- the longest prefix of s and rest that passes, if all of s does and rest does not go on
front_is : (p : ℕ → Bool) (s rest : List ℕ) → AllAre p s → Stops p rest → prefix_len p (s ++ rest) ≡ length s
front_is p [] [] all over = refl
front_is p [] (c ∷ rest) all over = ap (λ b. cond b (1 + prefix_len p rest) 0) over
front_is p (x ∷ s) rest all over = ap (λ b. cond b (1 + prefix_len p (s ++ rest)) 0) all.0 ∙ omega (arith, front_is p s rest all.1 over)

take_front : (p : ℕ → Bool) (s rest : List ℕ) → AllAre p s → Stops p rest → take (prefix_len p (s ++ rest)) (s ++ rest) ≡ s
take_front p s rest all over = take_at s rest _ (sym (front_is p s rest all over))

drop_front : (p : ℕ → Bool) (s rest : List ℕ) → AllAre p s → Stops p rest → drop (prefix_len p (s ++ rest)) (s ++ rest) ≡ rest
drop_front p s rest all over = drop_at s rest _ (sym (front_is p s rest all over))

eq_of : (a b : ℕ) → eqb a b ≡ true → a ≡ b
eq_of a b h = grind (arith, nat_tests)

eq_not : (a b : ℕ) → a ≢ b → eqb a b ≡ false
eq_not a b h = grind (arith, nat_tests)

-- c passes and k fails, so they differ
apart : (p : ℕ → Bool) (c k : ℕ) → p c ≡ true → p k ≡ false → eqb c k ≡ false
apart p c k passes fails_k = eq_not c k (λ e. false≢true (sym fails_k ∙ ap p (sym e) ∙ passes))

no_mark : (c : ℕ) (p : ℕ → Bool) → p c ≡ true → p 44 ≡ false → p 58 ≡ false → p 61 ≡ false → p 40 ≡ false → p 41 ≡ false → p 91 ≡ false → mark_of c ≡ None
no_mark c p passes h44 h58 h61 h40 h41 h91 = rw (apart p c 44 passes h44, apart p c 58 passes h58, apart p c 61 passes h61, apart p c 40 passes h40, apart p c 41 passes h41, apart p c 91 passes h91) refl

unmarked : (c : ℕ) (bs : List ℕ) (p : ℕ → Bool) → p c ≡ true → p 44 ≡ false → p 58 ≡ false → p 61 ≡ false → p 40 ≡ false → p 41 ≡ false → p 91 ≡ false → front_of c bs ≡ longer_at c bs
unfolding front_of
unmarked c bs p passes h44 h58 h61 h40 h41 h91 = ap (λ (o : Option Lexeme). elim o [ Some t ↦ found t bs | None ↦ longer_at c bs ]) (no_mark c p passes h44 h58 h61 h40 h41 h91)

longer_word : (c : ℕ) (bs : List ℕ) → is_ascii_alphabetic c ≡ true → longer_at c bs ≡ word_at (run_of is_name_char c bs) (after_run is_name_char bs)
unfolding longer_at
longer_word c bs letter = rw (apart is_ascii_alphabetic c 37 letter refl, letter, longer_at) refl

no_letter : (c : ℕ) → begins_int c ≡ true → is_ascii_alphabetic c ≡ false
no_letter c digit = grind (arith, nat_tests)

longer_int : (c : ℕ) (bs : List ℕ) → begins_int c ≡ true → longer_at c bs ≡ found (int (run_of is_ascii_digit c bs)) (after_run is_ascii_digit bs)
unfolding longer_at
longer_int c bs digit = rw (apart begins_int c 37 digit refl, no_letter c digit, digit, longer_at) refl

letter_at : (c : ℕ) (s rest : List ℕ) → is_ascii_alphabetic c ≡ true → AllAre is_name_char s → Stops is_name_char rest → front_of c (s ++ rest) ≡ word_at (c ∷ s) rest
letter_at c s rest letter all over =
    unmarked c (s ++ rest) is_ascii_alphabetic letter refl refl refl refl refl refl
    ∙ longer_word c (s ++ rest) letter
    ∙ (λ i. word_at (c ∷ take_front is_name_char s rest all over i) (drop_front is_name_char s rest all over i))

fails : (b : Bool) → (b ≡ true → ⊥) → b ≡ false
fails true h = absurd (h refl)
fails false h = refl

not_word : (s : List ℕ) → s ≢ known_bits_word → bytes_eq s known_bits_word ≡ false
not_word s other = fails (bytes_eq s known_bits_word) (λ e. other ((bytes_eq-Decides s known_bits_word).0 e))

ident_at : (s rest : List ℕ) → s ≢ known_bits_word → word_at s rest ≡ found (ident s) rest
unfolding word_at
ident_at s rest other = rw (not_word s other, word_at) refl

name_found : (s rest : List ℕ) → 0 < length s → name_at (37 ∷ s) rest ≡ found (val_name (37 ∷ s)) rest
unfolding name_at
name_found s rest l = rw (eq_not (suc (length s)) 1 (omega arith), name_at) refl

percent_at : (s rest : List ℕ) → AllAre is_name_char s → Stops is_name_char rest → front_of 37 (s ++ rest) ≡ name_at (37 ∷ s) rest
unfolding front_of longer_at
percent_at s rest all over = λ i. name_at (37 ∷ take_front is_name_char s rest all over i) (drop_front is_name_char s rest all over i)

int_at : (c : ℕ) (s rest : List ℕ) → begins_int c ≡ true → AllAre is_ascii_digit s → Stops is_ascii_digit rest → front_of c (s ++ rest) ≡ found (int (c ∷ s)) rest
int_at c s rest digit all over =
    unmarked c (s ++ rest) begins_int digit refl refl refl refl refl refl
    ∙ longer_int c (s ++ rest) digit
    ∙ (λ i. found (int (c ∷ take_front is_ascii_digit s rest all over i)) (drop_front is_ascii_digit s rest all over i))

bits_found : (s rest : List ℕ) → 0 < length s → AllAre is_bit s → Stops is_bit rest → bits_at (61 ∷ (s ++ rest)) ≡ found (known_bits s) rest
unfolding bits_at
bits_found s rest l all over =
    rw (eq_not (prefix_len is_bit (s ++ rest)) 0 (omega (arith, front_is is_bit s rest all over)), bits_at)
    (λ i. found (known_bits (take_front is_bit s rest all over i)) (drop_front is_bit s rest all over i))

word_bits : (rest : List ℕ) → word_at known_bits_word rest ≡ bits_at rest
unfolding word_at
word_bits rest = refl

token_found : (t : Lexeme) (rest : List ℕ) → IsLexeme t → Stops (continues t) rest → token_at (spelling t ++ rest) ≡ found t rest
unfolding front_of
token_found (ident []) rest is over = absurd is
token_found (ident (c ∷ s)) rest is over = letter_at c s rest is.0 is.1 over ∙ ident_at (c ∷ s) rest is.2
token_found (val_name []) rest is over = absurd is
token_found (val_name (c ∷ s)) rest is over = rw is.0 (percent_at s rest is.2 over ∙ name_found s rest is.1)
token_found (known_bits s) rest is over = letter_at 107 (110 ∷ 111 ∷ 119 ∷ 110 ∷ 66 ∷ 105 ∷ 116 ∷ 115 ∷ []) (61 ∷ (s ++ rest)) refl (search rules) refl ∙ word_bits (61 ∷ (s ++ rest)) ∙ bits_found s rest is.0 is.1 over
token_found (int []) rest is over = absurd is
token_found (int (c ∷ s)) rest is over = int_at c s rest is.0 is.1 over
token_found comma rest is over = refl
token_found colon rest is over = refl
token_found equals rest is over = refl
token_found open_paren rest is over = refl
token_found close_paren rest is over = refl
token_found open_bracket rest is over = refl

-- no gap begins where a token does
solid_from : (c : ℕ) (bs : List ℕ) → 13 < c → c < 128 → c ≢ 32 → c ≢ 59 → after_gap (c ∷ bs) ≡ c ∷ bs
solid_from c bs lo hi blank semicolon = sym (gap_stops_above (c ∷ bs) (omega arith) lo hi blank semicolon)

letter_range : (c : ℕ) → is_ascii_alphabetic c ≡ true → (65 ≤ c) × (c ≤ 122)
letter_range c h = grind (arith, nat_tests)

int_range : (c : ℕ) → begins_int c ≡ true → (45 ≤ c) × (c ≤ 57)
int_range c h = grind (arith, nat_tests)

solid : (t : Lexeme) (rest : List ℕ) → IsLexeme t → after_gap (spelling t ++ rest) ≡ spelling t ++ rest
solid (ident []) rest is = absurd is
solid (ident (c ∷ s)) rest is = let r = letter_range c is.0 in solid_from c (s ++ rest) (omega arith) (omega arith) (omega arith) (omega arith)
solid (val_name []) rest is = absurd is
solid (val_name (c ∷ s)) rest is = let e = is.0 in solid_from c (s ++ rest) (omega arith) (omega arith) (omega arith) (omega arith)
solid (known_bits s) rest is = solid_from 107 _ (omega arith) (omega arith) (omega arith) (omega arith)
solid (int []) rest is = absurd is
solid (int (c ∷ s)) rest is = let r = int_range c is.0 in solid_from c (s ++ rest) (omega arith) (omega arith) (omega arith) (omega arith)
solid comma rest is = solid_from 44 rest (omega arith) (omega arith) (omega arith) (omega arith)
solid colon rest is = solid_from 58 rest (omega arith) (omega arith) (omega arith) (omega arith)
solid equals rest is = solid_from 61 rest (omega arith) (omega arith) (omega arith) (omega arith)
solid open_paren rest is = solid_from 40 rest (omega arith) (omega arith) (omega arith) (omega arith)
solid close_paren rest is = solid_from 41 rest (omega arith) (omega arith) (omega arith) (omega arith)
solid open_bracket rest is = solid_from 91 rest (omega arith) (omega arith) (omega arith) (omega arith)

-- a gap is passed over, unit by unit
white_small : (c : ℕ) → is_whitespace c ≡ true → c < 55296
white_small c h = grind (arith, nat_tests)

chars_first : (c : ℕ) (rest : List ℕ) → IsScalar c → chars (encode_utf8 c ++ rest) ≡ c ∷ chars rest
chars_first c rest is =
    chars-append (encode_utf8 c) rest (IsUtf8-encode c is)
    ∙ ap (λ l. l ++ chars rest) (ap chars (sym (append-nil (encode_utf8 c))) ∙ chars-encodes (c ∷ []) (ap (λ b. b && true) is))

pub space_len_first : (c : ℕ) (rest : List ℕ) → IsScalar c → space_len (encode_utf8 c ++ rest) ≡ (if is_whitespace c then len_utf8 c else 0)
unfolding space_len
space_len_first c rest is = ap first_space (chars_first c rest is)

pub past_white : (c : ℕ) (rest : List ℕ) → is_whitespace c ≡ true → after_gap (encode_utf8 c ++ rest) ≡ after_gap rest
past_white c rest white =
    let n : space_len (encode_utf8 c ++ rest) ≡ len_utf8 c = space_len_first c rest (low_scalar c (white_small c white)) ∙ ap (λ b. cond b (len_utf8 c) 0) white in
    sym (gap_past_space (encode_utf8 c ++ rest) (len_utf8 c) (sym n) (omega (arith, (len_utf8_bounds c).0)))
    ∙ ap after_gap (drop_at (encode_utf8 c) rest (len_utf8 c) (length-encode c))

past_remark : (s rest : List ℕ) → IsOneLine s → after_from remark (s ++ 10 ∷ rest) ≡ after_gap rest
past_remark [] rest one = remark_newline rest
past_remark (c ∷ s) rest one = remark_cons c (s ++ 10 ∷ rest) one.0 ∙ past_remark s rest one.1

past_pieces : (ps : List Piece) (body : List ℕ) → AllByRecursion IsPiece ps → after_gap (flat_map piece_text ps ++ body) ≡ after_gap body
past_pieces [] body all = refl
past_pieces (space c ∷ ps) body all =
    ap after_gap (append_assoc (encode_utf8 c) (flat_map piece_text ps) body)
    ∙ past_white c (flat_map piece_text ps ++ body) all.0
    ∙ past_pieces ps body all.1
past_pieces (comment s ∷ ps) body all =
    sym (gap_past_remark (((59 ∷ (s ++ 10 ∷ [])) ++ flat_map piece_text ps) ++ body) (omega arith) refl)
    ∙ ap (after_from remark) (append_assoc (s ++ 10 ∷ []) (flat_map piece_text ps) body ∙ append_assoc s (10 ∷ []) (flat_map piece_text ps ++ body))
    ∙ past_remark s (flat_map piece_text ps ++ body) all.0
    ∙ past_pieces ps body all.1

past_gap : (gap body : List ℕ) → IsGap gap → after_gap (gap ++ body) ≡ after_gap body
past_gap gap body is = ap (λ l. after_gap (l ++ body)) is.2 ∙ past_pieces is.0 body is.1

remark_to_end : (s : List ℕ) → IsOneLine s → after_from remark s ≡ []
unfolding after_from
remark_to_end [] one = refl
remark_to_end (c ∷ s) one = remark_cons c s one.0 ∙ remark_to_end s one.1

last_comment_ends : (last : List ℕ) → IsLastComment last → after_gap last ≡ []
unfolding after_from
last_comment_ends [] is = refl
last_comment_ends (c ∷ s) is = sym (gap_past_remark (c ∷ s) (omega arith) is.0) ∙ remark_to_end s is.1

-- the token that is there is read
next_complete : (gap : List ℕ) (t : Lexeme) (rest bs : List ℕ) → Stands gap t rest bs → after_gap bs ≡ spelling t ++ rest
next_complete gap t rest bs h = ap after_gap h.text ∙ past_gap gap (spelling t ++ rest) h.is_gap ∙ solid t rest h.is_token

pub next_found : (gap : List ℕ) (t : Lexeme) (rest bs : List ℕ) → Stands gap t rest bs → next_of bs ≡ found t rest
next_found gap t rest bs h = ap token_at (next_complete gap t rest bs h) ∙ token_found t rest h.is_token h.is_over

pub next_gap : (gap : List ℕ) (t : Lexeme) (rest bs : List ℕ) → Stands gap t rest bs → gap_len bs ≡ length gap
next_gap gap t rest bs h = let e = ap length h.text ∙ length-append gap (spelling t ++ rest) in let f = ap length (next_complete gap t rest bs h) in omega arith

pub next_ends : (bs : List ℕ) → IsLastGap bs → next_of bs ≡ ends
next_ends bs h = ap token_at (ap after_gap h.text ∙ past_gap h.gap h.last h.is_gap ∙ last_comment_ends h.last h.is_last)

no_bits : bits_at [] ≡ faulty true
unfolding bits_at
no_bits = refl

-- the word at the end of a text is found to be cut
pub next_cut : (bs : List ℕ) → EndsInWord bs → next_of bs ≡ faulty true
next_cut bs h =
    let more : List ℕ = 110 ∷ 111 ∷ 119 ∷ 110 ∷ 66 ∷ 105 ∷ 116 ∷ 115 ∷ [] in
    ap token_at (ap after_gap h.2 ∙ past_gap h.0 known_bits_word h.1 ∙ solid_from 107 more (omega arith) (omega arith) (omega arith) (omega arith))
    ∙ letter_at 107 more [] refl (search rules) tt ∙ word_bits [] ∙ no_bits
