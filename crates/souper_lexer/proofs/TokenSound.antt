-- The bytes that are passed over are a gap, and the lexeme that is found is a token after it.
use Rattle.std.proofs.Common.{◌≡◌, ℕ, zero, suc, ◌+◌, ◌<◌, ◌≤◌, Bool, true, false, cond, eqb, ◌&&◌, ◌⊎◌, inl, inr, List, [], ◌∷◌, ◌++◌, length, get_or, drop, sym, refl, ap, ◌∙◌, subst, arith, append_assoc, append-nil, length-append}
use Rattle.std.specs.Prelude.{if◌then◌else◌, IsUtf8}
use Rattle.std.specs.List.{AllByRecursion}
use Rattle.std.specs.Char.{is_ascii_digit, is_ascii_alphabetic, is_whitespace, encode_utf8, len_utf8}
use lib.Utf8.{scalar, scalars, encodes}
use Rattle.std.proofs.lemmas.List.{drop_at, get_or_at}
use Rattle.std.proofs.lemmas.Str.{IsUtf8-drop, IsUtf8-nil, IsCharBoundary-after_ascii, length-encode, len_utf8_bounds}
use Rattle.std.proofs.lemmas.Bool.Decides.{nat_tests}
use Rattle.souper_graph.specs.Names.{is_name_char}
use Rattle.souper_graph.specs.Syntax.Tokens.{Lexeme, ident, val_name, known_bits, int, comma, colon, equals, open_paren, close_paren, open_bracket, AllAre, IsLexeme, spelling, is_bit, begins_int, Piece, space, comment, piece_text, IsPiece, IsOneLine, IsGap, IsLastComment, IsLastGap, Stands}
use Rattle.souper_lexer.specs.TokenReading.{ends, faulty, found, front_of, token_at, remark, space_len, after_from, after_gap, gap_len, next_of}
use Rattle.souper_lexer.proofs.TokenGap.{gap_other, gap_past_remark, gap_nil, remark_cons, remark_newline, space_nil}
use Rattle.souper_lexer.proofs.TokenFront.{IsFront, front_sound, token_sound, token_cut, spelled_some}
use Rattle.souper_lexer.specs.TokenView.{EndsInWord}
use Rattle.souper_lexer.proofs.TokenComplete.{space_len_first, past_white}

-- what follows an ASCII character in a text is text
utf8_after : (bs xs rest : List ℕ) (b : ℕ) → bs ≡ xs ++ b ∷ rest → b < 128 → IsUtf8 bs → IsUtf8 rest
utf8_after bs xs rest b e small utf8 =
    let at : get_or bs (length xs) 0 ≡ b = ap (λ l. get_or l (length xs) 0) e ∙ get_or_at xs b rest 0 (length xs) refl in
    let l : length bs ≡ length xs + suc (length rest) = ap length e ∙ length-append xs (b ∷ rest) in
    let split : bs ≡ (xs ++ b ∷ []) ++ rest = e ∙ sym (append_assoc xs (b ∷ []) rest) in
    let cut : drop (length xs + 1) bs ≡ rest = ap (drop (length xs + 1)) split ∙ drop_at (xs ++ b ∷ []) rest (length xs + 1) (length-append xs (b ∷ [])) in
    subst IsUtf8 cut (IsUtf8-drop bs (length xs + 1) utf8 (IsCharBoundary-after_ascii bs (length xs) utf8 (omega arith) (omega arith)))

-- bs is a gap, perhaps a comment that the text ends in, and then after
pub record Parted (bs : List ℕ) (after : List ℕ) : Type 0 where
  pub gap : List ℕ
  pub last : List ℕ
  pub is_gap : IsGap gap
  pub is_last : IsLastComment last
  pub text : bs ≡ gap ++ (last ++ after)
  pub ended : 0 < length last → after ≡ []
  pub utf8 : IsUtf8 after

nil_gap : IsGap []
nil_gap = ([], tt, refl)

more_gap : (p : Piece) (gap : List ℕ) → IsPiece p → IsGap gap → IsGap (piece_text p ++ gap)
more_gap p gap is g = (p ∷ g.0, (is, g.1), ap (λ l. piece_text p ++ l) g.2)

parted_none : (bs after : List ℕ) → bs ≡ after → IsUtf8 bs → Parted bs after
parted_none bs after e utf8 = record { gap = []; last = []; is_gap = nil_gap; is_last = tt; text = e; ended = λ l. absurd (omega arith); utf8 = subst IsUtf8 e utf8 }

parted_more : (bs rest after : List ℕ) (p : Piece) → IsPiece p → bs ≡ piece_text p ++ rest → Parted rest after → Parted bs after
parted_more bs rest after p is e h = record {
  gap = piece_text p ++ h.gap;
  last = h.last;
  is_gap = more_gap p h.gap is h.is_gap;
  is_last = h.is_last;
  text = e ∙ ap (λ l. piece_text p ++ l) h.text ∙ sym (append_assoc (piece_text p) h.gap (h.last ++ after));
  ended = h.ended;
  utf8 = h.utf8;
}

-- the white space character that a text begins with
pub record White (bs : List ℕ) : Type 0 where
  pub char : ℕ
  pub rest : List ℕ
  pub white : is_whitespace char ≡ true
  pub text : bs ≡ encode_utf8 char ++ rest
  pub utf8 : IsUtf8 rest

white_or : (b : Bool) (c k : ℕ) → is_whitespace c ≡ b → suc k ≡ (if b then len_utf8 c else 0) → b ≡ true
white_or true c k e h = refl
white_or false c k e h = cc

and_parts : (a b : Bool) → (a && b) ≡ true → (a ≡ true) × (b ≡ true)
and_parts true b h = (refl, h)
and_parts false b h = cc

white_first : (bs cs : List ℕ) (k : ℕ) → scalars cs ≡ true → encodes cs ≡ bs → space_len bs ≡ suc k → White bs
white_first bs [] k sc e n = absurd (omega (arith, sym n ∙ ap space_len (sym e) ∙ space_nil))
white_first bs (c ∷ cs) k sc e n =
    let s = and_parts (scalar c) (scalars cs) sc in
    record {
      char = c;
      rest = encodes cs;
      white = white_or (is_whitespace c) c k refl (sym n ∙ ap space_len (sym e) ∙ space_len_first c (encodes cs) s.0);
      text = sym e;
      utf8 = (cs, (s.1, refl));
    }

-- a comment goes up to a newline or to the end
abbrev RemarkEnds : List ℕ → Type 0
RemarkEnds bs = IsOneLine bs × (after_from remark bs ≡ [])

record RemarkStops (bs : List ℕ) : Type 0 where
  line : List ℕ
  rest : List ℕ
  one : IsOneLine line
  text : bs ≡ line ++ 10 ∷ rest
  after : after_from remark bs ≡ after_gap rest

eq_of : (a b : ℕ) → eqb a b ≡ true → a ≡ b
eq_of a b h = grind (arith, nat_tests)

remark_nil : after_from remark [] ≡ []
unfolding after_from
remark_nil = refl

remark_by : (c : ℕ) (bs : List ℕ) (b : Bool) → eqb c 10 ≡ b → RemarkEnds bs ⊎ RemarkStops bs → RemarkEnds (c ∷ bs) ⊎ RemarkStops (c ∷ bs)
remark_by c bs true e h = let is : c ≡ 10 = eq_of c 10 e in
    inr (record { line = []; rest = bs; one = tt; text = ap (λ x. x ∷ bs) is; after = ap (λ x. after_from remark (x ∷ bs)) is ∙ remark_newline bs })
remark_by c bs false e (inl h) = inl ((e, h.0), remark_cons c bs e ∙ h.1)
remark_by c bs false e (inr h) = inr (record { line = c ∷ h.line; rest = h.rest; one = (e, h.one); text = ap (λ l. c ∷ l) h.text; after = remark_cons c bs e ∙ h.after })

remark_to : (bs : List ℕ) → RemarkEnds bs ⊎ RemarkStops bs
remark_to [] = inl (tt, remark_nil)
remark_to (c ∷ bs) = remark_by c bs (eqb c 10) refl (remark_to bs)

parted_remark : (c : ℕ) (bs : List ℕ) → c ≡ 59 → IsUtf8 (c ∷ bs)
    → ((rest : List ℕ) → length rest ≤ length bs → IsUtf8 rest → Parted rest (after_gap rest))
    → RemarkEnds bs ⊎ RemarkStops bs → Parted (c ∷ bs) (after_gap (c ∷ bs))
parted_remark c bs is utf8 ih (inl h) =
    let e : after_gap (c ∷ bs) ≡ [] = sym (gap_past_remark (c ∷ bs) (omega arith) is) ∙ h.1 in
    subst (Parted (c ∷ bs)) (sym e)
    (record { gap = []; last = c ∷ bs; is_gap = nil_gap; is_last = (is, h.0); text = sym (append-nil (c ∷ bs)); ended = λ _. refl; utf8 = IsUtf8-nil })
parted_remark c bs is utf8 ih (inr h) =
    let e : after_gap h.rest ≡ after_gap (c ∷ bs) = sym h.after ∙ gap_past_remark (c ∷ bs) (omega arith) is in
    let text : c ∷ bs ≡ (59 ∷ h.line) ++ 10 ∷ h.rest = (λ i. is i ∷ h.text i) in
    let shorter : length h.rest ≤ length bs = omega (arith, ap length h.text ∙ length-append h.line (10 ∷ h.rest)) in
    subst (Parted (c ∷ bs)) e
    (parted_more (c ∷ bs) h.rest (after_gap h.rest) (comment h.line) h.one
    (text ∙ ap (λ l. 59 ∷ l) (sym (append_assoc h.line (10 ∷ []) h.rest)))
    (ih h.rest shorter (utf8_after (c ∷ bs) (59 ∷ h.line) h.rest 10 text (omega arith) utf8)))

parted_other : (c : ℕ) (bs : List ℕ) (b : Bool) → eqb c 59 ≡ b → space_len (c ∷ bs) ≡ 0 → IsUtf8 (c ∷ bs)
    → ((rest : List ℕ) → length rest ≤ length bs → IsUtf8 rest → Parted rest (after_gap rest))
    → Parted (c ∷ bs) (after_gap (c ∷ bs))
parted_other c bs true is e utf8 ih = parted_remark c bs (eq_of c 59 is) utf8 ih (remark_to bs)
parted_other c bs false is e utf8 ih = parted_none (c ∷ bs) (after_gap (c ∷ bs)) (sym (gap_other c bs e ∙ ap (λ t. cond t (after_from remark bs) (c ∷ bs)) is)) utf8

parted_by : (c : ℕ) (bs : List ℕ) (n : ℕ) → space_len (c ∷ bs) ≡ n → IsUtf8 (c ∷ bs)
    → ((rest : List ℕ) → length rest ≤ length bs → IsUtf8 rest → Parted rest (after_gap rest))
    → Parted (c ∷ bs) (after_gap (c ∷ bs))
parted_by c bs (suc k) e utf8 ih =
    let w = white_first (c ∷ bs) utf8.0 k utf8.1.0 utf8.1.1 e in
    let l : length w.rest ≤ length bs = omega (arith, ap length w.text ∙ length-append (encode_utf8 w.char) w.rest, length-encode w.char, (len_utf8_bounds w.char).0) in
    let same : after_gap w.rest ≡ after_gap (c ∷ bs) = sym (ap after_gap w.text ∙ past_white w.char w.rest w.white) in
    subst (Parted (c ∷ bs)) same (parted_more (c ∷ bs) w.rest (after_gap w.rest) (space w.char) w.white w.text (ih w.rest l w.utf8))
parted_by c bs zero e utf8 ih = parted_other c bs (eqb c 59) refl e utf8 ih

parted : (k : ℕ) (bs : List ℕ) → length bs ≤ k → IsUtf8 bs → Parted bs (after_gap bs)
parted k [] l utf8 = parted_none [] (after_gap []) (gap_nil [] refl) utf8
parted zero (c ∷ bs) l utf8 = absurd (omega arith)
parted (suc k) (c ∷ bs) l utf8 = parted_by c bs (space_len (c ∷ bs)) refl utf8 (λ rest h u. parted k rest (omega arith) u)

gap_parted : (bs : List ℕ) → IsUtf8 bs → Parted bs (after_gap bs)
gap_parted bs utf8 = parted (length bs) bs (omega arith) utf8

-- the bytes of a token are ASCII, so text follows it
all_below : (p : ℕ → Bool) → ((b : ℕ) → p b ≡ true → b < 128) → (s : List ℕ) → AllAre p s → AllByRecursion (λ b. b < 128) s
all_below p small [] all = tt
all_below p small (c ∷ s) all = (small c all.0, all_below p small s all.1)

name_small : (b : ℕ) → is_name_char b ≡ true → b < 128
name_small b h = grind (arith, nat_tests)

bit_small : (b : ℕ) → is_bit b ≡ true → b < 128
bit_small b h = grind (arith, nat_tests)

digit_small : (b : ℕ) → is_ascii_digit b ≡ true → b < 128
digit_small b h = grind (arith, nat_tests)

letter_small : (b : ℕ) → is_ascii_alphabetic b ≡ true → b < 128
letter_small b h = grind (arith, nat_tests)

int_small : (b : ℕ) → begins_int b ≡ true → b < 128
int_small b h = grind (arith, nat_tests)

spelled_ascii : (t : Lexeme) → IsLexeme t → AllByRecursion (λ b. b < 128) (spelling t)
spelled_ascii (ident []) is = absurd is
spelled_ascii (ident (c ∷ s)) is = (letter_small c is.0, all_below is_name_char name_small s is.1)
spelled_ascii (val_name []) is = absurd is
spelled_ascii (val_name (c ∷ s)) is = (let e = is.0 in omega arith, all_below is_name_char name_small s is.2)
spelled_ascii (known_bits s) is = (omega arith, (omega arith, (omega arith, (omega arith, (omega arith, (omega arith, (omega arith, (omega arith, (omega arith, (omega arith, all_below is_bit bit_small s is.1))))))))))
spelled_ascii (int []) is = absurd is
spelled_ascii (int (c ∷ s)) is = (int_small c is.0, all_below is_ascii_digit digit_small s is.1)
spelled_ascii comma is = (omega arith, tt)
spelled_ascii colon is = (omega arith, tt)
spelled_ascii equals is = (omega arith, tt)
spelled_ascii open_paren is = (omega arith, tt)
spelled_ascii close_paren is = (omega arith, tt)
spelled_ascii open_bracket is = (omega arith, tt)

utf8_past : (s rest : List ℕ) → AllByRecursion (λ b. b < 128) s → IsUtf8 (s ++ rest) → IsUtf8 rest
utf8_past [] rest all utf8 = utf8
utf8_past (c ∷ s) rest all utf8 = utf8_past s rest all.1 (utf8_after (c ∷ (s ++ rest)) [] (s ++ rest) c refl all.0 utf8)

-- a gap before something that is there ends in no comment
no_last : (last after : List ℕ) → (0 < length last → after ≡ []) → 0 < length after → last ≡ []
no_last [] after ended l = refl
no_last (c ∷ last) after ended l = absurd (omega (arith, ap length (ended (omega arith))))

pub record Found (bs : List ℕ) (t : Lexeme) (rest : List ℕ) : Type 0 where
  pub gap : List ℕ
  pub stands : Stands gap t rest bs
  pub gap_len : gap_len bs ≡ length gap
  pub utf8 : IsUtf8 rest

-- the token that is read is there
pub next_stands : (bs : List ℕ) (t : Lexeme) (rest : List ℕ) → IsUtf8 bs → next_of bs ≡ found t rest → Found bs t rest
next_stands bs t rest utf8 e =
    let p = gap_parted bs utf8 in
    let h = token_sound (after_gap bs) t rest e in
    let some : 0 < length (after_gap bs) = omega (arith, ap length h.text ∙ length-append (spelling t) rest, spelled_some t h.is_token) in
    let none = no_last p.last (after_gap bs) p.ended some in
    let text : bs ≡ p.gap ++ (spelling t ++ rest) = p.text ∙ (λ i. p.gap ++ (none i ++ h.text i)) in
    let l : length bs ≡ length p.gap + length (after_gap bs) = ap length (p.text ∙ (λ i. p.gap ++ (none i ++ after_gap bs))) ∙ length-append p.gap (after_gap bs) in
    record {
      gap = p.gap;
      stands = record { is_gap = p.is_gap; is_token = h.is_token; is_over = h.is_over; text = text };
      gap_len = omega arith;
      utf8 = utf8_past (spelling t) rest (spelled_ascii t h.is_token) (subst IsUtf8 h.text p.utf8);
    }

front_not_ends : (c : ℕ) (bs : List ℕ) → front_of c bs ≡ ends → ⊥
front_not_ends c bs e = subst (IsFront (c ∷ bs)) e (front_sound c bs)

no_token : (bs : List ℕ) → token_at bs ≡ ends → bs ≡ []
no_token [] e = refl
no_token (c ∷ bs) e = absurd (front_not_ends c bs e)

pub ends_stands : (bs : List ℕ) → IsUtf8 bs → next_of bs ≡ ends → IsLastGap bs
ends_stands bs utf8 e =
    let p = gap_parted bs utf8 in
    record {
      gap = p.gap;
      last = p.last;
      is_gap = p.is_gap;
      is_last = p.is_last;
      text = p.text ∙ ap (λ l. p.gap ++ (p.last ++ l)) (no_token (after_gap bs) e) ∙ ap (λ l. p.gap ++ l) (append-nil p.last);
    }

-- a text that is cut ends in the word
pub cut_stands : (bs : List ℕ) → IsUtf8 bs → next_of bs ≡ faulty true → EndsInWord bs
cut_stands bs utf8 e =
    let p = gap_parted bs utf8 in
    let word = token_cut (after_gap bs) e in
    let none = no_last p.last (after_gap bs) p.ended (subst (λ (x : List ℕ). 0 < length x) (sym word) (omega arith)) in
    (p.gap, p.is_gap, p.text ∙ (λ i. p.gap ++ (none i ++ word i)))
