-- How reading passes over a gap, unit by unit.
use Rattle.std.proofs.Common.{◌≡◌, ℕ, zero, suc, ◌+◌, ◌<◌, ◌≤◌, ◌≢◌, true, false, cond, eqb, List, [], ◌∷◌, ◌++◌, length, get_or, drop, Option, Some, slice_get, sym, refl, ap, ◌∙◌, arith, add-one}
use Rattle.std.specs.Prelude.{if◌then◌else◌}
use Rattle.std.specs.Str.{chars}
use Rattle.std.specs.Char.{is_whitespace, len_utf8}
use Rattle.std.proofs.lemmas.Str.{chars-append, chars-IsAscii, IsUtf8-from_ascii}
use Rattle.std.proofs.lemmas.Str.Ascii.{IsAscii-cons, IsAscii-nil}
use Rattle.std.proofs.lemmas.List.{at_drop_more}
use Rattle.std.proofs.Math.Seq.{drop-length}
use Rattle.std.proofs.lemmas.Bool.{false_from_ne_true}
use Rattle.std.proofs.lemmas.Bool.Decides.{nat_tests}
use Rattle.memchr.specs.Find.{Nowhere, NoneBefore, Passes, is_byte}
use Rattle.souper_lexer.specs.TokenReading.{inside, remark, first_space, space_len, after_from, after_gap}

-- the first character, if it is ASCII
chars_ascii : (b : ℕ) (bs : List ℕ) → b < 128 → chars (b ∷ bs) ≡ b ∷ chars bs
chars_ascii b bs small =
    let ascii = IsAscii-cons b [] small IsAscii-nil in
    chars-append (b ∷ []) bs (IsUtf8-from_ascii (b ∷ []) ascii) ∙ ap (λ l. l ++ chars bs) (chars-IsAscii (b ∷ []) ascii)

space_len_ascii : (b : ℕ) (bs : List ℕ) → b < 128 → space_len (b ∷ bs) ≡ (if is_whitespace b then 1 else 0)
unfolding space_len
space_len_ascii b bs small = ap first_space (chars_ascii b bs small) ∙ grind (arith, nat_tests)

-- a byte of a comment is passed over
pub remark_cons : (b : ℕ) (bs : List ℕ) → eqb b 10 ≡ false → after_from remark (b ∷ bs) ≡ after_from remark bs
unfolding after_from
remark_cons b bs h = rw h refl

pub remark_more : (bs : List ℕ) (n : ℕ) → n < length bs → eqb (get_or bs n 0) 10 ≡ false → after_from remark (drop (n + 1) bs) ≡ after_from remark (drop n bs)
remark_more bs n l h = sym (at_drop_more (after_from remark) bs n 0 l ∙ remark_cons _ _ h)

-- at the end of a unit a gap continues
gap_by : (b : ℕ) (bs : List ℕ) (k : ℕ) → space_len (b ∷ bs) ≡ suc k → after_gap (b ∷ bs) ≡ after_from (inside k) bs
unfolding after_from
gap_by b bs k e = rw (e, after_from) refl

pub gap_other : (b : ℕ) (bs : List ℕ) → space_len (b ∷ bs) ≡ 0 → after_gap (b ∷ bs) ≡ (if eqb b 59 then after_from remark bs else b ∷ bs)
unfolding after_from
gap_other b bs e = rw (e, after_from) refl

gap_white : (b : ℕ) (bs : List ℕ) → b < 128 → is_whitespace b ≡ true → after_gap (b ∷ bs) ≡ after_gap bs
gap_white b bs small white = gap_by b bs 0 (space_len_ascii b bs small ∙ ap (λ t. cond t 1 0) white)

pub remark_newline : (bs : List ℕ) → after_from remark (10 ∷ bs) ≡ after_gap bs
unfolding after_from
remark_newline bs = refl

remark_end : (b : ℕ) (bs : List ℕ) → b ≡ 10 → after_gap (b ∷ bs) ≡ after_from remark (b ∷ bs)
remark_end b bs e = rw e (gap_white 10 bs (omega arith) refl ∙ sym (remark_newline bs))

remark_nil : after_gap [] ≡ after_from remark []
unfolding after_from
remark_nil = refl

pub remark_all : (bs : List ℕ) (n : ℕ) → (n < length bs → get_or bs n 0 ≡ 10) → after_gap (drop n bs) ≡ after_from remark (drop n bs)
remark_all [] zero h = remark_nil
remark_all [] (suc n) h = remark_nil
remark_all (b ∷ bs) zero h = remark_end b bs (h (omega arith))
remark_all (b ∷ bs) (suc n) h = remark_all bs n (λ l. h (omega arith))

-- a comment's bytes before its newline are passed over
pub remark_before : (bs : List ℕ) (n : ℕ) → n ≤ length bs → Nowhere (Passes (is_byte 10) bs) 0 n → after_from remark (drop n bs) ≡ after_from remark bs
remark_before bs zero l none = refl
remark_before bs (suc n) l none =
    let step : after_from remark (drop (suc n) bs) ≡ after_from remark (drop n bs) = rw add-one at (remark_more bs n (omega arith) (false_from_ne_true _ (none n (omega arith) (omega arith)))) in
    step ∙ remark_before bs n (omega arith) (λ k lo hi. none k lo (omega arith))

-- a comment without a newline has the rest of the text
pub remark_without : (bs : List ℕ) → Nowhere (Passes (is_byte 10) bs) 0 (length bs) → after_gap [] ≡ after_from remark bs
remark_without bs none = remark_nil ∙ sym (ap (after_from remark) (drop-length bs)) ∙ remark_before bs (length bs) (omega arith) none

-- after a comment its newline is left
pub remark_found : (bs : List ℕ) (n : ℕ) → NoneBefore (Passes (is_byte 10) bs) 0 (length bs) n → Passes (is_byte 10) bs n → after_gap (drop n bs) ≡ after_from remark bs
remark_found bs n before here =
    let high = before.high in
    remark_all bs n (λ l. grind (arith, nat_tests)) ∙ remark_before bs n (omega arith) before.before

-- a gap by the text's first byte
white_control : (b : ℕ) → 9 ≤ b → b ≤ 13 → is_whitespace b ≡ true
white_control b lo hi = grind (arith, nat_tests)

black_below : (b : ℕ) → b < 9 → is_whitespace b ≡ false
black_below b h = grind (arith, nat_tests)

black_above : (b : ℕ) → 13 < b → b < 128 → eqb b 32 ≡ false → is_whitespace b ≡ false
black_above b lo hi other = grind (arith, nat_tests)

gap_past_white : (bs : List ℕ) → 0 < length bs → get_or bs 0 0 < 128 → is_whitespace (get_or bs 0 0) ≡ true → after_gap (drop 1 bs) ≡ after_gap bs
gap_past_white [] l small white = absurd (omega arith)
gap_past_white (b ∷ bs) l small white = sym (gap_white b bs small white)

pub gap_past_blank : (bs : List ℕ) → 0 < length bs → get_or bs 0 0 ≡ 32 → after_gap (drop 1 bs) ≡ after_gap bs
gap_past_blank bs l e = gap_past_white bs l (omega arith) (ap is_whitespace e)

pub gap_past_control : (bs : List ℕ) → 0 < length bs → 9 ≤ get_or bs 0 0 → get_or bs 0 0 ≤ 13 → after_gap (drop 1 bs) ≡ after_gap bs
gap_past_control bs l lo hi = gap_past_white bs l (omega arith) (white_control _ lo hi)

pub gap_past_remark : (bs : List ℕ) → 0 < length bs → get_or bs 0 0 ≡ 59 → after_from remark (drop 1 bs) ≡ after_gap bs
gap_past_remark [] l e = absurd (omega arith)
gap_past_remark (b ∷ bs) l e = rw e (sym (gap_other 59 bs (space_len_ascii 59 bs (omega arith))))

gap_stops : (bs : List ℕ) → 0 < length bs → get_or bs 0 0 < 128 → is_whitespace (get_or bs 0 0) ≡ false → eqb (get_or bs 0 0) 59 ≡ false → bs ≡ after_gap bs
gap_stops [] l small black other = absurd (omega arith)
gap_stops (b ∷ bs) l small black other = sym (gap_other b bs (space_len_ascii b bs small ∙ ap (λ t. cond t 1 0) black) ∙ ap (λ t. cond t (after_from remark bs) (b ∷ bs)) other)

is_not : (a b : ℕ) → a ≢ b → eqb a b ≡ false
is_not a b h = grind (arith, nat_tests)

pub gap_stops_below : (bs : List ℕ) → 0 < length bs → get_or bs 0 0 < 9 → bs ≡ after_gap bs
gap_stops_below bs l h = gap_stops bs l (omega arith) (black_below _ h) (is_not _ _ (omega arith))

pub gap_stops_above : (bs : List ℕ) → 0 < length bs → 13 < get_or bs 0 0 → get_or bs 0 0 < 128 → get_or bs 0 0 ≢ 32 → get_or bs 0 0 ≢ 59 → bs ≡ after_gap bs
gap_stops_above bs l lo hi blank semicolon = gap_stops bs l hi (black_above _ lo hi (is_not _ _ blank)) (is_not _ _ semicolon)

pub gap_stops_wide : (bs : List ℕ) → 0 < length bs → 128 ≤ get_or bs 0 0 → space_len bs ≡ 0 → bs ≡ after_gap bs
gap_stops_wide [] l wide none = absurd (omega arith)
gap_stops_wide (b ∷ bs) l wide none = sym (gap_other b bs none ∙ ap (λ t. cond t (after_from remark bs) (b ∷ bs)) (let h : eqb b 59 ≡ false = grind (arith, nat_tests) in h))

inside_drop : (k : ℕ) (bs : List ℕ) → after_from (inside k) bs ≡ after_gap (drop k bs)
unfolding after_from
inside_drop zero bs = refl
inside_drop (suc k) [] = refl
inside_drop (suc k) (b ∷ bs) = inside_drop k bs

pub space_nil : space_len [] ≡ 0
unfolding space_len chars
space_nil = refl

gap_past : (bs : List ℕ) (k : ℕ) → space_len bs ≡ suc k → after_gap (drop (suc k) bs) ≡ after_gap bs
gap_past [] k e = refl
gap_past (b ∷ bs) k e = sym (gap_by b bs k e ∙ inside_drop k bs)

pub gap_past_space : (bs : List ℕ) (n : ℕ) → n ≡ space_len bs → 0 < n → after_gap (drop n bs) ≡ after_gap bs
gap_past_space bs zero e l = absurd (omega arith)
gap_past_space bs (suc k) e l = gap_past bs k (sym e)

pub gap_nil : (bs : List ℕ) → length bs ≡ 0 → bs ≡ after_gap bs
unfolding after_from
gap_nil [] e = refl
gap_nil (b ∷ bs) e = absurd (omega arith)

-- the white space character that a text begins with
first_is : (cs : List ℕ) (o : Option ℕ) (c : ℕ) → o ≡ Some c → o ≡ slice_get cs 0 → first_space cs ≡ (if is_whitespace c then len_utf8 c else 0)
first_is [] o c e h = cc
first_is (d ∷ cs) o c e h = let k : d ≡ c = cc in rw k refl

space_len_some : (bs xs : List ℕ) (o : Option ℕ) (c : ℕ) → xs ≡ bs → o ≡ Some c → o ≡ slice_get (chars xs) 0 → space_len bs ≡ (if is_whitespace c then len_utf8 c else 0)
unfolding space_len
space_len_some bs xs o c same e h = sym (ap (λ l. first_space (chars l)) same) ∙ first_is (chars xs) o c e h

pub space_len_white : (bs xs : List ℕ) (o : Option ℕ) (c n : ℕ) → xs ≡ bs → o ≡ Some c → o ≡ slice_get (chars xs) 0 → is_whitespace c ≡ true → n ≡ len_utf8 c → n ≡ space_len bs
space_len_white bs xs o c n same e h white is = is ∙ sym (space_len_some bs xs o c same e h ∙ ap (λ t. cond t (len_utf8 c) 0) white)

pub space_len_black : (bs xs : List ℕ) (o : Option ℕ) (c : ℕ) → xs ≡ bs → o ≡ Some c → o ≡ slice_get (chars xs) 0 → is_whitespace c ≡ false → 0 ≡ space_len bs
space_len_black bs xs o c same e h black = sym (space_len_some bs xs o c same e h ∙ ap (λ t. cond t (len_utf8 c) 0) black)

pub space_len_empty : (bs : List ℕ) → length bs ≡ 0 → space_len bs ≡ 0
space_len_empty [] e = space_nil
space_len_empty (b ∷ bs) e = absurd (omega arith)
