-- The line of an offset, reached line by line, and a number that is written right-aligned.
use Rattle.std.proofs.Common.{◌≡◌, ℕ, zero, suc, ◌+◌, ◌-◌, ◌^◌, ◌<◌, ◌≤◌, ◌≢◌, List, [], ◌∷◌, ◌++◌, false, cond, length, get_or, take, replicate, ◌⊎◌, inl, inr, sym, ap, ◌∙◌, refl, append_assoc, append-nil, length-append, arith, decimal, codes, Option, Some, None, MatchOption, unwrap_or, lit<, eqb}
use denote.Ref.{Bor}
use Rattle.std.specs.Str.Pattern.{FindsCharSuffix}
use Rattle.std.specs.Fmt.{padded_integral, format_spec, char_count, digits, HasWritten}
use Rattle.std.specs.declared.fmt.Formatter.{Formatter}
use Rattle.std.specs.List.{repeat}
use Rattle.std.specs.Char.{encode_utf8}
use Rattle.std.proofs.lemmas.Bool.{ne_eqb}
use Rattle.std.proofs.lemmas.Grind.{put_four}
use Rattle.std.proofs.lemmas.List.Sums.{sum_by-append}
use Rattle.std.proofs.lemmas.Str.Pattern.{strip_suffix_char}
use Rattle.souper_errors.specs.Places.{EndsIn, newlines, IsWithoutReturn, IsLineFrom, IsPlace, right_aligned, shown_refusal, direct_text}

pub newlines-append : (xs ys : List ℕ) → newlines (xs ++ ys) ≡ newlines xs + newlines ys
newlines-append xs ys = sum_by-append (λ b. cond (eqb b 10) 1 0) xs ys

newlines_none : (xs : List ℕ) → ((i : ℕ) → i < length xs → get_or xs i 0 ≢ 10) → newlines xs ≡ 0
newlines_none [] none = refl
newlines_none (x ∷ xs) none =
    let first : newlines (x ∷ []) ≡ 0 = ap (λ t. 0 + cond t 1 0) (ne_eqb x 10 (none 0 (omega arith))) in
    let rest : newlines xs ≡ 0 = newlines_none xs (λ i below. none (suc i) (omega arith)) in
    newlines-append (x ∷ []) xs ∙ omega arith

-- the line with this number begins at `start`, and rest is the source from there on
pub record IsReached (source rest : List ℕ) (number start position : ℕ) : Type 0 where
  pub front : List ℕ
  pub parts : source ≡ front ++ rest
  pub long : length front ≡ start
  pub room : start + length rest ≡ length source
  pub begins : (front ≡ []) ⊎ EndsIn front 10
  pub counted : number ≡ newlines front + 1
  pub small : number ≤ start + 1
  pub below : start ≤ position

-- rest begins with a line that has no newline but its last byte
pub record BeginsWithLine (rest body after : List ℕ) : Type 0 where
  pub is : rest ≡ body ++ 10 ∷ after
  pub none : (i : ℕ) → i < length body → get_or body i 0 ≢ 10

pub reached_more : {source rest body after : List ℕ} {number start position : ℕ} → IsReached source rest number start position
    → BeginsWithLine rest body after → start + length body < position
    → IsReached source after (number + 1) (start + length body + 1) position
reached_more {source} {rest} {body} {after} {number} {start} {position} r line past =
    let front = r.front in
    let all : source ≡ front ++ (body ++ 10 ∷ after) = r.parts ∙ ap (λ l. front ++ l) line.is in
    let lines : newlines (front ++ (body ++ 10 ∷ [])) ≡ newlines front + 1 =
    newlines-append front (body ++ 10 ∷ []) ∙ ap (λ n. newlines front + n) (newlines-append body (10 ∷ []) ∙ ap (λ n. n + 1) (newlines_none body line.none)) in
    let size : length source ≡ length front + (length body + suc (length after)) =
    ap length all ∙ length-append front (body ++ 10 ∷ after) ∙ ap (λ n. length front + n) (length-append body (10 ∷ after)) in
    let long : length (front ++ (body ++ 10 ∷ [])) ≡ length front + (length body + 1) =
    length-append front (body ++ 10 ∷ []) ∙ ap (λ n. length front + n) (length-append body (10 ∷ [])) in
    record {
      front = front ++ (body ++ 10 ∷ []);
      parts = all ∙ sym (append_assoc front (body ++ 10 ∷ []) after ∙ ap (λ l. front ++ l) (append_assoc body (10 ∷ []) after));
      long = omega (arith, long, r.long);
      room = omega (arith, size, r.long);
      begins = inr (front ++ body, sym (append_assoc front body (10 ∷ [])));
      counted = omega (arith, lines, r.counted);
      small = omega (arith, r.small);
      below = omega arith;
    }

pub line_from : {source rest : List ℕ} {offset number start : ℕ} → IsReached source rest number start (offset - 1) → IsLineFrom source offset number start rest
line_from r = record { front = r.front; parts = r.parts; long = r.long; begins = r.begins; counted = r.counted; below = r.below }

pub place_within : {source rest body after text : List ℕ} {offset number start : ℕ} → IsReached source rest number start (offset - 1)
    → BeginsWithLine rest body after → offset - 1 ≤ start + length body → IsWithoutReturn body text
    → IsPlace source offset number (offset - 1 - start + 1) text
place_within {source} {rest} {body} {after} {text} {offset} {number} {start} r line within text_is = record {
  front = r.front;
  body = body;
  back = 10 ∷ after;
  parts = r.parts ∙ ap (λ l. r.front ++ l) line.is;
  begins = r.begins;
  one_line = newlines_none body line.none;
  line_text = (refl, text_is);
  from = omega (arith, r.long, r.below);
  until = omega (arith, r.long);
  line_is = r.counted;
  column_is = ap (λ n. offset - 1 - n + 1) (sym r.long);
}

pub place_last : {source rest : List ℕ} {offset number start : ℕ} → IsReached source rest number start (offset - 1)
    → ((i : ℕ) → i < length rest → get_or rest i 0 ≢ 10) → offset ≤ length source + 1
    → IsPlace source offset number (offset - 1 - start + 1) rest
place_last {source} {rest} {offset} {number} {start} r none within = record {
  front = r.front;
  body = rest;
  back = [];
  parts = r.parts ∙ ap (λ l. r.front ++ l) (sym (append-nil rest));
  begins = r.begins;
  one_line = newlines_none rest none;
  line_text = refl;
  from = omega (arith, r.long, r.below);
  until = omega (arith, r.long, r.room);
  line_is = r.counted;
  column_is = ap (λ n. offset - 1 - n + 1) (sym r.long);
}

stripped_or : (body : Bor (List ℕ)) (r : Option (Bor (List ℕ)))
    → MatchOption r ((front : List ℕ) → body.now ≢ front ++ (13 ∷ [])) (λ x. body.now ≡ x.now ++ (13 ∷ []))
    → IsWithoutReturn body.now (unwrap_or r body).now
stripped_or body None never = inr (refl, λ ends. never ends.0 ends.1)
stripped_or body (Some x) is = inl is

-- the line's text, by the clause of `strip_suffix`
pub without_return : (body : Bor (List ℕ)) (r : Option (Bor (List ℕ)))
    → MatchOption r (FindsCharSuffix 13 body.now None) (λ x. (n : ℕ) × FindsCharSuffix 13 body.now (Some n) × (x.now ≡ take (length body.now - n) body.now) × (length x.now + n ≡ length body.now))
    → IsWithoutReturn body.now (unwrap_or r body).now
without_return body r stripped = stripped_or body r (strip_suffix_char 13 body.now r stripped (lit< tt))

blanks : (n : ℕ) → repeat n (encode_utf8 32) ≡ replicate n 32
unfolding encode_utf8
blanks zero = refl
blanks (suc n) = ap (λ l. 32 ∷ l) (blanks n)

-- what `{:>4}` writes
pub padded_right : (numeral : List ℕ) → padded_integral (format_spec 32 3 0 4 (2 ^ 64 - 1)) false [] numeral ≡ right_aligned 4 numeral
unfolding padded_integral char_count
padded_right numeral =
    let padding = 4 - length numeral in
    let whole : padding - 0 - 0 ≡ padding = omega arith in
    let none : padding - padding ≡ 0 = omega arith in
    rw (whole, none, blanks padding) (simp append-nil)

-- the line and the column of a parse error that has no place
decimal_one : decimal 1 ≡ 49 ∷ []
unfolding digits
decimal_one = refl

-- the four writes that show a parse error
pub shown_by_writes : {W : Type 0} (took : W → List ℕ → W → Type 0) (f g h i j : Formatter W) (number file text message : List ℕ) (line column counter : ℕ)
    → number ≡ right_aligned 4 (decimal line) → counter - 1 ≡ column - 1
    → HasWritten took f (file ++ (codes ":" ++ (decimal line ++ (codes ":" ++ (decimal column ++ (codes ": " ++ (message ++ (10 ∷ (codes "     |" ++ 10 ∷ []))))))))) g
    → HasWritten took g (number ++ (codes " | " ++ (text ++ (10 ∷ codes "     | ")))) h
    → HasWritten took h (replicate (counter - 1) 32) i
    → HasWritten took i (codes "^") j
    → HasWritten took f (shown_refusal file line column text message) j
shown_by_writes took f g h i j number file text message line column counter aligned to first second third fourth =
    put_four took f g h i j _ _ _ _ _ first second third fourth (rw (aligned, to) (simp append_assoc))

-- the lines of a parse error, grouped as they are written
shown_parts : (file line column message aligned text caret : List ℕ)
    → file ++ codes ":" ++ line ++ codes ":" ++ column ++ codes ": " ++ message ++ 10 ∷ [] ++ codes "     |" ++ 10 ∷ []
    ++ aligned ++ codes " | " ++ text ++ 10 ∷ [] ++ codes "     | " ++ caret
    ≡ file ++ (codes ":" ++ (line ++ (codes ":" ++ (column ++ (codes ": " ++ (message ++ (10 ∷ (codes "     |" ++ (10 ∷ (aligned ++ (codes " | " ++ (text ++ (10 ∷ (codes "     | " ++ caret))))))))))))))
shown_parts file line column message aligned text caret = simp append_assoc

-- the text written for a parse error that has no place
pub direct_is : (offset : ℕ) (message : List ℕ)
    → codes "unknown:1:1: " ++ (message ++ (10 ∷ (codes "     |" ++ (10 ∷ (codes "   1 | byte offset " ++ (decimal offset ++ (10 ∷ codes "     | ^")))))))
    ≡ direct_text offset message
direct_is offset message = rw decimal_one
    (sym (shown_parts (codes "unknown") (49 ∷ []) (49 ∷ []) message (right_aligned 4 (49 ∷ [])) (codes "byte offset " ++ decimal offset) (codes "^")))
