-- Places and locations in a text that comes after other lines.
use Rattle.std.proofs.Common.{◌≡◌, refl, ◌⊎◌, inl, inr, ℕ, ◌+◌, ◌-◌, ◌^◌, ◌<◌, cond, List, [], ◌∷◌, ◌++◌, length, sym, ap, ◌∙◌, subst, arith, append_assoc, append-nil, length-append}
use Rattle.std.specs.Prelude.{◌==◌, Bool, true, false, ◌≤◌}
use Rattle.std.specs.Char.{is_ascii_whitespace}
use Rattle.std.proofs.lemmas.List.{get_or-append_right}
use Rattle.std.proofs.lemmas.List.Sums.{sum_by-append, count_by-le-length}
use Rattle.souper_errors.specs.Places.{EndsIn, IsLines, newlines, AtFault, IsLineFrom, IsPlace}

newlines-append : (xs ys : List ℕ) → newlines (xs ++ ys) ≡ newlines xs + newlines ys
newlines-append xs ys = sum_by-append (λ b. cond (b == 10) 1 0) xs ys

begins_after : (before front : List ℕ) → IsLines before → (front ≡ []) ⊎ EndsIn front 10 → (before ++ front ≡ []) ⊎ EndsIn (before ++ front) 10
begins_after before front l (inl e) = subst (λ (x : List ℕ). (x ≡ []) ⊎ EndsIn x 10) (sym (ap (λ (x : List ℕ). before ++ x) e ∙ append-nil before)) l
begins_after before front l (inr end) = inr (before ++ end.0, ap (λ (x : List ℕ). before ++ x) end.1 ∙ sym (append_assoc before end.0 (10 ∷ [])))

offset_after : (before : List ℕ) (o : ℕ) → (0 < o) ⊎ (before ≡ []) → length before + o - 1 ≡ length before + (o - 1)
offset_after before o (inl some) = omega arith
offset_after before o (inr none) = let n = ap length none in omega arith

pub place_after : (before source : List ℕ) (o line column : ℕ) (text : List ℕ) → IsLines before → (0 < o) ⊎ (before ≡ []) → IsPlace source o line column text
    → IsPlace (before ++ source) (length before + o) (line + newlines before) column text
place_after before source o line column text l some h =
    let at = offset_after before o some in
    let long = length-append before h.front in
    let count = newlines-append before h.front in
    let from = h.from in
    let until = h.until in
    let line_is = h.line_is in
    let column_is = h.column_is in
    record {
      front = before ++ h.front;
      body = h.body;
      back = h.back;
      parts = ap (λ (x : List ℕ). before ++ x) h.parts ∙ sym (append_assoc before h.front (h.body ++ h.back));
      begins = begins_after before h.front l h.begins;
      one_line = h.one_line;
      line_text = h.line_text;
      from = omega arith;
      until = omega arith;
      line_is = omega arith;
      column_is = omega arith;
    }

-- the line is counted without going over the largest number
pub line_fits : (before source : List ℕ) (o line column : ℕ) (text : List ℕ) → IsPlace source o line column text → length (before ++ source) + 1 < 2 ^ 64 → line + newlines before < 2 ^ 64
line_fits before source o line column text h fits =
    let long = length-append before source in
    let parts = ap length h.parts ∙ length-append h.front (h.body ++ h.back) in
    let front = count_by-le-length (λ b. b == 10) h.front in
    let lines = count_by-le-length (λ b. b == 10) before in
    let line_is = h.line_is in
    omega arith

-- ---- locations

-- a line that begins there has a number that is no larger
pub number_fits : {source rest : List ℕ} {offset number start : ℕ} → IsLineFrom source offset number start rest → (0 < number) × (number ≤ start + 1)
number_fits h =
    let few = count_by-le-length (λ b. b == 10) h.front in
    let long = h.long in
    let counted = h.counted in
    (omega arith, omega arith)

-- the place of the byte at the offset, found from the line of the byte before it
pub place_next : {source rest text : List ℕ} {offset number start line column : ℕ} → IsLineFrom source offset number start rest → IsPlace rest (offset + 1 - start) line column text
    → IsPlace source (offset + 1) (line + (number - 1)) column text
place_next {source} {rest} {text} {offset} {number} {start} {line} {column} f h =
    let below = f.below in
    let long = f.long in
    let counted = f.counted in
    let placed = place_after f.front rest (offset + 1 - start) line column text f.begins (inl (omega arith)) h in
    let to : length f.front + (offset + 1 - start) ≡ offset + 1 = omega arith in
    let lines : line + newlines f.front ≡ line + (number - 1) = omega arith in
    subst (λ (s : List ℕ). IsPlace s (offset + 1) (line + (number - 1)) column text) (sym f.parts)
    (subst (λ (n : ℕ). IsPlace (f.front ++ rest) (offset + 1) n column text) lines
    (subst (λ (n : ℕ). IsPlace (f.front ++ rest) n (line + newlines f.front) column text) to placed))

-- where a source is at fault, it is after other lines too
pub fault_after : (before source : List ℕ) (offset : ℕ) (at_end : Bool) (at : ℕ) → AtFault source offset at_end at → AtFault (before ++ source) (length before + offset) at_end (length before + at)
fault_after before source offset false at h = ap (λ (n : ℕ). length before + n) h
fault_after before source offset true at h =
    let long = length-append before source in
    let within = h.0 in (
      omega arith,
      λ i from below. subst (λ (c : ℕ). is_ascii_whitespace c ≡ true) (sym (get_or-append_right before source (length before) i 0 refl (omega arith))) (h.1 (i - length before) (omega arith) (omega arith)),
    )

-- the offset of a location is within its source
pub fault_within : (source : List ℕ) (offset : ℕ) (at_end : Bool) (at : ℕ) → AtFault source offset at_end at → offset ≤ length source → at ≤ length source
fault_within source offset false at h within = omega (arith, h, within)
fault_within source offset true at h within = h.0
