-- The text of an object has no newline.
use Rattle.std.proofs.Common.{◌≡◌, inl, inr, ℕ, zero, suc, ◌+◌, ◌/◌, ◌%◌, Bool, true, false, ◌&&◌, not, nat_lt, List, [], ◌∷◌, Option, Some, None, refl, sym, subst, arith, ne_eqb, ◌==◌, if◌then◌else◌, decimal}
use Rattle.std.specs.Fmt.{digit_glyph, digits_onto, digits}
use Rattle.std.proofs.lemmas.Bool.{and_parts, not-true, cases_lt, agree_below, agree_below_at}
use Rattle.souper_records.proofs.Prelude.{All-both, Start}
use Rattle.json.specs.Print.{escape_byte, escape, quoted}
use Rattle.json.proofs.Printed.Strings.{escape_byte_plain}
use Rattle.serde_json.specs.Data.{Data, object, Members, no_members, member}
use Rattle.serde_json.specs.Written.{compact_text, members_text, comma_if}
use Rattle.souper_graph.specs.Syntax.Tokens.{IsOneLine}
use Rattle.souper_errors.specs.Errors.{offset_of, message_of}
use Rattle.souper_records.specs.Records.{key_of}
use Rattle.souper_records.specs.Reports.{Refusal}
use Rattle.souper_records.specs.Objects.{error_column, item_object, error_line, optional_number, optional_string, refusal_object}

either : {A : Type 0} (P : A → Type 0) (b : Bool) (x y : A) → P x → P y → P (if b then x else y)
either P true x y p q = p
either P false x y p q = q

-- ---- numbers

glyph : (d : ℕ) → (digit_glyph false d == 10) ≡ false
glyph d = either (λ g. (g == 10) ≡ false) (nat_lt d 10) (48 + d) (if false then 55 + d else 87 + d) (ne_eqb (48 + d) 10 (λ e. omega arith)) (ne_eqb (87 + d) 10 (λ e. omega arith))

digits_line : (k n : ℕ) (acc : List ℕ) → IsOneLine acc → IsOneLine (digits_onto k 10 false n acc)
digits_line zero n acc h = h
digits_line (suc k) n acc h =
    let more = digit_glyph false (n % 10) ∷ acc in
    let last : IsOneLine more = (glyph (n % 10), h) in
    either IsOneLine (n / 10 == 0) more (digits_onto k 10 false (n / 10) more) last (digits_line k (n / 10) more last)

decimal_line : (n : ℕ) → IsOneLine (decimal n)
unfolding digits
decimal_line n = digits_line 64 n [] tt

-- ---- texts

abbrev is_line : List ℕ → Bool
is_line [] = true
is_line (x ∷ xs) = not (x == 10) && is_line xs

line_of_test : (xs : List ℕ) → is_line xs ≡ true → IsOneLine xs
line_of_test [] e = tt
line_of_test (x ∷ xs) e = let p = and_parts _ _ e in (not-true (x == 10) p.0, line_of_test xs p.1)

low_bytes : agree_below (λ x. is_line (escape_byte x)) (λ x. true) 93 ≡ true
unfolding escape_byte
low_bytes = refl

escape_byte_line : (x : ℕ) → IsOneLine (escape_byte x)
escape_byte_line x = elim (cases_lt x 93) [
  | inl small ↦ line_of_test (escape_byte x) (agree_below_at (λ y. is_line (escape_byte y)) (λ y. true) 93 x low_bytes small)
  | inr big ↦ subst IsOneLine (sym (escape_byte_plain x (λ e. omega arith) (λ e. omega arith) (omega arith))) (ne_eqb x 10 (λ e. omega arith), tt)
]

escape_line : (s : List ℕ) → IsOneLine (escape s)
escape_line [] = tt
escape_line (x ∷ s) = All-both (λ c. (c == 10) ≡ false) (escape_byte x) (escape s) (escape_byte_line x) (escape_line s)

quoted_line : (s : List ℕ) → IsOneLine (quoted s)
quoted_line s = (refl, All-both (λ c. (c == 10) ≡ false) (escape s) (34 ∷ []) (escape_line s) (refl, tt))

-- ---- objects

abbrev fields : Data → Members
fields (object ms) = ms
fields d = no_members

-- the text of each value has no newline
abbrev AreLines : Members → Type 0
AreLines no_members = Unit {0}
AreLines (member k d ms) = IsOneLine (compact_text d) × AreLines ms

members_line : (later : Bool) (ms : Members) → AreLines ms → IsOneLine (members_text later ms)
members_line later no_members h = (refl, tt)
members_line later (member k d ms) h =
    let P = λ (c : ℕ). (c == 10) ≡ false in
    All-both P (comma_if later) _ (either IsOneLine later (44 ∷ []) [] (refl, tt) tt) (All-both P (quoted k) _ (quoted_line k) (refl, All-both P (compact_text d) (members_text true ms) h.0 (members_line true ms h.1)))

pub item_line : (name : List ℕ) (start : Start) (text : List ℕ) → IsOneLine (compact_text (item_object name start text))
item_line name start text = (refl, members_line false (fields (item_object name start text)) (quoted_line name, (quoted_line (key_of text), (decimal_line start.line, (decimal_line start.offset, (quoted_line text, tt))))))

number_line : (n : Option ℕ) → IsOneLine (compact_text (optional_number n))
number_line None = (refl, (refl, (refl, (refl, tt))))
number_line (Some n) = decimal_line n

string_line : (s : Option (List ℕ)) → IsOneLine (compact_text (optional_string s))
string_line None = (refl, (refl, (refl, (refl, tt))))
string_line (Some s) = quoted_line s

pub refusal_line : (name : List ℕ) (r : Refusal) → IsOneLine (compact_text (refusal_object name r))
refusal_line name r =
    (refl, members_line false (fields (refusal_object name r)) (number_line (error_column r.error), (quoted_line name, (string_line r.hint, (number_line (error_line r.error), (string_line (message_of r.error), (number_line (offset_of r.error), tt)))))))
