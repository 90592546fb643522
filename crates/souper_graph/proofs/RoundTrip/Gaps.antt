-- Lemmas. What follows a gap that is not empty does not continue the token before it.
use Rattle.std.proofs.Common.{◌≡◌, ℕ, ◌<◌, ◌≤◌, true, false, List, [], ◌∷◌, ◌++◌, length, get_or, sym, refl, ap, ◌∙◌, subst, ⊎_elim, arith, append_assoc, length-append}
use Rattle.std.specs.Prelude.{flat_map}
use Rattle.std.specs.List.{AllByRecursion}
use Rattle.std.specs.Char.{is_whitespace, is_ascii_digit, encode_utf8}
use Rattle.std.proofs.lemmas.Str.{char_from_byte, length-encode, len_utf8_bounds}
use Rattle.std.proofs.lemmas.Bool.{cases_lt}
use Rattle.std.proofs.lemmas.Bool.Decides.{nat_tests}
use Rattle.souper_graph.specs.Names.{is_name_char}
use Rattle.souper_graph.specs.Syntax.Tokens.{Lexeme, ident, val_name, known_bits, int, comma, colon, equals, open_paren, close_paren, open_bracket, continues, Stops, is_bit, Piece, space, comment, piece_text, IsPiece, IsGap}

-- a byte that is part of no token but a token of its own
abbrev pub Outside : ℕ → Type 0
Outside b = (is_name_char b ≡ false) × (is_bit b ≡ false) × (is_ascii_digit b ≡ false)

wide_outside : (b : ℕ) → 128 ≤ b → Outside b
wide_outside b h = (grind (arith, nat_tests), grind (arith, nat_tests), grind (arith, nat_tests))

white_range : (b : ℕ) → is_whitespace b ≡ true → b < 128 → b < 33
white_range b h l = grind (arith, nat_tests)

low_outside : (b : ℕ) → b < 33 → Outside b
low_outside b h = (grind (arith, nat_tests), grind (arith, nat_tests), grind (arith, nat_tests))

pub outside_ends : (t : Lexeme) (b : ℕ) → Outside b → continues t b ≡ false
outside_ends (ident s) b h = h.0
outside_ends (val_name s) b h = h.0
outside_ends (known_bits s) b h = h.1
outside_ends (int s) b h = h.2
outside_ends comma b h = refl
outside_ends colon b h = refl
outside_ends equals b h = refl
outside_ends open_paren b h = refl
outside_ends close_paren b h = refl
outside_ends open_bracket b h = refl

first_stops : (t : Lexeme) (l x : List ℕ) → 0 < length l → Outside (get_or (l ++ x) 0 0) → Stops (continues t) (l ++ x)
first_stops t [] x some h = absurd (omega arith)
first_stops t (b ∷ l) x some h = outside_ends t b h

white_outside : (c : ℕ) (x : List ℕ) → is_whitespace c ≡ true → Outside (get_or (encode_utf8 c ++ x) 0 0)
white_outside c x white = ⊎_elim
    (λ small.
    let some : 0 < length (encode_utf8 c ++ x) = omega (arith, length-append (encode_utf8 c) x, length-encode c, (len_utf8_bounds c).0) in
    let e : c ≡ get_or (encode_utf8 c ++ x) 0 0 = char_from_byte (encode_utf8 c ++ x) x c refl small some in
    low_outside (get_or (encode_utf8 c ++ x) 0 0) (white_range _ (ap is_whitespace (sym e) ∙ white) small))
    (λ wide. wide_outside _ wide)
    (cases_lt (get_or (encode_utf8 c ++ x) 0 0) 128)

pieces_some : (t : Lexeme) (ps : List Piece) (body : List ℕ) → AllByRecursion IsPiece ps → 0 < length (flat_map piece_text ps) → Stops (continues t) (flat_map piece_text ps ++ body)
pieces_some t [] body all some = absurd (omega arith)
pieces_some t (space c ∷ ps) body all some = subst (Stops (continues t)) (sym (append_assoc (encode_utf8 c) (flat_map piece_text ps) body))
    (first_stops t (encode_utf8 c) (flat_map piece_text ps ++ body) (omega (arith, length-encode c, (len_utf8_bounds c).0)) (white_outside c (flat_map piece_text ps ++ body) all.0))
pieces_some t (comment s ∷ ps) body all some = outside_ends t 59 (refl, refl, refl)

-- a gap that is not empty ends each token
pub gap_stops_token : (t : Lexeme) (gap body : List ℕ) → IsGap gap → (length gap ≡ 0 → Stops (continues t) body) → Stops (continues t) (gap ++ body)
gap_stops_token t [] body is over = over refl
gap_stops_token t (b ∷ gap) body is over = subst (λ l. Stops (continues t) (l ++ body)) (sym is.2) (pieces_some t is.0 body is.1 (omega (arith, ap length is.2)))
