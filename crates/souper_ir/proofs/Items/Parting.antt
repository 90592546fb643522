-- Lines and a text after them: the tokens that they have together are the tokens of each.
use Rattle.std.proofs.Common.{◌≡◌, ℕ, ◌+◌, ◌<◌, Bool, false, ◌⊎◌, inl, inr, List, [], ◌∷◌, ◌++◌, length, refl, sym, ap, ◌∙◌, subst, arith, append_assoc, append-nil, length-append, get_or}
use Rattle.std.specs.Prelude.{◌==◌, codes, flat_map}
use Rattle.std.specs.List.{AllByRecursion}
use Rattle.std.specs.Char.{encode_utf8}
use Rattle.std.proofs.lemmas.List.{get_or_at}
use Rattle.std.proofs.lemmas.Str.{encode_ascii, inside_one}
use Rattle.souper_graph.specs.Syntax.Tokens.{Lexeme, spelling, continues, Stops, IsLexeme, Piece, space, comment, piece_text, IsPiece, IsGap, IsOneLine, IsLastGap, Begins}
use Rattle.souper_errors.specs.Places.{IsLines}
use Rattle.souper_ir.specs.Joining.{moved, TokensPart}
use Rattle.souper_graph.proofs.Judging.Closed.{All-first}
use Rattle.souper_ir.proofs.Items.Joining.{no_line_in, comment_line, Within, Beyond, parted_twice, lines_end, left_after, token_line}

-- ---- gaps

comment_front : (t r s : List ℕ) → IsOneLine t → 59 ∷ (t ++ codes "\n") ≡ r ++ s → 0 < length s → IsOneLine r
comment_front t r s one e some =
    let whole : IsOneLine (59 ∷ t) = (refl, one) in
    elim (parted_twice r s (59 ∷ t) (codes "\n") (sym e)) [
      | inl h ↦ All-first (λ c. (c == 10) ≡ false) r h.left (subst (λ (l : List ℕ). IsOneLine l) h.first whole)
      | inr h ↦ let n = ap length h.second in let m = length-append h.more s in let k = h.some in absurd (omega arith)
    ]

-- a unit of a gap has no newline before its end
piece_whole : (p : Piece) (r s : List ℕ) → IsPiece p → piece_text p ≡ r ++ s → 0 < length s → IsLines r → r ≡ []
piece_whole (comment t) r s is e some l = no_line_in r (comment_front t r s is e some) l
piece_whole (space c) r s is e some (inl none) = none
piece_whole (space c) r s is e some (inr end) =
    let text : encode_utf8 c ≡ end.0 ++ 10 ∷ s = e ∙ ap (λ (l : List ℕ). l ++ s) end.1 ∙ append_assoc end.0 (10 ∷ []) s in
    let at : get_or (encode_utf8 c) (length end.0) 0 ≡ 10 = ap (λ (l : List ℕ). get_or l (length end.0) 0) text ∙ get_or_at end.0 10 s 0 (length end.0) refl in
    let long : length (encode_utf8 c) ≡ length end.0 + length {A = ℕ} (10 ∷ s) = ap length text ∙ length-append end.0 (10 ∷ s) in
    let char : c ≡ 10 = inside_one c [] (encode_utf8 c) (length end.0) (sym (append-nil (encode_utf8 c))) (omega arith) (omega arith) ∙ at in
    let short : length (encode_utf8 c) ≡ 1 = ap length (ap encode_utf8 char ∙ encode_ascii 10 (omega arith)) in
    absurd (omega arith)

-- r is a gap, and z is after a gap of b
record GapGoesOn (z r b : List ℕ) : Type 0 where
  pub is_gap : IsGap r
  pub gap : List ℕ
  pub goes_on : IsGap gap
  pub text : b ≡ gap ++ z

-- the gap g ends before r does
record GapEnds (g z r b : List ℕ) : Type 0 where
  pub left : List ℕ
  pub some : 0 < length left
  pub first : r ≡ g ++ left
  pub second : z ≡ left ++ b

nil_gap : IsGap []
nil_gap = ([], tt, refl)

no_pieces : (z r b : List ℕ) → z ≡ r ++ b → GapGoesOn z r b ⊎ GapEnds [] z r b
no_pieces z [] b e = inl (record { is_gap = nil_gap; gap = []; goes_on = nil_gap; text = sym e })
no_pieces z (c ∷ r) b e = inr (record { left = c ∷ r; some = omega arith; first = refl; second = e })

gap_parted : (ps : List Piece) (z r b : List ℕ) → AllByRecursion IsPiece ps → IsLines r → flat_map piece_text ps ++ z ≡ r ++ b → GapGoesOn z r b ⊎ GapEnds (flat_map piece_text ps) z r b
gap_parted [] z r b all l e = no_pieces z r b e
gap_parted (p ∷ ps) z [] b all l e = inl (record { is_gap = nil_gap; gap = flat_map piece_text (p ∷ ps); goes_on = (p ∷ ps, all, refl); text = sym e })
gap_parted (p ∷ ps) z (c ∷ r) b all l e =
    elim (parted_twice (piece_text p) (flat_map piece_text ps ++ z) (c ∷ r) b (sym (append_assoc (piece_text p) (flat_map piece_text ps) z) ∙ e)) [
      | inl w ↦
          elim (gap_parted ps z w.left b all.1 (lines_end (piece_text p) w.left (subst (λ (x : List ℕ). IsLines x) w.first l)) w.second) [
            | inl h ↦ inl (record {
              is_gap = (p ∷ h.is_gap.0, (all.0, h.is_gap.1), w.first ∙ ap (λ (x : List ℕ). piece_text p ++ x) h.is_gap.2);
              gap = h.gap;
              goes_on = h.goes_on;
              text = h.text;
            })
            | inr h ↦ inr (record {
              left = h.left;
              some = h.some;
              first = w.first ∙ ap (λ (x : List ℕ). piece_text p ++ x) h.first ∙ sym (append_assoc (piece_text p) (flat_map piece_text ps) h.left);
              second = h.second;
            })
          ]
      | inr w ↦ let none : c ∷ r ≡ [] = piece_whole p (c ∷ r) w.more all.0 w.first w.some l in absurd cc
    ]

-- ---- tokens

-- tokens of lines r and of the text b after them
record Parted (n : ℕ) (r b : List ℕ) (us : List (ℕ × Lexeme)) : Type 0 where
  pub ts : List (ℕ × Lexeme)
  pub vs : List (ℕ × Lexeme)
  pub rest : List ℕ
  pub other : List ℕ
  pub whole : us ≡ ts ++ vs
  pub front : Begins n r ts rest
  pub is_gap : IsGap rest
  pub back : Begins (n + length r) b vs other
  pub is_last : IsLastGap other

-- the last gap is parted
last_parted : (n : ℕ) (r b other : List ℕ) → IsLines r → r ++ b ≡ other → IsLastGap other → Parted n r b []
last_parted n r b other l e g =
    elim (gap_parted g.is_gap.0 g.last r b g.is_gap.1 l (ap (λ (x : List ℕ). x ++ g.last) (sym g.is_gap.2) ∙ sym g.text ∙ sym e)) [
      | inl h ↦ record {
        ts = [];
        vs = [];
        rest = r;
        other = b;
        whole = refl;
        front = refl;
        is_gap = h.is_gap;
        back = refl;
        is_last = record { gap = h.gap; last = g.last; is_gap = h.goes_on; is_last = g.is_last; text = h.text };
      }
      | inr h ↦
          let lines = lines_end (flat_map piece_text g.is_gap.0) h.left (subst (λ (x : List ℕ). IsLines x) h.first l) in
          let none = no_line_in h.left (All-first (λ c. (c == 10) ≡ false) h.left b (subst (λ (z : List ℕ). IsOneLine z) h.second (comment_line g.last g.is_last))) lines in
          let some = h.some in absurd (omega (arith, ap length none))
    ]

stops_front : (p : ℕ → Bool) (w b : List ℕ) → 0 < length w → Stops p (w ++ b) → Stops p w
stops_front p [] b some h = tt
stops_front p (c ∷ w) b some h = h

-- the token is after the lines
token_later : (u : ℕ × Lexeme) (us : List (ℕ × Lexeme)) (n : ℕ) (r b other : List ℕ) (h : Begins n (r ++ b) (u ∷ us) other) → IsLastGap other → GapGoesOn (spelling u.1 ++ h.after) r b → Parted n r b (u ∷ us)
token_later u us n r b other h g k =
    let s = h.stands in
    let lengths : length r + length b ≡ length h.gap + length (spelling u.1 ++ h.after) = sym (length-append r b) ∙ ap length s.text ∙ length-append h.gap (spelling u.1 ++ h.after) in
    let more : length b ≡ length k.gap + length (spelling u.1 ++ h.after) = ap length k.text ∙ length-append k.gap (spelling u.1 ++ h.after) in
    let at = h.offset_is in
    record {
      ts = [];
      vs = u ∷ us;
      rest = r;
      other = other;
      whole = refl;
      front = refl;
      is_gap = k.is_gap;
      back = record {
        gap = k.gap;
        after = h.after;
        stands = record { is_gap = k.goes_on; is_token = s.is_token; is_over = s.is_over; text = k.text };
        offset_is = omega arith;
        more = h.more;
      };
      is_last = g;
    }

-- the token is in the lines
token_inside : (u : ℕ × Lexeme) (us : List (ℕ × Lexeme)) (n : ℕ) (r b other left : List ℕ) (h : Begins n (r ++ b) (u ∷ us) other) → r ≡ h.gap ++ left → IsLines left
    → ((m : ℕ) (w : List ℕ) → IsLines w → Begins m (w ++ b) us other → Parted m w b us)
    → Within (spelling u.1) h.after left b → Parted n r b (u ∷ us)
token_inside u us n r b other left h first k ih w =
    let s = h.stands in
    let lines : IsLines (spelling u.1 ++ w.left) = subst (λ (x : List ℕ). IsLines x) w.first k in
    let p = ih (u.0 + length (spelling u.1)) w.left (lines_end (spelling u.1) w.left lines) (subst (λ (x : List ℕ). Begins (u.0 + length (spelling u.1)) x us other) w.second h.more) in
    let some : 0 < length w.left = left_after u.1 w.left s.is_token lines in
    let at = h.offset_is in
    let lengths : length r ≡ length h.gap + (length (spelling u.1) + length w.left) =
    ap length first ∙ length-append h.gap left ∙ ap (λ (x : ℕ). length h.gap + x) (ap length w.first ∙ length-append (spelling u.1) w.left) in
    record {
      ts = u ∷ p.ts;
      vs = p.vs;
      rest = p.rest;
      other = p.other;
      whole = ap (λ (x : List (ℕ × Lexeme)). u ∷ x) p.whole;
      front = record {
        gap = h.gap;
        after = w.left;
        stands = record {
          is_gap = s.is_gap;
          is_token = s.is_token;
          is_over = stops_front (continues u.1) w.left b some (subst (λ (x : List ℕ). Stops (continues u.1) x) w.second s.is_over);
          text = first ∙ ap (λ (x : List ℕ). h.gap ++ x) w.first;
        };
        offset_is = h.offset_is;
        more = p.front;
      };
      is_gap = p.is_gap;
      back = subst (λ (m : ℕ). Begins m b p.vs p.other) (let e : u.0 + length (spelling u.1) + length w.left ≡ n + length r = omega arith in e) p.back;
      is_last = p.is_last;
    }

-- no token extends beyond the end of lines
token_ends : (t : Lexeme) (after left b : List ℕ) → IsLexeme t → 0 < length left → IsLines left → Beyond (spelling t) after left b → ⊥
token_ends t after left b is some l w =
    let none : left ≡ [] = no_line_in left (All-first (λ c. (c == 10) ≡ false) left w.more (subst (λ (x : List ℕ). IsOneLine x) w.first (token_line t is))) l in
    omega (arith, ap length none)

tokens_parted : (us : List (ℕ × Lexeme)) (n : ℕ) (r b other : List ℕ) → IsLines r → Begins n (r ++ b) us other → IsLastGap other → Parted n r b us
tokens_parted [] n r b other l h g = last_parted n r b other l h g
tokens_parted (u ∷ us) n r b other l h g =
    let s = h.stands in
    elim (gap_parted s.is_gap.0 (spelling u.1 ++ h.after) r b s.is_gap.1 l (ap (λ (x : List ℕ). x ++ (spelling u.1 ++ h.after)) (sym s.is_gap.2) ∙ sym s.text)) [
      | inl k ↦ token_later u us n r b other h g k
      | inr k ↦
          let lines : IsLines k.left = lines_end (flat_map piece_text s.is_gap.0) k.left (subst (λ (x : List ℕ). IsLines x) k.first l) in
          elim (parted_twice (spelling u.1) h.after k.left b k.second) [
            | inl w ↦ token_inside u us n r b other k.left h (k.first ∙ ap (λ (x : List ℕ). x ++ k.left) (sym s.is_gap.2)) lines (λ m x i j. tokens_parted us m x b other i j g) w
            | inr w ↦ absurd (token_ends u.1 h.after k.left b s.is_token k.some lines w)
          ]
    ]

-- tokens that begin earlier
record Unmoved (d n : ℕ) (bs rest : List ℕ) (vs : List (ℕ × Lexeme)) : Type 0 where
  pub ws : List (ℕ × Lexeme)
  pub are : vs ≡ moved d ws
  pub begins : Begins n bs ws rest

begins_unmoved : (d : ℕ) (vs : List (ℕ × Lexeme)) (n : ℕ) (bs rest : List ℕ) → Begins (d + n) bs vs rest → Unmoved d n bs rest vs
begins_unmoved d [] n bs rest h = record { ws = []; are = refl; begins = h }
begins_unmoved d (v ∷ vs) n bs rest h =
    let at = h.offset_is in
    let here : ℕ = n + length h.gap in
    let next : v.0 + length (spelling v.1) ≡ d + (here + length (spelling v.1)) = omega arith in
    let more = begins_unmoved d vs (here + length (spelling v.1)) h.after rest (subst (λ (m : ℕ). Begins m h.after vs rest) next h.more) in
    let offset : v.0 ≡ d + here = omega arith in
    record {
      ws = (here, v.1) ∷ more.ws;
      are = (λ i. (offset i, v.1) ∷ more.are i);
      begins = record { gap = h.gap; after = h.after; stands = h.stands; offset_is = refl; more = more.begins };
    }

pub tokens_part : TokensPart
tokens_part a b us l h =
    let p = tokens_parted us 0 a b h.0 l h.1 h.2 in
    let u = begins_unmoved (length a) p.vs 0 b p.other (subst (λ (m : ℕ). Begins m b p.vs p.other) (let e : 0 + length a ≡ length a + 0 = omega arith in e) p.back) in
    let last : IsLastGap p.rest = record { gap = p.rest; last = []; is_gap = p.is_gap; is_last = tt; text = sym (append-nil p.rest) } in
    (p.ts, u.ws, (p.rest, p.front, last), (p.other, u.begins, p.is_last), p.whole ∙ ap (λ (x : List (ℕ × Lexeme)). p.ts ++ x) u.are)
