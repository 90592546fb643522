-- Lines and a text after them: together they have the tokens, and the items, of both.
use Rattle.std.proofs.Common.{◌≡◌, ℕ, ◌+◌, ◌-◌, ◌<◌, ◌≤◌, Bool, true, false, ◌⊎◌, inl, inr, List, [], ◌∷◌, ◌++◌, length, refl, sym, ap, ◌∙◌, subst, arith, append_assoc, append-nil, length-append}
use Rattle.std.specs.Prelude.{◌==◌, codes}
use Rattle.std.specs.Char.{is_ascii_digit}
use Rattle.std.proofs.lemmas.Bool.Decides.{nat_tests}
use Rattle.std.proofs.lemmas.Grind.{flat_map-append}
use Rattle.souper_graph.specs.Names.{is_name_char}
use Rattle.souper_graph.specs.Values.{Item}
use Rattle.souper_graph.specs.Syntax.Tokens.{Lexeme, ident, val_name, known_bits, int, comma, colon, equals, open_paren, close_paren, open_bracket, spelling, known_bits_word, is_bit, AllAre, IsLexeme, continues, Stops, piece_text, IsPiece, IsGap, IsOneLine, IsLastComment, IsLastGap, Begins, IsTextOf}
use Rattle.souper_graph.specs.Syntax.Spelling.{kinds, ItemType, items}
use Rattle.souper_graph.proofs.Judging.Closed.{All-both}
use Rattle.souper_lexer.proofs.TokenFront.{spelled_some}
use Rattle.souper_lexer.proofs.TokenLaws.{begins_length, begins_append}
use Rattle.souper_errors.specs.Places.{IsLines}
use Rattle.souper_ir.specs.Joining.{moved, TokensJoin, ItemsJoin}
use Rattle.souper_ir.specs.Laws.Steps.{kinds-append}

-- ---- no token has a newline

one_line_from : (p : ℕ → Bool) (s : List ℕ) → ((c : ℕ) → p c ≡ true → (c == 10) ≡ false) → AllAre p s → IsOneLine s
one_line_from p [] f h = tt
one_line_from p (c ∷ s) f h = (f c h.0, one_line_from p s f h.1)

pub token_line : (t : Lexeme) → IsLexeme t → IsOneLine (spelling t)
token_line (ident []) h = absurd h
token_line (ident (c ∷ s)) h = (let e = h.0 in grind (arith, nat_tests), one_line_from is_name_char s (λ x e. grind (arith, nat_tests)) h.1)
token_line (val_name []) h = absurd h
token_line (val_name (c ∷ s)) h = (ap (λ (z : ℕ). z == 10) h.0, one_line_from is_name_char s (λ x e. grind (arith, nat_tests)) h.2)
token_line (known_bits s) h = All-both (λ c. (c == 10) ≡ false) known_bits_word (codes "=" ++ s) (refl, (refl, (refl, (refl, (refl, (refl, (refl, (refl, (refl, tt))))))))) (refl, one_line_from is_bit s (λ x e. grind (arith, nat_tests)) h.1)
token_line (int []) h = absurd h
token_line (int (c ∷ s)) h = (let e = h.0 in grind (arith, nat_tests), one_line_from is_ascii_digit s (λ x e. grind (arith, nat_tests)) h.1)
token_line comma h = (refl, tt)
token_line colon h = (refl, tt)
token_line equals h = (refl, tt)
token_line open_paren h = (refl, tt)
token_line close_paren h = (refl, tt)
token_line open_bracket h = (refl, tt)

-- ---- the end of lines

pub newline_last : (front : List ℕ) → IsOneLine (front ++ 10 ∷ []) → ⊥
newline_last [] h = let e : true ≡ false = h.0 in absurd cc
newline_last (c ∷ front) h = newline_last front h.1

pub no_line_in : (r : List ℕ) → IsOneLine r → IsLines r → r ≡ []
no_line_in r h (inl e) = e
no_line_in r h (inr end) = absurd (newline_last end.0 (subst (λ (l : List ℕ). IsOneLine l) end.1 h))

-- x ends inside r, or at its end
pub record Within {A : Type 0} (x y r b : List A) : Type 0 where
  pub left : List A
  pub first : r ≡ x ++ left
  pub second : y ≡ left ++ b

-- x extends beyond r
pub record Beyond {A : Type 0} (x y r b : List A) : Type 0 where
  pub more : List A
  pub some : 0 < length more
  pub first : x ≡ r ++ more
  pub second : b ≡ more ++ y

pub parted_twice : {A : Type 0} (x y r b : List A) → x ++ y ≡ r ++ b → Within x y r b ⊎ Beyond x y r b
parted_twice [] y r b e = inl (record { left = r; first = refl; second = e })
parted_twice (c ∷ x) y [] b e = inr (record { more = c ∷ x; some = omega arith; first = refl; second = sym e })
parted_twice (c ∷ x) y (d ∷ r) b e =
    let tails : x ++ y ≡ r ++ b = cc in
    elim (parted_twice x y r b tails) [
      | inl h ↦ inl (record { left = h.left; first = cc; second = h.second })
      | inr h ↦ inr (record { more = h.more; some = h.some; first = cc; second = h.second })
    ]

-- a suffix of lines is lines
pub lines_end : (x s : List ℕ) → IsLines (x ++ s) → IsLines s
lines_end x [] l = inl refl
lines_end x (c ∷ s) (inl e) = let n = ap length e in let m = length-append x (c ∷ s) in absurd (omega arith)
lines_end x (c ∷ s) (inr end) = under (parted_twice x (c ∷ s) end.0 (10 ∷ []) end.1)
  where
    under : Within x (c ∷ s) end.0 (10 ∷ []) ⊎ Beyond x (c ∷ s) end.0 (10 ∷ []) → IsLines (c ∷ s)
    under (inl h) = inr (h.left, h.second)
    under (inr h) = let n = ap length h.second in let m = length-append h.more (c ∷ s) in let k = h.some in absurd (omega arith)

-- no lines end in a part that is not empty and has no newline
pub no_lines_end : (a pre s : List ℕ) → IsLines a → 0 < length s → IsOneLine s → a ≡ pre ++ s → ⊥
no_lines_end a pre s l some h at = let none = no_line_in s h (lines_end pre s (subst IsLines at l)) in omega (arith, ap length none)

-- lines do not end in a token
pub left_after : (t : Lexeme) (x : List ℕ) → IsLexeme t → IsLines (spelling t ++ x) → 0 < length x
left_after t [] is l = absurd (no_lines_end (spelling t ++ []) [] (spelling t) l (spelled_some t is) (token_line t is) (append-nil (spelling t)))
left_after t (y ∷ x) is l = omega arith

-- what lines have after a gap
after_gap : (n : ℕ) (bs rest : List ℕ) (t : ℕ × Lexeme) (ts : List (ℕ × Lexeme)) (h : Begins n bs (t ∷ ts) rest) → IsLines bs → IsLines (spelling t.1 ++ h.after)
after_gap n bs rest t ts h l = lines_end h.gap (spelling t.1 ++ h.after) (subst IsLines h.stands.text l)

-- what is left of lines after their tokens is lines
lines_left : (ts : List (ℕ × Lexeme)) (n : ℕ) (bs rest : List ℕ) → Begins n bs ts rest → IsLines bs → IsLines rest
lines_left [] n bs rest h l = subst IsLines h l
lines_left (t ∷ ts) n bs rest h l = lines_left ts (t.0 + length (spelling t.1)) h.after rest h.more (lines_end (spelling t.1) h.after (after_gap n bs rest t ts h l))

some_left : (ts : List (ℕ × Lexeme)) (n : ℕ) (bs rest : List ℕ) → Begins n bs ts rest → IsLines bs → (ts ≡ [] → 0 < length bs) → 0 < length rest
some_left [] n bs rest h l some = subst (λ (x : List ℕ). 0 < length x) h (some refl)
some_left (t ∷ ts) n bs rest h l some =
    let lines = after_gap n bs rest t ts h l in
    some_left ts (t.0 + length (spelling t.1)) h.after rest h.more (lines_end (spelling t.1) h.after lines) (λ e. left_after t.1 h.after h.stands.is_token lines)

-- of lines something is left after their tokens
pub left_of_lines : (ts : List (ℕ × Lexeme)) (a rest : List ℕ) → IsLines a → Begins 0 a ts rest → (ts ≡ []) ⊎ (0 < length rest)
left_of_lines [] a rest l h = inl refl
left_of_lines (t ∷ ts) a rest l h = inr (some_left (t ∷ ts) 0 a rest h l (λ e. absurd cc))

pub comment_line : (last : List ℕ) → IsLastComment last → IsOneLine last
comment_line [] c = tt
comment_line (b ∷ s) c = (ap (λ (z : ℕ). z == 10) c.0, c.1)

-- and it is a gap
pub gap_of_lines : (ts : List (ℕ × Lexeme)) (a rest : List ℕ) → IsLines a → Begins 0 a ts rest → IsLastGap rest → IsGap rest
gap_of_lines ts a rest l h g =
    let none = no_line_in g.last (comment_line g.last g.is_last) (lines_end g.gap g.last (subst IsLines g.text (lines_left ts 0 a rest h l))) in
    subst (λ (x : List ℕ). IsGap x) (sym (g.text ∙ ap (λ (x : List ℕ). g.gap ++ x) none ∙ append-nil g.gap)) g.is_gap

-- ---- more after a text

stops_more : (p : ℕ → Bool) (xs more : List ℕ) → 0 < length xs → Stops p xs → Stops p (xs ++ more)
stops_more p [] more some h = absurd (omega arith)
stops_more p (c ∷ xs) more some h = h

pub begins_more : (ts : List (ℕ × Lexeme)) (n : ℕ) (bs rest more : List ℕ) → (ts ≡ []) ⊎ (0 < length rest) → Begins n bs ts rest → Begins n (bs ++ more) ts (rest ++ more)
begins_more [] n bs rest more some h = ap (λ (l : List ℕ). l ++ more) h
begins_more (t ∷ ts) n bs rest more (inl e) h = absurd cc
begins_more (t ∷ ts) n bs rest more (inr some) h =
    let long : length rest ≤ length h.after = begins_length ts (t.0 + length (spelling t.1)) h.after rest h.more in
    record {
      gap = h.gap;
      after = h.after ++ more;
      stands = record {
        is_gap = h.stands.is_gap;
        is_token = h.stands.is_token;
        is_over = stops_more (continues t.1) h.after more (omega arith) h.stands.is_over;
        text = ap (λ (l : List ℕ). l ++ more) h.stands.text ∙ append_assoc h.gap (spelling t.1 ++ h.after) more
            ∙ ap (λ (l : List ℕ). h.gap ++ l) (append_assoc (spelling t.1) h.after more);
      };
      offset_is = h.offset_is;
      more = begins_more ts (t.0 + length (spelling t.1)) h.after rest more (inr some) h.more;
    }

pub begins_moved : (d : ℕ) (ts : List (ℕ × Lexeme)) (n : ℕ) (bs rest : List ℕ) → Begins n bs ts rest → Begins (d + n) bs (moved d ts) rest
begins_moved d [] n bs rest h = h
begins_moved d (t ∷ ts) n bs rest h =
    let at = h.offset_is in
    record {
      gap = h.gap;
      after = h.after;
      stands = h.stands;
      offset_is = omega arith;
      more = subst (λ (m : ℕ). Begins m h.after (moved d ts) rest) (let e : d + (t.0 + length (spelling t.1)) ≡ d + t.0 + length (spelling t.1) = omega arith in e)
          (begins_moved d ts (t.0 + length (spelling t.1)) h.after rest h.more);
    }

pub gap_append : (x y : List ℕ) → IsGap x → IsGap y → IsGap (x ++ y)
gap_append x y g h = (g.0 ++ h.0, All-both IsPiece g.0 h.0 g.1 h.1, (λ i. g.2 i ++ h.2 i) ∙ sym (flat_map-append piece_text g.0 h.0))

-- a gap before the first token
pub begins_later : (g : List ℕ) (t : ℕ × Lexeme) (ts : List (ℕ × Lexeme)) (n : ℕ) (bs rest : List ℕ) → IsGap g → Begins (n + length g) bs (t ∷ ts) rest → Begins n (g ++ bs) (t ∷ ts) rest
begins_later g t ts n bs rest gap h =
    let at = h.offset_is in
    let both = length-append g h.gap in
    record {
      gap = g ++ h.gap;
      after = h.after;
      stands = record {
        is_gap = gap_append g h.gap gap h.stands.is_gap;
        is_token = h.stands.is_token;
        is_over = h.stands.is_over;
        text = ap (λ (l : List ℕ). g ++ l) h.stands.text ∙ sym (append_assoc g h.gap (spelling t.1 ++ h.after));
      };
      offset_is = omega arith;
      more = h.more;
    }

pub last_gap_later : (g bs : List ℕ) → IsGap g → IsLastGap bs → IsLastGap (g ++ bs)
last_gap_later g bs gap h = record {
  gap = g ++ h.gap;
  last = h.last;
  is_gap = gap_append g h.gap gap h.is_gap;
  is_last = h.is_last;
  text = ap (λ (l : List ℕ). g ++ l) h.text ∙ sym (append_assoc g h.gap h.last);
}

-- ---- lines and a text after them

join_at : (a b ra rb : List ℕ) (ts us : List (ℕ × Lexeme)) → Begins 0 a ts ra → (ts ≡ []) ⊎ (0 < length ra) → IsGap ra → Begins 0 b us rb → IsLastGap rb → IsTextOf (a ++ b) (ts ++ moved (length a) us)
join_at a b ra rb ts [] h some g k last =
    let gap : IsLastGap b = subst (λ (l : List ℕ). IsLastGap l) (sym k) last in
    subst (λ (l : List (ℕ × Lexeme)). IsTextOf (a ++ b) l) (sym (append-nil ts)) (ra ++ b, begins_more ts 0 a ra b some h, last_gap_later ra b g gap)
join_at a b ra rb ts (u ∷ us) h some g k last =
    let shorter = begins_length ts 0 a ra h in
    let n : ℕ = length a - length ra in
    let later : Begins (length a + 0) b (moved (length a) (u ∷ us)) rb = begins_moved (length a) (u ∷ us) 0 b rb k in
    let here : Begins (n + length ra) b (moved (length a) (u ∷ us)) rb = subst (λ (m : ℕ). Begins m b (moved (length a) (u ∷ us)) rb) (let e : length a + 0 ≡ n + length ra = omega arith in e) later in
    let whole : Begins n (ra ++ b) (moved (length a) (u ∷ us)) rb = begins_later ra (length a + u.0, u.1) (moved (length a) us) n b rb g here in
    let lengths : n ≡ 0 + (length (a ++ b) - length (ra ++ b)) = omega (arith, length-append a b, length-append ra b) in
    (rb, begins_append ts (moved (length a) (u ∷ us)) 0 (a ++ b) (ra ++ b) rb (begins_more ts 0 a ra b some h) (subst (λ (m : ℕ). Begins m (ra ++ b) (moved (length a) (u ∷ us)) rb) lengths whole), last)

pub tokens_join : TokensJoin
tokens_join a b ts us l s t = join_at a b s.0 t.0 ts us s.1 (left_of_lines ts a s.0 l s.1) (gap_of_lines ts a s.0 l s.1 s.2) t.1 t.2

pub kinds_moved : (d : ℕ) (ts : List (ℕ × Lexeme)) → kinds (moved d ts) ≡ kinds ts
kinds_moved d [] = refl
kinds_moved d (t ∷ ts) = ap (λ (l : List Lexeme). t.1 ∷ l) (kinds_moved d ts)

pub list_append : (k : ItemType) (xs ys : List Item) (a b : List Lexeme) → items k xs a → items k ys b → items k (xs ++ ys) (a ++ b)
list_append k [] ys a b m n = subst (λ (l : List Lexeme). items k ys (l ++ b)) (sym m) n
list_append k (x ∷ xs) ys a b m n = record {
  prefix = m.prefix;
  suffix = m.suffix ++ b;
  whole = ap (λ (l : List Lexeme). l ++ b) m.whole ∙ append_assoc m.prefix m.suffix b;
  first = m.first;
  second = list_append k xs ys m.suffix b m.second n;
}

pub items_join : ItemsJoin
items_join k a b xs ys l s t =
    let kinds_are : kinds s.0 ++ kinds t.0 ≡ kinds (s.0 ++ moved (length a) t.0) =
    ap (λ (x : List Lexeme). kinds s.0 ++ x) (sym (kinds_moved (length a) t.0)) ∙ sym (kinds-append s.0 (moved (length a) t.0)) in
    (s.0 ++ moved (length a) t.0, tokens_join a b s.0 t.0 l s.1 t.1, subst (λ (x : List Lexeme). items k (xs ++ ys) x) kinds_are (list_append k xs ys (kinds s.0) (kinds t.0) s.2 t.2))
