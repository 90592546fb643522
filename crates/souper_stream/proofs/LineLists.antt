-- Texts after lines, and the lines of a text as a list.
use Rattle.std.proofs.Common.{◌≡◌, ◌⊎◌, inl, inr, ℕ, ◌+◌, ◌-◌, ◌<◌, List, [], ◌∷◌, ◌++◌, length, refl, sym, ap, ◌∙◌, subst, arith, append_assoc, append-nil, length-append, ◌≤◌, Bool, true, false, take, drop, eqb-true, ◌==◌, zero, suc, take_at, drop_at, length-take, take-take}
use Rattle.std.specs.List.{AllByRecursion}
use Rattle.std.specs.Io.BufRead.{take_through}
use Rattle.std.proofs.lemmas.Bool.{false_from_ne_true}
use Rattle.std.proofs.lemmas.List.{append_cancel_left}
use Rattle.souper_graph.specs.Syntax.Spelling.{items as items_form}
use Rattle.souper_stream.proofs.Prelude.{Passes, is_byte, Item, Lexeme, IsGap, Begins, IsTextOf, IsOneLine, kinds, ItemType, TextSpells, begins_length, begins_append, text_tokens, one_reading, IsLines, moved, PrefixSpells, kinds-append, begins_more, begins_moved, begins_later, left_of_lines, gap_of_lines, kinds_moved, list_append, no_lines_end, lines_end, tokens_part}
use Rattle.std.proofs.lemmas.Grind.{flat_map-append}
use Rattle.souper_stream.specs.Segments.{Line, concat, IsWholeLine, AreLines, tokens_of, tokens_of_lines, FirstStarts, IsLastLineAt}

pub lines_append : (a b : List ℕ) → IsLines a → IsLines b → IsLines (a ++ b)
lines_append a b l (inl none) = subst (λ (x : List ℕ). IsLines x) (sym (ap (λ (x : List ℕ). a ++ x) none ∙ append-nil a)) l
lines_append a b l (inr end) = inr (a ++ end.0, ap (λ (x : List ℕ). a ++ x) end.1 ∙ sym (append_assoc a end.0 (10 ∷ [])))

pub no_text : IsTextOf [] []
no_text = ([], refl, record { gap = []; last = []; is_gap = ([], tt, refl); is_last = tt; text = refl })

pub none_spelled : (k : ItemType) → TextSpells k [] []
none_spelled k = ([], no_text, refl)

-- tokens of lines, and those that the text after them begins with
begins_join : (a b ra rest : List ℕ) (ts us : List (ℕ × Lexeme)) → Begins 0 a ts ra → (ts ≡ []) ⊎ (0 < length ra) → IsGap ra → Begins 0 b us rest → (other : List ℕ) × Begins 0 (a ++ b) (ts ++ moved (length a) us) other
begins_join a b ra rest ts [] h some g k = (ra ++ b, subst (λ (x : List (ℕ × Lexeme)). Begins 0 (a ++ b) x (ra ++ b)) (sym (append-nil ts)) (begins_more ts 0 a ra b some h))
begins_join a b ra rest ts (u ∷ us) h some g k =
    let shorter = begins_length ts 0 a ra h in
    let n : ℕ = length a - length ra in
    let later : Begins (length a + 0) b (moved (length a) (u ∷ us)) rest = begins_moved (length a) (u ∷ us) 0 b rest k in
    let here : Begins (n + length ra) b (moved (length a) (u ∷ us)) rest = subst (λ (m : ℕ). Begins m b (moved (length a) (u ∷ us)) rest) (let e : length a + 0 ≡ n + length ra = omega arith in e) later in
    let whole : Begins n (ra ++ b) (moved (length a) (u ∷ us)) rest = begins_later ra (length a + u.0, u.1) (moved (length a) us) n b rest g here in
    let lengths : n ≡ 0 + (length (a ++ b) - length (ra ++ b)) = omega (arith, length-append a b, length-append ra b) in
    (rest, begins_append ts (moved (length a) (u ∷ us)) 0 (a ++ b) (ra ++ b) rest (begins_more ts 0 a ra b some h) (subst (λ (m : ℕ). Begins m (ra ++ b) (moved (length a) (u ∷ us)) rest) lengths whole))

-- items of lines, and those that the text after them begins with
pub prefix_after : (k : ItemType) (done part : List ℕ) (xs ys : List Item) → IsLines done → TextSpells k done xs → PrefixSpells k part ys → PrefixSpells k (done ++ part) (xs ++ ys)
prefix_after k done part xs ys l (ts, (left, begun, gap), spelled) (us, rest, begins, more) =
    let j = begins_join done part left rest ts us begun (left_of_lines ts done left l begun) (gap_of_lines ts done left l begun gap) begins in
    let are : kinds ts ++ kinds us ≡ kinds (ts ++ moved (length done) us) =
    ap (λ (x : List Lexeme). kinds ts ++ x) (sym (kinds_moved (length done) us)) ∙ sym (kinds-append ts (moved (length done) us)) in
    (ts ++ moved (length done) us, j.0, j.1, subst (λ (x : List Lexeme). items_form k (xs ++ ys) x) are (list_append k xs ys (kinds ts) (kinds us) spelled more))

-- and with more after them
pub prefix_longer : (k : ItemType) (part rest : List ℕ) (ys : List Item) → IsLines part → PrefixSpells k part ys → PrefixSpells k (part ++ rest) ys
prefix_longer k part rest ys l b = (b.0, b.1 ++ rest, begins_more b.0 0 part b.1 rest (left_of_lines b.0 part b.1 l b.2) b.2, b.3)

-- ---- lists

pub concat-append : (xs ys : List Line) → concat (xs ++ ys) ≡ concat xs ++ concat ys
concat-append [] ys = refl
concat-append (x ∷ xs) ys = ap (λ (l : List ℕ). x ++ l) (concat-append xs ys) ∙ sym (append_assoc x (concat xs) (concat ys))

pub tokens-append : (xs ys : List Line) → tokens_of_lines (xs ++ ys) ≡ tokens_of_lines xs ++ tokens_of_lines ys
tokens-append xs ys = flat_map-append tokens_of xs ys

pub tokens_snoc : (ls : List Line) (l : Line) → tokens_of_lines (ls ++ l ∷ []) ≡ tokens_of_lines ls ++ tokens_of l
tokens_snoc ls l = tokens-append ls (l ∷ []) ∙ ap (λ (ts : List Lexeme). tokens_of_lines ls ++ ts) (append-nil (tokens_of l))

-- ---- lines

pub starts_not_none : (q : List Line) → FirstStarts q → q ≡ [] → ⊥
starts_not_none q s e = grind arith

pub starts_with_more : (ls more : List Line) → FirstStarts ls → FirstStarts (ls ++ more)
starts_with_more ls more h = grind arith

first_some : (l : Line) (ls : List Line) → AreLines (l ∷ ls) → 0 < length l
first_some l ls h = grind (arith, length-append {A = ℕ})

pub lines-append : (xs ys : List Line) → AllByRecursion IsWholeLine xs → AreLines ys → AreLines (xs ++ ys)
lines-append [] ys h k = k
lines-append (x ∷ []) [] h k = inl h.0
lines-append (x ∷ []) (y ∷ ys) h k = (h.0, k)
lines-append (x ∷ (z ∷ xs)) ys h k = (h.0, lines-append (z ∷ xs) ys h.1 k)

pub all_are_lines : (ls : List Line) → AllByRecursion IsWholeLine ls → AreLines ls
all_are_lines ls h = subst (λ (x : List Line). AreLines x) (append-nil ls) (lines-append ls [] h tt)

pub lines_back : (xs ys : List Line) → AreLines (xs ++ ys) → AreLines ys
lines_back [] ys h = h
lines_back (x ∷ xs) ys h = lines_back xs ys (grind arith)

pub lines_front : (xs ys : List Line) → (ys ≡ [] → ⊥) → AreLines (xs ++ ys) → AllByRecursion IsWholeLine xs
lines_front [] ys some h = tt
lines_front (l ∷ []) [] some h = absurd (some refl)
lines_front (l ∷ []) (m ∷ ys) some h = (h.0, tt)
lines_front (l ∷ (m ∷ xs)) ys some h = (h.0, lines_front (m ∷ xs) ys some h.1)

pub are_front : (xs ys : List Line) → AreLines (xs ++ ys) → AreLines xs
are_front xs [] h = subst (λ (x : List Line). AreLines x) (append-nil xs) h
are_front xs (y ∷ ys) h = all_are_lines xs (lines_front xs (y ∷ ys) (λ e. cc) h)

pub whole_back : (xs ys : List Line) → AllByRecursion IsWholeLine (xs ++ ys) → AllByRecursion IsWholeLine ys
whole_back [] ys h = h
whole_back (x ∷ xs) ys h = whole_back xs ys h.1

pub no_bytes : (ls : List Line) → AreLines ls → length (concat ls) ≡ 0 → ls ≡ []
no_bytes [] h e = refl
no_bytes (l ∷ ls) h e = absurd (omega (arith, first_some l ls h, length-append l (concat ls)))

pub lines_of : (ls : List Line) → AllByRecursion IsWholeLine ls → IsLines (concat ls)
lines_of [] h = inl refl
lines_of (l ∷ ls) h = lines_append l (concat ls) (inr (h.0.0, h.0.2)) (lines_of ls h.1)

-- lines that end in a newline are whole
pub lines_whole : (ls : List Line) → AreLines ls → IsLines (concat ls) → AllByRecursion IsWholeLine ls
lines_whole [] h e = tt
lines_whole (l ∷ []) (inl h) e = (h, tt)
lines_whole (l ∷ []) (inr h) e = absurd (no_lines_end (l ++ []) [] l e h.1 h.0 (append-nil l))
lines_whole (l ∷ (m ∷ ls)) h e = (h.0, lines_whole (m ∷ ls) h.1 (lines_end l (concat (m ∷ ls)) e))

-- each text has lines
pub lines_exist : (bs : List ℕ) → (ls : List Line) × AreLines ls × (bs ≡ concat ls)
lines_exist [] = ([], tt, refl)
lines_exist (b ∷ bs) = let r = lines_exist bs in under (b == 10) refl r.0 r.1 r.2
  where
    longer : (b == 10) ≡ false → (l : Line) → IsWholeLine l → IsWholeLine (b ∷ l)
    longer ne l h = (b ∷ h.0, (ne, h.1), ap (λ (x : Line). b ∷ x) h.2)

    under : (c : Bool) → (b == 10) ≡ c → (ls : List Line) → AreLines ls → bs ≡ concat ls → (ms : List Line) × AreLines ms × (b ∷ bs ≡ concat ms)
    under true is ls h e = ((b ∷ []) ∷ ls, lines-append ((b ∷ []) ∷ []) ls (([], tt, ap (λ (x : ℕ). x ∷ []) (eqb-true b 10 is)), tt) h, ap (λ (x : List ℕ). b ∷ x) e)
    under false ne [] h e = ((b ∷ []) ∷ [], inr ((ne, tt), omega arith), ap (λ (x : List ℕ). b ∷ x) e)
    under false ne (l ∷ []) (inl h) e = ((b ∷ l) ∷ [], inl (longer ne l h), ap (λ (x : List ℕ). b ∷ x) e)
    under false ne (l ∷ []) (inr h) e = ((b ∷ l) ∷ [], inr ((ne, h.0), omega arith), ap (λ (x : List ℕ). b ∷ x) e)
    under false ne (l ∷ (m ∷ ls)) h e = ((b ∷ l) ∷ (m ∷ ls), (longer ne l h.0, h.1), ap (λ (x : List ℕ). b ∷ x) e)

-- ---- the first line

through_append : (xs ys : List ℕ) → IsOneLine xs → take_through 10 (xs ++ ys) ≡ xs ++ take_through 10 ys
through_append [] ys h = refl
through_append (x ∷ xs) ys h = rw h.0 (ap (λ (l : List ℕ). x ∷ l) (through_append xs ys h.1))

through_whole : (l rest : List ℕ) → IsWholeLine l → take_through 10 (l ++ rest) ≡ l
through_whole l rest h = ap (take_through 10) (ap (λ (x : List ℕ). x ++ rest) h.2 ∙ append_assoc h.0 (10 ∷ []) rest) ∙ through_append h.0 (10 ∷ rest) h.1 ∙ sym h.2

first_through : (l : Line) (ls : List Line) → AreLines (l ∷ ls) → take_through 10 (concat (l ∷ ls)) ≡ l
first_through l [] (inl h) = through_whole l [] h
first_through l [] (inr h) = through_append l [] h.0 ∙ append-nil l
first_through l (m ∷ ls) h = through_whole l (concat (m ∷ ls)) h.0

pub line_first : (ls : List Line) (text : List ℕ) (n : ℕ) → text ≡ concat ls → AreLines ls → 0 < length text → n ≡ length (take_through 10 text) → (back : List Line) × (ls ≡ take n text ∷ back) × (drop n text ≡ concat back)
line_first [] text n e lines some len = absurd (omega (arith, ap length e))
line_first (l ∷ ls) text n e lines some len =
    let long : length l ≡ n = sym (len ∙ ap length (ap (take_through 10) e ∙ first_through l ls lines)) in
    (ls, ap (λ (x : Line). x ∷ ls) (sym (ap (take n) e ∙ take_at l (concat ls) n long)), ap (drop n) e ∙ drop_at l (concat ls) n long)

pub lines_unique : (ls ms : List Line) → AreLines ls → AreLines ms → concat ls ≡ concat ms → ls ≡ ms
lines_unique [] ms h k e = sym (no_bytes ms k (sym (ap length e)))
lines_unique (l ∷ ls) [] h k e = no_bytes (l ∷ ls) h (ap length e)
lines_unique (l ∷ ls) (m ∷ ms) h k e =
    let same : l ≡ m = sym (first_through l ls h) ∙ ap (take_through 10) e ∙ first_through m ms k in
    let others = append_cancel_left m (concat ls) (concat ms) (ap (λ (x : Line). x ++ concat ls) (sym same) ∙ e) in
    let rest = lines_unique ls ms (lines_back (l ∷ []) ls h) (lines_back (m ∷ []) ms k) others in
    (λ i. same i ∷ rest i)

-- whole lines with which lines begin are the first of them
pub lines_split : (ls : List Line) (a b : List ℕ) → AreLines ls → concat ls ≡ a ++ b → IsLines a → (xs : List Line) × (ys : List Line) × (ls ≡ xs ++ ys) × (concat xs ≡ a)
lines_split ls a b lines e h =
    let xs = lines_exist a in
    let ys = lines_exist b in
    let whole = lines_whole xs.0 xs.1 (subst (λ (x : List ℕ). IsLines x) xs.2 h) in
    (xs.0, ys.0, lines_unique ls (xs.0 ++ ys.0) lines (lines-append xs.0 ys.0 whole ys.1) (e ∙ (λ i. xs.2 i ++ ys.2 i) ∙ sym (concat-append xs.0 ys.0)), sym xs.2)

-- ---- tokens of lines without a fault

-- the tokens of lines without a fault are the tokens of all their bytes
pub kinds_of_lines : (p : List Line) (ts : List (ℕ × Lexeme)) → AreLines p → IsTextOf (concat p) ts → kinds ts ≡ tokens_of_lines p
kinds_of_lines [] ts lines h = ap kinds (one_reading [] ts [] h no_text)
kinds_of_lines (l ∷ []) ts lines h = sym (ap kinds (text_tokens (l ++ []) ts h).0) ∙ ap tokens_of (append-nil l) ∙ sym (append-nil (tokens_of l))
kinds_of_lines (l ∷ (m ∷ p)) ts lines h =
    let t = tokens_part l (concat (m ∷ p)) ts (inr (lines.0.0, lines.0.2)) h in
    ap kinds t.4 ∙ kinds-append t.0 (moved (length l) t.1) ∙ (λ i. ap kinds (sym (text_tokens l t.0 t.2).0) i ++ (kinds_moved (length l) t.1 ∙ kinds_of_lines (m ∷ p) t.1 lines.1 t.3) i)

-- ---- newlines that are sought

pub through_found : (text : List ℕ) (n : ℕ) → n < length text → ((k : ℕ) → k < n → Passes (is_byte 10) text k → ⊥) → Passes (is_byte 10) text n → n + 1 ≡ length (take_through 10 text)
through_found [] n within before at = absurd (omega arith)
through_found (b ∷ text) zero within before at = rw at refl
through_found (b ∷ text) (suc n) within before at =
    rw (false_from_ne_true (b == 10) (before 0 (omega arith))) (omega (arith, through_found text n (omega arith) (λ k l. before (suc k) (omega arith)) at))

pub through_none : (text : List ℕ) → ((k : ℕ) → k < length text → Passes (is_byte 10) text k → ⊥) → length text ≡ length (take_through 10 text)
through_none [] none = refl
through_none (b ∷ text) none = rw (false_from_ne_true (b == 10) (none 0 (omega arith))) (omega (arith, through_none text (λ k l. none (suc k) (omega arith))))

-- no newline is from an offset on
pub one_after : (xs : List ℕ) (s : ℕ) → ((k : ℕ) → s ≤ k → k < length xs → Passes (is_byte 10) xs k → ⊥) → IsOneLine (drop s xs)
one_after [] zero none = tt
one_after [] (suc s) none = tt
one_after (x ∷ xs) zero none = (false_from_ne_true (x == 10) (none 0 (omega arith) (omega arith)), one_after xs zero (λ k from l. none (suc k) (omega arith) (omega arith)))
one_after (x ∷ xs) (suc s) none = one_after xs s (λ k from l. none (suc k) (omega arith) (omega arith))

-- the last line begins after the whole lines before the last byte
pub last_line_at : (text : List ℕ) (n : ℕ) → 0 < length text → n ≤ length (take (length text - 1) text) → IsLines (take n (take (length text - 1) text)) → IsOneLine (drop n (take (length text - 1) text)) → IsLastLineAt text n
last_line_at text n some within lines rest =
    let few = length-take (length text - 1) text in
    record { before = omega arith; lines = subst (λ (x : List ℕ). IsLines x) (take-take n (length text - 1) text (omega arith)) lines; one_line = rest }
