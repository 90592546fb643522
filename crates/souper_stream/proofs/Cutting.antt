-- Where a text is cut: its lines are scanned one after the other or passed over, up to the first cut point; the last cut point.
use Rattle.std.proofs.Common.{length, arith, length-append, ◌≡◌, ◌⊎◌, inl, inr, Bool, true, false, List, [], ◌∷◌, ◌++◌, refl, sym, ap, ◌∙◌, subst, append_assoc, append-nil, ℕ, ◌+◌, ◌-◌, ◌<◌, take, drop, length-take, take-append-drop, get_or, IsUtf8, ◌≤◌, ◌↔◌, codes, IsCharBoundary, drop_at, drop-drop, take-take, zero, suc}
use Rattle.std.specs.Io.BufRead.{take_through}
use Rattle.std.specs.List.{AllByRecursion}
use Rattle.std.specs.Io.{StartsWith}
use Rattle.std.proofs.lemmas.List.{nil_from_length, get_or_at}
use Rattle.std.proofs.Math.Seq.{take-append_seam, drop-append_seam}
use Rattle.std.proofs.KnownBytes.{starts_with_rest}
use Rattle.std.proofs.Transfers.{starts_with_of_append, starts_with_length}
use Rattle.std.proofs.lemmas.Bool.{false_from_ne_true}
use Rattle.std.proofs.lemmas.Slice.Eq.{bytes_eq-Decides}
use Rattle.std.proofs.lemmas.Str.{IsCharBoundary-after_ascii, IsUtf8-nil, IsUtf8-take, IsUtf8-drop}
use Rattle.souper_stream.proofs.Prelude.{Nowhere, OccursAt, Lexeme, ident, spelling, Begins, ItemType, kinds, lexed_of, tokens_law, is_name, IsLines, parted_twice, All-both}
use Rattle.memchr.proofs.lemmas.MatchLemmas.{OccursAt-from_part}
use Rattle.souper_stream.specs.declared.lines.ScanState.{ScanState}
use Rattle.souper_stream.specs.Lines.{line_word, token_begins_terminator, defines, shows_line, NoStart, LastEnds, first_state, state_after, scanned, starts_line, begins_terminator, IsAbsent, NoTerminatorWord, IsWithoutEnd, PassesOver}
use Rattle.souper_stream.specs.Segments.{Line, concat, AreLines, tokens_of, tokens_of_lines, EndsItem, FirstStarts, HasNoCut, IsCut, IsFirstSegment, IsWholeLine, CutsAt, HasNoCutAfter, HasBadLine}
use Rattle.souper_stream.specs.declared.cuts.Scan.{Scan}
use Rattle.souper_stream.specs.Scanning.{IsStateAfter, first_scan, IsScan, HasScan}
use Rattle.souper_stream.proofs.Parting.{end_is_line, NoEnd, no_end_ends, ends_within, starts_longer}
use Rattle.souper_stream.proofs.LineLists.{starts_not_none, concat-append, tokens_snoc, lines_back, lines_split, no_bytes, line_first, are_front, lines_whole, tokens-append, lines_exist}

-- no line begins in the tokens, nor with the name before them, if there is one
abbrev Quiet : Bool → List Lexeme → Type 0
Quiet named ts = NoStart ts × (named ≡ true → defines ts ≡ false)

-- that is so if the first token shows no line, and none begins after it
quiet_step : (named : Bool) (t : Lexeme) (ts : List Lexeme) → Quiet named (t ∷ ts) ↔ (shows_line named t ≡ false) × Quiet (is_name t) ts
quiet_step named t ts = grind arith

-- ---- where an item ends

pub no_tokens : (k : ItemType) → LastEnds k [] → ⊥
no_tokens k h = omega (arith, ap length h.whole, length-append h.before (ident h.word ∷ h.after))

-- tokens end an item if the last ones do
pub ends_later : (k : ItemType) (xs ys : List Lexeme) → LastEnds k ys → LastEnds k (xs ++ ys)
ends_later k xs ys h = record {
  before = xs ++ h.before;
  word = h.word;
  after = h.after;
  whole = ap (λ (ts : List Lexeme). xs ++ ts) h.whole ∙ sym (append_assoc xs h.before (ident h.word ∷ h.after));
  ends = h.ends;
  quiet = h.quiet;
}

end_shows : (k : ItemType) (named : Bool) (t : Lexeme) → token_begins_terminator k t ≡ true → shows_line named t ≡ true
end_shows k named t h = grind (arith, end_is_line k)

ends_here : (k : ItemType) (t : Lexeme) (ts : List Lexeme) → token_begins_terminator k t ≡ true → NoStart ts → LastEnds k (t ∷ ts)
ends_here k (ident w) ts h q = record { before = []; word = w; after = ts; whole = refl; ends = h; quiet = q }
ends_here k _ ts h q = absurd cc

-- an item ends with the tokens, or ended before them, and no line begins in them
abbrev EndsBy : ItemType → ScanState → List Lexeme → Type 0
EndsBy k s ts = LastEnds k ts ⊎ ((s.ends_item ≡ true) × Quiet s.after_name ts)

-- the tokens after the first, from the state after the first
ends_step : (k : ItemType) (s : ScanState) (t : Lexeme) (ts : List Lexeme) → EndsBy k s (t ∷ ts) → EndsBy k (state_after k s t) ts
ends_step k s t ts (inr q) = let step = (quiet_step s.after_name t ts).0 q.1 in inr (rw step.0 q.0, step.1)
ends_step k s t ts (inl h) = under h.before h.whole
  where
    under : (before : List Lexeme) → t ∷ ts ≡ before ++ ident h.word ∷ h.after → EndsBy k (state_after k s t) ts
    under [] e =
        let token : t ≡ ident h.word = cc in
        let shows : line_word h.word ≡ true = end_shows k false (ident h.word) h.ends in
        let rest : h.after ≡ ts = cc in
        inr (rw token (rw shows h.ends), (subst (λ (x : List Lexeme). NoStart x) rest h.quiet, λ e. (let name = rw token at e in absurd cc)))
    under (b ∷ before) e = inl (record { before = before; word = h.word; after = h.after; whole = cc; ends = h.ends; quiet = h.quiet })

-- and back
ends_back : (k : ItemType) (s : ScanState) (t : Lexeme) (ts : List Lexeme) → EndsBy k (state_after k s t) ts → EndsBy k s (t ∷ ts)
ends_back k s t ts (inl h) = inl (ends_later k (t ∷ []) ts h)
ends_back k s t ts (inr q) = under (shows_line s.after_name t) refl
  where
    under : (b : Bool) → shows_line s.after_name t ≡ b → EndsBy k s (t ∷ ts)
    under true e = inl (ends_here k t ts (rw e at q.0) q.1.0)
    under false e = inr (rw e at q.0, (quiet_step s.after_name t ts).1 (e, q.1))

state_tells : (k : ItemType) (s : ScanState) (ts : List Lexeme) → ((scanned k s ts).ends_item ≡ true) ↔ EndsBy k s ts
state_tells k s [] = (λ e. inr (e, (tt, λ e. refl)), λ h. elim h [ inl l ↦ absurd (no_tokens k l) | inr q ↦ q.0 ])
state_tells k s (t ∷ ts) = let more = state_tells k (state_after k s t) ts in (λ e. ends_back k s t ts (more.0 e), λ h. more.1 (ends_step k s t ts h))

-- ---- the state after tokens

pub state_first : (k : ItemType) → IsStateAfter k [] first_state
state_first k us = grind (arith, state_tells k first_state us)

pub state_ends : (k : ItemType) (ts : List Lexeme) (s : ScanState) → IsStateAfter k ts s → (s.ends_item ≡ true) ↔ LastEnds k ts
state_ends k ts s h = subst (λ (x : List Lexeme). (s.ends_item ≡ true) ↔ LastEnds k x) (append-nil ts) (h [])

scanned-append : (k : ItemType) (s : ScanState) (us vs : List Lexeme) → scanned k s (us ++ vs) ≡ scanned k (scanned k s us) vs
scanned-append k s [] vs = refl
scanned-append k s (u ∷ us) vs = scanned-append k (state_after k s u) us vs

pub state_more : (k : ItemType) (ts us : List Lexeme) (s : ScanState) → IsStateAfter k ts s → IsStateAfter k (ts ++ us) (scanned k s us)
state_more k ts us s h vs = rw (append_assoc ts us vs, ← scanned-append k s us vs) (h (us ++ vs))

-- if no item ends before the token, one ends with it at the word of an item's end alone
going_step : (k : ItemType) (s : ScanState) (t : Lexeme) → s.ends_item ≡ false → (state_after k s t).ends_item ≡ token_begins_terminator k t
going_step k s t going = grind (arith, end_shows k s.after_name t)

-- and the name before plays no part
going_alike : (k : ItemType) (s new : ScanState) (ts : List Lexeme) → s.ends_item ≡ false → new.ends_item ≡ false → (scanned k s ts).ends_item ≡ (scanned k new ts).ends_item
going_alike k s new [] a b = a ∙ sym b
going_alike k s new (t ∷ ts) a b = ap (λ (e : Bool). (scanned k (record { after_name = is_name t; ends_item = e }) ts).ends_item) (going_step k s t a ∙ sym (going_step k new t b))

still_going : (k : ItemType) (s : ScanState) (ts : List Lexeme) → s.ends_item ≡ false → NoEnd k ts → (scanned k s ts).ends_item ≡ false
still_going k s [] going none = going
still_going k s (t ∷ ts) going none = still_going k (state_after k s t) ts (going_step k s t going ∙ none.0) none.1

-- tokens without an end word, where no item has ended before them
pub state_kept : (k : ItemType) (ts us : List Lexeme) (s : ScanState) → IsStateAfter k ts s → s.ends_item ≡ false → NoEnd k us → IsStateAfter k (ts ++ us) s
state_kept k ts us s h going none vs = rw (going_alike k s (scanned k s us) vs going (still_going k s us going none)) (state_more k ts us s h vs)

-- ---- no cut

pub no_cut_none : (k : ItemType) → HasNoCut k []
no_cut_none k front back e ends starts = starts_not_none back starts (nil_from_length back (omega (arith, ap length e, length-append front back)))

pub no_cut_more : (k : ItemType) (ls : List Line) (line : Line) → HasNoCut k ls → (EndsItem k ls → starts_line (tokens_of line) ≡ true → ⊥) → HasNoCut k (ls ++ line ∷ [])
no_cut_more k ls line h not_both front back e ends starts = elim (parted_twice ls (line ∷ []) front back e) [ inl w ↦ here w.left w.first w.second | inr b ↦ before b.more b.some b.first b.second ]
  where
    here : (left : List Line) → front ≡ ls ++ left → line ∷ [] ≡ left ++ back → ⊥
    here [] f b = not_both (subst (λ (x : List Line). EndsItem k x) (f ∙ append-nil ls) ends) (subst (λ (x : List Line). FirstStarts x) (sym b) starts)
    here (m ∷ left) f b = starts_not_none back starts (nil_from_length back (omega (arith, ap length b, length-append left back)))

    before : (more : List Line) → 0 < length more → ls ≡ front ++ more → back ≡ more ++ line ∷ [] → ⊥
    before [] some f b = absurd (omega arith)
    before (m ∷ more) some f b = h front (m ∷ more) f ends (subst (λ (x : List Line). FirstStarts x) b starts)

-- ---- forward

-- the first lines were scanned, no cut point is between them, and `rest` is the text of the others
pub record Scanned (k : ItemType) (ls : List Line) (rest : List ℕ) (s : ScanState) : Type 0 where
  pub front : List Line
  pub back : List Line
  pub whole : ls ≡ front ++ back
  pub rest_is : rest ≡ concat back
  pub after : IsStateAfter k (tokens_of_lines front) s
  pub uncut : HasNoCut k front

module _ (k : ItemType) (ls : List Line) (rest : List ℕ) (s : ScanState) (lines : AreLines ls) (h : Scanned k ls rest s) where
  pub lines_left : AreLines h.back
  lines_left = lines_back h.front h.back (subst (λ (x : List Line). AreLines x) h.whole lines)

  -- the next line
  pub scanned_step : (n : ℕ) → 0 < length rest → n ≡ length (take_through 10 rest) → (s.ends_item ≡ true → starts_line (tokens_of (take n rest)) ≡ true → ⊥) → Scanned k ls (drop n rest) (scanned k s (tokens_of (take n rest)))
  scanned_step n some first not_both =
      let (back, back_is, rest_is) = line_first h.back rest n h.rest_is lines_left some first in
      let line : Line = take n rest in
      record {
        front = h.front ++ line ∷ [];
        back = back;
        whole = h.whole ∙ ap (λ (x : List Line). h.front ++ x) back_is ∙ sym (append_assoc h.front (line ∷ []) back);
        rest_is = rest_is;
        after = subst (λ (ts : List Lexeme). IsStateAfter k ts (scanned k s (tokens_of line))) (sym (tokens_snoc h.front line)) (state_more k (tokens_of_lines h.front) (tokens_of line) s h.after);
        uncut = no_cut_more k h.front line h.uncut (λ ends. not_both ((state_ends k (tokens_of_lines h.front) s h.after).1 ends));
      }

  first_segment : (text : List ℕ) → text ≡ concat ls → (h.back ≡ []) ⊎ IsCut k h.front h.back → IsFirstSegment k ls (length text - length rest)
  first_segment text e cut =
      let all = ap length (e ∙ ap concat h.whole ∙ concat-append h.front h.back) ∙ length-append (concat h.front) (concat h.back) in
      let left = ap length h.rest_is in
      record { front = h.front; back = h.back; whole = h.whole; len_is = omega arith; uncut = h.uncut; cut = cut }

  -- the first segment ends at the cut point before the next line
  pub first_cut : (text : List ℕ) (n : ℕ) → text ≡ concat ls → 0 < length rest → n ≡ length (take_through 10 rest) → s.ends_item ≡ true → starts_line (tokens_of (take n rest)) ≡ true → IsFirstSegment k ls (length text - length rest)
  first_cut text n e some first ends starts =
      let (back, back_is, rest_is) = line_first h.back rest n h.rest_is lines_left some first in
      first_segment text e (inr ((state_ends k (tokens_of_lines h.front) s h.after).0 ends, subst (λ (x : List Line). FirstStarts x) (sym back_is) starts))

  -- the lines that were scanned
  pub scan_to : (text : List ℕ) → text ≡ concat ls → IsScan k ls (record { len = length text - length rest; state = s })
  scan_to text e =
      let all = ap length (e ∙ ap concat h.whole ∙ concat-append h.front h.back) ∙ length-append (concat h.front) (concat h.back) in
      let left = ap length h.rest_is in
      record { front = h.front; back = h.back; whole = h.whole; len_is = omega arith; after = h.after; uncut = h.uncut }

  -- or with the text
  pub first_end : (text : List ℕ) → text ≡ concat ls → length rest ≡ 0 → IsFirstSegment k ls (length text - length rest)
  first_end text e none = first_segment text e (inl (no_bytes h.back lines_left (sym (ap length h.rest_is) ∙ none)))

-- ---- scans that are kept

pub scan_none : (k : ItemType) (text : List ℕ) → HasScan k text first_scan
scan_none k text ls e lines = record { front = []; back = ls; whole = refl; len_is = refl; after = state_first k; uncut = no_cut_none k }

-- it is where the scan goes on
pub scan_on : (k : ItemType) (ls : List Line) (text : List ℕ) (scan : Scan) → text ≡ concat ls → IsScan k ls scan → Scanned k ls (drop scan.len text) scan.state
scan_on k ls text scan e s =
    let rest_is = ap (drop scan.len) (e ∙ ap concat s.whole ∙ concat-append s.front s.back) ∙ drop_at (concat s.front) (concat s.back) scan.len s.len_is in
    record { front = s.front; back = s.back; whole = s.whole; rest_is = rest_is; after = s.after; uncut = s.uncut }

-- where an item ends, lines were scanned
pub scan_begun : (k : ItemType) (text : List ℕ) (scan : Scan) → HasScan k text scan → scan.state.ends_item ≡ true → 0 < scan.len
scan_begun k text scan h ends = under scan.len refl
  where
    under : (n : ℕ) → scan.len ≡ n → 0 < scan.len
    under zero none =
        let (ls, lines, e) = lines_exist text in
        let s = h ls e lines in
        let empty : s.front ≡ [] = no_bytes s.front (are_front s.front s.back (subst (λ (x : List Line). AreLines x) s.whole lines)) (s.len_is ∙ none) in
        absurd (no_tokens k (subst (λ (x : List Line). EndsItem k x) empty ((state_ends k (tokens_of_lines s.front) scan.state s.after).0 ends)))
    under (suc n) some = omega (arith, some)

pub scan_within : (k : ItemType) (text : List ℕ) (scan : Scan) → HasScan k text scan → scan.len ≤ length text
scan_within k text scan h =
    let (ls, lines, e) = lines_exist text in
    let s = h ls e lines in
    omega (arith, s.len_is, ap length (e ∙ ap concat s.whole ∙ concat-append s.front s.back), length-append (concat s.front) (concat s.back))

-- whole lines have more after them
pub scan_more : (k : ItemType) (text more : List ℕ) (scan : Scan) → IsLines text → HasScan k text scan → HasScan k (text ++ more) scan
scan_more k text more scan whole h ls e lines =
    let (xs, ys, parts, front_is) = lines_split ls text more lines (sym e) whole in
    let s = h xs (sym front_is) (are_front xs ys (subst (λ (x : List Line). AreLines x) parts lines)) in
    record { front = s.front; back = s.back ++ ys; whole = parts ∙ ap (λ (x : List Line). x ++ ys) s.whole ∙ append_assoc s.front s.back ys; len_is = s.len_is; after = s.after; uncut = s.uncut }

-- ---- words that are nowhere in bytes

pub front_take : (n : ℕ) (bs : List ℕ) → StartsWith bs (take n bs)
front_take n bs = starts_with_of_append bs (take n bs) (drop n bs) (sym (take-append-drop n bs))

pub absent_front : (w front bs : List ℕ) → StartsWith bs front → IsAbsent w bs → IsAbsent w front
absent_front w xs bs starts h front back here =
    let rest = drop (length xs) bs in
    h front (back ++ rest) (starts_with_rest bs xs starts ∙ ap (λ (x : List ℕ). x ++ rest) here ∙ append_assoc front (w ++ back) rest ∙ ap (λ (x : List ℕ). front ++ x) (append_assoc w back rest))

absent_back : (w a b : List ℕ) → IsAbsent w (a ++ b) → IsAbsent w b
absent_back w a b h front back here = h (a ++ front) back (ap (λ (x : List ℕ). a ++ x) here ∙ sym (append_assoc a front (w ++ back)))

occurs : (front w back bs : List ℕ) → bs ≡ front ++ (w ++ back) → OccursAt bs w (length front)
occurs front w back bs e =
    OccursAt-from_part bs w (length front) (omega (arith, ap length e, length-append front (w ++ back), length-append w back)) (ap (take (length w)) (ap (drop (length front)) e ∙ drop-append_seam front (w ++ back)) ∙ take-append_seam w back)

-- the word is not found
pub absent_nowhere : (bs w : List ℕ) → Nowhere (OccursAt bs w) 0 (length bs + 1) → IsAbsent w bs
absent_nowhere bs w none front back e = none (length front) (omega arith) (omega (arith, ap length e, length-append front (w ++ back))) (occurs front w back bs e)

-- the word is not found before the place
pub absent_before : (bs w : List ℕ) (n : ℕ) → 0 < length w → Nowhere (OccursAt bs w) 0 n → IsAbsent w (take n bs)
absent_before bs w n some none front back e =
    let whole : bs ≡ front ++ (w ++ (back ++ drop n bs)) =
    sym (take-append-drop n bs) ∙ ap (λ (x : List ℕ). x ++ drop n bs) e ∙ append_assoc front (w ++ back) (drop n bs) ∙ ap (λ (x : List ℕ). front ++ x) (append_assoc w back (drop n bs)) in
    none (length front) (omega arith) (omega (arith, length-take n bs, ap length e, length-append front (w ++ back), length-append w back)) (occurs front w (back ++ drop n bs) bs whole)

pub terminator_some : (k : ItemType) (w : List ℕ) → begins_terminator k w ≡ true → 0 < length w
terminator_some k w h = grind (arith, bytes_eq-Decides)

-- the words that items end with
pub no_terminators : (k : ItemType) (bs : List ℕ) → (begins_terminator k (codes "infer") ≡ true → IsAbsent (codes "infer") bs) → (begins_terminator k (codes "result") ≡ true → IsAbsent (codes "result") bs) → (begins_terminator k (codes "cand") ≡ true → IsAbsent (codes "cand") bs) → NoTerminatorWord k bs
no_terminators k bs a b c w h = grind (arith, bytes_eq-Decides)

-- ---- tokens

no_end_first : (k : ItemType) (t : Lexeme) (gap after bs : List ℕ) → bs ≡ gap ++ (spelling t ++ after) → NoTerminatorWord k bs → token_begins_terminator k t ≡ false
no_end_first k (ident w) gap after bs e q = false_from_ne_true (begins_terminator k w) (λ h. q w h gap after e)
no_end_first k _ gap after bs e q = refl

no_end_tokens : (k : ItemType) (ts : List (ℕ × Lexeme)) (n : ℕ) (bs rest : List ℕ) → Begins n bs ts rest → NoTerminatorWord k bs → NoEnd k (kinds ts)
no_end_tokens k [] n bs rest h q = tt
no_end_tokens k (t ∷ ts) n bs rest h q = (
  no_end_first k t.1 h.gap h.after bs h.stands.text q,
  no_end_tokens k ts (t.0 + length (spelling t.1)) h.after rest h.more
      (λ w e. absent_back w (h.gap ++ spelling t.1) h.after (subst (λ (x : List ℕ). IsAbsent w x) (h.stands.text ∙ sym (append_assoc h.gap (spelling t.1) h.after)) (q w e))),
)

-- ---- lines

-- texts that meet at a newline
pub utf8_parts : (a b : List ℕ) → IsLines a → IsUtf8 (a ++ b) → IsUtf8 a × IsUtf8 b
utf8_parts a b (inl none) h = (rw none IsUtf8-nil, rw none at h)
utf8_parts a b (inr end) h =
    let n = length end.0 in
    let at : get_or (a ++ b) n 0 ≡ 10 = ap (λ (x : List ℕ). get_or x n 0) (ap (λ (x : List ℕ). x ++ b) end.1 ∙ append_assoc end.0 (10 ∷ []) b) ∙ get_or_at end.0 10 b 0 n refl in
    let long : n + 1 ≡ length a = sym (ap length end.1 ∙ length-append end.0 (10 ∷ [])) in
    let seam = subst (λ (m : ℕ). IsCharBoundary (a ++ b) m) long (IsCharBoundary-after_ascii (a ++ b) n h (omega (arith, length-append a b)) (omega arith)) in
    (subst (λ (x : List ℕ). IsUtf8 x) (take-append_seam a b) (IsUtf8-take (a ++ b) (length a) h seam), subst (λ (x : List ℕ). IsUtf8 x) (drop-append_seam a b) (IsUtf8-drop (a ++ b) (length a) h seam))

pub no_end_lines : (k : ItemType) (ls : List Line) → AllByRecursion IsWholeLine ls → IsUtf8 (concat ls) → NoTerminatorWord k (concat ls) → AllByRecursion (λ l. NoEnd k (tokens_of l)) ls
no_end_lines k [] each utf8 none = tt
no_end_lines k (l ∷ ls) each utf8 none =
    let (first, rest) = utf8_parts l (concat ls) (inr (each.0.0, each.0.2)) utf8 in
    let all = tokens_law l first in (
      no_end_tokens k (lexed_of 0 l).tokens 0 l all.rest all.front (λ w e. absent_front w l (l ++ concat ls) (take-append_seam l (concat ls)) (none w e)),
      no_end_lines k ls each.1 rest (λ w e. absent_back w l (concat ls) (none w e)),
    )

pub without_end : (k : ItemType) (bytes front : List ℕ) (len : ℕ) → StartsWith bytes front → NoTerminatorWord k front → len ≤ length front → IsLines (take len front) → IsUtf8 (take len front) → IsWithoutEnd k bytes len
without_end k bytes front len starts none within lines utf8 =
    let same : take len front ≡ take len bytes = sym (ap (take len) starts) ∙ take-take len (length front) bytes within in
    record {
      within = omega (arith, within, starts_with_length bytes front starts);
      lines = subst (λ (x : List ℕ). IsLines x) same lines;
      utf8 = subst (λ (x : List ℕ). IsUtf8 x) same utf8;
      none = subst (λ (x : List ℕ). NoTerminatorWord k x) same (λ w h. absent_front w (take len front) front (front_take len front) (none w h));
    }

pub no_end_nil : (k : ItemType) → NoTerminatorWord k []
no_end_nil k w e front back h = let some = terminator_some k w e in let n = ap length h ∙ length-append front (w ++ back) in let m = length-append w back in absurd (omega arith)

-- ---- lines that are passed over

pass_lines : (k : ItemType) (front more : List Line) (s : ScanState) → s.ends_item ≡ false → AllByRecursion (λ l. NoEnd k (tokens_of l)) more → IsStateAfter k (tokens_of_lines front) s → HasNoCut k front → IsStateAfter k (tokens_of_lines (front ++ more)) s × HasNoCut k (front ++ more)
pass_lines k front [] s going none h p = (subst (λ (x : List Line). IsStateAfter k (tokens_of_lines x) s) (sym (append-nil front)) h, subst (λ (x : List Line). HasNoCut k x) (sym (append-nil front)) p)
pass_lines k front (l ∷ more) s going none h p =
    let next = subst (λ (ts : List Lexeme). IsStateAfter k ts s) (sym (tokens_snoc front l)) (state_kept k (tokens_of_lines front) (tokens_of l) s h going none.0) in
    let r = pass_lines k (front ++ l ∷ []) more s going none.1 next (no_cut_more k front l p (λ ends starts. (let yes = (state_ends k (tokens_of_lines front) s h).1 ends in cc))) in
    let as_list = append_assoc front (l ∷ []) more in
    (subst (λ (x : List Line). IsStateAfter k (tokens_of_lines x) s) as_list r.0, subst (λ (x : List Line). HasNoCut k x) as_list r.1)

pub passed_over : (k : ItemType) (ls : List Line) (rest left : List ℕ) (s : ScanState) → AreLines ls → Scanned k ls rest s → PassesOver k s rest left → Scanned k ls left s
passed_over k ls rest left s lines h (inl same) = subst (λ (x : List ℕ). Scanned k ls x s) (sym same) h
passed_over k ls rest left s lines h (inr (going, len, left_is, p)) =
    let back_lines = lines_left k ls rest s lines h in
    let (more, back, parts, bytes) = lines_split h.back (take len rest) (drop len rest) back_lines (sym h.rest_is ∙ sym (take-append-drop len rest)) p.lines in
    let each = lines_whole more (are_front more back (subst (λ (x : List Line). AreLines x) parts back_lines)) (subst (λ (x : List ℕ). IsLines x) (sym bytes) p.lines) in
    let none = no_end_lines k more each (subst (λ (x : List ℕ). IsUtf8 x) (sym bytes) p.utf8) (subst (λ (x : List ℕ). NoTerminatorWord k x) (sym bytes) p.none) in
    let r = pass_lines k h.front more s going none h.after h.uncut in
    let long : length (concat more) ≡ len = omega (arith, ap length bytes, length-take len rest, p.within) in
    record {
      front = h.front ++ more;
      back = back;
      whole = h.whole ∙ ap (λ (x : List Line). h.front ++ x) parts ∙ sym (append_assoc h.front more back);
      rest_is = left_is ∙ ap (drop len) (h.rest_is ∙ ap concat parts ∙ concat-append more back) ∙ drop_at (concat more) (concat back) len long;
      after = r.0;
      uncut = r.1;
    }

-- no cut point is after the lines, if a line starts after them, or none are before
uncut_after : (k : ItemType) (xs ys : List Line) → (xs ≡ []) ⊎ FirstStarts ys → HasNoCut k ys → HasNoCutAfter k (xs ++ ys) (length (concat xs))
uncut_after k xs ys first uncut front back e cut = elim (parted_twice xs ys front back e) [ inl w ↦ inside w.left w.first w.second | inr b ↦ before b.more b.first ]
  where
    before : (more : List Line) → xs ≡ front ++ more → length (concat front) ≤ length (concat xs)
    before more f = omega (arith, ap (λ (x : List Line). length (concat x)) f, ap length (concat-append front more), length-append (concat front) (concat more))

    ends_there : (l : Line) (left : List Line) → LastEnds k (tokens_of_lines xs ++ tokens_of_lines (l ∷ left)) → ys ≡ (l ∷ left) ++ back → (xs ≡ []) ⊎ FirstStarts ys → EndsItem k (l ∷ left)
    ends_there l left ends s (inl none) = subst (λ (x : List Line). LastEnds k (tokens_of_lines x ++ tokens_of_lines (l ∷ left))) none ends
    ends_there l left ends s (inr starts) =
        let line : starts_line (tokens_of l) ≡ true = subst (λ (x : List Line). FirstStarts x) s starts in
        ends_within k (tokens_of_lines xs) (tokens_of_lines (l ∷ left)) (starts_longer (tokens_of l) (tokens_of_lines left) line) ends

    inside : (left : List Line) → front ≡ xs ++ left → ys ≡ left ++ back → length (concat front) ≤ length (concat xs)
    inside [] f s = omega (arith, ap (λ (x : List Line). length (concat x)) (f ∙ append-nil xs))
    inside (l ∷ left) f s =
        let ends = subst (λ (ts : List Lexeme). LastEnds k ts) (tokens-append xs (l ∷ left)) (subst (λ (x : List Line). EndsItem k x) f cut.0) in
        absurd (uncut (l ∷ left) back s (ends_there l left ends s first) cut.1)

-- all of a text is its first segment
pub whole_uncut : (k : ItemType) (ls : List Line) (text : List ℕ) (len : ℕ) → text ≡ concat ls → AreLines ls → IsFirstSegment k ls len → length text ≤ len → HasNoCut k ls
whole_uncut k ls text len e lines f long =
    let parted = ap (λ (x : List Line). length (concat x)) f.whole ∙ ap length (concat-append f.front f.back) ∙ length-append (concat f.front) (concat f.back) in
    let none : f.back ≡ [] = no_bytes f.back (lines_back f.front f.back (subst (λ (x : List Line). AreLines x) f.whole lines)) (omega (arith, ap length e, f.len_is)) in
    subst (λ (x : List Line). HasNoCut k x) (sym (f.whole ∙ ap (λ (x : List Line). f.front ++ x) none ∙ append-nil f.front)) f.uncut

-- ---- lines without an end word

no_end_front : (k : ItemType) (xs ys : List Line) → AllByRecursion (λ l. NoEnd k (tokens_of l)) (xs ++ ys) → NoEnd k (tokens_of_lines xs)
no_end_front k [] ys each = tt
no_end_front k (x ∷ xs) ys each = All-both (λ t. token_begins_terminator k t ≡ false) (tokens_of x) (tokens_of_lines xs) each.0 (no_end_front k xs ys each.1)

-- no cut point is in whole lines in which no end word occurs
pub no_end_uncut : (k : ItemType) (ls : List Line) (text : List ℕ) → text ≡ concat ls → AreLines ls → IsLines text → IsUtf8 text → NoTerminatorWord k text → HasNoCutAfter k ls 0
no_end_uncut k ls text e lines whole utf8 none front back parts cut =
    let each = no_end_lines k ls (lines_whole ls lines (subst (λ (x : List ℕ). IsLines x) e whole)) (subst (λ (x : List ℕ). IsUtf8 x) e utf8) (subst (λ (x : List ℕ). NoTerminatorWord k x) e none) in
    let last = cut.0 in
    absurd (no_end_ends k last.before last.after last.word (subst (λ (x : List Lexeme). NoEnd k x) last.whole (no_end_front k front back (subst (λ (x : List Line). AllByRecursion (λ l. NoEnd k (tokens_of l)) x) parts each))) last.ends)

-- ---- lines that are not UTF-8

-- the next line is not UTF-8
pub bad_line : (k : ItemType) (ls : List Line) (rest : List ℕ) (s : ScanState) → AreLines ls → Scanned k ls rest s → (n : ℕ) → 0 < length rest → n ≡ length (take_through 10 rest) → ¬ (IsUtf8 (take n rest)) → HasBadLine k ls
bad_line k ls rest s lines h n some first fault =
    let (back, back_is, rest_is) = line_first h.back rest n h.rest_is (lines_left k ls rest s lines h) some first in
    record { front = h.front; line = take n rest; back = back; whole = h.whole ∙ ap (λ (x : List Line). h.front ++ x) back_is; uncut = h.uncut; fault = fault }

utf8_first : (l : Line) (ls : List Line) → AreLines (l ∷ ls) → IsUtf8 (l ++ concat ls) → IsUtf8 l × IsUtf8 (concat ls)
utf8_first l [] lines h = (subst (λ (x : List ℕ). IsUtf8 x) (append-nil l) h, IsUtf8-nil)
utf8_first l (m ∷ ls) lines h = utf8_parts l (concat (m ∷ ls)) (inr (lines.0.0, lines.0.2)) h

-- the lines of a text that is UTF-8 are
utf8_line : (front back : List Line) (line : Line) → AreLines (front ++ line ∷ back) → IsUtf8 (concat (front ++ line ∷ back)) → IsUtf8 line
utf8_line [] back line lines h = (utf8_first line back lines h).0
utf8_line (l ∷ front) back line lines h = utf8_line front back line (lines_back (l ∷ []) (front ++ line ∷ back) lines) (utf8_first l (front ++ line ∷ back) lines h).1

-- a text that is UTF-8 has no bad line
pub utf8_has_no_bad_line : (k : ItemType) (text : List ℕ) → IsUtf8 text → ((ls : List Line) → text ≡ concat ls → AreLines ls → HasBadLine k ls) → ⊥
utf8_has_no_bad_line k text utf8 bad =
    let (ls, lines, e) = lines_exist text in
    let b = bad ls e lines in
    b.fault (utf8_line b.front b.back b.line (subst (λ (x : List Line). AreLines x) b.whole lines) (subst (λ (x : List Line). IsUtf8 (concat x)) b.whole (subst (λ (x : List ℕ). IsUtf8 x) e utf8)))

-- ---- the last cut point

-- the lines before and after a place: the start of the search, or a cut point
pub record Placed (k : ItemType) (ls : List Line) (text : List ℕ) (start place : ℕ) : Type 0 where
  pub front : List Line
  pub back : List Line
  pub whole : ls ≡ front ++ back
  pub len_is : length (concat front) ≡ place
  pub rest_is : drop place text ≡ concat back
  pub cut : (place ≡ start) ⊎ IsCut k front back

pub placed_first : (k : ItemType) (ls : List Line) (text : List ℕ) (start : ℕ) → text ≡ concat ls → AreLines ls → start ≤ length text → IsLines (take start text) → Placed k ls text start start
placed_first k ls text start e lines within whole =
    let (xs, ys, parts, front_is) = lines_split ls (take start text) (drop start text) lines (sym e ∙ sym (take-append-drop start text)) whole in
    let len_is : length (concat xs) ≡ start = omega (arith, ap length front_is, length-take start text) in
    record { front = xs; back = ys; whole = parts; len_is = len_is; rest_is = ap (drop start) (e ∙ ap concat parts ∙ concat-append xs ys) ∙ drop_at (concat xs) (concat ys) start len_is; cut = inl refl }

module _ (k : ItemType) (ls : List Line) (text : List ℕ) (start place : ℕ) (e : text ≡ concat ls) (lines : AreLines ls) (p : Placed k ls text start place) where
  back_lines : AreLines p.back
  back_lines = lines_back p.front p.back (subst (λ (x : List Line). AreLines x) p.whole lines)

  -- a first segment after the place, if it is not all that is left, ends at a cut point
  pub placed_more : (len : ℕ) → ((ms : List Line) → drop place text ≡ concat ms → AreLines ms → IsFirstSegment k ms len) → len < length (drop place text) → Placed k ls text start (place + len)
  placed_more len first short =
      let f = first p.back p.rest_is back_lines in
      let rest = p.rest_is ∙ ap concat f.whole ∙ concat-append f.front f.back in
      let parted = ap length rest ∙ length-append (concat f.front) (concat f.back) in
      elim f.cut [
        | inl none ↦ absurd (omega (arith, short, parted, ap (λ (x : List Line). length (concat x)) none, f.len_is))
        | inr cut ↦ record {
          front = p.front ++ f.front;
          back = f.back;
          whole = p.whole ∙ ap (λ (x : List Line). p.front ++ x) f.whole ∙ sym (append_assoc p.front f.front f.back);
          len_is = ap length (concat-append p.front f.front) ∙ length-append (concat p.front) (concat f.front) ∙ (λ i. p.len_is i + f.len_is i);
          rest_is = sym (drop-drop len place text) ∙ ap (drop len) rest ∙ drop_at (concat f.front) (concat f.back) len f.len_is;
          cut = inr (subst (λ (ts : List Lexeme). LastEnds k ts) (sym (tokens-append p.front f.front)) (ends_later k (tokens_of_lines p.front) (tokens_of_lines f.front) cut.0), cut.1);
        }
      ]

  is_cut : start < place → IsCut k p.front p.back
  is_cut some = elim p.cut [ inl same ↦ absurd (omega arith) | inr c ↦ c ]

  pub placed_cut : start < place → CutsAt k ls place
  placed_cut some = record { front = p.front; back = p.back; whole = p.whole; len_is = p.len_is; cut = is_cut some }

  -- no cut point is after the last one that is found, if the text is UTF-8
  pub none_after : IsUtf8 text → (place ≡ 0) ⊎ (start < place) → ((ms : List Line) → drop place text ≡ concat ms → AreLines ms → HasNoCut k ms ⊎ HasBadLine k ms) → HasNoCutAfter k ls place
  none_after utf8 at left =
      let uncut : HasNoCut k p.back = elim (left p.back p.rest_is back_lines) [
        | inl none ↦ none
        | inr b ↦
            let found : ls ≡ (p.front ++ b.front) ++ b.line ∷ b.back = p.whole ∙ ap (λ (x : List Line). p.front ++ x) b.whole ∙ sym (append_assoc p.front b.front (b.line ∷ b.back)) in
            absurd (b.fault (utf8_line (p.front ++ b.front) b.back b.line (subst (λ (x : List Line). AreLines x) found lines) (subst (λ (x : List Line). IsUtf8 (concat x)) found (subst (λ (x : List ℕ). IsUtf8 x) e utf8))))
      ] in
      let first : (p.front ≡ []) ⊎ FirstStarts p.back = elim at [ inl none ↦ inl (no_bytes p.front (are_front p.front p.back (subst (λ (x : List Line). AreLines x) p.whole lines)) (p.len_is ∙ none)) | inr some ↦ inr (is_cut some).1 ] in
      subst (λ (m : ℕ). HasNoCutAfter k ls m) p.len_is (subst (λ (x : List Line). HasNoCutAfter k x (length (concat p.front))) (sym p.whole) (uncut_after k p.front p.back first uncut))
