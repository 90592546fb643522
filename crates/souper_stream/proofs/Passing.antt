-- The reader of a stream: more is read, and parts are parsed.
use Rattle.std.proofs.Common.{◌≡◌, ◌⊎◌, inl, inr, ℕ, zero, suc, ◌+◌, ◌-◌, ◌<◌, ◌≤◌, Bool, true, false, is_some, List, [], ◌∷◌, ◌++◌, length, take, drop, Option, None, refl, sym, ap, ◌∙◌, subst, arith, append_assoc, append-nil, length-append, take_at, drop_at, length-drop, length-take, drop-drop, take-append-drop}
use Rattle.std.specs.Io.KnownBytes.{Consumes}
use Rattle.std.proofs.lemmas.List.{nil_from_length, drop-append-le}
use Rattle.std.proofs.KnownBytes.{Consumes-nil, Consumes-trans}
use Rattle.souper_stream.proofs.Prelude.{IsOneLine, Item, Lexeme, ItemType, SpellsNone, ParseError, Parse, Memory, IsStrError, kind_of, HasLocation, HasLocationAfter, IsLocatedAfter, IsRefusalAt, IsLines, TextSpellsFrom, PrefixSpellsFrom, TakesFrom, HasStarts, All-both, TextStops, at_end_of}
use Rattle.souper_stream.specs.declared.buffer.Buffer.{Buffer}
use Rattle.souper_stream.specs.declared.reader.ItemReader.{ItemReader}
use Rattle.souper_stream.specs.Buffering.{window, unparsed, Buffers}
use Rattle.souper_stream.specs.Lines.{LastEnds}
use Rattle.souper_stream.specs.Segments.{Line, concat, IsWholeLine, AreLines, tokens_of_lines, EndsItem, FirstStarts, HasNoCut, IsCut, AreCut, all_lines, AreParts, CutsAt, IsFirstSegment}
use Rattle.souper_stream.specs.Starts.{ItemsStartAt}
use Rattle.souper_stream.specs.Parts.{part_of, buffered, ReadsLast, IsChunk, and_next, HasLines, HasRead, HasParts, HasAll, Advances, AreNextStarts, Holds, EndsAfter, keeps_starts, TakesPart, RefusesPart}
use Rattle.souper_stream.specs.Reading.{AreAll, NeverSpells}
use Rattle.souper_stream.proofs.Buffers.{all_after, buffers_more, buffers_located, buffers_placed, each_spells, kept_now}
use Rattle.souper_stream.proofs.LineLists.{starts_not_none, starts_with_more, concat-append, tokens-append, lines-append, are_front, lines_front, lines_back, lines_of, no_bytes, lines_whole, lines_exist, whole_back}
use Rattle.souper_stream.proofs.SegmentLaws.{lines_start, none_with}
use Rattle.souper_stream.specs.declared.cuts.Scan.{Scan}
use Rattle.souper_stream.specs.Scanning.{first_scan, HasScan}
use Rattle.souper_stream.proofs.Cutting.{scan_none, scan_more}
use Rattle.souper_stream.proofs.Parting.{ends_within}

-- ---- lists of lines and of parts

pub all_lines_snoc : (ps : List (List Line)) (p : List Line) → all_lines (ps ++ p ∷ []) ≡ all_lines ps ++ p
all_lines_snoc [] p = append-nil p
all_lines_snoc (q ∷ ps) p = ap (λ (x : List Line). q ++ x) (all_lines_snoc ps p) ∙ sym (append_assoc q (all_lines ps) p)

pub done_more : (ps : List (List Line)) (p : List Line) → concat (all_lines (ps ++ p ∷ [])) ≡ concat (all_lines ps) ++ concat p
done_more ps p = ap concat (all_lines_snoc ps p) ∙ concat-append (all_lines ps) p

-- the last part is longer, or parted
cut_last : (k : ItemType) (ps : List (List Line)) (p q : List Line) (qs : List (List Line)) → (FirstStarts p → FirstStarts q) → AreCut k (q ∷ qs) → AreCut k (ps ++ p ∷ []) → AreCut k (ps ++ q ∷ qs)
cut_last k [] p q qs starts c h = c
cut_last k (r ∷ []) p q qs starts c h = (h.0, starts h.1, c)
cut_last k (r ∷ (t ∷ ps)) p q qs starts c h = (h.0, h.1, cut_last k (t ∷ ps) p q qs starts c h.2)

next_longer : (k : ItemType) (ps : List (List Line)) (ls ms : List Line) → (ls ≡ [] → ps ≡ []) → AreCut k (and_next ps ls) → AreCut k (and_next ps (ls ++ ms))
next_longer k ps [] [] none h = h
next_longer k ps [] (m ∷ ms) none h = rw (none refl) (λ e. cc)
next_longer k ps (x ∷ ls) ms none h = cut_last k ps (x ∷ ls) (x ∷ (ls ++ ms)) [] (λ s. s) (λ e. cc) h

part_cut : (k : ItemType) (ended : Bool) (ps : List (List Line)) (front back : List Line) → 0 < length (concat front) → AreCut k (and_next ps (front ++ back)) → IsCut k front back ⊎ ((back ≡ []) × (ended ≡ true)) → AreCut k (and_next (ps ++ front ∷ []) back)
part_cut k ended ps [] back some h c = absurd (omega arith)
part_cut k ended ps (l ∷ front) [] some h c = subst (λ (x : List Line). AreCut k (ps ++ (l ∷ x) ∷ [])) (append-nil front) h
part_cut k ended ps (l ∷ front) (m ∷ back) some h (inl c) =
    rw append_assoc (cut_last k ps (l ∷ (front ++ m ∷ back)) (l ∷ front) ((m ∷ back) ∷ []) (λ s. s) (c.0, c.1, starts_not_none (m ∷ back) c.1) h)
part_cut k ended ps (l ∷ front) (m ∷ back) some h (inr none) = let bad : m ∷ back ≡ [] = none.0 in absurd cc

-- ---- nothing was read

pub read_none : (k : ItemType) (start : Option (List ℕ)) (b : Buffer) (open_line : List ℕ) (scan : Scan) → Buffers [] [] b → open_line ≡ [] → scan ≡ first_scan → (ls : List Line) × HasRead k start start [] ls b open_line false false 0 scan
read_none k start b open_line scan empty none scan_is = (
  [],
  record {
    lines = record { after = []; consumed = Consumes-nil start; after_is = λ e. sym none; not_failed = λ e. refl; none_open = λ e. none; all_read = λ e. absurd cc; are = tt; whole = λ e. tt; one_line = rw none tt };
    buffers = empty;
    cut = tt;
    some = λ e f. refl;
    chunk = λ some. absurd (omega arith);
    scanned = rw scan_is (scan_none k []);
  },
)

-- ---- more was read

-- all that was read is lines
all_consumed : (start now : Option (List ℕ)) (ls : List Line) (open_line : List ℕ) (ended failed : Bool) (h : HasLines start now ls open_line ended failed) → ended ≡ true → (concat ls ++ h.after ≡ concat ls) × Consumes start now (concat ls)
all_consumed start now ls open_line ended failed h all =
    let same : concat ls ++ h.after ≡ concat ls = ap (λ (x : List ℕ). concat ls ++ x) (h.after_is (h.not_failed all) ∙ h.none_open all) ∙ append-nil (concat ls) in
    (same, subst (λ (x : List ℕ). Consumes start now x) same h.consumed)

module _ (k : ItemType) (start mid after : Option (List ℕ)) (ps : List (List Line)) (p : ItemReader) (had : HasParts k start mid ps p) (going : p.ended ≡ false) (well : is_some p.fault ≡ false) (none : p.pending ≡ 0) (c : Buffer) (more left : List ℕ) (held_is : c.bytes.items ≡ p.buffer.bytes.items ++ more) where
  pub read_more : (open_line : List ℕ) (ended failed : Bool) (read : List ℕ) → Consumes mid after read → more ++ left ≡ p.open_line.items ++ read → (failed ≡ false → left ≡ open_line) → (ended ≡ true → failed ≡ false) → (ended ≡ true → open_line ≡ []) → (ended ≡ false → IsLines more) → IsOneLine open_line → (ended ≡ true → AreAll mid read)
      → (ls : List Line) × HasRead k start after ps ls (record p.buffer { bytes = c.bytes }) open_line ended failed p.pending p.scan
  read_more open_line ended failed read consumed read_is after_is not_failed none_open whole one_line all_read =
      let (ls, h) = had in
      let (ms, ms_are, more_is) = lines_exist more in
      let all = all_lines ps ++ ls in
      let each = h.lines.whole going in
      let text : concat (all ++ ms) ≡ concat all ++ more = concat-append all ms ∙ ap (λ (x : List ℕ). concat all ++ x) (sym more_is) in
      let rest : concat ls ++ more ≡ concat (ls ++ ms) = ap (λ (x : List ℕ). concat ls ++ x) more_is ∙ sym (concat-append ls ms) in
      let before = h.lines.consumed in
      let bytes : concat (all ++ ms) ++ left ≡ (concat all ++ h.lines.after) ++ read =
      ap (λ (x : List ℕ). x ++ left) text ∙ append_assoc (concat all) more left ∙ ap (λ (x : List ℕ). concat all ++ x) (read_is ∙ ap (λ (x : List ℕ). x ++ read) (sym (h.lines.after_is well))) ∙ sym (append_assoc (concat all) h.lines.after read) in
      let lines_left : IsLines (concat ls) = lines_of ls (whole_back (all_lines ps) ls each) in (
        ls ++ ms,
        record {
          lines = subst (λ (x : List Line). HasLines start after x open_line ended failed) (append_assoc (all_lines ps) ls ms) (record {
            after = left;
            consumed = subst (λ (x : List ℕ). Consumes start after x) (sym bytes) (Consumes-trans start mid after (concat all ++ h.lines.after) read before consumed);
            after_is = after_is;
            not_failed = not_failed;
            none_open = none_open;
            all_read = λ e.
                let nothing : concat (all ++ ms) ++ left ≡ concat (all ++ ms) = ap (λ (x : List ℕ). concat (all ++ ms) ++ x) (after_is (not_failed e) ∙ none_open e) ∙ append-nil (concat (all ++ ms)) in
                subst (λ (x : List ℕ). AreAll start x) (sym bytes ∙ nothing) (all_after start mid (concat all ++ h.lines.after) read before (all_read e));
            are = lines-append all ms each ms_are;
            whole = λ e. All-both IsWholeLine all ms each (lines_whole ms ms_are (subst (λ (x : List ℕ). IsLines x) more_is (whole e)));
            one_line = one_line;
          });
          buffers = subst (λ (x : List ℕ). Buffers (concat (all_lines ps)) x (record p.buffer { bytes = c.bytes })) rest (buffers_more (concat (all_lines ps)) (concat ls) more p.buffer c held_is h.buffers);
          cut = next_longer k ps ls ms (h.some going) h.cut;
          some = λ e f. h.some going (nil_from_length ls (omega (arith, ap length f, length-append ls ms)));
          chunk = λ some. absurd (omega arith);
          scanned = rw (none, ← rest) (scan_more k (concat ls) more p.scan lines_left (rw none at h.scanned));
        },
      )

-- the bytes that are buffered then
pub buffered_more : (b c : Buffer) (open_line shown block : List ℕ) (n : ℕ) → b.start + b.parsed ≤ length b.bytes.items → c.bytes.items ≡ b.bytes.items ++ take n shown → shown ≡ open_line ++ block → drop b.parsed (drop b.start c.bytes.items) ++ drop n shown ≡ (unparsed b ++ open_line) ++ block
buffered_more b c open_line shown block n within e parts =
    let lines : List ℕ = take n shown in
    let short : b.parsed ≤ length (window b) = omega (arith, length-drop b.start b.bytes.items) in
    let text : drop b.parsed (drop b.start c.bytes.items) ≡ unparsed b ++ lines =
    ap (λ (x : List ℕ). drop b.parsed (drop b.start x)) e ∙ ap (drop b.parsed) (drop-append-le b.start b.bytes.items lines (omega arith)) ∙ drop-append-le b.parsed (window b) lines short in
    ap (λ (x : List ℕ). x ++ drop n shown) text ∙ append_assoc (unparsed b) lines (drop n shown) ∙ ap (λ (x : List ℕ). unparsed b ++ x) (take-append-drop n shown ∙ parts) ∙ sym (append_assoc (unparsed b) open_line block)

-- the buffer has the same text
pub same_read : (k : ItemType) (start now : Option (List ℕ)) (ps : List (List Line)) (ls : List Line) (b c : Buffer) (open_line : List ℕ) (ended failed : Bool) (pending next : ℕ) (scan to : Scan) → ((done rest : List ℕ) → Buffers done rest b → Buffers done rest c) → HasRead k start now ps ls b open_line ended failed pending scan → (0 < next → IsChunk k ended ls next) → HasScan k (drop next (concat ls)) to
    → HasRead k start now ps ls c open_line ended failed next to
same_read k start now ps ls b c open_line ended failed pending next scan to same h chunk scanned = record { lines = h.lines; buffers = same (concat (all_lines ps)) (concat ls) h.buffers; cut = h.cut; some = h.some; chunk = chunk; scanned = scanned }

-- a chunk is next: it ends at a cut point
pub next_cut : (k : ItemType) (start now : Option (List ℕ)) (ps : List (List Line)) (r : ItemReader) (cut : ℕ) (scan : Scan) → HasParts k start now ps r → (0 < cut → (ls : List Line) → unparsed r.buffer ≡ concat ls → AreLines ls → CutsAt k ls cut) → HasScan k (drop cut (unparsed r.buffer)) scan → HasParts k start now ps (record r { pending = cut; scan = scan })
next_cut k start now ps r cut scan (ls, h) cuts scanned = (
  ls,
  same_read k start now ps ls r.buffer r.buffer r.open_line.items r.ended (is_some r.fault) r.pending cut r.scan scan (λ done rest b. b) h (λ some. let c = cuts some ls h.buffers.rest_is (lines_back (all_lines ps) ls h.lines.are) in record {
    front = c.front;
    back = c.back;
    whole = c.whole;
    len_is = c.len_is;
    cut = inl c.cut;
  }) (rw (← h.buffers.rest_is) scanned),
)

-- or with the stream, which has nothing left if the chunk is empty
pub next_end : (k : ItemType) (start now : Option (List ℕ)) (ps : List (List Line)) (r : ItemReader) (len : ℕ) → HasParts k start now ps r → r.ended ≡ true → len ≡ length (unparsed r.buffer) → HasParts k start now ps (record r { pending = len; scan = first_scan }) × (len ≡ 0 → HasAll k start now ps)
next_end k start now ps r len (ls, h) ended len_is =
    let long = ap length h.buffers.rest_is in
    let chunk = same_read k start now ps ls r.buffer r.buffer r.open_line.items r.ended (is_some r.fault) r.pending len r.scan first_scan (λ done rest b. b) h (λ some. record { front = ls; back = []; whole = sym (append-nil ls); len_is = omega arith; cut = inr (refl, ended) }) (scan_none k (drop len (concat ls))) in
    ((ls, chunk), λ none. all (no_bytes ls (lines_back (all_lines ps) ls h.lines.are) (omega arith)))
  where
    all : ls ≡ [] → HasAll k start now ps
    all nil =
        let same : all_lines ps ++ ls ≡ all_lines ps = ap (λ (x : List Line). all_lines ps ++ x) nil ∙ append-nil (all_lines ps) in
        let parts : AreParts k (concat (all_lines ps ++ ls)) ps = record { whole = ap concat same; lines = are_front (all_lines ps) ls h.lines.are; cut = subst (λ (x : List Line). AreCut k (and_next ps x)) nil h.cut } in
        (concat (all_lines ps ++ ls), (all_consumed start now (all_lines ps ++ ls) r.open_line.items r.ended (is_some r.fault) h.lines ended).1, h.lines.all_read ended, parts)

-- how far the unparsed lines were scanned, if nothing is pending
pub scan_left : (k : ItemType) (start now : Option (List ℕ)) (ps : List (List Line)) (r : ItemReader) → HasParts k start now ps r → r.pending ≡ 0 → HasScan k (unparsed r.buffer) r.scan
scan_left k start now ps r (ls, h) none = subst (λ (x : List ℕ). HasScan k x r.scan) (ap (λ (n : ℕ). drop n (concat ls)) none ∙ sym h.buffers.rest_is) h.scanned

-- ---- whether the stream ends after the parts

pub ends_after : (k : ItemType) (start now : Option (List ℕ)) (ps : List (List Line)) (r : ItemReader) → 0 < length ps → HasParts k start now ps r → (b : Bool) → (b ≡ true → (r.ended ≡ true) × (length (unparsed r.buffer) ≡ 0)) → (b ≡ false → (r.ended ≡ false) ⊎ (0 < length (unparsed r.buffer))) → EndsAfter start now (concat (all_lines ps)) b
ends_after k start now ps r some (ls, h) true last more =
    let (ended, none) = last refl in
    let nil = no_bytes ls (lines_back (all_lines ps) ls h.lines.are) (omega (arith, ap length h.buffers.rest_is)) in
    let same : concat (all_lines ps ++ ls) ≡ concat (all_lines ps) = ap (λ (x : List Line). concat (all_lines ps ++ x)) nil ∙ ap concat (append-nil (all_lines ps)) in (
      subst (λ (x : List ℕ). Consumes start now x) same (all_consumed start now (all_lines ps ++ ls) r.open_line.items r.ended (is_some r.fault) h.lines ended).1,
      subst (λ (x : List ℕ). AreAll start x) same (h.lines.all_read ended),
    )
ends_after k start now ps r some (ls, h) false last more =
    let rest = concat ls ++ h.lines.after in
    let long = length-append (concat ls) h.lines.after in
    (rest, left (more refl) long, subst (λ (x : List ℕ). Consumes start now x) (ap (λ (x : List ℕ). x ++ h.lines.after) (concat-append (all_lines ps) ls) ∙ append_assoc (concat (all_lines ps)) (concat ls) h.lines.after) h.lines.consumed)
  where
    left : (r.ended ≡ false) ⊎ (0 < length (unparsed r.buffer)) → length (concat ls ++ h.lines.after) ≡ length (concat ls) + length h.lines.after → 0 < length (concat ls ++ h.lines.after)
    left (inr held) long = omega (arith, ap length h.buffers.rest_is)
    left (inl going) long = positive (length (concat ls)) refl
      where
        positive : (n : ℕ) → length (concat ls) ≡ n → 0 < length (concat ls ++ h.lines.after)
        positive zero none = (let bad = ap length (h.some going (no_bytes ls (lines_back (all_lines ps) ls h.lines.are) none)) in absurd (omega arith))
        positive (suc n) some_bytes = omega arith

-- ---- a rejected part

-- whatever follows the lines read, the whole stream spells no items
never_after : (k : ItemType) (start now : Option (List ℕ)) (ps : List (List Line)) (part back : List Line) (b : Buffer) (open_line : List ℕ) (ended failed : Bool) (pending : ℕ) (scan : Scan) (h : HasRead k start now (ps ++ part ∷ []) back b open_line ended failed pending scan) → SpellsNone k (concat part)
    → NeverSpells k (AreAll start (concat (all_lines (ps ++ part ∷ []) ++ back) ++ h.lines.after)) (concat (all_lines (ps ++ part ∷ []) ++ back) ++ h.lines.after)
never_after k start now ps part back b open_line ended failed pending scan h none = under ended refl
  where
    done : List Line
    done = all_lines (ps ++ part ∷ [])

    lines_next : (xs : List Line) → all_lines (and_next (ps ++ part ∷ []) xs) ≡ done ++ xs
    lines_next [] = sym (append-nil done)
    lines_next (x ∷ xs) = all_lines_snoc (ps ++ part ∷ []) (x ∷ xs)

    parts : (xs : List Line) → AreLines (done ++ xs) → AreCut k (and_next (ps ++ part ∷ []) xs) → SpellsNone k (concat (done ++ xs))
    parts xs lines cut = with_next xs (record { whole = ap concat (sym (lines_next xs)); lines = subst (λ (x : List Line). AreLines x) (sym (lines_next xs)) lines; cut = cut })
      where
        with_next : (xs : List Line) → AreParts k (concat (done ++ xs)) (and_next (ps ++ part ∷ []) xs) → SpellsNone k (concat (done ++ xs))
        with_next [] a = none_with k (concat (done ++ [])) ps [] part a none
        with_next (x ∷ xs) a = none_with k (concat (done ++ x ∷ xs)) ps ((x ∷ xs) ∷ []) part (subst (λ (y : List (List Line)). AreParts k (concat (done ++ x ∷ xs)) y) (append_assoc ps (part ∷ []) ((x ∷ xs) ∷ [])) a) none

    under : (x : Bool) → ended ≡ x → NeverSpells k (AreAll start (concat (done ++ back) ++ h.lines.after)) (concat (done ++ back) ++ h.lines.after)
    under true e =
        subst (λ (x : List ℕ). NeverSpells k (AreAll start x) x) (sym (all_consumed start now (done ++ back) open_line ended failed h.lines e).0) (inr (h.lines.all_read e, parts back h.lines.are h.cut))
    under false e = inl (λ more.
        let (ms, ms_are, more_is) = lines_exist (h.lines.after ++ more) in
        let as_list = append_assoc done back ms in
        let text : concat (done ++ (back ++ ms)) ≡ (concat (done ++ back) ++ h.lines.after) ++ more =
        ap concat (sym as_list) ∙ concat-append (done ++ back) ms ∙ ap (λ (x : List ℕ). concat (done ++ back) ++ x) (sym more_is) ∙ sym (append_assoc (concat (done ++ back)) h.lines.after more) in
        subst (λ (x : List ℕ). SpellsNone k x) text (parts (back ++ ms) (subst (λ (x : List Line). AreLines x) as_list (lines-append (done ++ back) ms (h.lines.whole e) ms_are)) (next_longer k (ps ++ part ∷ []) back ms (h.some e) h.cut)))

-- ---- what a call did

-- the next part and the bytes that are buffered after it were buffered before
pub passed_buffered : (r q : ItemReader) (len : ℕ) → Advances r len q → part_of q ++ buffered q ≡ buffered r
passed_buffered r q len a =
    let text = unparsed r.buffer in
    (λ i. a.passes.part i ++ (a.passes.left i ++ (a.same i).open_line.items)) ∙ sym (append_assoc (take len text) (drop len text) r.open_line.items) ∙ ap (λ (x : List ℕ). x ++ r.open_line.items) (take-append-drop len text)

pub due_passed : {P : Type 0} (k : ItemType) (bytes before : List ℕ) → bytes ≡ before → P ⊎ ReadsLast k before → P ⊎ ReadsLast k bytes
due_passed {P} k bytes before e h = subst (λ (x : List ℕ). P ⊎ ReadsLast k x) (sym e) h

chunk_within : (k : ItemType) (ended : Bool) (ls : List Line) (len : ℕ) → IsChunk k ended ls len → len ≤ length (concat ls)
chunk_within k ended ls len c = grind (arith, concat-append, length-append {A = ℕ})

pub pending_fits : (k : ItemType) (start now : Option (List ℕ)) (ps : List (List Line)) (r : ItemReader) → HasParts k start now ps r → 0 < r.pending → r.buffer.start + r.buffer.parsed + r.pending ≤ length r.buffer.bytes.items
pending_fits k start now ps r (ls, h) some =
    omega (arith, chunk_within k r.ended ls r.pending (h.chunk some), h.buffers.within, ap length h.buffers.rest_is, length-drop r.buffer.start r.buffer.bytes.items, length-drop r.buffer.parsed (window r.buffer))

-- the next part was parsed
module _ (k : ItemType) (start now : Option (List ℕ)) (ps : List (List Line)) (r q : ItemReader) (len : ℕ) (had : HasParts k start now ps r) (c : IsChunk k r.ended had.0 len) (left : 0 < r.pending - len → IsChunk k r.ended c.back (r.pending - len)) (some : 0 < len) (below : len ≤ r.pending) (a : Advances r len q) where
  text : concat had.0 ≡ concat c.front ++ concat c.back
  text = ap concat c.whole ∙ concat-append c.front c.back

  part_text : take len (concat had.0) ≡ concat c.front
  part_text = ap (take len) text ∙ take_at (concat c.front) (concat c.back) len c.len_is

  text_there : take len (unparsed r.buffer) ≡ concat c.front
  text_there = ap (take len) had.1.buffers.rest_is ∙ part_text

  passed : HasRead k start now (ps ++ c.front ∷ []) c.back q.buffer r.open_line.items r.ended (is_some r.fault) (r.pending - len) r.scan
  passed =
      let h = had.1 in
      let lines_are : all_lines ps ++ had.0 ≡ all_lines (ps ++ c.front ∷ []) ++ c.back =
      ap (λ (y : List Line). all_lines ps ++ y) c.whole ∙ sym (append_assoc (all_lines ps) c.front c.back) ∙ ap (λ (y : List Line). y ++ c.back) (sym (all_lines_snoc ps c.front)) in
      let done_is : concat (all_lines ps) ++ take len (concat had.0) ≡ concat (all_lines (ps ++ c.front ∷ [])) = ap (λ (y : List ℕ). concat (all_lines ps) ++ y) part_text ∙ sym (done_more ps c.front) in
      let rest_is : drop len (concat had.0) ≡ concat c.back = ap (drop len) text ∙ drop_at (concat c.front) (concat c.back) len c.len_is in
      record {
        lines = subst (λ (y : List Line). HasLines start now y r.open_line.items r.ended (is_some r.fault)) lines_are h.lines;
        buffers = rw (done_is, rest_is) at (a.passes.buffers (concat (all_lines ps)) (concat had.0) h.buffers);
        cut = part_cut k r.ended ps c.front c.back (let n = c.len_is in omega arith) (subst (λ (y : List Line). AreCut k (and_next ps y)) c.whole h.cut) c.cut;
        some = λ going none. elim c.cut [ inl cut ↦ absurd (starts_not_none c.back cut.1 none) | inr end ↦ (let no = end.1 in absurd cc) ];
        chunk = left;
        scanned =
            let left_is : drop r.pending (concat had.0) ≡ drop (r.pending - len) (concat c.back) = ap (λ (n : ℕ). drop n (concat had.0)) (let n : r.pending ≡ len + (r.pending - len) = omega arith in n) ∙ sym (drop-drop (r.pending - len) len (concat had.0)) ∙ ap (drop (r.pending - len)) rest_is in
            subst (λ (y : List ℕ). HasScan k y r.scan) left_is h.scanned;
      }

  goes_on : HasParts k start now (ps ++ c.front ∷ []) q
  goes_on = rw a.same (c.back, passed)

  -- where its items begin
  begins : (spells : List ℕ → List Item → List ℕ → Type 0) (m : Memory) (items : List Item) (offsets : List ℕ) → spells (take len (unparsed r.buffer)) items offsets → HasStarts m r.memory offsets → keeps_starts q ≡ true → ItemsStartAt (spells (concat c.front)) (concat (all_lines ps)) (concat c.front) items q.starts.items
  begins spells m items offsets spelled has asked =
      let at = kept_now m r.memory (λ (x : List ℕ). AreNextStarts r.buffer len x q.starts.items) offsets has a.begin (sym (ap keeps_starts a.same) ∙ asked) (concat (all_lines ps)) (concat had.0) had.1.buffers in
      (offsets, subst (λ (y : List ℕ). spells y items offsets) text_there spelled, rw part_text at at)

  pub part_taken : {S : Type 0} (holds : S → S → List Item → Type 0) (first old new : S) (m : Memory) → Holds holds [] first old → TakesFrom holds (TextSpellsFrom k (take len (unparsed r.buffer))) (HasStarts m r.memory) old new → TakesPart k start now ps holds first new q
  part_taken holds first old new m held_none t = record {
    part = c.front;
    goes_on = goes_on;
    text = a.passes.part ∙ text_there;
    items = t.items;
    begin = begins (TextSpellsFrom k) m t.items t.starts t.spelled t.has;
    spelled = (let s = subst (λ (y : List ℕ). TextSpellsFrom k y t.items t.starts) text_there t.spelled in (s.0, s.1, each_spells k t.items t.starts s.0 s.2));
    taken = λ s y. t.taken s [] (held_none s y);
  }

  pub part_refused : {S : Type 0} (holds : S → S → List Item → Type 0) (first old new : S) (m : Memory) (file : Option (List ℕ)) (e shown : ParseError) → Holds holds [] first old → TakesFrom holds (PrefixSpellsFrom k (take len (unparsed r.buffer))) (HasStarts m r.memory) old new → HasNoCut k c.front → kind_of e ≡ Parse → kind_of shown ≡ Parse
      → IsStrError k None (take len (unparsed r.buffer)) e → IsLocatedAfter file r.buffer.before (take (r.buffer.parsed + len) (window r.buffer)) r.buffer.parsed e shown → HasLocationAfter r.buffer.before (take (r.buffer.parsed + len) (window r.buffer)) shown
      → TextStops k (take len (unparsed r.buffer)) (at_end_of e) → at_end_of shown ≡ at_end_of e → RefusesPart k file start now ps holds first new q shown
  unfolding passed
  part_refused holds first old new m file e shown held_none t uncut kind shown_kind error located location stopped flag =
      let h = had.1 in
      let s = rw kind at error in
      let placed = (let l = rw kind at located in rw s.1 at l) in
      let none : SpellsNone k (concat c.front) = subst (λ (y : List ℕ). SpellsNone k y) text_there s.3 in
      let done = concat (all_lines ps) in
      let lost = passed.lines.after in
      let after = concat c.back ++ lost in
      let read = concat (all_lines (ps ++ c.front ∷ []) ++ c.back) ++ lost in
      let whole : read ≡ concat (all_lines (ps ++ c.front ∷ [])) ++ after = ap (λ (y : List ℕ). y ++ lost) (concat-append (all_lines (ps ++ c.front ∷ [])) c.back) ∙ append_assoc (concat (all_lines (ps ++ c.front ∷ []))) (concat c.back) lost in
      let whole_there : read ≡ (done ++ take len (concat had.0)) ++ after = whole ∙ ap (λ (y : List ℕ). y ++ after) (done_more ps c.front ∙ ap (λ (y : List ℕ). done ++ y) (sym part_text)) in
      let fits : len ≤ length (concat had.0) = chunk_within k r.ended had.0 len c in
      let within : s.0 ≤ len = omega (arith, s.2, length-take len (unparsed r.buffer)) in
      record {
        part = c.front;
        goes_on = goes_on;
        text = a.passes.part ∙ text_there;
        segment = uncut;
        none = none;
        items = t.items;
        begin = begins (PrefixSpellsFrom k) m t.items t.starts t.spelled t.has;
        begun = (let s = subst (λ (y : List ℕ). PrefixSpellsFrom k y t.items t.starts) text_there t.spelled in (s.0, s.1, s.2, each_spells k t.items t.starts s.0 s.3));
        taken = λ s y. t.taken s [] (held_none s y);
        read = read;
        after = after;
        consumed = passed.lines.consumed;
        whole = whole;
        ends = ends c.cut;
        never = never_after k start now ps c.front c.back q.buffer r.open_line.items r.ended (is_some r.fault) (r.pending - len) r.scan passed none;
        placed = λ small. (
          length done + s.0,
          omega arith,
          omega (arith, within, c.len_is, length-append done (concat c.front)),
          subst (λ (y : List ℕ). IsRefusalAt file y (length done + s.0) shown) (sym whole_there)
              (buffers_placed file done (concat had.0) after r.buffer len s.0 shown h.buffers some fits within (subst (λ (y : List ℕ). IsLines y ⊎ (after ≡ [])) (sym part_text) (ends c.cut)) shown_kind placed (omega (arith, small, ap length whole_there))),
        );
        located = λ small.
            let part_there : done ++ take len (concat had.0) ≡ done ++ concat c.front = ap (λ (y : List ℕ). done ++ y) part_text in
            subst (λ (y : List ℕ). HasLocation y shown) part_there (buffers_located file done (concat had.0) after r.buffer len s.0 shown h.buffers some fits within location (omega (arith, small, ap length part_there)));
        stops = rw flag (subst (λ (y : List ℕ). TextStops k y (at_end_of e)) text_there stopped);
      }
    where
      ends : IsCut k c.front c.back ⊎ ((c.back ≡ []) × (r.ended ≡ true)) → IsLines (concat c.front) ⊎ (concat c.back ++ passed.lines.after ≡ [])
      ends (inl cut) =
          let lines = lines_back (all_lines ps) (c.front ++ c.back) (subst (λ (y : List Line). AreLines y) (ap (λ (y : List Line). all_lines ps ++ y) c.whole) had.1.lines.are) in
          inl (lines_of c.front (lines_front c.front c.back (starts_not_none c.back cut.1) lines))
      ends (inr end) = inr (λ i. concat (end.0 i) ++ (passed.lines.after_is (had.1.lines.not_failed end.1) ∙ had.1.lines.none_open end.1) i)

-- the first segment of a chunk, and what is left
module _ (k : ItemType) (start now : Option (List ℕ)) (ps : List (List Line)) (r : ItemReader) (len : ℕ) (begun : 0 < r.pending) (segment : (ls : List Line) → take r.pending (unparsed r.buffer) ≡ concat ls → AreLines ls → IsFirstSegment k ls len) (had : HasParts k start now ps r) where
  abbrev chunk : IsChunk k r.ended had.0 r.pending
  chunk = had.1.chunk begun

  abbrev pub first : IsFirstSegment k (had.1.chunk begun).front len
  first =
      let text : unparsed r.buffer ≡ concat chunk.front ++ concat chunk.back = had.1.buffers.rest_is ∙ ap concat chunk.whole ∙ concat-append chunk.front chunk.back in
      segment chunk.front (ap (take r.pending) text ∙ take_at (concat chunk.front) (concat chunk.back) r.pending chunk.len_is)
      (are_front chunk.front chunk.back (subst (λ (x : List Line). AreLines x) chunk.whole (lines_back (all_lines ps) had.0 had.1.lines.are)))

  abbrev pub first_chunk : IsChunk k r.ended had.0 len
  first_chunk = record { front = first.front; back = first.back ++ chunk.back; whole = chunk.whole ∙ ap (λ (x : List Line). x ++ chunk.back) first.whole ∙ append_assoc first.front first.back chunk.back; len_is = first.len_is; cut = under first.cut chunk.cut }
    where
      under : (first.back ≡ []) ⊎ IsCut k first.front first.back → IsCut k chunk.front chunk.back ⊎ ((chunk.back ≡ []) × (r.ended ≡ true)) → IsCut k first.front (first.back ++ chunk.back) ⊎ ((first.back ++ chunk.back ≡ []) × (r.ended ≡ true))
      under (inl none) (inl cut) =
          let same : chunk.front ≡ first.front = first.whole ∙ ap (λ (x : List Line). first.front ++ x) none ∙ append-nil first.front in
          inl (subst (λ (x : List Line). EndsItem k x) same cut.0, subst (λ (x : List Line). FirstStarts (x ++ chunk.back)) (sym none) cut.1)
      under (inl none) (inr end) = inr ((λ i. none i ++ end.0 i), end.1)
      under (inr cut) u = inl (cut.0, starts_with_more first.back chunk.back cut.1)

  pub first_left : 0 < r.pending - len → IsChunk k r.ended (first.back ++ chunk.back) (r.pending - len)
  first_left left =
      let parts = ap (λ (x : List Line). length (concat x)) first.whole ∙ ap length (concat-append first.front first.back) ∙ length-append (concat first.front) (concat first.back) in
      let len_is : length (concat first.back) ≡ r.pending - len = omega (arith, chunk.len_is, first.len_is, parts) in
      record { front = first.back; back = chunk.back; whole = refl; len_is = len_is; cut = under first.cut chunk.cut len_is }
    where
      under : (first.back ≡ []) ⊎ IsCut k first.front first.back → IsCut k chunk.front chunk.back ⊎ ((chunk.back ≡ []) × (r.ended ≡ true)) → length (concat first.back) ≡ r.pending - len → IsCut k first.back chunk.back ⊎ ((chunk.back ≡ []) × (r.ended ≡ true))
      under (inl none) u n = let z = ap (λ (x : List Line). length (concat x)) none in absurd (omega arith)
      under (inr cut) (inl end) n =
          inl (ends_within k (tokens_of_lines first.front) (tokens_of_lines first.back) (lines_start first.back cut.1) (subst (λ (ts : List Lexeme). LastEnds k ts) (ap tokens_of_lines first.whole ∙ tokens-append first.front first.back) end.0), end.1)
      under (inr cut) (inr end) n = inr end
