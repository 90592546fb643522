-- The bytes of a reader, the buffer of a stream, the parsed text, and where items begin in it.
use Rattle.std.proofs.Common.{◌≡◌, ◌⊎◌, inl, inr, ℕ, ◌+◌, ◌-◌, ◌<◌, true, length, take, drop, get_or, length-append, append_assoc, subst, arith, List, [], ◌∷◌, ◌++◌, Option, Some, None, refl, sym, ap, ◌∙◌, ◌^◌, ◌≤◌, append-nil, min, is_some, Ok, Err, Result, IfSome, ◌==◌, option_map, vec_len, IfErr, length-drop, length-take, take-add, drop-drop, take-append-drop}
use Rattle.std.specs.Io.KnownBytes.{Consumes}
use Rattle.std.proofs.lemmas.List.{drop-append-le, take-append-le, drop_more, drop_all}
use Rattle.std.proofs.lemmas.List.Sums.{count_by-le-length}
use Rattle.souper_graph.specs.Syntax.Spelling.{items as items_form}
use Rattle.souper_stream.proofs.Prelude.{newlines-append, IsOneLine, Lexeme, spelling, Begins, Item, kinds, ItemType, newlines, IsLineText, IsPlace, ParseError, Io, Parse, MemoryKind, IsLines, lines_end, kind_of, HasLocation, HasLocationAfter, IsPlacedAfter, IsRefusalAt, Before, Memory, IsStrError, kinds-append, TakesOver, TakesPrefix, StartsAt, SpellEachFrom, PrefixSpellsFrom, TakesFrom, HasStarts, starts_of}
use Rattle.souper_errors.specs.declared.error.ParseErrorKind.{ParseErrorKind}
use Rattle.souper_stream.specs.Reading.{AreAll}
use Rattle.souper_stream.specs.declared.buffer.Buffer.{Buffer}
use Rattle.souper_stream.specs.Buffering.{window, Buffers, KeepsWindow, Counts, unparsed}
use Rattle.souper_stream.specs.declared.starts.Start.{Start}
use Rattle.souper_stream.specs.Starts.{Ascend, AreStarts}

-- all the bytes that were left, after the bytes read before
pub all_after : (a b : Option (List ℕ)) (bs cs : List ℕ) → Consumes a b bs → AreAll b cs → AreAll a (bs ++ cs)
all_after a b bs cs h k = grind arith

-- lines after others
ends_in_lines : (a b : List ℕ) → 0 < length b → IsLines b → IsLines (a ++ b)
ends_in_lines a b some (inl e) = let n = ap length e in absurd (omega arith)
ends_in_lines a b some (inr end) = inr (a ++ end.0, ap (λ (x : List ℕ). a ++ x) end.1 ∙ sym (append_assoc a end.0 (10 ∷ [])))

-- whole lines after bytes without a newline
pub closed_after : (bytes : List ℕ) (start n : ℕ) → 0 < n → n ≤ length (drop start bytes) → start ≤ length bytes → IsLines (take n (drop start bytes)) → IsLines (take (start + n) bytes)
closed_after bytes start n some within fits lines =
    subst (λ (x : List ℕ). IsLines x) (sym (take-add start n bytes)) (ends_in_lines (take start bytes) (take n (drop start bytes)) (omega (arith, length-take n (drop start bytes))) lines)

pub open_after : (bytes : List ℕ) (start n : ℕ) → IsOneLine (drop n (drop start bytes)) → IsOneLine (drop (start + n) bytes)
open_after bytes start n h = subst (λ (x : List ℕ). IsOneLine x) (drop-drop n start bytes) h

both_open : (a b : List ℕ) → IsOneLine a → IsOneLine b → IsOneLine (a ++ b)
both_open [] b h k = k
both_open (x ∷ a) b h k = (h.0, both_open a b h.1 k)

-- or no line is whole
pub none_open : (bytes : List ℕ) (start : ℕ) → IsOneLine (take start bytes) → IsOneLine (drop 0 (drop start bytes)) → IsOneLine (drop 0 bytes)
none_open bytes start h k = subst (λ (x : List ℕ). IsOneLine x) (take-append-drop start bytes) (both_open (take start bytes) (drop start bytes) h k)

-- nothing was read
pub buffers_none : (b : Buffer) → b.bytes.items ≡ [] → b.start ≡ 0 → b.parsed ≡ 0 → b.last ≡ 0 → b.before.bytes ≡ 0 → b.before.lines ≡ 0 → Buffers [] [] b
buffers_none b bytes start parsed last bytes_before lines_before = record {
  gone = [];
  lines = inl refl;
  counted = λ s. record { lines = inl refl; bytes_are = sym bytes_before; lines_are = sym lines_before };
  done_is = rw parsed refl;
  rest_is = rw (bytes, start, parsed) refl;
  placed = inr refl;
  one_line = rw parsed tt;
  within = omega arith;
  last = omega arith;
}

-- more was read
pub buffers_more : (done rest more : List ℕ) (b c : Buffer) → c.bytes.items ≡ b.bytes.items ++ more → Buffers done rest b → Buffers done (rest ++ more) (record b { bytes = c.bytes })
buffers_more done rest more b c e p =
    let held_is : drop b.start c.bytes.items ≡ window b ++ more = ap (drop b.start) e ∙ drop-append-le b.start b.bytes.items more (omega (arith, p.within)) in
    let short : b.parsed ≤ length (window b) = omega (arith, p.within, length-drop b.start b.bytes.items) in
    record {
      gone = p.gone;
      lines = p.lines;
      counted = p.counted;
      done_is = p.done_is ∙ ap (λ (x : List ℕ). p.gone ++ x) (sym (ap (take b.parsed) held_is ∙ take-append-le b.parsed (window b) more short));
      rest_is = ap (drop b.parsed) held_is ∙ drop-append-le b.parsed (window b) more short ∙ ap (λ (x : List ℕ). x ++ more) p.rest_is;
      placed = p.placed;
      one_line = subst (λ (x : List ℕ). IsOneLine x) (sym (ap (take (b.parsed - 1)) held_is ∙ take-append-le (b.parsed - 1) (window b) more (omega arith))) p.one_line;
      within = omega (arith, ap length e, length-append b.bytes.items more, p.within);
      last = p.last;
    }

-- the same is held
pub buffers_drained : (done rest : List ℕ) (b c : Buffer) → c.bytes.items ≡ window b → Buffers done rest b → Buffers done rest (record b { bytes = c.bytes; start = 0; last = 0 })
buffers_drained done rest b c e p = record {
  gone = p.gone;
  lines = p.lines;
  counted = p.counted;
  done_is = rw e p.done_is;
  rest_is = rw e p.rest_is;
  placed = p.placed;
  one_line = rw e p.one_line;
  within = omega (arith, ap length e, length-drop b.start b.bytes.items, p.within);
  last = omega arith;
}

-- ---- locations

-- a place in lines is there with more after them
place_more : (source more : List ℕ) (offset line column : ℕ) (text : List ℕ) → 0 < length source → offset ≤ length source → IsLines source → IsPlace source offset line column text → IsPlace (source ++ more) offset line column text
place_more source more offset line column text some within lines p = under p.back refl p.line_text
  where
    under : (back : List ℕ) → p.back ≡ back → IsLineText p.body back text → IsPlace (source ++ more) offset line column text
    under [] e t =
        let parts : source ≡ p.front ++ p.body = p.parts ∙ ap (λ (x : List ℕ). p.front ++ (p.body ++ x)) e ∙ ap (λ (x : List ℕ). p.front ++ x) (append-nil p.body) in
        let long = ap length parts in
        let end = lines_end p.front p.body (subst (λ (x : List ℕ). IsLines x) parts lines) in
        absurd (grind (arith, length-append {A = ℕ}, newlines-append, p.one_line, p.from))
    under (b ∷ back) e t = record {
      front = p.front;
      body = p.body;
      back = (b ∷ back) ++ more;
      parts = ap (λ (x : List ℕ). x ++ more) (p.parts ∙ ap (λ (x : List ℕ). p.front ++ (p.body ++ x)) e) ∙ append_assoc p.front (p.body ++ b ∷ back) more ∙ ap (λ (x : List ℕ). p.front ++ x) (append_assoc p.body (b ∷ back) more);
      begins = p.begins;
      one_line = p.one_line;
      line_text = t;
      from = p.from;
      until = p.until;
      line_is = p.line_is;
      column_is = p.column_is;
    }

-- a parse error in lines has the same location with more after them
refusal_more : (file : Option (List ℕ)) (source more : List ℕ) (offset : ℕ) (e : ParseError) → 0 < length source → offset ≤ length source → IsLines source → IsRefusalAt file source offset e → IsRefusalAt file (source ++ more) offset e
refusal_more file source more offset e some within lines h =
    let s = h.2 in (
      h.0,
      h.1,
      record {
        message = s.message;
        line = s.line;
        column = s.column;
        text = s.text;
        is_place = place_more source more offset s.line s.column s.text some within lines s.is_place;
        line_is = s.line_is;
        column_is = s.column_is;
        message_is = s.message_is;
        shown_is = s.shown_is;
      },
    )

-- a parse error of the first `len` unparsed bytes, which are lines or the last bytes, was given its location
module _ (file : Option (List ℕ)) (done rest after : List ℕ) (b : Buffer) (len offset : ℕ) (shown : ParseError) (p : Buffers done rest b) (some : 0 < len) (fits : len ≤ length rest) (within : offset ≤ len) where
  abbrev text : List ℕ
  text = done ++ take len rest

  text_is : p.gone ++ take (b.parsed + len) (window b) ≡ text
  text_is =
      ap (λ (x : List ℕ). p.gone ++ x) (take-add b.parsed len (window b) ∙ ap (λ (x : List ℕ). take b.parsed (window b) ++ take len x) p.rest_is)
      ∙ sym (append_assoc p.gone (take b.parsed (window b)) (take len rest)) ∙ ap (λ (x : List ℕ). x ++ take len rest) (sym p.done_is)

  placed_there : kind_of shown ≡ Parse → IsPlacedAfter file b.before (take (b.parsed + len) (window b)) (b.parsed + offset) shown → length text + 1 < 2 ^ 64 → IsRefusalAt file text (length done + offset) shown
  placed_there kind (inl memory) small = let bad : MemoryKind ≡ Parse = sym memory ∙ kind in absurd cc
  placed_there kind (inr at) small =
      let at_offset : length p.gone + (b.parsed + offset) ≡ length done + offset =
      omega (arith, length-append p.gone (take b.parsed (window b)), length-take b.parsed (window b), ap length p.done_is, p.within, length-drop b.start b.bytes.items) in
      let begun : (0 < b.parsed + offset) ⊎ (p.gone ≡ []) = elim p.placed [ inl k ↦ inl (omega arith) | inr k ↦ inr k ] in
      subst (λ (x : List ℕ). IsRefusalAt file x (length done + offset) shown) text_is (subst (λ (n : ℕ). IsRefusalAt file (p.gone ++ take (b.parsed + len) (window b)) n shown) at_offset (at p.gone (p.counted (omega (arith, ap length text_is, length-append p.gone (take (b.parsed + len) (window b))))) begun (rw text_is small)))

  pub buffers_located : HasLocationAfter b.before (take (b.parsed + len) (window b)) shown → length text + 1 < 2 ^ 64 → HasLocation text shown
  buffers_located at small =
      subst (λ (x : List ℕ). HasLocation x shown) text_is (at p.gone (p.counted (omega (arith, ap length text_is, length-append p.gone (take (b.parsed + len) (window b))))) (rw text_is small))

  pub buffers_placed : IsLines (take len rest) ⊎ (after ≡ []) → kind_of shown ≡ Parse → IsPlacedAfter file b.before (take (b.parsed + len) (window b)) (b.parsed + offset) shown → length (text ++ after) + 1 < 2 ^ 64 → IsRefusalAt file (text ++ after) (length done + offset) shown
  buffers_placed (inl lines) kind located small =
      let part_long = length-take len rest in
      let long = length-append done (take len rest) in
      refusal_more file text after (length done + offset) shown (omega arith) (omega arith) (ends_in_lines done (take len rest) (omega arith) lines) (placed_there kind located (omega (arith, small, length-append text after)))
  buffers_placed (inr none) kind located small =
      subst (λ (x : List ℕ). IsRefusalAt file x (length done + offset) shown) (sym (ap (λ (x : List ℕ). text ++ x) none ∙ append-nil text)) (placed_there kind located (omega (arith, small, length-append text after)))

pub keeps_more : (a b c : Buffer) → KeepsWindow a b → (more : List ℕ) × (c.bytes.items ≡ b.bytes.items ++ more) → KeepsWindow a c
keeps_more a b c h (more, e) = record { more = h.more ++ more; bytes_are = e ∙ ap (λ (x : List ℕ). x ++ more) h.bytes_are ∙ append_assoc (window a) h.more more }

-- after some tokens the others begin further on, and no later than the end
later : (us ts : List (ℕ × Lexeme)) (n : ℕ) (bs rest : List ℕ) → Begins n bs (us ++ ts) rest → (m : ℕ) × (cs : List ℕ) × Begins m cs ts rest × (n ≤ m) × ((start : ℕ) → StartsAt start us → (n ≤ start) × (start ≤ m)) × (m + length cs ≡ n + length bs)
later [] ts n bs rest h = (n, bs, h, omega arith, λ start at. absurd at, refl)
later (u ∷ us) ts n bs rest h =
    let (m, cs, begun, from, first, to) = later us ts (u.0 + length (spelling u.1)) h.after rest h.more in
    let long : length bs ≡ length h.gap + (length (spelling u.1) + length h.after) = omega (arith, ap length h.stands.text, length-append h.gap (spelling u.1 ++ h.after), length-append (spelling u.1) h.after) in
    (m, cs, begun, omega (arith, from, h.offset_is), λ start at. (omega (arith, h.offset_is, at), omega (arith, from, at)), omega (arith, to, h.offset_is, long))

-- the bound below may be lower
ascend_from : (m n : ℕ) (offsets : List ℕ) (to : ℕ) → m ≤ n → Ascend n offsets to → Ascend m offsets to
ascend_from m n [] to le a = omega (arith, le, a)
ascend_from m n (offset ∷ offsets) to le a = let from = a.0 in (omega (arith, le, from), a.1)

each_ascend : (k : ItemType) (items : List Item) (starts : List ℕ) (ts : List (ℕ × Lexeme)) (n : ℕ) (bs rest : List ℕ) → SpellEachFrom k items starts ts → Begins n bs ts rest → Ascend n starts (n + length bs)
each_ascend k [] [] ts n bs rest e h = omega arith
each_ascend k [] (start ∷ starts) ts n bs rest e h = absurd e
each_ascend k (a ∷ items) [] ts n bs rest e h = absurd e
each_ascend k (a ∷ items) (start ∷ starts) ts n bs rest e h =
    let (m, cs, begun, further, first, to) = later e.used e.others n bs rest (subst (λ (x : List (ℕ × Lexeme)). Begins n bs x rest) e.whole h) in
    let (from, after) = first start e.starts in
    (from, ascend_from start m starts (n + length bs) after (subst (λ (x : ℕ). Ascend m starts x) to (each_ascend k items starts e.others m cs rest e.further begun)))

pub prefix_ascends : (k : ItemType) (bs : List ℕ) (items : List Item) (starts : List ℕ) → PrefixSpellsFrom k bs items starts → Ascend 0 starts (length bs)
prefix_ascends k bs items starts (ts, rest, begun, each) = let all : Ascend 0 starts (0 + length bs) = each_ascend k items starts ts 0 bs rest each begun in subst (λ (n : ℕ). Ascend 0 starts n) (omega arith) all

-- the items are spelled, wherever they begin
pub each_spells : (k : ItemType) (items : List Item) (starts : List ℕ) (ts : List (ℕ × Lexeme)) → SpellEachFrom k items starts ts → items_form k items (kinds ts)
each_spells k [] [] ts e = ap kinds e
each_spells k [] (start ∷ starts) ts e = absurd e
each_spells k (a ∷ items) [] ts e = absurd e
each_spells k (a ∷ items) (start ∷ starts) ts e =
    record { prefix = kinds e.used; suffix = kinds e.others; whole = ap kinds e.whole ∙ kinds-append e.used e.others; first = e.spelled; second = each_spells k items starts e.others e.further }

-- ---- offsets that a memory has, if it is asked

pub kept_now : (a m : Memory) (P : List ℕ → Type 0) (offsets : List ℕ) → HasStarts a m offsets → IfSome (starts_of m) P → is_some (starts_of m) ≡ true → P offsets
kept_now a m P offsets h p asked = elim (starts_of a) as (λ o. IfSome (option_map (λ before. offsets) o) P → is_some (option_map (λ before. offsets) o) ≡ true → P offsets) [ None ↦ (λ p e. absurd cc) | Some before ↦ (λ p e. p) ] (rw h at p) (rw h at asked)

-- ---- the loop over the offsets of a part

pub ascend_within : (from : ℕ) (offsets : List ℕ) (to : ℕ) → Ascend from offsets to → from ≤ to
ascend_within from [] to a = a
ascend_within from (offset ∷ offsets) to a = let first = a.0 in let last = ascend_within offset offsets to a.1 in omega arith

-- the offsets that are left ascend from the last one on, and with their starts all are told
pub record Told (before : Before) (part offsets : List ℕ) (index passed lines : ℕ) (starts : List Start) : Type 0 where
  pub rest : Ascend passed (drop index offsets) (length part)
  pub are : (done : List ℕ) → Counts before done → length (done ++ part) + 1 < 2 ^ 64 → (lines ≡ newlines (done ++ take passed part)) × ((more : List Start) → AreStarts done part (drop index offsets) more → AreStarts done part offsets (starts ++ more))

pub none_told : (before : Before) (part offsets : List ℕ) → Ascend 0 offsets (length part) → Told before part offsets 0 0 before.lines []
none_told before part offsets a = record { rest = a; are = λ done counts small. (counts.1 ∙ ap newlines (sym (append-nil done)), λ more are. are) }

module _ (before : Before) (part offsets : List ℕ) (index passed lines : ℕ) (starts : List Start) (told : Told before part offsets index passed lines starts) (less : index < length offsets) where
  abbrev offset : ℕ
  offset = get_or offsets index 0

  pub from_there : Ascend passed (offset ∷ drop (index + 1) offsets) (length part)
  from_there = subst (λ (x : List ℕ). Ascend passed x (length part)) (drop_more offsets index 0 less) told.rest

  pub to_end : offset ≤ length part
  to_end = ascend_within offset (drop (index + 1) offsets) (length part) from_there.1

  pub one_told : (more : ℕ) (start : Start) (new : List Start) → more ≡ min (lines + newlines (take (offset - passed) (drop passed part))) (2 ^ 64 - 1) → new ≡ starts ++ start ∷ [] → start.offset ≡ min (before.bytes + offset) (2 ^ 64 - 1) → start.line ≡ min (more + 1) (2 ^ 64 - 1)
      → Told before part offsets (index + 1) offset more new
  one_told more start new lines_are new_is offset_is line_is = record {
    rest = from_there.1;
    are = λ done counts small. (
        let t = told.are done counts small in
        let long = length-append done part in
        let seam : take offset part ≡ take passed part ++ take (offset - passed) (drop passed part) = ap (λ (n : ℕ). take n part) (let n : offset ≡ passed + (offset - passed) = omega (arith, from_there.0) in n) ∙ take-add passed (offset - passed) part in
        let step = ap (λ (x : List ℕ). newlines (done ++ x)) seam ∙ ap newlines (sym (append_assoc done (take passed part) (take (offset - passed) (drop passed part)))) ∙ newlines-append (done ++ take passed part) (take (offset - passed) (drop passed part)) in
        let few = count_by-le-length (λ b. b == 10) (done ++ take offset part) in
        let short = length-append done (take offset part) in
        let cut = length-take offset part in
        let more_is : more ≡ newlines (done ++ take offset part) = omega (arith, lines_are, t.0, step, few, short, cut, to_end, long, small) in (
          more_is,
          λ rest are. rw (new_is, append_assoc) (t.1 (start ∷ rest) (rw (drop_more offsets index 0 less) ((omega (arith, offset_is, counts.0, to_end, long, small), omega (arith, line_is, more_is, few, short, cut, to_end, long, small)), are))),
        ));
  }

pub all_told : (before : Before) (part offsets : List ℕ) (index passed lines : ℕ) (starts : List Start) → Told before part offsets index passed lines starts → length offsets ≤ index → (done : List ℕ) → Counts before done → length (done ++ part) + 1 < 2 ^ 64 → AreStarts done part offsets starts
all_told before part offsets index passed lines starts told end done counts small = subst (λ (x : List Start). AreStarts done part offsets x) (append-nil starts) ((told.are done counts small).1 [] (rw (drop_all index offsets end) refl))

-- ---- what a parse of a part says of the offsets that the memory has

pub within_text : {S : Type 0} (holds : S → S → List Item → Type 0) (spells : List Item → List ℕ → Type 0) (text : List ℕ) (b : Buffer) (len : ℕ) (a m : Memory) (old new : S) → b.start + b.parsed + len ≤ vec_len b.bytes → text ≡ take len (unparsed b)
    → ((items : List Item) (starts : List ℕ) → spells items starts → Ascend 0 starts (length text)) → TakesFrom holds spells (HasStarts a m) old new → IfSome (starts_of m) (λ offsets. Ascend 0 offsets len)
within_text holds spells text b len a m old new within is ascends t =
    let long : length text ≡ len = omega (arith, within, b.bytes.ok, ap length is, length-take len (unparsed b), length-drop b.start b.bytes.items, length-drop b.parsed (window b)) in
    rw t.has (elim (starts_of a) as (λ o. IfSome (option_map (λ before. t.starts) o) (λ offsets. Ascend 0 offsets len)) [ None ↦ tt | Some before ↦ subst (λ (n : ℕ). Ascend 0 t.starts n) long (ascends t.items t.starts t.spelled) ])

pub kept_starts : (known : Option (List ℕ)) (P : List ℕ → Type 0) (offsets : List ℕ) → IfSome known (λ starts. offsets ≡ starts) → P offsets → IfSome known P
kept_starts None P offsets e p = tt
kept_starts (Some starts) P offsets e p = subst P e p

-- what the sink took, whatever the error is
pub items_over : {S : Type 0} (holds : S → S → List Item → Type 0) (k : ItemType) (text : List ℕ) (old new : S) (r : Result (Unit {0}) ParseError) → IfErr r (λ e. IsStrError k None text e) → IfErr r (λ e. kind_of e ≡ Parse → TakesPrefix holds k text old new)
    → IfErr r (λ e. (kind_of e ≡ MemoryKind → ⊥) → (items : List Item) × TakesOver holds items old new)
items_over holds k text old new (Ok x) refused before = refused
items_over holds k text old new (Err e) refused before = λ not_memory. under (kind_of e) refl not_memory
  where
    under : (x : ParseErrorKind) → kind_of e ≡ x → (kind_of e ≡ MemoryKind → ⊥) → (items : List Item) × TakesOver holds items old new
    under Io at kind = absurd (rw at at refused)
    under Parse at kind = let b = before at in (b.0, b.2)
    under MemoryKind at kind = absurd (kind at)
