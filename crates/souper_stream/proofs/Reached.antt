-- A stream that is read to its end, or up to its first parse error.
use Rattle.std.proofs.Common.{◌≡◌, ◌⊎◌, inl, inr, ℕ, Bool, true, false, List, [], ◌∷◌, ◌++◌, length, Option, refl, sym, ap, ◌∙◌, subst, arith, append_assoc, append-nil, length-append, map}
use Rattle.std.specs.List.{AllByRecursion}
use Rattle.std.proofs.lemmas.List.{nil_from_length}
use Rattle.std.specs.Io.KnownBytes.{Consumes}
use Rattle.souper_stream.proofs.Prelude.{Item, WellFormed, ItemType, TextSpells, ParseError, IsLines, TakesOver, PrefixSpells}
use Rattle.souper_stream.specs.declared.reader.ItemReader.{ItemReader}
use Rattle.souper_stream.specs.Segments.{Line, concat, AreLines, EndsItem, AreCut, all_lines, PartsSpell}
use Rattle.souper_stream.specs.Reading.{IsStreamTaken, IsStreamRefused}
use Rattle.souper_stream.specs.Parts.{and_next, HasParts, HasAll, TakesPart, RefusesPart}
use Rattle.souper_stream.proofs.LineLists.{concat-append, are_front, lines_front, lines_of, none_spelled, prefix_after, prefix_longer}
use Rattle.souper_stream.proofs.Cutting.{no_tokens}
use Rattle.souper_stream.proofs.SegmentLaws.{spells_by_parts}
use Rattle.souper_stream.proofs.Passing.{all_lines_snoc, done_more}

-- ---- items that are passed on

over_both : {S : Type 0} (holds : S → S → List Item → Type 0) (xs ys : List Item) (a b c : S) → TakesOver holds xs a b → TakesOver holds ys b c → TakesOver holds (xs ++ ys) a c
over_both holds xs ys a b c f g first items h = subst (λ (y : List Item). holds first c y) (append_assoc items xs ys) (g first (items ++ xs) (f first items h))

-- a sink that takes the items that are left then has all, which are well formed
pub record Passing {T S : Type 0} (view : T → Item) (holds : S → S → List Item → Type 0) (all rest : List T) (first now : S) : Type 0 where
  pub well : AllByRecursion WellFormed (map view rest)
  pub taken : (next : S) → TakesOver holds (map view rest) now next → TakesOver holds (map view all) first next

pub passed_more : {T S : Type 0} (view : T → Item) (holds : S → S → List Item → Type 0) (all rest next : List T) (item : T) (first old new : S) → Passing view holds all rest first old → rest ≡ item ∷ next
    → ((s : S) (items : List Item) → holds s old items → holds s new (items ++ view item ∷ [])) → Passing view holds all next first new
passed_more view holds all rest next item first old new p e take = record {
  well = (rw e at p.well).1;
  taken = λ last over. p.taken last (rw e (over_both holds (view item ∷ []) (map view next) old new last take over));
}

-- ---- parts that are read one after another

parts_spell_more : (k : ItemType) (ps : List (List Line)) (p : List Line) (xs ys : List Item) → PartsSpell k ps xs → TextSpells k (concat p) ys → PartsSpell k (ps ++ p ∷ []) (xs ++ ys)
parts_spell_more k [] p xs ys h t = (ys, [], ap (λ (l : List Item). l ++ ys) h ∙ sym (append-nil ys), t, refl)
parts_spell_more k (q ∷ ps) p xs ys h t = (h.0, h.1 ++ ys, ap (λ (l : List Item). l ++ ys) h.2 ∙ append_assoc h.0 h.1 ys, h.3, parts_spell_more k ps p h.1 ys h.4 t)

-- these parts were read, and the sink took their items
pub record Reached {S : Type 0} (k : ItemType) (before mid : Option (List ℕ)) (holds : S → S → List Item → Type 0) (first now : S) (r : ItemReader) : Type 0 where
  pub parts : List (List Line)
  pub items : List Item
  pub had : HasParts k before mid parts r
  pub spelled : PartsSpell k parts items
  pub over : TakesOver holds items first now

pub reached_none : {S : Type 0} (k : ItemType) (before : Option (List ℕ)) (holds : S → S → List Item → Type 0) (s : S) (r : ItemReader) → HasParts k before before [] r → Reached k before before holds s s r
reached_none k before holds s r h = record { parts = []; items = []; had = h; spelled = refl; over = λ first items x. subst (λ (y : List Item). holds first s y) (sym (append-nil items)) x }

-- the items of a part were collected, and passed on
pub reached_more : {S V : Type 0} (k : ItemType) (before mid after : Option (List ℕ)) (holds : S → S → List Item → Type 0) (keeps : V → V → List Item → Type 0) (first old new : S) (empty full : V) (p q : ItemReader) (taken : List Item)
    (r : Reached k before mid holds first old p) (t : TakesPart k before after r.parts keeps empty full q) → (keeps empty full t.items → taken ≡ t.items) → keeps empty empty [] → TakesOver holds taken old new → Reached k before after holds first new q
reached_more k before mid after holds keeps first old new empty full p q taken r t are none over = record {
  parts = r.parts ++ t.part ∷ [];
  items = r.items ++ t.items;
  had = t.goes_on;
  spelled = parts_spell_more k r.parts t.part r.items t.items r.spelled t.spelled;
  over = over_both holds r.items t.items first old new r.over (subst (λ (x : List Item). TakesOver holds x old new) (are (t.taken empty none)) over);
}

pub reached_end : {S : Type 0} (k : ItemType) (before mid after : Option (List ℕ)) (holds : S → S → List Item → Type 0) (first old : S) (p : ItemReader) (r : Reached k before mid holds first old p) → HasAll k before after r.parts → IsStreamTaken k before after holds first old
reached_end k before mid after holds first old p r a = record {
  read = a.0;
  consumed = a.1;
  all_read = a.2;
  taken = (r.items, (spells_by_parts k a.0 r.parts r.items a.3).1 r.spelled, r.over);
}

-- ---- what a stream begins with

cut_front : (k : ItemType) (qs : List (List Line)) (x : List Line) (xs : List (List Line)) → AreCut k (qs ++ x ∷ xs) → AreCut k qs
cut_front k [] x xs c = tt
cut_front k (q ∷ []) x xs c = λ none. no_tokens k (subst (λ (z : List Line). EndsItem k z) none c.0)
cut_front k (q ∷ (s ∷ qs)) x xs c = (c.0, c.1, cut_front k (s ∷ qs) x xs c.2)

next_front : (k : ItemType) (ps : List (List Line)) (ls : List Line) → AreCut k (and_next ps ls) → AreCut k ps
next_front k ps [] c = c
next_front k ps (l ∷ ls) c = cut_front k ps (l ∷ ls) [] c

-- parts before other lines spell their items
parts_spell : (k : ItemType) (ps : List (List Line)) (more : List Line) (items : List Item) → AreLines (all_lines ps ++ more) → AreCut k ps → PartsSpell k ps items → TextSpells k (concat (all_lines ps)) items
parts_spell k ps more items lines cut spelled = (spells_by_parts k (concat (all_lines ps)) ps items (record { whole = refl; lines = are_front (all_lines ps) more lines; cut = cut })).1 spelled

pub prefix_of : (k : ItemType) (text : List ℕ) (items : List Item) → TextSpells k text items → PrefixSpells k text items
prefix_of k text items t = (t.0, t.1.0, t.1.1, t.2)

begun_longer : (k : ItemType) (part after : List ℕ) (items : List Item) → IsLines part ⊎ (after ≡ []) → PrefixSpells k part items → PrefixSpells k (part ++ after) items
begun_longer k part after items (inl lines) h = prefix_longer k part after items lines h
begun_longer k part after items (inr none) h = subst (λ (x : List ℕ). PrefixSpells k x items) (sym (ap (λ (x : List ℕ). part ++ x) none ∙ append-nil part)) h

-- a stream begins with the parts that were read of it, and with their items, if they spell any
pub parts_begin : (k : ItemType) (start now : Option (List ℕ)) (ps : List (List Line)) (r : ItemReader) → HasParts k start now ps r → (read : List ℕ) × (rest : List ℕ) × Consumes start now read × (read ≡ concat (all_lines ps) ++ rest) × ((items : List Item) → PartsSpell k ps items → PrefixSpells k read items)
parts_begin k start now ps r (ls, h) =
    let done = concat (all_lines ps) in
    let rest = concat ls ++ h.lines.after in
    let whole : concat (all_lines ps ++ ls) ++ h.lines.after ≡ done ++ rest = ap (λ (x : List ℕ). x ++ h.lines.after) (concat-append (all_lines ps) ls) ∙ append_assoc done (concat ls) h.lines.after in (
      concat (all_lines ps ++ ls) ++ h.lines.after,
      rest,
      h.lines.consumed,
      whole,
      λ items spelled. subst (λ (x : List ℕ). PrefixSpells k x items) (sym whole) (begun_longer k done rest items (ends ls refl) (prefix_of k done items (parts_spell k ps ls items h.lines.are (next_front k ps ls h.cut) spelled))),
    )
  where
    nothing_left : (b : Bool) → r.ended ≡ b → ls ≡ [] → IsLines (concat (all_lines ps)) ⊎ (concat ls ++ h.lines.after ≡ [])
    nothing_left true e none = inr (λ i. concat (none i) ++ (h.lines.after_is (h.lines.not_failed e) ∙ h.lines.none_open e) i)
    nothing_left false e none = inl (inl (ap (λ (x : List (List Line)). concat (all_lines x)) (h.some e none)))

    ends : (xs : List Line) → ls ≡ xs → IsLines (concat (all_lines ps)) ⊎ (concat ls ++ h.lines.after ≡ [])
    ends [] e = nothing_left r.ended refl e
    ends (x ∷ xs) e = inl (lines_of (all_lines ps) (lines_front (all_lines ps) ls (λ none. (let both = sym e ∙ none in cc)) h.lines.are))

-- a text that is rejected after parts that spell items begins with these, and with the ones that the rejected part begins with
pub refusal_begun : {S : Type 0} (k : ItemType) (file start now : Option (List ℕ)) (ps : List (List Line)) (holds : S → S → List Item → Type 0) (old new : S) (q : ItemReader) (e : ParseError) (t : RefusesPart k file start now ps holds old new q e) (items : List Item) → PartsSpell k ps items
    → PrefixSpells k t.read (items ++ t.items)
refusal_begun k file start now ps holds old new q e t items spelled =
    let (ls, h) = t.goes_on in
    let done = concat (all_lines ps) in
    let lines = subst (λ (x : List Line). AreLines x) (ap (λ (x : List Line). x ++ ls) (all_lines_snoc ps t.part) ∙ append_assoc (all_lines ps) t.part ls) h.lines.are in
    let whole_lines = lines_of (all_lines ps) (lines_front (all_lines ps) (t.part ++ ls) (λ none. t.none [] (rw (nil_from_length t.part (omega (arith, ap length none, length-append t.part ls))) (none_spelled k))) lines) in
    let cut = cut_front k ps t.part [] (next_front k (ps ++ t.part ∷ []) ls h.cut) in
    let text : t.read ≡ done ++ (concat t.part ++ t.after) = t.whole ∙ ap (λ (x : List ℕ). x ++ t.after) (done_more ps t.part) ∙ append_assoc done (concat t.part) t.after in
    subst (λ (x : List ℕ). PrefixSpells k x (items ++ t.items)) (sym text)
    (prefix_after k done (concat t.part ++ t.after) items t.items whole_lines (parts_spell k ps (t.part ++ ls) items lines cut spelled) (begun_longer k (concat t.part) t.after t.items t.ends t.begun))

-- the stream is rejected
pub reached_refusal : {S V : Type 0} (k : ItemType) (file : Option (List ℕ)) (before mid after : Option (List ℕ)) (holds : S → S → List Item → Type 0) (keeps : V → V → List Item → Type 0) (first old new : S) (empty full : V) (p q : ItemReader) (e : ParseError) (taken : List Item)
    (r : Reached k before mid holds first old p) (t : RefusesPart k file before after r.parts keeps empty full q e) → (keeps empty full t.items → taken ≡ t.items) → keeps empty empty [] → TakesOver holds taken old new → IsStreamRefused k file before after holds first new e
reached_refusal k file before mid after holds keeps first old new empty full p q e taken r t are none over =
    let front = concat (all_lines r.parts) ++ concat t.part in
    let text : t.read ≡ front ++ t.after = t.whole ∙ ap (λ (x : List ℕ). x ++ t.after) (done_more r.parts t.part) in
    record {
      read = t.read;
      consumed = t.consumed;
      taken = r.items ++ t.items;
      over = over_both holds r.items t.items first old new r.over (subst (λ (x : List Item). TakesOver holds x old new) (are (t.taken empty none)) over);
      begun = refusal_begun k file before after r.parts keeps empty full q e t r.items r.spelled;
      never = t.never;
      placed = λ small. let at = t.placed small in (at.0, omega (arith, at.2, ap length text, length-append front t.after), at.3);
      located = λ small. (front, t.after, text, t.located (omega (arith, small, ap length text, length-append front t.after)));
      stops = (concat (all_lines r.parts), concat t.part, t.after, text, t.stops);
    }
