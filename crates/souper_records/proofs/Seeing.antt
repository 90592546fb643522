-- Items that were seen: their texts, part after part of a stream, and their records with counts.
use Rattle.std.proofs.Common.{◌≡◌, ℕ, Bool, true, false, List, [], ◌∷◌, ◌++◌, map, length, drop, Option, refl, sym, ap, ◌∙◌, subst, append_assoc, append-nil, inl, inr, take, take-append-drop, String, string_bytes, flat_map, if◌then◌else◌}
use Rattle.std.specs.List.{AllByRecursion, filter}
use Rattle.std.specs.Io.KnownBytes.{Appends}
use Rattle.std.proofs.KnownBytes.{Appends-nil, Appends-trans}
use Rattle.std.proofs.lemmas.Grind.{flat_map-append}
use Rattle.std.proofs.lemmas.Bool.{cases_Bool}
use Rattle.souper_records.proofs.Prelude.{keys, index_map_len, Item, ItemType, Stream, IsGiven}
use Rattle.std.proofs.Math.Seq.{drop-append_seam, take-append_seam}
use Rattle.std.proofs.lemmas.List.{map-append, length-map, drop-map, take-map}
use Rattle.std.proofs.lemmas.List.Folds.{flat_map-map}
use Rattle.souper_graph.specs.Renaming.{renamed}
use Rattle.souper_graph.proofs.Judging.Closed.{All-second, All-both}
use Rattle.souper_graph.proofs.Sameness.Carrying.{map-map}
use Rattle.souper_graph.proofs.Sameness.Renumbered.{ordered}
use Rattle.souper_graph.proofs.Sameness.Renaming.{graph-renamed, renamed-graph}
use Rattle.souper_ir.proofs.Items.OneText.{one_text}
use Rattle.souper_records.specs.declared.layout.Layout.{Layout}
use Rattle.souper_records.specs.declared.seen.Seen.{Seen}
use Rattle.souper_records.specs.Records.{record_of_text, record_of, records_of}
use Rattle.souper_records.specs.Uniques.{text_by, text_count, distinct_items, AreSame, AreDistinct, HasText, HasSeen, WritesSeenDistinct, WritesNewDistinct, is_listed, summary_of_text, summary_of_item, summary_of, listed_items, WritesSummaryBegun}
use Rattle.souper_records.specs.Distinct.{count_with_key, tally_all}
use Rattle.souper_records.proofs.Distinct.{tallied_all, distinct-append, distinct-unseen, distinct-no_two, distinct-cover}
use Rattle.std.proofs.lemmas.List.Elements.{filter-append}
use Rattle.souper_records.specs.declared.layout.Summary.{Summary}

-- ---- one text for each graph

same_text : (k : ItemType) (rename : Bool) (a b : Item) → HasText k rename a → HasText k rename b → (text_by rename a ≡ text_by rename b → AreSame rename a b) × (AreSame rename a b → text_by rename a ≡ text_by rename b)
same_text k false a b p q = one_text k a b p.0 q.0
same_text k true a b p q =
    let one = one_text k (renamed a) (renamed b) (p.1, p.0.1) (q.1, q.0.1) in
    let here = ordered a p.0.0 in
    let there = ordered b q.0.0 in
    ((λ e. graph-renamed a b here there (one.0 e)), λ same. one.1 (renamed-graph a b here there same))

pub are_distinct : (k : ItemType) (rename : Bool) (before items : List Item) → AllByRecursion (HasText k rename) before → AllByRecursion (HasText k rename) items → AreDistinct rename before items (distinct_items rename before items)
are_distinct k rename before items bs ps =
    let key = text_by rename in
    record {
      in_order = refl;
      unseen = distinct-unseen key (HasText k rename) (AreSame rename) (λ a b p q. (same_text k rename a b p q).1) before items bs ps;
      distinct = distinct-no_two key (HasText k rename) (AreSame rename) (λ a b p q. (same_text k rename a b p q).1) before items ps;
      covered = distinct-cover key (HasText k rename) (AreSame rename) (λ a b p q. (same_text k rename a b p q).0) before items bs ps;
    }

-- ---- part after part

-- the texts that were seen
seen_texts : (k : ItemType) (rename : Bool) (items : List Item) (s : Seen) → HasSeen k rename items s → map string_bytes (keys s.counts) ≡ map (text_by rename) (distinct_items rename [] items)
seen_texts k rename items s h =
    let first = λ (e : List ℕ × ℕ). e.0 in
    let key = text_by rename in
    map-map (λ (e : String _ × ℕ). e.0) string_bytes s.counts.entries ∙ sym (map-map text_count first s.counts.entries) ∙ ap (map first) h.1 ∙ map-map (λ (a : Item). (key a, count_with_key key items a)) first (distinct_items rename [] items)

-- the records of the texts that a part adds
new_records : (k : ItemType) (l : Layout) (before taken : List Item) (s t : Seen) → HasSeen k l.rename before s → HasSeen k l.rename (before ++ taken) t
    → flat_map (record_of_text l) (map string_bytes (drop (index_map_len s.counts) (keys t.counts))) ≡ records_of l (distinct_items l.rename before taken)
new_records k l before taken s t h j =
    let key = text_by l.rename in
    let old = map key (distinct_items l.rename [] before) in
    let more = map key (distinct_items l.rename before taken) in
    let all : map string_bytes (keys t.counts) ≡ old ++ more = seen_texts k l.rename (before ++ taken) t j ∙ ap (map key) (distinct-append key [] before taken) ∙ map-append key (distinct_items l.rename [] before) (distinct_items l.rename before taken) in
    let long : index_map_len s.counts ≡ length old = simp length-map (simp length-map at (ap length (seen_texts k l.rename before s h))) in
    ap (flat_map (record_of_text l)) (sym (drop-map string_bytes (index_map_len s.counts) (keys t.counts)) ∙ (λ i. drop (long i) (all i)) ∙ drop-append_seam old more)
    ∙ flat_map-map (record_of_text l) key (distinct_items l.rename before taken)

-- of one part: items with these texts were counted, and the records of the new texts were written
pub keeps_one : (k : ItemType) (l : Layout) (now new : Option (List ℕ)) (t u : Seen) (ys : List Item) → AllByRecursion (HasText k l.rename) ys → map text_count u.counts.entries ≡ tally_all (map text_count t.counts.entries) (map (text_by l.rename) ys)
    → Appends now new (flat_map (record_of_text l) (map string_bytes (drop (index_map_len t.counts) (keys u.counts)))) → WritesNewDistinct k l now new t u ys
keeps_one k l now new t u ys texts more w = λ earlier seen.
    let key = text_by l.rename in
    let later : HasSeen k l.rename (earlier ++ ys) u = (All-both (HasText k l.rename) earlier ys seen.0 texts, more ∙ ap (λ es. tally_all es (map key ys)) seen.1 ∙ tallied_all key earlier ys) in
    (later, subst (Appends now new) (new_records k l earlier ys t u seen later) w)

-- of one part after another
pub keeps_join : (k : ItemType) (l : Layout) (old now new : Option (List ℕ)) (s t u : Seen) (xs ys : List Item) → WritesNewDistinct k l old now s t xs → WritesNewDistinct k l now new t u ys → WritesNewDistinct k l old new s u (xs ++ ys)
keeps_join k l old now new s t u xs ys a b = λ earlier seen.
    let so_far = a earlier seen in
    let part = b (earlier ++ xs) so_far.0 in
    let both = distinct-append (text_by l.rename) earlier xs ys in (
      subst (λ (x : List Item). HasSeen k l.rename x u) (append_assoc earlier xs ys) part.0,
      subst (λ (x : List Item). Appends old new (records_of l x)) (sym both)
          (subst (Appends old new) (sym (flat_map-append (record_of l) (distinct_items l.rename earlier xs) (distinct_items l.rename (earlier ++ xs) ys)))
          (Appends-trans old now new (records_of l (distinct_items l.rename earlier xs)) (records_of l (distinct_items l.rename (earlier ++ xs) ys)) so_far.1 part.1)),
    )

pub keeps_none : (k : ItemType) (l : Layout) (old : Option (List ℕ)) (s : Seen) → WritesNewDistinct k l old old s s []
keeps_none k l old s earlier seen = (subst (λ (x : List Item). HasSeen k l.rename x s) (sym (append-nil earlier)) seen, Appends-nil old)

-- the distinct items of those that were seen
pub distinct_records : (k : ItemType) (l : Layout) (out : Stream) (s t : Seen) (earlier items : List Item) → HasSeen k l.rename earlier s → WritesNewDistinct k l out.before out.after s t items → WritesSeenDistinct k l earlier out t items
distinct_records k l out s t earlier items seen w =
    let both = w earlier seen in
    ((distinct_items l.rename earlier items, are_distinct k l.rename earlier items seen.0 (All-second (HasText k l.rename) earlier items both.0.0), both.1), both.0)

-- what is written of texts with their counts
abbrev pub lines_of : Layout → Summary → List (List ℕ × ℕ) → List ℕ
lines_of l s es = flat_map (λ (e : List ℕ × ℕ). summary_of_text l s e.0 e.1) es

-- Of the entries all but the rest were taken: the records of the first ones were written, and those of the others are the last ones.
pub record Taken {M : Type 0} (l : Layout) (s : Summary) (old now : Option (List ℕ)) (all rest : List (String M × ℕ)) (last : List ℕ) : Type 0 where
  pub written : List (String M × ℕ)
  pub kept : List (String M × ℕ)
  pub whole : all ≡ written ++ (kept ++ rest)
  pub given : Appends old now (lines_of l s (map text_count written))
  pub is : last ≡ lines_of l s (map text_count kept)

lines_append : {M : Type 0} (l : Layout) (s : Summary) (xs ys : List (String M × ℕ)) → lines_of l s (map text_count (xs ++ ys)) ≡ lines_of l s (map text_count xs) ++ lines_of l s (map text_count ys)
lines_append l s xs ys = ap (lines_of l s) (map-append text_count xs ys) ∙ flat_map-append (λ (e : List ℕ × ℕ). summary_of_text l s e.0 e.1) (map text_count xs) (map text_count ys)

-- one more
pub taken_more : {M : Type 0} {l : Layout} {s : Summary} {old now : Option (List ℕ)} {all rest next : List (String M × ℕ)} {last more : List ℕ} (e : String M × ℕ) → rest ≡ e ∷ next → more ≡ last ++ summary_of_text l s (string_bytes e.0) e.1
    → Taken l s old now all rest last → Taken l s old now all next more
taken_more {l = l} {s = s} {next = next} e first line t = record {
  written = t.written;
  kept = t.kept ++ e ∷ [];
  whole = t.whole ∙ ap (λ x. t.written ++ (t.kept ++ x)) first ∙ ap (λ x. t.written ++ x) (sym (append_assoc t.kept (e ∷ []) next));
  given = t.given;
  is = line ∙ ap (λ x. x ++ summary_of_text l s (string_bytes e.0) e.1) t.is ∙ ap (λ x. lines_of l s (map text_count t.kept) ++ x) (sym (append-nil (summary_of_text l s (string_bytes e.0) e.1))) ∙ sym (lines_append l s t.kept (e ∷ []));
}

-- those that are not written yet were
pub taken_written : {M : Type 0} {l : Layout} {s : Summary} {old now new : Option (List ℕ)} {all rest : List (String M × ℕ)} {last left : List ℕ} → Taken l s old now all rest last → Appends now new last → left ≡ [] → Taken l s old new all rest left
taken_written {l = l} {s = s} {old} {now} {new} {rest = rest} {last = last} t more none = record {
  written = t.written ++ t.kept;
  kept = [];
  whole = t.whole ∙ sym (append_assoc t.written t.kept rest);
  given = rw lines_append (Appends-trans old now new (lines_of l s (map text_count t.written)) (lines_of l s (map text_count t.kept)) t.given (rw t.is at more));
  is = none;
}

-- what is written of elements one by one is what is written of those that a test leaves
flat-filter : {A : Type 0} (p : A → Bool) (f : A → List ℕ) (xs : List A) → flat_map (λ a. if p a then f a else []) xs ≡ flat_map f (filter p xs)
flat-filter p f [] = refl
flat-filter p f (a ∷ xs) = elim (cases_Bool (p a)) [
  | inl passes ↦ rw passes (ap (λ x. f a ++ x) (flat-filter p f xs))
  | inr fails ↦ rw fails (flat-filter p f xs)
]

-- what was seen
module _ (l : Layout) (s : Summary) (items : List Item) where
  abbrev counted : Item → List ℕ × ℕ
  counted a = (text_by l.rename a, count_with_key (text_by l.rename) items a)

  abbrev has_record : Item → Bool
  has_record a = is_listed s (count_with_key (text_by l.rename) items a)

  lines_items : (fs : List Item) → lines_of l s (map counted fs) ≡ flat_map (summary_of_item l s items) (filter has_record fs)
  lines_items fs = flat_map-map (λ (e : List ℕ × ℕ). summary_of_text l s e.0 e.1) counted fs ∙ flat-filter has_record (summary_of_item l s items) fs

  -- all records were written, also the last ones
  pub taken_all : (k : ItemType) (seen : Seen) (out : Stream) (now : Option (List ℕ)) (last : List ℕ) → HasSeen k l.rename items seen → Taken l s out.before now seen.counts.entries [] last → Appends now out.after last → IsGiven out (summary_of l s items)
  taken_all k seen out now last h t a =
      let lines = lines_of l s (map text_count t.written) in
      let all = ap (λ x. lines ++ x) t.is ∙ sym (lines_append l s t.written t.kept) ∙ ap (λ es. lines_of l s (map text_count es)) (ap (λ x. t.written ++ x) (sym (append-nil t.kept)) ∙ sym t.whole) ∙ ap (lines_of l s) h.1 ∙ lines_items (distinct_items l.rename [] items) in
      subst (IsGiven out) all (Appends-trans out.before now out.after lines last t.given a)

  -- the first of the records were
  pub taken_begun : (k : ItemType) (seen : Seen) (rest : List (String _ × ℕ)) (out : Stream) (last : List ℕ) → HasSeen k l.rename items seen → Taken l s out.before out.after seen.counts.entries rest last → WritesSummaryBegun l s items out
  taken_begun k seen rest out last h t =
      let fs = distinct_items l.rename [] items in
      let n = length t.written in
      let few = filter has_record (take n fs) in
      let written : map text_count t.written ≡ map counted (take n fs) =
      ap (map text_count) (sym (take-append_seam t.written (t.kept ++ rest)) ∙ ap (take n) (sym t.whole)) ∙ sym (take-map text_count n seen.counts.entries) ∙ ap (take n) h.1 ∙ take-map counted n fs in
      let are : take (length few) (listed_items l s items) ≡ few = ap (λ (x : List Item). take (length few) (filter has_record x)) (sym (take-append-drop n fs)) ∙ ap (take (length few)) (filter-append has_record (take n fs) (drop n fs)) ∙ take-append_seam few (filter has_record (drop n fs)) in
      (length few, subst (IsGiven out) (ap (lines_of l s) written ∙ lines_items (take n fs) ∙ ap (flat_map (summary_of_item l s items)) (sym are)) t.given)
