-- A text spells the items that its parts spell.
use Rattle.std.proofs.Common.{◌≡◌, ℕ, true, List, [], ◌∷◌, ◌++◌, refl, sym, subst, append-nil, arith}
use Rattle.souper_stream.proofs.Prelude.{Item, Lexeme, IsTextOf, kinds, ItemType, TextSpells, SpellsNone, items_join}
use Rattle.souper_ir.proofs.Items.Lists.{text_alone}
use Rattle.souper_stream.specs.Lines.{starts_line, LastEnds}
use Rattle.souper_stream.specs.Segments.{Line, concat, AreLines, tokens_of_lines, FirstStarts, AreCut, all_lines, AreParts, PartsSpell, SpellsByParts}
use Rattle.souper_stream.proofs.Parting.{starts_longer, part_by}
use Rattle.souper_stream.proofs.LineLists.{none_spelled, starts_not_none, starts_with_more, concat-append, all_are_lines, lines_back, lines_front, lines_of, kinds_of_lines}

pub lines_start : (q : List Line) → FirstStarts q → starts_line (tokens_of_lines q) ≡ true
lines_start q s = grind (arith, starts_longer)

whole_parts : (k : ItemType) (ps : List (List Line)) (ws : List Item) → AreLines (all_lines ps) → AreCut k ps → TextSpells k (concat (all_lines ps)) ws → PartsSpell k ps ws
whole_parts k [] ws lines cut h = text_alone k [] ws [] h (none_spelled k)
whole_parts k (p ∷ []) ws lines cut h = (ws, [], sym (append-nil ws), subst (λ (x : List Line). TextSpells k (concat x) ws) (append-nil p) h, refl)
whole_parts k (p ∷ (q ∷ ps)) ws lines cut h =
    let more = all_lines ps in
    let p_lines = lines_front p (q ++ more) (starts_not_none (q ++ more) (starts_with_more q more cut.1)) lines in
    let rest_lines = lines_back p (q ++ more) lines in
    let ends : (ts : List (ℕ × Lexeme)) → IsTextOf (concat p) ts → LastEnds k (kinds ts) = λ ts v. subst (λ (x : List Lexeme). LastEnds k x) (sym (kinds_of_lines p ts (all_are_lines p p_lines) v)) cut.0 in
    let starts : (vs : List (ℕ × Lexeme)) → IsTextOf (concat (q ++ more)) vs → starts_line (kinds vs) ≡ true = λ vs u. rw (kinds_of_lines (q ++ more) vs rest_lines u) (lines_start (q ++ more) (starts_with_more q more cut.1)) in
    let r = part_by k (concat p) (concat (q ++ more)) ws (lines_of p p_lines) ends starts (subst (λ (x : List ℕ). TextSpells k x ws) (concat-append p (q ++ more)) h) in
    (r.0, r.1, r.2, r.3, whole_parts k (q ∷ ps) r.1 rest_lines cut.2 r.4)

parts_whole : (k : ItemType) (ps : List (List Line)) (ws : List Item) → AreLines (all_lines ps) → AreCut k ps → PartsSpell k ps ws → TextSpells k (concat (all_lines ps)) ws
parts_whole k [] ws lines cut h = rw h (none_spelled k)
parts_whole k (p ∷ []) ws lines cut h = rw (h.2, h.4, append-nil h.0, append-nil p) h.3
parts_whole k (p ∷ (q ∷ ps)) ws lines cut h =
    let more = q ++ all_lines ps in
    let p_lines = lines_front p more (starts_not_none more (starts_with_more q (all_lines ps) cut.1)) lines in
    rw (h.2, concat-append p more) (items_join k (concat p) (concat more) h.0 h.1 (lines_of p p_lines) h.3 (parts_whole k (q ∷ ps) h.1 (lines_back p more lines) cut.2 h.4))

pub spells_by_parts : SpellsByParts
spells_by_parts k text ps ws a = (
  λ h. whole_parts k ps ws a.lines a.cut (subst (λ (x : List ℕ). TextSpells k x ws) a.whole h),
  λ h. subst (λ (x : List ℕ). TextSpells k x ws) (sym a.whole) (parts_whole k ps ws a.lines a.cut h),
)

-- if a part spells no items, the text does not
some_spells_none : (k : ItemType) (ps qs : List (List Line)) (p : List Line) (ws : List Item) → PartsSpell k (ps ++ p ∷ qs) ws → SpellsNone k (concat p) → ⊥
some_spells_none k [] qs p ws h none = none h.0 h.3
some_spells_none k (r ∷ ps) qs p ws h none = some_spells_none k ps qs p h.1 h.4 none

pub none_with : (k : ItemType) (text : List ℕ) (ps qs : List (List Line)) (p : List Line) → AreParts k text (ps ++ p ∷ qs) → SpellsNone k (concat p) → SpellsNone k text
none_with k text ps qs p a none ws h = some_spells_none k ps qs p ws ((spells_by_parts k text (ps ++ p ∷ qs) ws a).0 h) none
