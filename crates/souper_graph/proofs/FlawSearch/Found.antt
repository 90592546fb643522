-- From the flaws that were found to the first flaw of the item.
use Rattle.std.proofs.Common.{◌≡◌, ◌∙◌, ℕ, zero, suc, ◌<◌, ◌≤◌, ◌↔◌, inl, inr, List, [], ◌∷◌, Option, Some, None, length, take, get_or, refl, sym, subst, arith}
use Rattle.std.specs.Prelude.{slice_get, IsNone, IfSome, MatchOption}
use Rattle.std.specs.List.{AllByRecursion}
use Rattle.std.proofs.lemmas.Bool.{cases_lt}
use Rattle.std.proofs.lemmas.Option.{slice_get_within, slice_get_past}
use Rattle.souper_graph.specs.declared.ast.flaws.Flaw.{Flaw}
use Rattle.souper_graph.specs.declared.ast.flaws.FlawLocation.{FlawLocation}
use Rattle.souper_graph.specs.declared.ast.flaws.FlawLocation.TheVariants.{Statement, Infer, Result, Cand}
use Rattle.souper_graph.specs.declared.ast.flaws.FlawReason.{FlawReason}
use Rattle.souper_graph.specs.Values.{PlainStatement, assigned, Item}
use Rattle.souper_graph.specs.Uses.{Has, NeededIn, roots_of}
use Rattle.souper_graph.specs.WellFormed.{WellFormed, IsMet}
use Rattle.souper_graph.specs.Judging.{assigned_name_at, MayStand, MayStandAt, AllStand}
use Rattle.souper_graph.specs.Flaws.{IsNamedAnew, StatementMeets, MeetsAt, reasons, IsFirstFailing, IsBefore, IsChecked, IsFirstFlaw}
use Rattle.souper_graph.specs.FlawSearch.{AreNeeded, IsFlawAmong, LinesStand, IsFlawOfLines}
use Rattle.souper_graph.proofs.Judging.Closed.{All-from_has, All-has, closed_of_stands, stands_of_closed}
use Rattle.souper_graph.proofs.Judging.Names.{apart_from, name_source, Has-at}
use Rattle.souper_graph.proofs.FlawSearch.Reasons.{first-not_all, first-same, all_reasons, meets_same, ending_of_lines, lines_of_ending}

named_inside : (ss : List PlainStatement) (q : ℕ) (n : List ℕ) → assigned_name_at ss q ≡ Some n → q < length ss
named_inside [] q n e = absurd (cc)
named_inside (s ∷ ss) zero n e = omega arith
named_inside (s ∷ ss) (suc q) n e = let below = named_inside ss q n e in omega arith

-- the statements before position q that the item needs
abbrev Before : Item → ℕ → ℕ → Type 0
Before a q x = NeededIn a x × (x < q)

-- a statement of a list that has all needed ones before it
meets_in : (a : Item) (ids : List ℕ) (q : ℕ) → AllStand a.statements ids → Has ids q → ((x : ℕ) → x < length a.statements → NeededIn a x → x < q → Has ids x) → AllByRecursion (MeetsAt a (Statement q)) reasons
meets_in a ids q stand h more =
    let ss = a.statements in
    let new : IsNamedAnew ss (Before a q) q = λ x n b ex eq.
    let same = apart_from ss ids stand.1 x q n (more x (named_inside ss x n ex) b.0 b.1) h ex eq in
    let below = b.1 in
    absurd (omega arith) in
    all_reasons ss (Before a q) q (slice_get ss q) (All-has (MayStandAt ss) ids q stand.0 h) new

-- a position without a statement
meets_past : (a : Item) (q : ℕ) → length a.statements ≤ q → AllByRecursion (MeetsAt a (Statement q)) reasons
meets_past a q l =
    let ss = a.statements in
    let new : IsNamedAnew ss (Before a q) q = λ x n b ex eq. let inside = named_inside ss q n eq in absurd (omega arith) in
    all_reasons ss (Before a q) q (slice_get ss q) (subst (MayStand ss q) (sym (slice_get_past ss q l)) tt) new

-- all needed statements stand
meets_needed : (a : Item) (ids : List ℕ) (q : ℕ) → AreNeeded a ids → AllStand a.statements ids → NeededIn a q → AllByRecursion (MeetsAt a (Statement q)) reasons
meets_needed a ids q needed stand n = elim (cases_lt q (length a.statements)) [
  | inl l ↦ meets_in a ids q stand ((needed.exact q l).1 n) (λ x inside d _. (needed.exact x inside).1 d)
  | inr past ↦ meets_past a q past
]

-- those before the one at k stand
meets_before : (a : Item) (ids : List ℕ) (k q : ℕ) → AreNeeded a ids → k < length ids → AllStand a.statements (take k ids) → NeededIn a q → q < get_or ids k 0 → AllByRecursion (MeetsAt a (Statement q)) reasons
meets_before a ids k q needed l stand n below = elim (cases_lt q (length a.statements)) [
  | inl inside ↦ meets_in a (take k ids) q stand ((needed.ascending k q l).1 ((needed.exact q inside).1 n, below))
      (λ x there d lower. (needed.ascending k x l).1 ((needed.exact x there).1 d, (let z : x < get_or ids k 0 = omega arith in z)))
  | inr past ↦ meets_past a q past
]

-- the earlier positions of the list are the earlier needed positions
same_names : (a : Item) (ids : List ℕ) (k : ℕ) → AreNeeded a ids → k < length ids →
    IsNamedAnew a.statements (Has (take k ids)) (get_or ids k 0) ↔ IsNamedAnew a.statements (Before a (get_or ids k 0)) (get_or ids k 0)
same_names a ids k needed l =
    let ss = a.statements in (
      (λ new q n b eq ep. new q n ((needed.ascending k q l).1 ((needed.exact q (named_inside ss q n eq)).1 b.0, b.1)) eq ep),
      (λ new q n h eq ep. let t = (needed.ascending k q l).0 h in new q n ((needed.exact q (needed.inside q t.0)).0 t.0, t.1) eq ep),
    )

pub statement_first : (a : Item) (ids : List ℕ) (flaw : Flaw) → AreNeeded a ids → IsFlawAmong a.statements ids flaw → IsFirstFlaw a flaw
statement_first a ids flaw needed f =
    record {
      checked = subst (IsChecked a) (sym f.there) here;
      first = subst (λ (l : FlawLocation). IsFirstFailing (MeetsAt a l) reasons flaw.reason) (sym f.there)
          (first-same (StatementMeets ss (Has (take k ids)) p (slice_get ss p)) (StatementMeets ss (Before a p) p (slice_get ss p)) reasons flaw.reason
          (meets_same ss (Has (take k ids)) (Before a p) p (slice_get ss p) (same_names a ids k needed f.within)) f.first);
      before = λ m b c. before m (subst (IsBefore m) f.there b) c;
    }
  where
    ss : List PlainStatement
    ss = a.statements

    k : ℕ
    k = f.index

    p : ℕ
    p = get_or ids f.index 0

    here : NeededIn a p
    here = let h = Has-at ids k 0 f.within in (needed.exact p (needed.inside p h)).0 h

    before : (m : FlawLocation) → IsBefore m (Statement p) → IsChecked a m → AllByRecursion (MeetsAt a m) reasons
    before (Statement q) b c = meets_before a ids k q needed f.within f.stand c b
    before Infer b c = absurd b
    before Result b c = absurd b
    before Cand b c = absurd b

checked_line : (a : Item) (l : FlawLocation) (r : FlawReason) → IsFlawOfLines a.statements a.ending l r → IsChecked a l
checked_line a (Statement p) r h = absurd h
checked_line a Infer r h = tt
checked_line a Result r h = tt
checked_line a Cand r h = tt

first_line : (a : Item) (l : FlawLocation) (r : FlawReason) → IsFlawOfLines a.statements a.ending l r → IsFirstFailing (MeetsAt a l) reasons r
first_line a (Statement p) r h = absurd h
first_line a Infer r h = h
first_line a Result r h = h.1
first_line a Cand r h = h

before_line : (a : Item) (l : FlawLocation) (r : FlawReason) → IsFlawOfLines a.statements a.ending l r → ((q : ℕ) → NeededIn a q → AllByRecursion (MeetsAt a (Statement q)) reasons) →
    (m : FlawLocation) → IsBefore m l → IsChecked a m → AllByRecursion (MeetsAt a m) reasons
before_line a (Statement p) r h each m b c = absurd h
before_line a Infer r h each (Statement q) b c = each q c
before_line a Infer r h each Infer b c = absurd b
before_line a Infer r h each Result b c = absurd b
before_line a Infer r h each Cand b c = absurd b
before_line a Result r h each (Statement q) b c = each q c
before_line a Result r h each Infer b c = h.0
before_line a Result r h each Result b c = absurd b
before_line a Result r h each Cand b c = absurd b
before_line a Cand r h each (Statement q) b c = each q c
before_line a Cand r h each Infer b c = absurd b
before_line a Cand r h each Result b c = absurd b
before_line a Cand r h each Cand b c = absurd b

line_first : (a : Item) (ids : List ℕ) (flaw : Flaw) → AreNeeded a ids → AllStand a.statements ids → IsFlawOfLines a.statements a.ending flaw.location flaw.reason → IsFirstFlaw a flaw
line_first a ids flaw needed stand h = record {
  checked = checked_line a flaw.location flaw.reason h;
  first = first_line a flaw.location flaw.reason h;
  before = before_line a flaw.location flaw.reason h (λ q n. meets_needed a ids q needed stand n);
}

-- a well formed item has no flaw

lines_well_formed : (a : Item) → WellFormed a → LinesStand a.statements a.ending
lines_well_formed a w = lines_of_ending a.statements a.ending (All-from_has (IsMet a.statements) (roots_of a.ending) w.roots_met, w.ending_fits)

meets_well_formed : (a : Item) → WellFormed a → (l : FlawLocation) → IsChecked a l → AllByRecursion (MeetsAt a l) reasons
meets_well_formed a w (Statement p) c =
    let ss = a.statements in
    let new : IsNamedAnew ss (Before a p) p = λ q n b eq ep.
    let v = name_source (slice_get ss q) n eq in
    let x = name_source (slice_get ss p) n ep in
    let same = w.named_apart q p v.0 x.0 b.0 c v.1 x.1 (v.2 ∙ sym x.2) in
    let below = b.1 in
    absurd (omega arith) in
    all_reasons ss (Before a p) p (slice_get ss p) (stands_of_closed ss p (λ s e. w.closed p s c e)) new
meets_well_formed a w Infer c = (lines_well_formed a w).0
meets_well_formed a w Result c = (lines_well_formed a w).1
meets_well_formed a w Cand c = (lines_well_formed a w).2

not_well_formed : (a : Item) (flaw : Flaw) → IsFirstFlaw a flaw → WellFormed a → ⊥
not_well_formed a flaw f w = first-not_all (MeetsAt a flaw.location) reasons flaw.reason f.first (meets_well_formed a w flaw.location f.checked)

well_formed_of : (a : Item) (ids : List ℕ) → AreNeeded a ids → AllStand a.statements ids → LinesStand a.statements a.ending → WellFormed a
well_formed_of a ids needed stand lines =
    let ss = a.statements in
    let ending = ending_of_lines ss a.ending lines in
    record {
      roots_met = λ u k. All-has (IsMet ss) (roots_of a.ending) u ending.0 k;
      ending_fits = ending.1;
      closed = λ p s n e. closed_of_stands ss p s e (All-has (MayStandAt ss) ids p stand.0 ((needed.exact p (slice_get_within ss p s e)).1 n));
      named_apart = λ p q v x np nq ep eq. stand.1 p q v x ((needed.exact p (slice_get_within ss p (assigned v) ep)).1 np) ((needed.exact q (slice_get_within ss q (assigned x) eq)).1 nq) ep eq;
    }

-- what is found among the statements
pub found_among : (a : Item) (ids : List ℕ) (flaw : Flaw) → AreNeeded a ids → IsFlawAmong a.statements ids flaw → IsNone (Some flaw) ↔ WellFormed a
found_among a ids flaw needed f = ((λ e. absurd (cc)), (λ w. absurd (not_well_formed a flaw (statement_first a ids flaw needed f) w)))

-- what is found among the last lines, after no statement has a flaw

pub found_line : (a : Item) (ids : List ℕ) (o : Option Flaw) → AreNeeded a ids → AllStand a.statements ids →
    MatchOption o (LinesStand a.statements a.ending) (λ flaw. IsFlawOfLines a.statements a.ending flaw.location flaw.reason) → IsNone o ↔ WellFormed a
found_line a ids None needed stand h = ((λ _. well_formed_of a ids needed stand h), (λ _. refl))
found_line a ids (Some flaw) needed stand h = ((λ e. absurd (cc)), (λ w. absurd (not_well_formed a flaw (line_first a ids flaw needed stand h) w)))

pub found_line_first : (a : Item) (ids : List ℕ) (o : Option Flaw) → AreNeeded a ids → AllStand a.statements ids →
    MatchOption o (LinesStand a.statements a.ending) (λ flaw. IsFlawOfLines a.statements a.ending flaw.location flaw.reason) → IfSome o (IsFirstFlaw a)
found_line_first a ids None needed stand h = tt
found_line_first a ids (Some flaw) needed stand h = line_first a ids flaw needed stand h
