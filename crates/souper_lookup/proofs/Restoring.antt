-- Statements that are renamed, and then get their names back.
use Rattle.std.proofs.Common.{◌≡◌, ℕ, suc, ◌+◌, ◌<◌, length, map, List, [], ◌∷◌, Bool, true, false, Some, refl, sym, ap, ◌∙◌, subst, arith, append-nil}
use Rattle.std.specs.Prelude.{nat_lt}
use Rattle.std.specs.List.{slice_get}
use Rattle.std.proofs.lemmas.Bool.Decides.{nat_tests}
use Rattle.souper_graph.specs.Values.{PlainStatement}
use Rattle.souper_graph.specs.Uses.{Has}
use Rattle.souper_graph.specs.Text.{name_of, name_at}
use Rattle.souper_graph.specs.Sameness.{place}
use Rattle.souper_graph.specs.Renaming.{with_name, name_in, named_at, named_from, name_of_index}
use Rattle.souper_graph.proofs.Sameness.Indices.{at-place, place-front}
use Rattle.souper_graph.proofs.Sameness.Nameless.{named-twice}
use Rattle.souper_graph.proofs.Sameness.Named.{own-name}
use Rattle.souper_lookup.proofs.Instances.{name-mapped}

below : (m n : ℕ) → nat_lt m n ≡ true → m < n
below m n e = grind (arith, nat_tests)

module _ (whole : List PlainStatement) (ids : List ℕ) where
  abbrev names : List (List ℕ)
  names = map (name_at whole) ids

  restored-at : (i : ℕ) (s : PlainStatement) → slice_get whole i ≡ Some s → named_at (name_in names) ids i (named_at name_of_index ids i s) ≡ s
  restored-at i s is = under (nat_lt (place ids i) (length ids)) refl
    where
      under : (b : Bool) → nat_lt (place ids i) (length ids) ≡ b → named_at (name_in names) ids i (named_at name_of_index ids i s) ≡ s
      under true e =
          let l = below (place ids i) (length ids) e in
          let there : Has ids i = place-front ids [] i (subst (λ (xs : List ℕ). place xs i < length ids) (sym (append-nil ids)) l) in
          let name : name_in names (place ids i) ≡ name_of (Some s) = name-mapped (name_at whole) ids (place ids i) l ∙ ap (name_at whole) (at-place ids i 0 there) ∙ ap name_of is in
          rw e (named-twice (name_in names (place ids i)) (name_of_index (place ids i)) s ∙ ap (λ (n : List ℕ). with_name n s) name ∙ own-name s)
      under false e = rw e refl

  restored-from : (k : ℕ) (ss : List PlainStatement) → ((j : ℕ) (s : PlainStatement) → slice_get ss j ≡ Some s → slice_get whole (k + j) ≡ Some s) → named_from (name_in names) ids k (named_from name_of_index ids k ss) ≡ ss
  restored-from k [] h = refl
  restored-from k (s ∷ ss) h =
      let first = restored-at k s (subst (λ (i : ℕ). slice_get whole i ≡ Some s) (omega arith) (h 0 s refl)) in
      let rest = restored-from (suc k) ss (λ j t e. subst (λ (i : ℕ). slice_get whole i ≡ Some t) (omega arith) (h (suc j) t e)) in
      λ i. first i ∷ rest i

-- the names of the statements at these positions, put back after these statements were renamed
pub restored : (ss : List PlainStatement) (ids : List ℕ) → named_from (name_in (map (name_at ss) ids)) ids 0 (named_from name_of_index ids 0 ss) ≡ ss
restored ss ids = restored-from ss ids 0 ss (λ j s e. subst (λ (i : ℕ). slice_get ss i ≡ Some s) (omega arith) e)
