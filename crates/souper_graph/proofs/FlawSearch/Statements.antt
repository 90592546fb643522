-- The first flaw of a list of statements.
use Rattle.std.proofs.Common.{◌≡◌, ◌∙◌, ℕ, ◌<◌, ◌++◌, List, [], ◌∷◌, true, Some, length, take, get_or, sym, ap, subst}
use Rattle.std.specs.Prelude.{slice_get}
use Rattle.std.specs.List.{AllByRecursion}
use Rattle.std.proofs.lemmas.List.{get_or_default}
use Rattle.souper_graph.specs.declared.ast.flaws.Flaw.{Flaw}
use Rattle.souper_graph.specs.declared.ast.flaws.FlawLocation.TheVariants.{Statement}
use Rattle.souper_graph.specs.declared.ast.flaws.FlawReason.{FlawReason}
use Rattle.souper_graph.specs.declared.ast.flaws.FlawReason.TheVariants.{DuplicateName}
use Rattle.souper_graph.specs.Values.{PlainStatement}
use Rattle.souper_graph.specs.Uses.{Has}
use Rattle.souper_graph.specs.Judging.{assigned_name_at, MayStandAt}
use Rattle.souper_graph.specs.Flaws.{StatementMeets, IsNamedAnew, reasons_alone, reasons, IsFirstFailing}
use Rattle.souper_graph.specs.FlawSearch.{StatementMeetsAlone, IsFlawAmong}
use Rattle.souper_graph.proofs.Judging.Closed.{All-both}
use Rattle.souper_graph.proofs.Judging.Names.{Apart, has_name, has_name_true, apart_to}
use Rattle.souper_graph.proofs.FlawSearch.Reasons.{stands_of_reasons, first_alone, first_name}

among : (ss : List PlainStatement) (ids : List ℕ) (i x : ℕ) (flaw : Flaw) (r : FlawReason) → i < length ids → x ≡ get_or ids i x → flaw.location ≡ Statement x → flaw.reason ≡ r →
    AllByRecursion (MayStandAt ss) (take i ids) → Apart ss (take i ids) → IsFirstFailing (StatementMeets ss (Has (take i ids)) x (slice_get ss x)) reasons r → IsFlawAmong ss ids flaw
among ss ids i x flaw r l e there why all apart first =
    let at : x ≡ get_or ids i 0 = e ∙ get_or_default ids i x 0 l in
    record {
      index = i;
      within = l;
      there = there ∙ ap (λ z. Statement z) at;
      stand = (all, apart_to ss (take i ids) apart);
      first = subst (λ (z : ℕ). IsFirstFailing (StatementMeets ss (Has (take i ids)) z (slice_get ss z)) reasons flaw.reason) at
          (subst (λ (q : FlawReason). IsFirstFailing (StatementMeets ss (Has (take i ids)) x (slice_get ss x)) reasons q) (sym why) first);
    }

-- a statement that has a flaw whatever names the others have
pub among_alone : (ss : List PlainStatement) (ids : List ℕ) (i x : ℕ) (flaw : Flaw) (r : FlawReason) → i < length ids → x ≡ get_or ids i x → flaw.location ≡ Statement x → flaw.reason ≡ r →
    AllByRecursion (MayStandAt ss) (take i ids) → Apart ss (take i ids) → IsFirstFailing (StatementMeetsAlone ss x (slice_get ss x)) reasons_alone r → IsFlawAmong ss ids flaw
among_alone ss ids i x flaw r l e there why all apart first = among ss ids i x flaw r l e there why all apart (first_alone ss (Has (take i ids)) x (slice_get ss x) r first)

-- a statement that has the name of an earlier one
pub among_name : (ss : List PlainStatement) (ids : List ℕ) (i x : ℕ) (flaw : Flaw) (n : List ℕ) → i < length ids → x ≡ get_or ids i x → flaw.location ≡ Statement x → flaw.reason ≡ DuplicateName →
    AllByRecursion (MayStandAt ss) (take i ids) → Apart ss (take i ids) → AllByRecursion (StatementMeetsAlone ss x (slice_get ss x)) reasons_alone →
    assigned_name_at ss x ≡ Some n → has_name ss (take i ids) n ≡ true → IsFlawAmong ss ids flaw
among_name ss ids i x flaw n l e there why all apart alone named found =
    let not_new : ¬ IsNamedAnew ss (Has (take i ids)) x = λ new. let w = has_name_true ss (take i ids) n found in new w.0 n w.1 w.2 named in
    among ss ids i x flaw DuplicateName l e there why all apart (first_name ss (Has (take i ids)) x (slice_get ss x) n named alone not_new)

pub stand_more : (ss : List PlainStatement) (ids : List ℕ) (x : ℕ) → AllByRecursion (MayStandAt ss) ids → AllByRecursion (StatementMeetsAlone ss x (slice_get ss x)) reasons_alone → AllByRecursion (MayStandAt ss) (ids ++ x ∷ [])
stand_more ss ids x all alone = All-both (MayStandAt ss) ids (x ∷ []) all (stands_of_reasons ss x (slice_get ss x) alone, tt)
