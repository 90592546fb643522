use Rattle.std.proofs.Common.{◌≡◌, ℕ, ◌+◌, ◌++◌, ◌∙◌, sym, ap, subst, refl, rules, map, true, false, List, [], ◌∷◌, Some, None, take}
use Rattle.std.specs.Borrow.{Bor}
use Rattle.std.specs.BTreeSet.{BTreeSet}
use Rattle.std.specs.List.{AllByRecursion}
use Rattle.std.proofs.lemmas.List.{take_more, take_all}
use Rattle.souper_graph.specs.View.{view_statement}
use Rattle.souper_graph.specs.Judging.{assigned_name_at, MayStandAt}
use Rattle.souper_graph.proofs.Judging.Names.{NamesAre, Apart, has_name, names_more, names_same, apart_more, fresh_new, fresh_none, apart_to, was_there, was_new}
use Rattle.souper_graph.proofs.FlawSearch.Statements.{among_alone, among_name, stand_more}
use Rattle.souper_graph.proofs.ast.well_formed.finding.flaw_among.Goals as goal
use Rattle.souper_graph.proofs.ast.well_formed.finding.flaw_among.Goals.{in-Some-name_at+in_ok-insert+else-not-branch, in_default-name_at}

pub returns-in-Some : goal.returns-in-Some
returns-in-Some c =
    among_alone (map view_statement c.args.statements.now) c.args.ids.now c.loop-id.id-index c.id-item.result _ c.in-Some.reason (search rules) c.id-item.is refl refl
    c.loop-id.invariant.stand c.loop-id.invariant.apart c.in-Some.ensures

pub returns-then-not-branch : goal.returns-then-not-branch
returns-then-not-branch c =
    let ss = map view_statement c.args.statements.now in
    let n = c.in-Some-name_at.name.now in
    let found : has_name ss (take c.loop-id.id-index c.args.ids.now) n ≡ true = sym (c.loop-id.invariant.tie n) ∙ was_there c.in_ok-insert.field-0 _ c.in_ok-insert.ensures.added (search rules) in
    among_name ss c.args.ids.now c.loop-id.id-index c.id-item.result _ n (search rules) c.id-item.is refl refl
    c.loop-id.invariant.stand c.loop-id.invariant.apart c.in_default.ensures (sym c.in-Some-name_at.ensures) found

pub loop-id-preserved : goal.loop-id-preserved
loop-id-preserved c =
    let ss = map view_statement c.args.statements.now in
    let ids = c.args.ids.now in
    let i = c.loop-id.id-index in
    let x = c.id-item.result in
    let push : take (i + 1) ids ≡ take i ids ++ x ∷ [] = take_more ids i x (search rules) ∙ ap (λ (z : ℕ). take i ids ++ z ∷ []) (sym c.id-item.is) in
    let stand = subst (λ (zs : List ℕ). AllByRecursion (MayStandAt ss) zs) (sym push) (stand_more ss (take i ids) x c.loop-id.invariant.stand c.in_default.ensures) in
    elim c.match-name_at.branch [
      | in-Some-name_at+in_ok-insert+else-not-branch w ↦
          let n = w.in-Some-name_at.name.now in
          let here : assigned_name_at ss x ≡ Some n = sym w.in-Some-name_at.ensures in
          let new : has_name ss (take i ids) n ≡ false = sym (c.loop-id.invariant.tie n) ∙ was_new w.in_ok-insert.field-0 _ w.in_ok-insert.ensures.added (search rules) in
          record {
            stand = stand;
            tie = subst (λ (zs : List ℕ). NamesAre c.match-name_at.names ss zs) (sym push) (subst (λ (s : BTreeSet (Bor (List ℕ))). NamesAre s ss (take i ids ++ x ∷ [])) (sym w.names-is) (names_more c.loop-id.names w.insert.new.self ss (take i ids) x w.in-Some-name_at.name c.loop-id.invariant.tie w.in_ok-insert.ensures.updates here));
            apart = subst (Apart ss) (sym push) (apart_more ss (take i ids) x (fresh_new ss (take i ids) x n here new) c.loop-id.invariant.apart);
          }
      | in_default-name_at w ↦
          let none : assigned_name_at ss x ≡ None = sym w.in_default-name_at.ensures in
          record {
            stand = stand;
            tie = subst (λ (zs : List ℕ). NamesAre c.match-name_at.names ss zs) (sym push) (subst (λ (s : BTreeSet (Bor (List ℕ))). NamesAre s ss (take i ids ++ x ∷ [])) (sym w.names-is) (names_same c.loop-id.names ss (take i ids) x c.loop-id.invariant.tie none));
            apart = subst (Apart ss) (sym push) (apart_more ss (take i ids) x (fresh_none ss (take i ids) x none) c.loop-id.invariant.apart);
          }
    ]

pub returns : goal.returns
returns c =
    let ss = map view_statement c.args.statements.now in
    let all = take_all c.loop-id.id-index c.args.ids.now c.loop-id-test.false in (
      subst (λ (zs : List ℕ). AllByRecursion (MayStandAt ss) zs) all c.loop-id.invariant.stand,
      apart_to ss c.args.ids.now (subst (Apart ss) all c.loop-id.invariant.apart),
    )
