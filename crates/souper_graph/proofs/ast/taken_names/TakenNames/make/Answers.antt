use Rattle.std.proofs.Common.{◌≡◌, ℕ, ◌∙◌, inl, inr, map, List, true, false, sym, subst, arith}
use Rattle.std.specs.BTreeSet.{contains_text}
use Rattle.std.specs.String.{string_bytes}
use Rattle.std.proofs.lemmas.Bool.{cases_lt}
use Rattle.std.proofs.lemmas.List.{length-map}
use Rattle.souper_graph.specs.View.{view_statement}
use Rattle.souper_graph.specs.Renaming.{name_of_index}
use Rattle.souper_graph.specs.Building.{IsNameAmong}
use Rattle.souper_graph.proofs.TakenNames.{known-next, first-free}
use Rattle.souper_graph.proofs.ast.taken_names.TakenNames.make.Goals as goal

pub loop-number-init : goal.loop-number-init
loop-number-init c =
    let long = length-map c.args.statements.now view_statement in
    let most = c.max-number-counter.ensures in
    let len = c.len.ensures in
    let all = c.in_ok-look_at.ensures.all in
    record {
      kept = c.look_at.ensures.kept;
      passed = λ k j l m. (c.look_at.ensures.kept k).passed j l (omega arith);
      from = omega arith;
      all = omega arith;
    }

pub loop-number-preserved : goal.loop-number-preserved
loop-number-preserved c =
    let inv = c.loop-number.invariant in
    let n = c.loop-number.number-counter in
    let names = c.loop-number.self.names in
    let is = c.as_str.ensures.value ∙ c.in_ok-name.ensures.ok in
    let has : contains_text names (name_of_index n) ≡ true = subst (λ (t : List ℕ). contains_text names t ≡ true) is (sym c.contains.ensures ∙ c.if-not-contains.false) in
    record {
      kept = inv.kept;
      passed = λ k j l m. elim (cases_lt j n) [
        | inl less ↦ inv.passed k j l less
        | inr more ↦ (let same : n ≡ j = omega arith in
            subst (λ (z : ℕ). IsNameAmong (map view_statement c.args.statements.now) (name_of_index z)) same ((inv.kept k).only (name_of_index n) has))
      ];
      from = omega (arith, inv.from);
      all = inv.all;
    }

pub returns-then-not-contains : goal.returns-then-not-contains
returns-then-not-contains c =
    let inv = c.loop-number.invariant in
    let n = c.loop-number.number-counter in
    let names = c.loop-number.self.names in
    let test = c.loop-number-test.true in
    let ss = map view_statement c.args.statements.now in
    record {
      kept = λ k. known-next ss c.loop-number.self n (inv.kept k) (inv.passed k);
      free = λ k. first-free ss c.loop-number.self n (string_bytes c.in_ok-name.name) (inv.kept k) inv.all inv.from (omega arith) (inv.passed k) c.in_ok-name.ensures.ok
          (subst (λ (t : List ℕ). contains_text names t ≡ false) c.as_str.ensures.value (sym c.contains.ensures ∙ c.if-not-contains.true));
    }
