use Rattle.std.proofs.Common.{◌≡◌, ℕ, suc, ◌-◌, ◌<◌, List, length, map, get_or, true, false, Option, Some, None, refl, sym, ap, ◌∙◌, subst, arith}
use Rattle.std.specs.Prelude.{slice_get}
use Rattle.std.proofs.lemmas.Option.{slice_get-get_or}
use Rattle.souper_graph.specs.View.{view_statement}
use Rattle.souper_embedding.proofs.Walking.{WalkedAbove, walked-past, walked-next, walked-all, forced-next}
use Rattle.souper_embedding.proofs.walk.walk.Goals as goal

goes : (m : List (Option ℕ)) (k : ℕ) (o : Option ℕ) → k < length m → get_or m k None ≡ o → slice_get m k ≡ Some o
goes m k o l e = slice_get-get_or m k None l ∙ ap (λ z. Some z) e

pub returns-then-not-bind_at-clause-forced : goal.returns-then-not-bind_at-clause-forced
returns-then-not-bind_at-clause-forced c = λ walks f below known w each.
    let ss = map view_statement c.args.stored.now in
    let qs = map view_statement c.args.query.now in
    let l : c.loop-left.left - 1 < length c.loop-left.to = omega arith in
    let at = goes c.loop-left.to (c.loop-left.left - 1) (Some c.in-Some.image) l c.in-Some.is in
    let above = c.loop-left.invariant.walked walks below known in
    let follows = c.loop-left.invariant.forced walks f below known w each in
    let s = forced-next ss qs walks c.loop-left.to (c.loop-left.left - 1) c.in-Some.image f below above.needed at follows each in
    let one = c.bind_at.ensures.forced f follows s.0 s.1 in
    let n : true ≡ false = sym one.0 ∙ c.if-not-bind_at.true in absurd (cc)

pub loop-left-preserved-else-not-bind_at : goal.loop-left-preserved-else-not-bind_at
loop-left-preserved-else-not-bind_at c =
    let ss = map view_statement c.args.stored.now in
    let qs = map view_statement c.args.query.now in
    let l : c.loop-left.left - 1 < length c.loop-left.to = omega arith in
    let at = goes c.loop-left.to (c.loop-left.left - 1) (Some c.in-Some.image) l c.in-Some.is in
    let bound = c.bind_at.ensures.bound c.if-not-bind_at.false in
    let next : suc (c.loop-left.left - 1) ≡ c.loop-left.left = omega arith in
    record {
      long = bound.long ∙ c.loop-left.invariant.long;
      within = let long = bound.long in omega arith;
      walked = λ walks below known. walked-next ss qs walks c.args.to.now c.loop-left.to c.bind_at.new.to c.loop-left.left (c.loop-left.left - 1) c.in-Some.image next below (c.loop-left.invariant.walked walks below known) at bound
          (c.bind_at.ensures.sound c.if-not-bind_at.false);
      forced = λ walks f below known w each. (
          let above = c.loop-left.invariant.walked walks below known in
          let follows = c.loop-left.invariant.forced walks f below known w each in
          let s = forced-next ss qs walks c.loop-left.to (c.loop-left.left - 1) c.in-Some.image f below above.needed at follows each in
          (c.bind_at.ensures.forced f follows s.0 s.1).1);
    }

pub loop-left-preserved : goal.loop-left-preserved
loop-left-preserved c =
    let ss = map view_statement c.args.stored.now in
    let qs = map view_statement c.args.query.now in
    let l : c.loop-left.left - 1 < length c.loop-left.to = omega arith in
    let none = goes c.loop-left.to (c.loop-left.left - 1) None l c.in_default.is in
    let next : suc (c.loop-left.left - 1) ≡ c.loop-left.left = omega arith in
    record {
      long = c.loop-left.invariant.long;
      within = omega arith;
      walked = λ walks below known. walked-past ss qs walks c.args.to.now c.loop-left.to c.loop-left.left (c.loop-left.left - 1) next (c.loop-left.invariant.walked walks below known) none;
      forced = c.loop-left.invariant.forced;
    }

pub returns-clause-walked : goal.returns-clause-walked
returns-clause-walked c = λ t walks below known.
    let ss = map view_statement c.args.stored.now in
    let qs = map view_statement c.args.query.now in
    let none : c.loop-left.left ≡ 0 = omega arith in
    walked-all ss qs walks c.args.to.now c.loop-left.to c.loop-left.invariant.long (subst (λ n. WalkedAbove ss qs walks c.args.to.now c.loop-left.to n) none (c.loop-left.invariant.walked walks below known))

pub returns-clause-forced : goal.returns-clause-forced
returns-clause-forced c = λ walks f below known w each. (refl, c.loop-left.invariant.forced walks f below known w each)
