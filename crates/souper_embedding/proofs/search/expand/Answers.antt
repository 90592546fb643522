use Rattle.std.proofs.Common.{◌≡◌, suc, ◌+◌, ◌-◌, ◌<◌, ◌≤◌, List, length, get_or, Some, sym, subst, arith}
use Rattle.std.specs.Prelude.{slice_get}
use Rattle.std.proofs.lemmas.Option.{slice_get-get_or}
use Rattle.souper_graph.specs.Uses.{Has}
use Rattle.souper_embedding.specs.declared.search.Embedding.{Embedding}
use Rattle.souper_embedding.specs.States.{stored_of, query_of, AreNext}
use Rattle.souper_embedding.proofs.Given.{number-has}
use Rattle.souper_embedding.proofs.Stacks.{next-start, next-step, step-few, step-longer}
use Rattle.souper_embedding.proofs.search.expand.Goals as goal

pub loop-left-init : goal.loop-left-init
loop-left-init c = record {
  few = subst (λ (z : List Embedding). length z + length c.args.search.now.given.now ≤ length c.args.search.now.given.now) (sym c.new-found.ensures.items) (omega arith);
  longer = λ y m. absurd (subst (λ (z : List Embedding). Has z y) c.new-found.ensures.items m);
  next = λ i j is wl state. subst (λ (z : List Embedding). AreNext (stored_of c.args.search.now) (query_of c.args.search.now) i j c.args.search.now.given.now c.args.state.now (length c.args.search.now.given.now) z) (sym c.new-found.ensures.items)
      (next-start (stored_of c.args.search.now) (query_of c.args.search.now) i j c.args.search.now.given.now c.args.state.now (length c.args.search.now.given.now) (omega arith));
}

pub loop-left-preserved : goal.loop-left-preserved
loop-left-preserved c =
    let given = c.args.search.now.given.now in
    let k = c.loop-left.left - 1 in
    let q = get_or given k 0 in
    let positive : 0 < c.loop-left.left = omega arith in
    let few : length c.loop-left.found.items + c.loop-left.left ≤ length given = c.loop-left.invariant.few in
    let l : c.loop-left.left - 1 < length given = omega arith in
    let next : suc (c.loop-left.left - 1) ≡ c.loop-left.left = omega arith in
    let at : slice_get given (c.loop-left.left - 1) ≡ Some (get_or given (c.loop-left.left - 1) 0) = slice_get-get_or given (c.loop-left.left - 1) 0 l in
    let new = c.in_ok-push_next.ensures in
    record {
      few = step-few c.loop-left.found.items c.push_next.new.found.items c.in_ok-next.next c.loop-left.left (length given) new few positive;
      longer = λ y m. step-longer c.args.state.now q c.loop-left.found.items c.in_ok-next.next c.loop-left.invariant.longer c.in_ok-next.ensures.longer y (subst (λ (z : List Embedding). Has z y) new m);
      next = λ i j is wl state. subst (λ (z : List Embedding). AreNext (stored_of c.args.search.now) (query_of c.args.search.now) i j given c.args.state.now k z) (sym new)
          (next-step (stored_of c.args.search.now) (query_of c.args.search.now) i j given c.args.state.now c.loop-left.left k q c.loop-left.found.items c.in_ok-next.next is.given next at
          (c.loop-left.invariant.next i j is wl state) (c.in_ok-next.ensures.next i j is wl state (is.given.first q (number-has given k l)).first) (λ f images rest t e. c.in_ok-next.ensures.forced i j f images rest is wl state t e));
    }

pub returns-clause-few : goal.returns-clause-few
returns-clause-few c = let few = c.loop-left.invariant.few in omega arith

pub returns-clause-next : goal.returns-clause-next
returns-clause-next c = λ i j is wl state.
    let none : c.loop-left.left ≡ 0 = omega arith in
    subst (λ n. AreNext (stored_of c.args.search.now) (query_of c.args.search.now) i j c.args.search.now.given.now c.args.state.now n c.loop-left.found.items) none (c.loop-left.invariant.next i j is wl state)
