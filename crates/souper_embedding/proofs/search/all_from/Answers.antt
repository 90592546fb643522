use Rattle.std.proofs.Common.{◌≡◌, ◌<◌, ◌≤◌, ◌++◌, ℕ, List, [], ◌∷◌, length, true, false, rules, refl, sym, ap, ◌∙◌, subst, arith}
use Rattle.souper_embedding.specs.declared.search.Embedding.{Embedding}
use Rattle.souper_embedding.specs.States.{stored_of, query_of, AreSearched, work_in}
use Rattle.souper_embedding.proofs.Listing.{searched-start, all-found, cut-found}
use Rattle.souper_embedding.proofs.search.all_from.Goals as goal

pub loop-state-init : goal.loop-state-init
loop-state-init c = record {
  few = subst (λ (z : List Embedding). length z ≤ c.args.limit) (sym c.new-found.ensures.items) (omega arith);
  searched = λ i j is wl start. (
      let all = c.in_ok-push.ensures.items ∙ ap (λ (z : List Embedding). z ++ c.args.start ∷ []) c.new-waiting.ensures.items in
      subst (λ (z : List Embedding). AreSearched (stored_of c.args.search.now) (query_of c.args.search.now) i j c.args.start c.new-found.result.items z) (sym all)
      (subst (λ (z : List Embedding). AreSearched (stored_of c.args.search.now) (query_of c.args.search.now) i j c.args.start z (c.args.start ∷ [])) (sym c.new-found.ensures.items)
      (searched-start (stored_of c.args.search.now) (query_of c.args.search.now) i j c.args.start start.none start.state)));
}

pub loop-state-smaller : goal.loop-state-smaller
loop-state-smaller c = subst (λ (z : List Embedding). work_in c.args.search.now c.advance.new.waiting.items < work_in c.args.search.now z) (sym c.in-Some.ensures.items) (c.in_ok-goes.ensures.less c.if-not-goes.false)

pub loop-state-preserved : goal.loop-state-preserved
loop-state-preserved c = record {
  few = c.in_ok-goes.ensures.few c.loop-state.invariant.few;
  searched = λ i j is wl start. c.in_ok-goes.ensures.goes c.if-not-goes.false i j c.args.start is wl
      (subst (λ (z : List Embedding). AreSearched (stored_of c.args.search.now) (query_of c.args.search.now) i j c.args.start c.loop-state.found.items z) c.in-Some.ensures.items (c.loop-state.invariant.searched i j is wl start));
}

pub returns-then-not-goes : goal.returns-then-not-goes
returns-then-not-goes c = λ i j is wl start follows.
    let ss = stored_of c.args.search.now in
    let qs = query_of c.args.search.now in
    let full = c.in_ok-goes.ensures.full c.if-not-goes.true in
    let h = subst (λ (z : List Embedding). AreSearched ss qs i j c.args.start c.loop-state.found.items z) c.in-Some.ensures.items (c.loop-state.invariant.searched i j is wl start) in
    let now = subst (λ (z : List Embedding). AreSearched ss qs i j c.args.start z (c.pop.new.self.items ++ c.in-Some.state ∷ [])) (sym full.2) h in
    cut-found ss qs i j c.args.start c.in-Some.state c.args.search.now.given.now c.args.limit (record { found = c.advance.new.found; are_all = false }) c.pop.new.self.items wl is.given start.wanted follows
    (subst (λ (z : List Embedding). length z ≤ c.args.limit) (sym full.2) c.loop-state.invariant.few) (subst (λ (z : List Embedding). c.args.limit ≤ length z) (sym full.2) full.1)
    (subst (λ (z : List ℕ). length z ≤ length c.in-Some.state.images.items) is.conditions full.0) refl now

pub returns : goal.returns
returns c = λ i j is wl start follows.
    let ss = stored_of c.args.search.now in
    let qs = query_of c.args.search.now in
    let nothing : c.loop-state.waiting.items ≡ [] = search rules in
    all-found ss qs i j c.args.start c.args.search.now.given.now c.args.limit (record { found = c.loop-state.found; are_all = true }) is.given start.wanted follows c.loop-state.invariant.few refl
    (subst (λ (z : List Embedding). AreSearched ss qs i j c.args.start c.loop-state.found.items z) nothing (c.loop-state.invariant.searched i j is wl start))
