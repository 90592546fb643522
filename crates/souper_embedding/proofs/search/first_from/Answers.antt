use Rattle.std.proofs.Common.{◌≡◌, ℕ, ◌<◌, ◌≤◌, ◌++◌, List, [], ◌∷◌, length, inl, rules, refl, sym, ap, ◌∙◌, subst}
use Rattle.souper_graph.proofs.Lists.{Has-right}
use Rattle.souper_embedding.specs.declared.search.Embedding.{Embedding}
use Rattle.souper_embedding.specs.Search.{conditions_in}
use Rattle.souper_embedding.specs.States.{stored_of, query_of, AreWaiting}
use Rattle.souper_embedding.proofs.Stacks.{waiting-start, waiting-next, waiting-first, waiting-none}
use Rattle.souper_embedding.proofs.Work.{work-less}
use Rattle.souper_embedding.proofs.search.first_from.Goals as goal

pub loop-state-init : goal.loop-state-init
loop-state-init c = λ i j is wl state none.
    let all = c.in_ok-push.ensures.items ∙ ap (λ (z : List Embedding). z ++ c.args.start ∷ []) c.new-waiting.ensures.items in
    subst (λ (z : List Embedding). AreWaiting (stored_of c.args.search.now) (query_of c.args.search.now) i j c.args.start z) (sym all) (waiting-start (stored_of c.args.search.now) (query_of c.args.search.now) i j c.args.start none state)

pub expand-requires : goal.expand-requires
expand-requires c = subst (λ (z : List ℕ). length z < length c.args.search.now.conditions.now) c.as_slice.ensures.value (c.is_whole.ensures.part c.if-is_whole.false)

pub loop-state-preserved : goal.loop-state-preserved
loop-state-preserved c = λ i j is wl state none.
    let ss = stored_of c.args.search.now in
    let qs = query_of c.args.search.now in
    let x = c.in-Some.state in
    let before : AreWaiting ss qs i j c.args.start (c.pop.new.self.items ++ c.in-Some.state ∷ []) = subst (λ (z : List Embedding). AreWaiting ss qs i j c.args.start z) c.in-Some.ensures.items (c.loop-state.invariant i j is wl state none) in
    let below : length c.in-Some.state.images.items < length c.args.search.now.conditions.now = subst (λ (z : List ℕ). length z < length c.args.search.now.conditions.now) c.as_slice.ensures.value (c.is_whole.ensures.part c.if-is_whole.false) in
    let l : length c.in-Some.state.images.items < length (conditions_in ss) = subst (λ (z : List ℕ). length c.in-Some.state.images.items < length z) is.conditions below in
    let here = before.each x (Has-right c.pop.new.self.items (x ∷ []) x (inl refl)) in
    subst (λ (z : List Embedding). AreWaiting ss qs i j c.args.start z) (sym c.in_ok-append.ensures.items)
    (waiting-next ss qs i j c.args.start x c.args.search.now.given.now c.pop.new.self.items c.in_ok-next.next.items is.given l before (c.in_ok-next.ensures.next i j is wl here))

pub loop-state-smaller : goal.loop-state-smaller
loop-state-smaller c =
    let below : length c.in-Some.state.images.items < length c.args.search.now.conditions.now = subst (λ (z : List ℕ). length z < length c.args.search.now.conditions.now) c.as_slice.ensures.value (c.is_whole.ensures.part c.if-is_whole.false) in
    work-less (length c.args.search.now.given.now) (length c.args.search.now.conditions.now) (length c.in-Some.state.images.items) c.in-Some.state c.loop-state.waiting.items c.append.new.self.items c.pop.new.self.items c.in_ok-next.next.items
    c.in-Some.ensures.items c.in_ok-append.ensures.items c.in_ok-next.ensures.few c.in_ok-next.ensures.longer refl below

pub returns-then-is_whole-clause-first : goal.returns-then-is_whole-clause-first
returns-then-is_whole-clause-first c = λ i j is wl state none.
    let ss = stored_of c.args.search.now in
    let qs = query_of c.args.search.now in
    let x = c.in-Some.state in
    let before : AreWaiting ss qs i j c.args.start (c.pop.new.self.items ++ c.in-Some.state ∷ []) = subst (λ (z : List Embedding). AreWaiting ss qs i j c.args.start z) c.in-Some.ensures.items (c.loop-state.invariant i j is wl state none) in
    let above : length c.args.search.now.conditions.now ≤ length c.in-Some.state.images.items = subst (λ (z : List ℕ). length c.args.search.now.conditions.now ≤ length z) c.as_slice.ensures.value (c.is_whole.ensures.whole c.if-is_whole.true) in
    waiting-first ss qs i j c.args.start x c.pop.new.self.items (subst (λ (z : List ℕ). length z ≤ length c.in-Some.state.images.items) is.conditions above) before

pub returns-clause-none : goal.returns-clause-none
returns-clause-none c = λ empty i j f images is wl state none t.
    let ss = stored_of c.args.search.now in
    let qs = query_of c.args.search.now in
    let nothing : c.loop-state.waiting.items ≡ [] = search rules in
    waiting-none ss qs i j c.args.start f images (subst (λ (z : List Embedding). AreWaiting ss qs i j c.args.start z) nothing (c.loop-state.invariant i j is wl state none)) t
