use Rattle.std.proofs.Common.{◌<◌, ◌≤◌, ◌++◌, ℕ, suc, List, [], ◌∷◌, length, inl, refl, sym, ap, ◌∙◌, subst, arith}
use Rattle.souper_graph.proofs.Lists.{Has-right}
use Rattle.souper_embedding.specs.declared.search.Embedding.{Embedding}
use Rattle.souper_embedding.specs.Search.{conditions_in}
use Rattle.souper_embedding.specs.States.{stored_of, query_of, AreSearched}
use Rattle.souper_embedding.proofs.Listing.{searched-next, searched-found, one-longer-list}
use Rattle.souper_embedding.proofs.Work.{work-less, work-taken}
use Rattle.souper_embedding.proofs.search.advance.Goals as goal

pub expand-requires : goal.expand-requires
expand-requires c = subst (λ (z : List ℕ). length z < length c.args.search.now.conditions.now) c.as_slice.ensures.value (c.is_whole.ensures.part c.if-not-is_whole.true)

pub returns-then-not-is_whole-clause-less : goal.returns-then-not-is_whole-clause-less
returns-then-not-is_whole-clause-less c = λ t.
    let below : length c.args.state.images.items < length c.args.search.now.conditions.now = subst (λ (z : List ℕ). length z < length c.args.search.now.conditions.now) c.as_slice.ensures.value (c.is_whole.ensures.part c.if-not-is_whole.true) in
    work-less (length c.args.search.now.given.now) (length c.args.search.now.conditions.now) (length c.args.state.images.items) c.args.state (c.args.waiting.now.items ++ c.args.state ∷ []) c.append.new.self.items c.args.waiting.now.items c.in_ok-next.next.items
    refl c.in_ok-append.ensures.items c.in_ok-next.ensures.few c.in_ok-next.ensures.longer refl below

pub returns-then-not-is_whole-clause-goes : goal.returns-then-not-is_whole-clause-goes
returns-then-not-is_whole-clause-goes c = λ t i j start is wl h.
    let ss = stored_of c.args.search.now in
    let qs = query_of c.args.search.now in
    let x = c.args.state in
    let below : length c.args.state.images.items < length c.args.search.now.conditions.now = subst (λ (z : List ℕ). length z < length c.args.search.now.conditions.now) c.as_slice.ensures.value (c.is_whole.ensures.part c.if-not-is_whole.true) in
    let l : length c.args.state.images.items < length (conditions_in ss) = subst (λ (z : List ℕ). length c.args.state.images.items < length z) is.conditions below in
    let here = h.each x (Has-right c.args.waiting.now.items (x ∷ []) x (inl refl)) in
    subst (λ (z : List Embedding). AreSearched ss qs i j start c.args.found.now.items z) (sym c.in_ok-append.ensures.items)
    (searched-next ss qs i j start x c.args.search.now.given.now c.args.found.now.items c.args.waiting.now.items c.in_ok-next.next.items is.given l h (c.in_ok-next.ensures.next i j is wl here))

pub returns-then-is_full-clause-full : goal.returns-then-is_full-clause-full
returns-then-is_full-clause-full c = λ f. (
  subst (λ (z : List ℕ). length c.args.search.now.conditions.now ≤ length z) c.as_slice.ensures.value (c.is_whole.ensures.whole c.if-not-is_whole.false),
  subst (λ (z : List Embedding). c.args.limit ≤ length z) c.deref.ensures.value (c.is_full.ensures.full c.if-is_full.true),
  refl,
)

pub returns-clause-less : goal.returns-clause-less
returns-clause-less c = λ t. work-taken (suc (length c.args.search.now.given.now)) (length c.args.search.now.conditions.now) c.args.state c.args.waiting.now.items (omega arith)

pub returns-clause-goes : goal.returns-clause-goes
returns-clause-goes c = λ t i j start is wl h.
    let ss = stored_of c.args.search.now in
    let qs = query_of c.args.search.now in
    let l : length (conditions_in ss) ≤ length c.args.state.images.items = subst (λ (z : List ℕ). length z ≤ length c.args.state.images.items) is.conditions (subst (λ (z : List ℕ). length c.args.search.now.conditions.now ≤ length z) c.as_slice.ensures.value (c.is_whole.ensures.whole c.if-not-is_whole.false)) in
    subst (λ (z : List Embedding). AreSearched ss qs i j start z c.args.waiting.now.items) (sym c.in_ok-push.ensures.items)
    (searched-found ss qs i j start c.args.state c.args.found.now.items c.args.waiting.now.items l h)

pub returns-clause-few : goal.returns-clause-few
returns-clause-few c = λ l.
    let below : length c.args.found.now.items < c.args.limit = subst (λ (z : List Embedding). length z < c.args.limit) c.deref.ensures.value (c.is_full.ensures.part c.if-is_full.false) in
    let e = ap length c.in_ok-push.ensures.items ∙ one-longer-list c.args.found.now.items c.args.state in
    omega arith
