use Rattle.std.proofs.Common.{ℕ, List, [], ◌∷◌, ◌++◌, length, get_or, Option, Vec, Global, ap, ◌∙◌, subst}
use Rattle.std.specs.Prelude.{IfSome, IsSomeAnd}
use Rattle.souper_graph.specs.Values.{PlainInfer}
use Rattle.souper_embedding.specs.Maps.{Follows}
use Rattle.souper_embedding.specs.Search.{IsAtCondition, IsMet}
use Rattle.souper_embedding.specs.States.{stored_of, query_of}
use Rattle.souper_embedding.proofs.States.{at-next, next-state, target-taken}
use Rattle.souper_embedding.proofs.search.next_by.Goals as goal

abbrev Map : Type 0
Map = Vec (Option ℕ) Global

pub returns-in_ok-images-in-Some-clause-longer : goal.returns-in_ok-images-in-Some-clause-longer
returns-in_ok-images-in-Some-clause-longer c = c.in_ok-images-in-Some.ensures ∙ ap (λ (z : List ℕ). z ++ c.args.q ∷ []) c.as_slice.ensures.value

pub returns-in_ok-images-in-Some-clause-next : goal.returns-in_ok-images-in-Some-clause-next
returns-in_ok-images-in-Some-clause-next c = λ i j is wl state first.
    let ss = stored_of c.args.search.now in
    let qs = query_of c.args.search.now in
    let x = c.args.state.now in
    let at = at-next ss qs i j x c.args.search.now.conditions.now c.deref.result.now c.len.result c.deref.ensures.value (c.len.ensures ∙ c.args.state.now.images.ok.0) wl is.conditions c.requires state in
    let met = subst (λ (o : Option Map). IfSome o (λ next. (i j : PlainInfer) (k : ℕ) → IsAtCondition ss qs i j c.deref.result.now k (get_or c.args.search.now.conditions.now c.len.result 0)
    → IsMet ss qs i j c.deref.result.now next.items k (get_or c.args.search.now.conditions.now c.len.result 0) c.args.q)) c.in-Some.is c.in_ok-map.ensures.met in
    next-state ss qs i j x (record { map = c.in-Some.map; images = c.in_ok-images-in-Some.images }) c.deref.result.now (get_or c.args.search.now.conditions.now c.len.result 0) c.args.q c.deref.ensures.value at state
    (met i j (length x.images.items) at) (c.in_ok-images-in-Some.ensures ∙ ap (λ (z : List ℕ). z ++ c.args.q ∷ []) c.as_slice.ensures.value) first

pub returns-in_ok-images-in-Some-clause-forced : goal.returns-in_ok-images-in-Some-clause-forced
returns-in_ok-images-in-Some-clause-forced c = λ i j f images rest is wl state t e.
    let ss = stored_of c.args.search.now in
    let qs = query_of c.args.search.now in
    let x = c.args.state.now in
    let at = at-next ss qs i j x c.args.search.now.conditions.now c.deref.result.now c.len.result c.deref.ensures.value (c.len.ensures ∙ c.args.state.now.images.ok.0) wl is.conditions c.requires state in
    let taken = target-taken ss qs i j x c.deref.result.now (get_or c.args.search.now.conditions.now c.len.result 0) c.args.q f images rest c.deref.ensures.value at t e in
    subst (λ (o : Option Map). IsSomeAnd o (λ z. Follows z.items f)) c.in-Some.is (c.in_ok-map.ensures.forced i j (length x.images.items) f at taken)

pub returns-in-None-clause-forced : goal.returns-in-None-clause-forced
returns-in-None-clause-forced c = λ i j f images rest is wl state t e.
    let ss = stored_of c.args.search.now in
    let qs = query_of c.args.search.now in
    let x = c.args.state.now in
    let at = at-next ss qs i j x c.args.search.now.conditions.now c.deref.result.now c.len.result c.deref.ensures.value (c.len.ensures ∙ c.args.state.now.images.ok.0) wl is.conditions c.requires state in
    let taken = target-taken ss qs i j x c.deref.result.now (get_or c.args.search.now.conditions.now c.len.result 0) c.args.q f images rest c.deref.ensures.value at t e in
    subst (λ (o : Option Map). IsSomeAnd o (λ z. Follows z.items f)) c.in-None.is (c.in_ok-map.ensures.forced i j (length x.images.items) f at taken)
