use Rattle.std.proofs.Common.{◌≡◌, ℕ, List, true, false, Option, rules, sym, ◌∙◌, subst}
use Rattle.std.proofs.lemmas.List.{with_items_is, places}
use Rattle.souper_embedding.specs.Maps.{Follows}
use Rattle.souper_embedding.specs.Search.{IsAtCondition, IsMet, IsTaken}
use Rattle.souper_embedding.specs.States.{stored_of, query_of}
use Rattle.souper_embedding.proofs.search.met_by.Goals as goal

pub returns-then-meet-clause-met : goal.returns-then-meet-clause-met
returns-then-meet-clause-met c = λ i j k h.
    let ss = stored_of c.args.search.now in
    let qs = query_of c.args.search.now in
    let whole = with_items_is c.in_ok-next.next c.meet.new.to (search (rules, places)) in
    let start = c.as_mut_slice.ensures.value ∙ c.in_ok-next.ensures.items in
    subst (λ z. IsMet ss qs i j c.args.to.now z k c.args.p c.args.q) (sym whole)
    (subst (λ z. IsMet ss qs i j z c.meet.new.to k c.args.p c.args.q) start (c.meet.ensures.met c.if-meet.true i j k (subst (λ z. IsAtCondition ss qs i j z k c.args.p) (sym start) h)))

pub returns-then-meet-clause-forced : goal.returns-then-meet-clause-forced
returns-then-meet-clause-forced c = λ i j k f h t.
    let ss = stored_of c.args.search.now in
    let qs = query_of c.args.search.now in
    let whole = with_items_is c.in_ok-next.next c.meet.new.to (search (rules, places)) in
    let start = c.as_mut_slice.ensures.value ∙ c.in_ok-next.ensures.items in
    subst (λ (z : List (Option ℕ)). Follows z f) (sym whole)
    (c.meet.ensures.forced i j k f (subst (λ z. IsAtCondition ss qs i j z k c.args.p) (sym start) h) (subst (λ z. IsTaken ss qs i j z c.args.p c.args.q f) (sym start) t)).1

pub returns-clause-forced : goal.returns-clause-forced
returns-clause-forced c = λ i j k f h t.
    let ss = stored_of c.args.search.now in
    let qs = query_of c.args.search.now in
    let start = c.as_mut_slice.ensures.value ∙ c.in_ok-next.ensures.items in
    let one = c.meet.ensures.forced i j k f (subst (λ z. IsAtCondition ss qs i j z k c.args.p) (sym start) h) (subst (λ z. IsTaken ss qs i j z c.args.p c.args.q f) (sym start) t) in
    let n : true ≡ false = sym one.0 ∙ c.if-meet.false in absurd (cc)
