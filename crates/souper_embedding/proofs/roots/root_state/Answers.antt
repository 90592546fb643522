use Rattle.std.proofs.Common.{◌≡◌, ℕ, ◌<◌, List, length, true, false, Option, rules, sym, ap, ◌∙◌, subst}
use Rattle.std.proofs.lemmas.List.{with_items_is, places}
use Rattle.souper_graph.specs.View.{view_statement}
use Rattle.std.specs.Prelude.{map}
use Rattle.souper_embedding.specs.Maps.{GoesTo, Follows, IsOneToOne, IsUnknown}
use Rattle.souper_embedding.specs.Search.{IsReached}
use Rattle.souper_embedding.proofs.roots.root_state.Goals as goal

pub returns-then-not-reach-clause-forced : goal.returns-then-not-reach-clause-forced
returns-then-not-reach-clause-forced c = λ x y f xi yj wl h.
    let empty = subst (λ (z : List (Option ℕ)). IsUnknown z) (sym c.as_mut_slice.ensures.value) c.in_ok-map.ensures.unknown in
    let long = ap length c.as_mut_slice.ensures.value ∙ c.in_ok-map.ensures.long ∙ c.len.ensures in
    let one = c.reach.ensures.forced x y f xi yj wl empty long h in
    let n : true ≡ false = sym one.0 ∙ c.if-not-reach.true in absurd (cc)

pub returns-then-is_map-clause-reached : goal.returns-then-is_map-clause-reached
returns-then-is_map-clause-reached c = λ x y xi yj wl.
    let empty = subst (λ (z : List (Option ℕ)). IsUnknown z) (sym c.as_mut_slice.ensures.value) c.in_ok-map.ensures.unknown in
    let long = ap length c.as_mut_slice.ensures.value ∙ c.in_ok-map.ensures.long ∙ c.len.ensures in
    let whole = with_items_is c.in_ok-map.map c.reach.new.to (search (rules, places)) in
    let one : IsOneToOne c.reach.new.to = subst (λ (z : List (Option ℕ)). IsOneToOne z) (c.deref.ensures.value ∙ whole) (c.in_ok-is_map.ensures.sound c.if-is_map.true) in
    subst (λ z. IsReached (map view_statement c.args.stored.now) (map view_statement c.args.query.now) x y z 0) (sym whole) (c.reach.ensures.reached c.if-not-reach.false x y xi yj wl empty long one)

pub returns-then-is_map-clause-forced : goal.returns-then-is_map-clause-forced
returns-then-is_map-clause-forced c = λ x y f xi yj wl h.
    let empty = subst (λ (z : List (Option ℕ)). IsUnknown z) (sym c.as_mut_slice.ensures.value) c.in_ok-map.ensures.unknown in
    let long = ap length c.as_mut_slice.ensures.value ∙ c.in_ok-map.ensures.long ∙ c.len.ensures in
    let whole = with_items_is c.in_ok-map.map c.reach.new.to (search (rules, places)) in
    subst (λ (z : List (Option ℕ)). Follows z f) (sym whole) (c.reach.ensures.forced x y f xi yj wl empty long h).1

pub returns-clause-forced : goal.returns-clause-forced
returns-clause-forced c = λ x y f xi yj wl h.
    let empty = subst (λ (z : List (Option ℕ)). IsUnknown z) (sym c.as_mut_slice.ensures.value) c.in_ok-map.ensures.unknown in
    let long = ap length c.as_mut_slice.ensures.value ∙ c.in_ok-map.ensures.long ∙ c.len.ensures in
    let whole = with_items_is c.in_ok-map.map c.reach.new.to (search (rules, places)) in
    let seen = c.deref.ensures.value ∙ whole in
    let two = c.reach.ensures.forced x y f xi yj wl empty long h in
    let one = c.in_ok-is_map.ensures.complete (subst (λ (z : List (Option ℕ)). IsOneToOne z) (sym seen) two.2)
    (λ p q g. subst (λ n. q < n) (sym c.len-2.ensures) (c.reach.ensures.images c.if-not-reach.false x xi wl empty p q (subst (λ (z : List (Option ℕ)). GoesTo z p q) seen g))) in
    let n : true ≡ false = sym one ∙ c.if-is_map.false in absurd (cc)
