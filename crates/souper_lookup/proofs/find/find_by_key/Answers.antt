use Rattle.std.proofs.Common.{refl, ◌≡◌, List, Bor, map, length, min, sym, ap, ◌∙◌, subst}
use Rattle.std.specs.Prelude.{IfOk}
use Rattle.souper_graph.specs.Values.{Item}
use Rattle.souper_graph.specs.View.{view_left_hand_side, view_replacement}
use Rattle.souper_lookup.specs.declared.store.Stored.{Stored}
use Rattle.souper_lookup.specs.Instance.{AreInstances}
use Rattle.souper_lookup.specs.Stored.{view_stored, answers, IsAnswer}
use Rattle.souper_lookup.proofs.Answering.{answered, all-taken, first-replacements}
use Rattle.souper_lookup.proofs.find.find_by_key.Goals as goal

pub returns-clause-found : goal.returns-clause-found
returns-clause-found c = λ wq rq is entries h.
    let q = view_left_hand_side c.args.query.now in
    let xs = c.deref.result.now in
    let n : c.min.result ≡ min c.args.limit (length xs) = c.min.ensures ∙ ap (min c.args.limit) (c.len.ensures ∙ sym c.deref.ensures.len) in
    let found : map (λ (s : Bor Stored). view_stored s.now) xs ≡ answers q entries = ap (map (λ (s : Bor Stored). view_stored s.now)) c.deref.ensures.value ∙ c.in_ok-stored.ensures q is entries h in
    let all = answered q entries xs wq rq refl h.indexed.each found in
    subst (λ (z : List Item). IfOk c.instances.result (λ f. AreInstances q z (map view_replacement f.items))) (first-replacements q entries xs c.args.limit c.min.result n found)
    (c.instances.ensures.found wq (all-taken (λ (s : Bor Stored). IsAnswer q (view_replacement s.now.replacement)) c.min.result xs all))

pub returns-clause-memory : goal.returns-clause-memory
returns-clause-memory c = λ wq rq is entries h.
    let q = view_left_hand_side c.args.query.now in
    let xs = c.deref.result.now in
    let found : map (λ (s : Bor Stored). view_stored s.now) xs ≡ answers q entries = ap (map (λ (s : Bor Stored). view_stored s.now)) c.deref.ensures.value ∙ c.in_ok-stored.ensures q is entries h in
    let all = answered q entries xs wq rq refl h.indexed.each found in
    c.instances.ensures.memory wq (all-taken (λ (s : Bor Stored). IsAnswer q (view_replacement s.now.replacement)) c.min.result xs all)
