use Rattle.std.proofs.Common.{◌≡◌, Vec, Global, Bor, List, Some, ap, ◌∙◌, sym, refl, get_or, map, arith}
use Rattle.std.specs.List.{slice_get}
use Rattle.std.proofs.lemmas.Option.{slice_get-get_or, slice_get_past}
use Rattle.souper_lookup.specs.declared.store.Stored.{Stored}
use Rattle.souper_lookup.specs.Stored.{view_stored}
use Rattle.souper_lookup.proofs.Storing.{found-next, found-past}
use Rattle.souper_lookup.proofs.store.Store.stored_at.Goals as goal
use Rattle.souper_lookup.proofs.store.Store.stored_at.Goals.{in-Some+in_ok-push, in_default}

pub loop-index-preserved : goal.loop-index-preserved
loop-index-preserved c =
    let stored = c.args.self.now.stored.items in
    let indices = c.args.indices.now in
    let k = c.loop-index.index-index in
    let i = get_or indices k 0 in
    let l = c.loop-index-test.true in
    let own = c.deref.result.now in
    let whole : slice_get own i ≡ slice_get stored i = ap (λ (z : List Stored). slice_get z i) c.deref.ensures.value in
    elim c.match-get.branch [
      | in-Some+in_ok-push w ↦ (let r = w.in-Some.stored in
          let at : Some r.now ≡ slice_get stored i = ap (λ (z : Stored). Some z) w.in-Some.ensures.lookup.1 ∙ sym (slice_get-get_or own i r.now w.in-Some.ensures.lookup.3.0) ∙ whole in
          found-next stored indices k i c.loop-index.found.items c.match-get.found.items r (omega arith) refl at
          (ap (λ (v : Vec (Bor Stored) Global). v.items) w.found-is ∙ w.in_ok-push.ensures.items) c.loop-index.invariant)
      | in_default w ↦ ap (λ (v : Vec (Bor Stored) Global). map (λ (s : Bor Stored). view_stored s.now) v.items) w.found-is
          ∙ found-past stored indices k i c.loop-index.found.items (omega arith) refl (sym (slice_get_past own i w.in_default.ensures.lookup.3) ∙ whole) c.loop-index.invariant
    ]
