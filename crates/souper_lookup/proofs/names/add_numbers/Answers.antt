use Rattle.std.proofs.Common.{◌≡◌, ℕ, ◌+◌, ◌++◌, [], ◌∷◌, sym, ap, ◌∙◌, subst, map, length, List, Vec, Global, arith}
use Rattle.std.proofs.lemmas.List.{length_push, length-map, map-append}
use Rattle.std.specs.Prelude.{String}
use Rattle.std.specs.String.{string_bytes}
use Rattle.souper_lookup.proofs.Fresh.{AreSoFar, so-far-pushed, so-far-taken, tested}
use Rattle.souper_lookup.proofs.names.add_numbers.Goals as goal
use Rattle.souper_lookup.proofs.names.add_numbers.Goals.{then-not-contains+in_ok-push, else-not-contains}

pub loop-number-preserved : goal.loop-number-preserved
loop-number-preserved c =
    let inv = c.loop-number.invariant in
    let k = c.loop-number.number-counter in
    let old = c.loop-number.names.items in
    let start = map string_bytes c.args.names.items in
    let taken = c.args.taken.now in
    let name = c.in_ok-name.name in
    let named = c.in_ok-name.ensures.ok in
    let few = c.if-len-count.false in
    let len = c.len.ensures in
    let test = c.loop-number-test.true in
    let long = length-map old string_bytes in
    let begun = length-map c.args.names.items string_bytes in
    elim c.if-not-contains.branch [
      | then-not-contains+in_ok-push w ↦ (let is = ap (λ (v : Vec (String Global) Global). v.items) w.names-is ∙ w.in_ok-push.ensures.items in
          let longer = ap (λ (z : List (String Global)). length z) is ∙ length_push old name in
          let all : map string_bytes c.if-not-contains.names.items ≡ map string_bytes old ++ string_bytes name ∷ [] = ap (map string_bytes) is ∙ map-append string_bytes old (name ∷ []) in
          record {
            so_far = λ used same covers. subst (λ (z : List (List ℕ)). AreSoFar start used (k + 1) z) (sym (all ∙ ap (λ (z : List ℕ). map string_bytes old ++ z ∷ []) named))
                (so-far-pushed start used (map string_bytes old) k covers (omega arith) (omega arith) (omega arith) (inv.so_far used same covers) (sym (tested used taken name k same named) ∙ sym c.contains.ensures ∙ w.if-not-contains.true));
            within = λ fits. let l = inv.within fits in omega arith;
            longer = omega (arith, inv.longer);
            from = omega (arith, inv.from);
          })
      | else-not-contains w ↦ rw (w.names-is) (record {
        so_far = λ used same covers. so-far-taken start used (map string_bytes old) k (inv.so_far used same covers) (sym (tested used taken name k same named) ∙ sym c.contains.ensures ∙ w.if-not-contains.false);
        within = inv.within;
        longer = inv.longer;
        from = omega (arith, inv.from);
      })
    ]
