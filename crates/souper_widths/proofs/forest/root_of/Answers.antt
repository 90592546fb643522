use Rattle.std.proofs.Common.{◌≤◌, ℕ, List, get_or, ◌∙◌, arith, slice_set}
use Rattle.std.proofs.Math.ListN.{length-set}
use Rattle.souper_widths.proofs.Forests.{same-trans, forest-set, moved-up}
use Rattle.souper_widths.proofs.forest.root_of.Goals as goal

pub loop-parents-preserved : goal.loop-parents-preserved
loop-parents-preserved c =
    let inv = c.loop-parents.invariant in
    let ps : List ℕ = c.loop-parents.parents in
    let k : ℕ = c.loop-parents.at in
    let p : ℕ = get_or ps k 0 in
    let v : ℕ = get_or ps p 0 in
    let low : p ≤ k = inv.forest.lower k inv.within in
    let lower : v ≤ p = inv.forest.lower p (omega (arith, low, inv.within)) in
    record {
      forest = forest-set ps k v inv.forest inv.within (omega (arith, low, lower));
      same = same-trans c.args.parents.now ps (slice_set ps k v) inv.same (moved-up ps k inv.forest inv.within c.loop-parents-test.true);
      within = omega (arith, low, lower, inv.within, length-set ps k v);
      below = omega (arith, low, lower, inv.below);
      tied = λ u f. inv.tied u f ∙ inv.same.to u f k inv.within ∙ inv.same.to u f p (omega (arith, low, inv.within));
    }
