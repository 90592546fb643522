use Rattle.std.proofs.Common.{List, length, Option, ℕ, sym, ap, ◌∙◌, subst}
use Rattle.souper_embedding.specs.Maps.{IsUnknown}
use Rattle.souper_embedding.proofs.KnownMaps.{unknown-none, unknown-more, long-last}
use Rattle.souper_embedding.proofs.maps.unknown_map.Goals as goal

pub loop-index-init : goal.loop-index-init
loop-index-init c = record {
  unknown = subst (λ (z : List (Option ℕ)). IsUnknown z) (sym c.in_ok-to.ensures.items) unknown-none;
  long = ap length c.in_ok-to.ensures.items;
}

pub loop-index-preserved : goal.loop-index-preserved
loop-index-preserved c = record {
  unknown = subst (λ (z : List (Option ℕ)). IsUnknown z) (sym c.in_ok-push.ensures.items) (unknown-more c.loop-index.to.items c.loop-index.invariant.unknown);
  long = ap length c.in_ok-push.ensures.items ∙ long-last c.loop-index.to.items c.loop-index.index c.loop-index.invariant.long;
}
