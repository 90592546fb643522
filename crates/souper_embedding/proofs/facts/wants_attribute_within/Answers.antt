use Rattle.std.proofs.Common.{◌≡◌, [], ◌∷◌, map, false, Some, refl, sym, ap, subst}
use Rattle.std.specs.Prelude.{slice_get}
use Rattle.souper_graph.specs.View.{view_root_attribute}
use Rattle.souper_embedding.specs.Embedding.{WantsWithin}
use Rattle.souper_embedding.proofs.Wanting.{wants-bits, wants-none}
use Rattle.souper_embedding.proofs.facts.wants_attribute_within.Goals as goal

pub returns-in-DemandedBits : goal.returns-in-DemandedBits
returns-in-DemandedBits c =
    let e = ap view_root_attribute c.in-DemandedBits.is in
    let all = wants-bits c.in-DemandedBits.bits.items (map view_root_attribute c.args.query.now) in
    let query = map view_root_attribute c.args.query.now in (
      (λ t. subst (λ z. WantsWithin (z ∷ []) query) (sym e) (all.0 (λ k m. c.wants_bits_within.ensures.0 t k (subst (λ z. slice_get z k ≡ Some false) (sym c.deref.ensures.value) m)))),
      (λ h. c.wants_bits_within.ensures.1 (λ k m. all.1 (subst (λ z. WantsWithin (z ∷ []) query) e h) k (subst (λ z. slice_get z k ≡ Some false) c.deref.ensures.value m))),
    )

pub returns-in-HarvestedFromUse : goal.returns-in-HarvestedFromUse
returns-in-HarvestedFromUse c =
    let e = ap view_root_attribute c.in-HarvestedFromUse.is in
    ((λ t. subst (λ z. WantsWithin (z ∷ []) (map view_root_attribute c.args.query.now)) (sym e) (wants-none (map view_root_attribute c.args.query.now))), (λ h. refl))
