use Rattle.std.proofs.Common.{◌≡◌, List, Bool, Option, sym, ap, ◌∙◌}
use Rattle.souper_graph.specs.View.{view_attribute}
use Rattle.souper_graph.specs.Values.{known_bits}
use Rattle.souper_embedding.proofs.Wanting.{same-bits}
use Rattle.souper_embedding.proofs.facts.same_attribute.Goals as goal

same-list : (xs ys : List (Option Bool)) → known_bits xs ≡ known_bits ys → xs ≡ ys
same-list xs ys e = cc

pub returns-in-KnownBits-y : goal.returns-in-KnownBits-y
returns-in-KnownBits-y c =
    let d = same-bits c.in-KnownBits.bits.items c.in-KnownBits-y.other.items c.eq.result c.eq.ensures in
    let ex = ap view_attribute c.in-KnownBits.is in
    let ey = ap view_attribute c.in-KnownBits-y.is in
    ((λ t. ex ∙ ap (λ z. known_bits z) (d.0 t) ∙ sym ey), (λ e. d.1 (same-list _ _ (sym ex ∙ e ∙ ey))))
