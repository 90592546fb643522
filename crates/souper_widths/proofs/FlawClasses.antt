-- A flaw of one class is the first flaw.
use Rattle.std.proofs.Common.{◌≢◌, inl, inr, List, [], ◌∷◌}
use Rattle.souper_graph.specs.declared.ast.flaws.FlawLocation.{FlawLocation}
use Rattle.souper_graph.specs.Values.{Item}
use Rattle.souper_graph.specs.Uses.{Has}
use Rattle.souper_widths.specs.declared.flaws.WidthReason.{WidthReason}
use Rattle.souper_widths.specs.declared.flaws.WidthReason.TheVariants.{TypedBlock, FactOnComputed, BlockAsValue, PairAsValue, NotAPair, BadIndex, Conflict, Undetermined, NotWider, NotNarrower, ByteSwap, ConstantTooWide, BitCount, SignBits, Range}
use Rattle.souper_widths.specs.Shape.{ShapedAt, shape_reasons}
use Rattle.souper_widths.specs.Limits.{KeepsAt, limit_reasons}
use Rattle.souper_widths.specs.Flaws.{IsFirstFailing, IsShapeFlaw, IsLimitFlaw, IsFlawAt}

shape-listed : (r : WidthReason) → TypedBlock ≢ r → FactOnComputed ≢ r → BlockAsValue ≢ r → PairAsValue ≢ r → NotAPair ≢ r → BadIndex ≢ r → Has shape_reasons r → ⊥
shape-listed r n0 n1 n2 n3 n4 n5 h = elim h [ inl e ↦ absurd (n0 e) | inr k0 ↦ elim k0 [ inl e ↦ absurd (n1 e) | inr k1 ↦ elim k1 [ inl e ↦ absurd (n2 e) | inr k2 ↦ elim k2 [ inl e ↦ absurd (n3 e) | inr k3 ↦ elim k3 [ inl e ↦ absurd (n4 e) | inr k4 ↦ elim k4 [ inl e ↦ absurd (n5 e) | inr k5 ↦ absurd k5 ] ] ] ] ] ]

limit-listed : (r : WidthReason) → NotWider ≢ r → NotNarrower ≢ r → ByteSwap ≢ r → ConstantTooWide ≢ r → BitCount ≢ r → SignBits ≢ r → Range ≢ r → Has limit_reasons r → ⊥
limit-listed r n0 n1 n2 n3 n4 n5 n6 h = elim h [ inl e ↦ absurd (n0 e) | inr k0 ↦ elim k0 [ inl e ↦ absurd (n1 e) | inr k1 ↦ elim k1 [ inl e ↦ absurd (n2 e) | inr k2 ↦ elim k2 [ inl e ↦ absurd (n3 e) | inr k3 ↦ elim k3 [ inl e ↦ absurd (n4 e) | inr k4 ↦ elim k4 [ inl e ↦ absurd (n5 e) | inr k5 ↦ elim k5 [ inl e ↦ absurd (n6 e) | inr k6 ↦ absurd k6 ] ] ] ] ] ] ]

first-listed : (P : WidthReason → Type 0) (rs : List WidthReason) (r : WidthReason) → IsFirstFailing P rs r → Has rs r
first-listed P [] r h = h
first-listed P (x ∷ xs) r (inl h) = inl h.0
first-listed P (x ∷ xs) r (inr h) = inr (first-listed P xs r h.1)

-- a flaw of the shape, or of the limits, is the first flaw
pub shape-is_flaw : (a : Item) (l : FlawLocation) (r : WidthReason) → IsShapeFlaw a l r → IsFlawAt a l r
shape-is_flaw a l TypedBlock h = h
shape-is_flaw a l FactOnComputed h = h
shape-is_flaw a l BlockAsValue h = h
shape-is_flaw a l PairAsValue h = h
shape-is_flaw a l NotAPair h = h
shape-is_flaw a l BadIndex h = h
shape-is_flaw a l NotWider h = absurd (shape-listed NotWider (λ e. absurd (cc e)) (λ e. absurd (cc e)) (λ e. absurd (cc e)) (λ e. absurd (cc e)) (λ e. absurd (cc e)) (λ e. absurd (cc e)) (first-listed (ShapedAt a l) shape_reasons NotWider h.first))
shape-is_flaw a l NotNarrower h = absurd (shape-listed NotNarrower (λ e. absurd (cc e)) (λ e. absurd (cc e)) (λ e. absurd (cc e)) (λ e. absurd (cc e)) (λ e. absurd (cc e)) (λ e. absurd (cc e)) (first-listed (ShapedAt a l) shape_reasons NotNarrower h.first))
shape-is_flaw a l ByteSwap h = absurd (shape-listed ByteSwap (λ e. absurd (cc e)) (λ e. absurd (cc e)) (λ e. absurd (cc e)) (λ e. absurd (cc e)) (λ e. absurd (cc e)) (λ e. absurd (cc e)) (first-listed (ShapedAt a l) shape_reasons ByteSwap h.first))
shape-is_flaw a l ConstantTooWide h = absurd (shape-listed ConstantTooWide (λ e. absurd (cc e)) (λ e. absurd (cc e)) (λ e. absurd (cc e)) (λ e. absurd (cc e)) (λ e. absurd (cc e)) (λ e. absurd (cc e)) (first-listed (ShapedAt a l) shape_reasons ConstantTooWide h.first))
shape-is_flaw a l BitCount h = absurd (shape-listed BitCount (λ e. absurd (cc e)) (λ e. absurd (cc e)) (λ e. absurd (cc e)) (λ e. absurd (cc e)) (λ e. absurd (cc e)) (λ e. absurd (cc e)) (first-listed (ShapedAt a l) shape_reasons BitCount h.first))
shape-is_flaw a l SignBits h = absurd (shape-listed SignBits (λ e. absurd (cc e)) (λ e. absurd (cc e)) (λ e. absurd (cc e)) (λ e. absurd (cc e)) (λ e. absurd (cc e)) (λ e. absurd (cc e)) (first-listed (ShapedAt a l) shape_reasons SignBits h.first))
shape-is_flaw a l Range h = absurd (shape-listed Range (λ e. absurd (cc e)) (λ e. absurd (cc e)) (λ e. absurd (cc e)) (λ e. absurd (cc e)) (λ e. absurd (cc e)) (λ e. absurd (cc e)) (first-listed (ShapedAt a l) shape_reasons Range h.first))
shape-is_flaw a l (Conflict x y) h = absurd (shape-listed (Conflict x y) (λ e. absurd (cc e)) (λ e. absurd (cc e)) (λ e. absurd (cc e)) (λ e. absurd (cc e)) (λ e. absurd (cc e)) (λ e. absurd (cc e)) (first-listed (ShapedAt a l) shape_reasons (Conflict x y) h.first))
shape-is_flaw a l Undetermined h = absurd (shape-listed Undetermined (λ e. absurd (cc e)) (λ e. absurd (cc e)) (λ e. absurd (cc e)) (λ e. absurd (cc e)) (λ e. absurd (cc e)) (λ e. absurd (cc e)) (first-listed (ShapedAt a l) shape_reasons Undetermined h.first))

pub limit-is_flaw : (a : Item) (l : FlawLocation) (r : WidthReason) → IsLimitFlaw a l r → IsFlawAt a l r
limit-is_flaw a l NotWider h = h
limit-is_flaw a l NotNarrower h = h
limit-is_flaw a l ByteSwap h = h
limit-is_flaw a l ConstantTooWide h = h
limit-is_flaw a l BitCount h = h
limit-is_flaw a l SignBits h = h
limit-is_flaw a l Range h = h
limit-is_flaw a l TypedBlock h = absurd (limit-listed TypedBlock (λ e. absurd (cc e)) (λ e. absurd (cc e)) (λ e. absurd (cc e)) (λ e. absurd (cc e)) (λ e. absurd (cc e)) (λ e. absurd (cc e)) (λ e. absurd (cc e)) (first-listed (KeepsAt a h.0 l) limit_reasons TypedBlock h.2.first))
limit-is_flaw a l FactOnComputed h = absurd (limit-listed FactOnComputed (λ e. absurd (cc e)) (λ e. absurd (cc e)) (λ e. absurd (cc e)) (λ e. absurd (cc e)) (λ e. absurd (cc e)) (λ e. absurd (cc e)) (λ e. absurd (cc e)) (first-listed (KeepsAt a h.0 l) limit_reasons FactOnComputed h.2.first))
limit-is_flaw a l BlockAsValue h = absurd (limit-listed BlockAsValue (λ e. absurd (cc e)) (λ e. absurd (cc e)) (λ e. absurd (cc e)) (λ e. absurd (cc e)) (λ e. absurd (cc e)) (λ e. absurd (cc e)) (λ e. absurd (cc e)) (first-listed (KeepsAt a h.0 l) limit_reasons BlockAsValue h.2.first))
limit-is_flaw a l PairAsValue h = absurd (limit-listed PairAsValue (λ e. absurd (cc e)) (λ e. absurd (cc e)) (λ e. absurd (cc e)) (λ e. absurd (cc e)) (λ e. absurd (cc e)) (λ e. absurd (cc e)) (λ e. absurd (cc e)) (first-listed (KeepsAt a h.0 l) limit_reasons PairAsValue h.2.first))
limit-is_flaw a l NotAPair h = absurd (limit-listed NotAPair (λ e. absurd (cc e)) (λ e. absurd (cc e)) (λ e. absurd (cc e)) (λ e. absurd (cc e)) (λ e. absurd (cc e)) (λ e. absurd (cc e)) (λ e. absurd (cc e)) (first-listed (KeepsAt a h.0 l) limit_reasons NotAPair h.2.first))
limit-is_flaw a l BadIndex h = absurd (limit-listed BadIndex (λ e. absurd (cc e)) (λ e. absurd (cc e)) (λ e. absurd (cc e)) (λ e. absurd (cc e)) (λ e. absurd (cc e)) (λ e. absurd (cc e)) (λ e. absurd (cc e)) (first-listed (KeepsAt a h.0 l) limit_reasons BadIndex h.2.first))
limit-is_flaw a l (Conflict x y) h = absurd (limit-listed (Conflict x y) (λ e. absurd (cc e)) (λ e. absurd (cc e)) (λ e. absurd (cc e)) (λ e. absurd (cc e)) (λ e. absurd (cc e)) (λ e. absurd (cc e)) (λ e. absurd (cc e)) (first-listed (KeepsAt a h.0 l) limit_reasons (Conflict x y) h.2.first))
limit-is_flaw a l Undetermined h = absurd (limit-listed Undetermined (λ e. absurd (cc e)) (λ e. absurd (cc e)) (λ e. absurd (cc e)) (λ e. absurd (cc e)) (λ e. absurd (cc e)) (λ e. absurd (cc e)) (λ e. absurd (cc e)) (first-listed (KeepsAt a h.0 l) limit_reasons Undetermined h.2.first))
