-- A typed item has no flaw.
use Rattle.std.proofs.Common.{refl, sym, subst, ◌∙◌}
use Rattle.std.specs.List.{AllByRecursion}
use Rattle.souper_graph.specs.declared.ast.flaws.FlawLocation.{FlawLocation}
use Rattle.souper_graph.specs.declared.ast.flaws.FlawLocation.TheVariants.{Statement, Infer, Result, Cand}
use Rattle.souper_graph.specs.Values.{Item}
use Rattle.souper_widths.specs.declared.flaws.WidthReason.{WidthReason}
use Rattle.souper_widths.specs.declared.flaws.WidthReason.TheVariants.{TypedBlock, FactOnComputed, BlockAsValue, PairAsValue, NotAPair, BadIndex, Conflict, Undetermined, NotWider, NotNarrower, ByteSwap, ConstantTooWide, BitCount, SignBits, Range}
use Rattle.souper_widths.specs.Maps.{WidthMap, AgreeAt}
use Rattle.souper_widths.specs.Shape.{ShapedAt, shape_reasons}
use Rattle.souper_widths.specs.Limits.{KeepsAt, limit_reasons}
use Rattle.souper_widths.specs.Typed.{Typed}
use Rattle.souper_widths.specs.Flaws.{IsShapeFlaw, IsLimitFlaw, IsFirstUndetermined, IsFlawAt}
use Rattle.souper_widths.proofs.Lines.{first-not_all}

pub agree-self : (m : WidthMap) (l : FlawLocation) → AgreeAt m m l
agree-self m (Statement p) = (refl, refl)
agree-self m Infer = refl
agree-self m Result = refl
agree-self m Cand = refl

not-shape : (a : Item) (m : WidthMap) (l : FlawLocation) (r : WidthReason) → Typed a m → IsShapeFlaw a l r → ⊥
not-shape a m l r t f = first-not_all (ShapedAt a l) shape_reasons r f.first (t.shape l f.place)

not-limit : (a : Item) (m : WidthMap) (l : FlawLocation) (r : WidthReason) → Typed a m → IsLimitFlaw a l r → ⊥
not-limit a m l r t f = first-not_all (KeepsAt a f.0 l) limit_reasons r f.2.first
    (subst (λ (z : WidthMap). AllByRecursion (KeepsAt a z l) limit_reasons) (sym (t.only f.0 f.1.has)) (t.limits l f.2.place))

not-undetermined : (a : Item) (m : WidthMap) (l : FlawLocation) → Typed a m → IsFirstUndetermined a l → ⊥
not-undetermined a m l t f =
    let d = f.differ in
    d.4 (subst (λ (z : WidthMap). AgreeAt d.0 z l) (t.only d.0 d.2 ∙ sym (t.only d.1 d.3)) (agree-self d.0 l))

pub typed-flawless : (a : Item) (m : WidthMap) (l : FlawLocation) (r : WidthReason) → Typed a m → IsFlawAt a l r → ⊥
typed-flawless a m l TypedBlock t f = not-shape a m l TypedBlock t f
typed-flawless a m l FactOnComputed t f = not-shape a m l FactOnComputed t f
typed-flawless a m l BlockAsValue t f = not-shape a m l BlockAsValue t f
typed-flawless a m l PairAsValue t f = not-shape a m l PairAsValue t f
typed-flawless a m l NotAPair t f = not-shape a m l NotAPair t f
typed-flawless a m l BadIndex t f = not-shape a m l BadIndex t f
typed-flawless a m l (Conflict x y) t f = f.1.unsolved m (λ k p b. t.has.holds k p) (t.has.holds l f.1.place)
typed-flawless a m l Undetermined t f = not-undetermined a m l t f.1
typed-flawless a m l NotWider t f = not-limit a m l NotWider t f
typed-flawless a m l NotNarrower t f = not-limit a m l NotNarrower t f
typed-flawless a m l ByteSwap t f = not-limit a m l ByteSwap t f
typed-flawless a m l ConstantTooWide t f = not-limit a m l ConstantTooWide t f
typed-flawless a m l BitCount t f = not-limit a m l BitCount t f
typed-flawless a m l SignBits t f = not-limit a m l SignBits t f
typed-flawless a m l Range t f = not-limit a m l Range t f
