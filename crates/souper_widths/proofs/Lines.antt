-- The last lines: which are places, and the first flaw of these as the first of its class.
use Rattle.std.proofs.Common.{◌≢◌, ℕ, inl, inr, List, [], ◌∷◌, Option, Some, None}
use Rattle.std.specs.Prelude.{MatchOption}
use Rattle.std.specs.List.{AllByRecursion}
use Rattle.souper_graph.specs.declared.ast.flaws.FlawLocation.{FlawLocation}
use Rattle.souper_graph.specs.declared.ast.flaws.FlawLocation.TheVariants.{Statement, Infer, Result, Cand}
use Rattle.souper_graph.specs.Values.{Ending, inferred, resulting, replaced, candidate, Item}
use Rattle.souper_graph.specs.Uses.{NeededIn}
use Rattle.souper_graph.specs.Flaws.{IsBefore, line_operands, line_attributes}
use Rattle.souper_widths.specs.declared.flaws.WidthFlaw.{WidthFlaw}
use Rattle.souper_widths.specs.declared.flaws.WidthReason.{WidthReason}
use Rattle.souper_widths.specs.Maps.{WidthMap}
use Rattle.souper_widths.specs.Places.{IsPlace}
use Rattle.souper_widths.specs.Shape.{ShapedAt, shape_reasons, HasShape}
use Rattle.souper_widths.specs.Limits.{KeepsAt, limit_reasons, KeepsLimits}
use Rattle.souper_widths.specs.Kept.{KeptLine}
use Rattle.souper_widths.specs.Flaws.{IsFirstFailing, IsFirstOfClass, IsShapeFlaw}
use Rattle.souper_widths.specs.Lines.{Demand, IsFirstOfLine, ShapedWith, LinesShaped, IsShapeFlawOfLines, LinesKept, IsLimitFlawOfLines}
use Rattle.souper_widths.proofs.Locations.{each_location}
use Rattle.souper_widths.proofs.KeptLimits.{line-kept, line-fails}

pub first-not_all : (P : WidthReason → Type 0) (rs : List WidthReason) (r : WidthReason) → IsFirstFailing P rs r → AllByRecursion P rs → ⊥
first-not_all P [] r h all = h
first-not_all P (x ∷ xs) r (inl h) all = h.1 all.0
first-not_all P (x ∷ xs) r (inr h) all = first-not_all P xs r h.1 all.1

-- a line of which a reason is demanded in vain has operands, if a line without any is free of the reasons
has-operands : (e : Ending) (l : FlawLocation) (Meets : Demand) (rs : List WidthReason) (r : WidthReason) → AllByRecursion (Meets [] []) rs → IsFirstOfLine Meets rs e l r → line_operands l e ≢ []
has-operands (inferred i) Infer Meets rs r none h = λ z. absurd (cc z)
has-operands (resulting x) Result Meets rs r none h = λ z. absurd (cc z)
has-operands (replaced i x) Infer Meets rs r none h = λ z. absurd (cc z)
has-operands (replaced i x) Result Meets rs r none h = λ z. absurd (cc z)
has-operands (candidate c) Cand Meets rs r none h = λ z. absurd (cc z)
has-operands e l Meets rs r none h = absurd (first-not_all (Meets [] []) rs r h none)

-- each needed statement has a shape, or keeps the limits
abbrev pub EachShaped : Item → Type 0
EachShaped a = (p : ℕ) → NeededIn a p → AllByRecursion (ShapedAt a (Statement p)) shape_reasons

abbrev pub EachKept : Item → WidthMap → Type 0
EachKept a m = (p : ℕ) → NeededIn a p → AllByRecursion (KeepsAt a m (Statement p)) limit_reasons

no-shape : (a : Item) (l : FlawLocation) (r : WidthReason) → IsFirstOfLine (ShapedWith a.statements) shape_reasons a.ending l r → line_operands l a.ending ≢ []
no-shape a l r h = has-operands a.ending l (ShapedWith a.statements) shape_reasons r (tt, (tt, (tt, (tt, (tt, (tt, tt)))))) h

line-shape : (a : Item) (l : FlawLocation) (r : WidthReason) → EachShaped a → IsShapeFlawOfLines a.statements a.ending l r → IsShapeFlaw a l r
line-shape a (Statement p) r each h = absurd h
line-shape a Infer r each h = record {
  place = no-shape a Infer r h;
  first = h;
  before = each_location (λ k. IsPlace a k → IsBefore k Infer → AllByRecursion (ShapedAt a k) shape_reasons) (λ p n b. each p n) (λ n b. absurd b) (λ n b. absurd b) (λ n b. absurd b);
}
line-shape a Result r each h = record {
  place = no-shape a Result r h.1;
  first = h.1;
  before = each_location (λ k. IsPlace a k → IsBefore k Result → AllByRecursion (ShapedAt a k) shape_reasons) (λ p n b. each p n) (λ n b. h.0) (λ n b. absurd b) (λ n b. absurd b);
}
line-shape a Cand r each h = record {
  place = no-shape a Cand r h;
  first = h;
  before = each_location (λ k. IsPlace a k → IsBefore k Cand → AllByRecursion (ShapedAt a k) shape_reasons) (λ p n b. each p n) (λ n b. absurd b) (λ n b. absurd b) (λ n b. absurd b);
}

-- what is found of the last lines is the answer for the item, if each needed statement has a shape
pub lines-shape : (a : Item) (o : Option WidthFlaw) → EachShaped a → MatchOption o (LinesShaped a.statements a.ending) (λ flaw. IsShapeFlawOfLines a.statements a.ending flaw.location flaw.reason)
    → MatchOption o (HasShape a) (λ flaw. IsShapeFlaw a flaw.location flaw.reason)
lines-shape a None each h = each_location (λ l. IsPlace a l → AllByRecursion (ShapedAt a l) shape_reasons) each (λ n. h.0) (λ n. h.1) (λ n. h.2)
lines-shape a (Some flaw) each h = line-shape a flaw.location flaw.reason each h

no-limit : (e : Ending) (l : FlawLocation) (n : ℕ) (r : WidthReason) → IsFirstOfLine (KeptLine n) limit_reasons e l r → line_operands l e ≢ []
no-limit e l n r h = has-operands e l (KeptLine n) limit_reasons r (tt, (tt, (tt, (tt, (tt, (tt, (tt, tt))))))) h

line-limit : (a : Item) (m : WidthMap) (l : FlawLocation) (r : WidthReason) → EachKept a m → IsLimitFlawOfLines m.root a.ending l r → IsFirstOfClass a (KeepsAt a m) limit_reasons l r
line-limit a m (Statement p) r each h = absurd h
line-limit a m Infer r each h = record {
  place = no-limit a.ending Infer m.root r h;
  first = line-fails m (line_operands Infer a.ending) (line_attributes Infer a.ending) r h;
  before = each_location (λ k. IsPlace a k → IsBefore k Infer → AllByRecursion (KeepsAt a m k) limit_reasons) (λ p n b. each p n) (λ n b. absurd b) (λ n b. absurd b) (λ n b. absurd b);
}
line-limit a m Result r each h = record {
  place = no-limit a.ending Result m.root r h.1;
  first = line-fails m (line_operands Result a.ending) (line_attributes Result a.ending) r h.1;
  before = each_location (λ k. IsPlace a k → IsBefore k Result → AllByRecursion (KeepsAt a m k) limit_reasons) (λ p n b. each p n)
      (λ n b. line-kept m (line_operands Infer a.ending) (line_attributes Infer a.ending) h.0) (λ n b. absurd b) (λ n b. absurd b);
}
line-limit a m Cand r each h = record {
  place = no-limit a.ending Cand m.root r h;
  first = line-fails m (line_operands Cand a.ending) (line_attributes Cand a.ending) r h;
  before = each_location (λ k. IsPlace a k → IsBefore k Cand → AllByRecursion (KeepsAt a m k) limit_reasons) (λ p n b. each p n) (λ n b. absurd b) (λ n b. absurd b) (λ n b. absurd b);
}

pub lines-limit : (a : Item) (m : WidthMap) (o : Option WidthFlaw) → EachKept a m → MatchOption o (LinesKept m.root a.ending) (λ flaw. IsLimitFlawOfLines m.root a.ending flaw.location flaw.reason)
    → MatchOption o (KeepsLimits a m) (λ flaw. IsFirstOfClass a (KeepsAt a m) limit_reasons flaw.location flaw.reason)
lines-limit a m None each h = each_location (λ l. IsPlace a l → AllByRecursion (KeepsAt a m l) limit_reasons) each
    (λ n. line-kept m (line_operands Infer a.ending) (line_attributes Infer a.ending) h.0)
    (λ n. line-kept m (line_operands Result a.ending) (line_attributes Result a.ending) h.1)
    (λ n. line-kept m (line_operands Cand a.ending) (line_attributes Cand a.ending) h.2)
lines-limit a m (Some flaw) each h = line-limit a m flaw.location flaw.reason each h
