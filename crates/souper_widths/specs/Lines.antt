-- Definitions. What is found of the last lines, one after another.
use Rattle.std.specs.Prelude.{ℕ, List}
use Rattle.std.specs.List.{AllByRecursion}
use Rattle.souper_graph.specs.declared.ast.operands.Operand.{Operand}
use Rattle.souper_graph.specs.declared.ast.flaws.FlawLocation.{FlawLocation}
use Rattle.souper_graph.specs.declared.ast.flaws.FlawLocation.TheVariants.{Statement, Infer, Result, Cand}
use Rattle.souper_graph.specs.Values.{PlainRootAttribute, PlainStatement, Ending, inferred, resulting, replaced, candidate}
use Rattle.souper_graph.specs.Flaws.{line_operands, line_attributes}
use Rattle.souper_widths.specs.declared.flaws.WidthReason.{WidthReason}
use Rattle.souper_widths.specs.Shape.{ShapedLine, shape_reasons}
use Rattle.souper_widths.specs.Limits.{limit_reasons}
use Rattle.souper_widths.specs.Kept.{KeptLine}
use Rattle.souper_widths.specs.Flaws.{IsFirstFailing}

-- what is demanded of a line with these operands and attributes for a reason
abbrev pub Demand : Type 1
Demand = List Operand → List PlainRootAttribute → WidthReason → Type 0

-- the last line at the location is free of the reasons; a line that the item does not have is
abbrev pub LineMeets : Demand → List WidthReason → Ending → FlawLocation → Type 0
LineMeets Meets rs e l = AllByRecursion (Meets (line_operands l e) (line_attributes l e)) rs

abbrev pub LinesMeet : Demand → List WidthReason → Ending → Type 0
LinesMeet Meets rs e = LineMeets Meets rs e Infer × LineMeets Meets rs e Result × LineMeets Meets rs e Cand

abbrev pub IsFirstOfLine : Demand → List WidthReason → Ending → FlawLocation → WidthReason → Type 0
IsFirstOfLine Meets rs e l r = IsFirstFailing (Meets (line_operands l e) (line_attributes l e)) rs r

-- the reason is the first of the last lines
abbrev pub IsFirstOfLines : Demand → List WidthReason → Ending → FlawLocation → WidthReason → Type 0
IsFirstOfLines Meets rs e (Statement p) r = ⊥
IsFirstOfLines Meets rs e Infer r = IsFirstOfLine Meets rs e Infer r
IsFirstOfLines Meets rs e Result r = LineMeets Meets rs e Infer × IsFirstOfLine Meets rs e Result r
IsFirstOfLines Meets rs e Cand r = IsFirstOfLine Meets rs e Cand r

-- the shape of a line does not depend on its attributes
abbrev pub ShapedWith : List PlainStatement → Demand
ShapedWith ss xs attributes r = ShapedLine ss xs r

abbrev pub LinesShaped : List PlainStatement → Ending → Type 0
LinesShaped ss e = LinesMeet (ShapedWith ss) shape_reasons e

abbrev pub IsShapeFlawOfLines : List PlainStatement → Ending → FlawLocation → WidthReason → Type 0
IsShapeFlawOfLines ss e l r = IsFirstOfLines (ShapedWith ss) shape_reasons e l r

-- the last lines keep their limits, if their operands have n bits
abbrev pub LinesKept : ℕ → Ending → Type 0
LinesKept n e = LinesMeet (KeptLine n) limit_reasons e

abbrev pub IsLimitFlawOfLines : ℕ → Ending → FlawLocation → WidthReason → Type 0
IsLimitFlawOfLines n e l r = IsFirstOfLines (KeptLine n) limit_reasons e l r

-- a last line, and the first that an ending has
abbrev pub IsLine : FlawLocation → Type 0
IsLine (Statement p) = ⊥
IsLine l = Unit {0}

abbrev pub IsFirstLine : Ending → FlawLocation → Type 0
IsFirstLine (inferred i) Infer = Unit {0}
IsFirstLine (resulting x) Result = Unit {0}
IsFirstLine (replaced i x) Infer = Unit {0}
IsFirstLine (candidate c) Cand = Unit {0}
IsFirstLine e l = ⊥
