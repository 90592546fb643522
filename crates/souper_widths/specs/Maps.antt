-- Definitions. Maps of widths: of the result and of the operands of each statement, and of the last lines.
use Rattle.std.specs.Prelude.{◌≡◌, ℕ, List, slice_index}
use Rattle.souper_graph.specs.declared.ast.flaws.FlawLocation.{FlawLocation}
use Rattle.souper_graph.specs.declared.ast.flaws.FlawLocation.TheVariants.{Statement, Infer, Result, Cand}

-- 0 stands for no width
pub record WidthMap : Type 0 where
  pub results : List ℕ
  pub operands : List ℕ
  pub root : ℕ

-- the width of the result of the statement at a position
abbrev pub result_width : WidthMap → ℕ → ℕ
result_width m p = slice_index m.results p

-- the width of its operands
abbrev pub operand_width : WidthMap → ℕ → ℕ
operand_width m p = slice_index m.operands p

-- the two maps have the same widths at the location
abbrev pub AgreeAt : WidthMap → WidthMap → FlawLocation → Type 0
AgreeAt m n (Statement p) = (result_width m p ≡ result_width n p) × (operand_width m p ≡ operand_width n p)
AgreeAt m n Infer = m.root ≡ n.root
AgreeAt m n Result = m.root ≡ n.root
AgreeAt m n Cand = m.root ≡ n.root
