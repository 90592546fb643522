-- Definitions. What an item gives in a world, and why it is not evaluated.
use Rattle.std.specs.Prelude.{◌≡◌, ◌↔◌, Option, Some, None, option_map, IsTrue}
use Rattle.souper_graph.specs.declared.ast.operands.Operand.{Operand}
use Rattle.souper_graph.specs.declared.ast.operands.Operand.TheVariants.{Value}
use Rattle.souper_graph.specs.Values.{Ending, inferred, resulting, replaced, candidate, Item}
use Rattle.souper_graph.specs.WellFormed.{WellFormed}
use Rattle.souper_widths.specs.Maps.{WidthMap}
use Rattle.souper_widths.specs.Typed.{Typed}
use Rattle.souper_meaning.specs.declared.item_outcomes.Evaluation.{Evaluation}
use Rattle.souper_meaning.specs.declared.item_outcomes.EvalError.{EvalError}
use Rattle.souper_meaning.specs.declared.item_outcomes.EvalError.TheVariants.{NoPlan, NotAWorld}
use Rattle.souper_meaning.specs.Worlds.{World, poison_inputs, GivesAt, IsWorld}
use Rattle.souper_meaning.specs.Instructions.{operand_outcome}
use Rattle.souper_meaning.specs.Statements.{out}
use Rattle.souper_meaning.specs.Sound.{Meets}
use Rattle.souper_meaning.specs.Evaluable.{IsEvaluable}
use Rattle.souper_meaning.specs.Plans.{IsFirstWithout, IsPlanError}

-- the root of the left-hand side
abbrev pub left_root : Ending → Option Operand
left_root (inferred i) = Some (Value i.value)
left_root (resulting r) = None
left_root (replaced i r) = Some (Value i.value)
left_root (candidate c) = Some c.lhs

-- the root of the right-hand side
abbrev pub right_root : Ending → Option Operand
right_root (inferred i) = None
right_root (resulting r) = Some r
right_root (replaced i r) = Some r
right_root (candidate c) = Some c.rhs

-- what the item gives, if it has these widths
pub record IsEvaluationBy (a : Item) (m : WidthMap) (x : World) (e : Evaluation) : Type 0 where
  pub typed : Typed a m
  pub evaluable : IsEvaluable a m
  pub world : IsWorld poison_inputs a m x
  pub left : e.left ≡ option_map (operand_outcome (out a m x) m.root) (left_root a.ending)
  pub right : e.right ≡ option_map (operand_outcome (out a m x) m.root) (right_root a.ending)
  pub met : IsTrue e.is_met ↔ Meets a m x

abbrev pub IsEvaluation : Item → World → Evaluation → Type 0
IsEvaluation a x e = WellFormed a × ((m : WidthMap) × IsEvaluationBy a m x e)

-- the item is evaluated in no world, or the first position to which the world does not give what it needs
abbrev pub IsEvalError : Item → World → EvalError → Type 0
IsEvalError a x (NoPlan e) = IsPlanError a e
IsEvalError a x (NotAWorld p) = WellFormed a × ((m : WidthMap) × Typed a m × IsEvaluable a m × IsFirstWithout a (GivesAt poison_inputs a m x) p)
