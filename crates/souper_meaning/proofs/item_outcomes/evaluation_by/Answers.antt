use Rattle.std.proofs.Common.{◌∙◌, Option, ap}
use Rattle.std.specs.Prelude.{option_map}
use Rattle.souper_graph.specs.declared.ast.operands.Operand.{Operand}
use Rattle.souper_graph.specs.Values.{Item}
use Rattle.souper_graph.specs.PartsView.{view_parts}
use Rattle.souper_widths.specs.Maps.{WidthMap}
use Rattle.souper_widths.specs.View.{view_widths}
use Rattle.souper_meaning.specs.Worlds.{World}
use Rattle.souper_meaning.specs.View.{view_world}
use Rattle.souper_meaning.specs.Instructions.{operand_outcome}
use Rattle.souper_meaning.specs.Statements.{outcome_in}
use Rattle.souper_meaning.specs.Plans.{IsPlan}
use Rattle.souper_meaning.proofs.Roots.{root_least, left_by, right_by}
use Rattle.souper_meaning.proofs.item_outcomes.evaluation_by.Goals as goal

pub root_outcome_of-left-requires-clause-low : goal.root_outcome_of-left-requires-clause-low
root_outcome_of-left-requires-clause-low c = root_least (view_parts c.args.parts.now) (view_widths c.args.plan.now.widths) c.requires.planned.typed

pub root_outcome_of-left-requires-clause-high : goal.root_outcome_of-left-requires-clause-high
root_outcome_of-left-requires-clause-high c = c.requires.planned.evaluable.root

pub root_outcome_of-right-requires-clause-low : goal.root_outcome_of-right-requires-clause-low
root_outcome_of-right-requires-clause-low c = root_least (view_parts c.args.parts.now) (view_widths c.args.plan.now.widths) c.requires.planned.typed

pub root_outcome_of-right-requires-clause-high : goal.root_outcome_of-right-requires-clause-high
root_outcome_of-right-requires-clause-high c = c.requires.planned.evaluable.root

pub returns : goal.returns
returns c =
    let a : Item = view_parts c.args.parts.now in
    let m : WidthMap = view_widths c.args.plan.now.widths in
    let x : World = view_world c.args.world.now in
    let k : IsPlan a c.args.plan.now = c.requires.planned in
    record {
      typed = k.typed;
      evaluable = k.evaluable;
      world = c.requires.world;
      left = c.root_outcome_of-left.ensures ∙ ap (λ (r : Option Operand). option_map (operand_outcome (outcome_in c.args.outcomes.now) m.root) r) c.left_root_of.ensures ∙ left_by a m x c.args.outcomes.now c.requires.outcomes;
      right = c.root_outcome_of-right.ensures ∙ ap (λ (r : Option Operand). option_map (operand_outcome (outcome_in c.args.outcomes.now) m.root) r) c.right_root_of.ensures ∙ right_by a m x c.args.outcomes.now c.requires.outcomes;
      met = c.meets-is_met.ensures;
    }
