-- Definitions. The outcome of each statement in a world, by position.
use Rattle.std.specs.Prelude.{◌≡◌, ℕ, suc, ◌<◌, List, [], ◌∷◌, ◌++◌, Option, Some, None, slice_get, slice_index_or}
use Rattle.souper_graph.specs.declared.ast.operands.Operand.{Operand}
use Rattle.souper_graph.specs.Values.{PlainRhs, var, block, phi, reserved_inst, reserved_const, instruction, PlainStatement, assigned, condition, block_condition, Item}
use Rattle.souper_graph.specs.Uses.{NeededIn}
use Rattle.souper_widths.specs.Maps.{WidthMap, result_width, operand_width}
use Rattle.souper_words.specs.declared.outcome.Outcome.{Outcome}
use Rattle.souper_words.specs.declared.outcome.Outcome.TheVariants.{Number, Undefined}
use Rattle.souper_meaning.specs.Worlds.{World, value_at, predecessor_at, choice_at}
use Rattle.souper_meaning.specs.Instructions.{operand_outcome, instruction_outcome}

-- a phi executes one operand alone
abbrev pub executed_outcome : (ℕ → Outcome) → ℕ → Option Operand → Outcome
executed_outcome at n None = Undefined
executed_outcome at n (Some o) = operand_outcome at n o

-- what the right side at position p gives, if its result has w bits and its operands have v; a block has no value
abbrev pub rhs_outcome : ℕ → ℕ → World → ℕ → (ℕ → Outcome) → PlainRhs → Outcome
rhs_outcome w v x p at var = value_at x p
rhs_outcome w v x p at reserved_inst = value_at x p
rhs_outcome w v x p at reserved_const = value_at x p
rhs_outcome w v x p at (block b) = Number 0
rhs_outcome w v x p at (phi f) = executed_outcome at v (slice_get f.values (predecessor_at x f.block))
rhs_outcome w v x p at (instruction i) = instruction_outcome w v (choice_at x p) at i

-- a condition has no value
abbrev pub outcome_by : ℕ → ℕ → World → ℕ → (ℕ → Outcome) → PlainStatement → Outcome
outcome_by w v x p at (assigned a) = rhs_outcome w v x p at a.value
outcome_by w v x p at (condition c) = Number 0
outcome_by w v x p at (block_condition c) = Number 0

-- what the statement at position p gives
abbrev pub statement_outcome : WidthMap → World → ℕ → (ℕ → Outcome) → PlainStatement → Outcome
statement_outcome m x p at s = outcome_by (result_width m p) (operand_width m p) x p at s

-- the outcome at a position, of those that a list has; a statement uses lower positions
abbrev pub outcome_in : List Outcome → ℕ → Outcome
outcome_in done i = slice_index_or done i Undefined

-- the outcomes of statements from position p on, after those below it
abbrev pub outcomes_from : WidthMap → World → ℕ → List Outcome → List PlainStatement → List Outcome
outcomes_from m x p done [] = done
outcomes_from m x p done (s ∷ ss) = outcomes_from m x (suc p) (done ++ (statement_outcome m x p (outcome_in done) s ∷ [])) ss

abbrev pub outcomes : Item → WidthMap → World → List Outcome
outcomes a m x = outcomes_from m x 0 [] a.statements

-- the outcome of the statement at a position
abbrev pub out : Item → WidthMap → World → ℕ → Outcome
out a m x p = outcome_in (outcomes a m x) p

-- the outcome at each needed position is what its statement says of the outcomes
abbrev pub IsByStatement : Item → WidthMap → World → Type 0
IsByStatement a m x = (p : ℕ) (s : PlainStatement) → NeededIn a p → slice_get a.statements p ≡ Some s → out a m x p ≡ statement_outcome m x p (out a m x) s

-- the list has the outcomes of the needed statements below position n
abbrev pub AreOutcomesBelow : Item → WidthMap → World → List Outcome → ℕ → Type 0
AreOutcomesBelow a m x os n = (p : ℕ) → NeededIn a p → p < n → outcome_in os p ≡ out a m x p

-- the outcomes of all needed statements
abbrev pub AreOutcomes : Item → WidthMap → World → List Outcome → Type 0
AreOutcomes a m x os = (p : ℕ) → NeededIn a p → outcome_in os p ≡ out a m x p
