-- Lemmas on worlds whose inputs are values, and on those whose inputs may be poison.
use Rattle.std.proofs.Common.{ℕ, Option, Some, None, slice_get}
use Rattle.souper_graph.specs.Values.{PlainRhs, var, block, phi, reserved_inst, reserved_const, instruction, PlainStatement, assigned, condition, block_condition, Item}
use Rattle.souper_widths.specs.Maps.{WidthMap, result_width}
use Rattle.souper_words.specs.declared.outcome.Outcome.{Outcome}
use Rattle.souper_words.specs.declared.outcome.Outcome.TheVariants.{Number, Poison, Undefined}
use Rattle.souper_meaning.specs.Worlds.{World, value_at, value_inputs, poison_inputs, IsInput, GivesRhs, GivesStatement, IsWorld}
use Rattle.souper_meaning.specs.Sound.{Sound, Vacuous}

input_may_be : (w : ℕ) (o : Outcome) → IsInput value_inputs w o → IsInput poison_inputs w o
input_may_be w (Number k) h = h
input_may_be w Poison h = tt
input_may_be w Undefined h = h

rhs_may_be : (w : ℕ) (x : World) (p : ℕ) (r : PlainRhs) → GivesRhs value_inputs w x p r → GivesRhs poison_inputs w x p r
rhs_may_be w x p var h = input_may_be w (value_at x p) h
rhs_may_be w x p (block b) h = h
rhs_may_be w x p (phi f) h = h
rhs_may_be w x p reserved_inst h = input_may_be w (value_at x p) h
rhs_may_be w x p reserved_const h = h
rhs_may_be w x p (instruction i) h = h

statement_may_be : (w : ℕ) (x : World) (p : ℕ) (s : Option PlainStatement) → GivesStatement value_inputs w x p s → GivesStatement poison_inputs w x p s
statement_may_be w x p None h = h
statement_may_be w x p (Some (assigned a)) h = rhs_may_be w x p a.value h
statement_may_be w x p (Some (condition c)) h = h
statement_may_be w x p (Some (block_condition c)) h = h

pub world_may_be : (a : Item) (m : WidthMap) (x : World) → IsWorld value_inputs a m x → IsWorld poison_inputs a m x
world_may_be a m x w = λ p n. statement_may_be (result_width m p) x p (slice_get a.statements p) (w p n)

pub sound_for_values : (a : Item) (m : WidthMap) → Sound poison_inputs a m → Sound value_inputs a m
sound_for_values a m s = (s.0, λ x w h. s.1 x (world_may_be a m x w) h)

pub vacuous_for_values : (a : Item) (m : WidthMap) → Vacuous poison_inputs a m → Vacuous value_inputs a m
vacuous_for_values a m v = (v.0, λ x w h. v.1 x (world_may_be a m x w) h)
