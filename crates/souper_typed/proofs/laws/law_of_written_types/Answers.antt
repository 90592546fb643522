use Rattle.std.proofs.Common.{◌≡◌, ◌<◌, ◌⊎◌, Some, sym, subst}
use Rattle.std.specs.Prelude.{slice_get}
use Rattle.std.specs.List.{AllByRecursion}
use Rattle.souper_graph.specs.Values.{assigned, Item}
use Rattle.souper_graph.specs.Uses.{NeededIn}
use Rattle.souper_widths.specs.Maps.{result_width}
use Rattle.souper_widths.specs.Places.{IsPlace, operands_with_widths}
use Rattle.souper_widths.specs.Shape.{IsPair}
use Rattle.souper_typed.specs.Types.{type_with, HasOwnType}
use Rattle.souper_typed.proofs.Types.{value-types, constant-types}
use Rattle.souper_typed.proofs.laws.law_of_written_types.Goals as goal

pub returns-clause-values : goal.returns-clause-values
returns-clause-values c = λ f m a b p v x.
    subst (λ (z : Item). NeededIn z p → slice_get z.statements p ≡ Some (assigned v) → 0 < result_width m p → (v.ty ≡ type_with (result_width m p)) ⊎ (IsPair (slice_get z.statements p) × (result_width m p ≡ 65536))) (sym x.written)
    (λ n e l. value-types f m a p v x.was_well_formed x.was_typed n e l)

pub returns-clause-constants : goal.returns-clause-constants
returns-clause-constants c = λ f m a b l x.
    subst (λ (z : Item). IsPlace z l → AllByRecursion (HasOwnType m) (operands_with_widths z l)) (sym x.written) (λ n. constant-types f m a l x.was_well_formed x.was_typed n)
