use Rattle.std.proofs.Common.{◌↔◌, ◌<◌, ℕ, List, length, sym, subst}
use Rattle.std.specs.Prelude.{IfOk, IfErr}
use Rattle.souper_graph.specs.Values.{Item}
use Rattle.souper_graph.specs.Uses.{Has, NeededIn}
use Rattle.souper_graph.specs.WellFormed.{WellFormed}
use Rattle.souper_widths.specs.View.{view_widths}
use Rattle.souper_widths.specs.Typed.{Typed}
use Rattle.souper_meaning.specs.Plans.{IsPlan, IsPlanError}
use Rattle.souper_meaning.proofs.planning.plan.Goals as goal

pub planned-requires-clause-well_formed : goal.planned-requires-clause-well_formed
planned-requires-clause-well_formed g c = subst WellFormed (sym c.parts.ensures) c.in_ok-widths.ensures.well_formed

pub planned-requires-clause-typed : goal.planned-requires-clause-typed
planned-requires-clause-typed g c = subst (λ (a : Item). Typed a (view_widths c.in_ok-widths.widths)) (sym c.parts.ensures) c.in_ok-widths.ensures.typed

pub planned-requires-clause-inside : goal.planned-requires-clause-inside
planned-requires-clause-inside g c =
    subst (λ (a : Item). (i : ℕ) → Has c.deref.result.now i → i < length a.statements) (sym c.parts.ensures)
    (subst (λ (ids : List ℕ). (i : ℕ) → Has ids i → i < length (g.T.Item.view c.args.item.now).statements) (sym c.deref.ensures.value) c.in-Ok.ensures.ordered.inside)

pub planned-requires-clause-exact : goal.planned-requires-clause-exact
planned-requires-clause-exact g c =
    subst (λ (a : Item). (i : ℕ) → Has c.deref.result.now i ↔ NeededIn a i) (sym c.parts.ensures)
    (subst (λ (ids : List ℕ). (i : ℕ) → Has ids i ↔ NeededIn (g.T.Item.view c.args.item.now) i) (sym c.deref.ensures.value) c.in-Ok.ensures.ordered.exact)

pub returns-in-Ok-clause-planned : goal.returns-in-Ok-clause-planned
returns-in-Ok-clause-planned g c =
    subst (λ (a : Item). IfOk c.planned.result (λ plan. IsPlan a plan)) c.parts.ensures c.planned.ensures.planned

pub returns-in-Ok-clause-refused : goal.returns-in-Ok-clause-refused
returns-in-Ok-clause-refused g c =
    subst (λ (a : Item). IfErr c.planned.result (λ error. IsPlanError a error)) c.parts.ensures c.planned.ensures.refused
