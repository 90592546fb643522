use Rattle.std.proofs.Common.{sym, subst}
use Rattle.std.specs.Prelude.{IfOk, IfErr}
use Rattle.souper_graph.specs.Values.{Item}
use Rattle.souper_graph.specs.WellFormed.{WellFormed}
use Rattle.souper_widths.specs.View.{view_widths}
use Rattle.souper_widths.specs.Typed.{Typed}
use Rattle.souper_widths.specs.Errors.{IsWidthsError}
use Rattle.souper_widths.proofs.typed.well_formed_widths.Goals as goal

pub needed_widths-requires : goal.needed_widths-requires
needed_widths-requires g c = subst WellFormed (sym c.parts.ensures) c.requires

pub returns-clause-typed : goal.returns-clause-typed
returns-clause-typed g c = subst (λ (a : Item). IfOk c.needed_widths.result (λ widths. Typed a (view_widths widths))) c.parts.ensures c.needed_widths.ensures.typed

pub returns-clause-flawed : goal.returns-clause-flawed
returns-clause-flawed g c = subst (λ (a : Item). IfErr c.needed_widths.result (λ error. IsWidthsError a error)) c.parts.ensures c.needed_widths.ensures.flawed
