use Rattle.std.proofs.Common.{Option, Result, Ok, Err, refl, sym, subst}
use Rattle.std.specs.Prelude.{IsNone, IfSome, IfOk}
use Rattle.souper_graph.specs.declared.ast.flaws.Flaw.{Flaw}
use Rattle.souper_graph.specs.Values.{Item}
use Rattle.souper_graph.specs.WellFormed.{WellFormed}
use Rattle.souper_graph.specs.Flaws.{IsFirstFlaw}
use Rattle.souper_widths.proofs.typed.widths.Goals as goal

always : {T E : Type 0} (Q : Type 0) (r : Result T E) → Q → IfOk r (λ x. Q)
always Q (Ok x) q = q
always Q (Err e) q = tt

pub returns-in-Some-clause-flawed : goal.returns-in-Some-clause-flawed
returns-in-Some-clause-flawed g c =
    let a : Item = g.T.Item.view c.args.item.now in
    subst (λ (o : Option Flaw). IfSome o (IsFirstFlaw a)) c.in-Some.is c.in_ok-flaw.ensures.first

pub well_formed_widths-requires : goal.well_formed_widths-requires
well_formed_widths-requires g c = c.in_ok-flaw.ensures.none.0 (subst (λ (o : Option Flaw). IsNone o) (sym c.in-None.is) refl)

pub returns-in-None-clause-well_formed : goal.returns-in-None-clause-well_formed
returns-in-None-clause-well_formed g c =
    always (WellFormed (g.T.Item.view c.args.item.now)) c.well_formed_widths.result (c.in_ok-flaw.ensures.none.0 (subst (λ (o : Option Flaw). IsNone o) (sym c.in-None.is) refl))
