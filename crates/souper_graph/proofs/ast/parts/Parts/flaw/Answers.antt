use Rattle.std.proofs.Common.{Option, subst, sym}
use Rattle.std.specs.Prelude.{MatchOption}
use Rattle.souper_graph.specs.declared.ast.flaws.Flaw.{Flaw}
use Rattle.souper_graph.specs.PartsView.{view_parts}
use Rattle.souper_graph.specs.Judging.{AllStand}
use Rattle.souper_graph.specs.FlawSearch.{AreNeeded, IsFlawAmong}
use Rattle.souper_graph.proofs.FlawSearch.Found.{statement_first, found_among, found_line, found_line_first}
use Rattle.souper_graph.proofs.ast.parts.Parts.flaw.Goals as goal

pub returns-in-Some-clause-none : goal.returns-in-Some-clause-none
returns-in-Some-clause-none c =
    let a = view_parts c.args.self.now in
    let ids = c.deref.result.now in
    let needed = subst (AreNeeded a) (sym c.deref.ensures.value) c.in-Ok.ensures.needed in
    found_among a ids c.in-Some.flaw needed
    (subst (λ (o : Option Flaw). MatchOption o (AllStand a.statements ids) (λ flaw. IsFlawAmong a.statements ids flaw)) c.in-Some.is c.in_ok-flaw.ensures)

pub returns-in-Some-clause-first : goal.returns-in-Some-clause-first
returns-in-Some-clause-first c =
    let a = view_parts c.args.self.now in
    let ids = c.deref.result.now in
    let needed = subst (AreNeeded a) (sym c.deref.ensures.value) c.in-Ok.ensures.needed in
    statement_first a ids c.in-Some.flaw needed
    (subst (λ (o : Option Flaw). MatchOption o (AllStand a.statements ids) (λ flaw. IsFlawAmong a.statements ids flaw)) c.in-Some.is c.in_ok-flaw.ensures)

pub returns-clause-none : goal.returns-clause-none
returns-clause-none c =
    let a = view_parts c.args.self.now in
    let ids = c.deref.result.now in
    let needed = subst (AreNeeded a) (sym c.deref.ensures.value) c.in-Ok.ensures.needed in
    found_line a ids c.line_flaw.result needed
    (subst (λ (o : Option Flaw). MatchOption o (AllStand a.statements ids) (λ flaw. IsFlawAmong a.statements ids flaw)) c.in-None.is c.in_ok-flaw.ensures)
    c.line_flaw.ensures

pub returns-clause-first : goal.returns-clause-first
returns-clause-first c =
    let a = view_parts c.args.self.now in
    let ids = c.deref.result.now in
    let needed = subst (AreNeeded a) (sym c.deref.ensures.value) c.in-Ok.ensures.needed in
    found_line_first a ids c.line_flaw.result needed
    (subst (λ (o : Option Flaw). MatchOption o (AllStand a.statements ids) (λ flaw. IsFlawAmong a.statements ids flaw)) c.in-None.is c.in_ok-flaw.ensures)
    c.line_flaw.ensures
