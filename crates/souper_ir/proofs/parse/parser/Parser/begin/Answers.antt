use Rattle.std.proofs.Common.{◌≡◌, Some, None, refl, sym, subst}
use Rattle.std.specs.Prelude.{map}
use Rattle.souper_graph.specs.View.{view_statement}
use Rattle.souper_graph.specs.Syntax.Spelling.{position_of}
use Rattle.souper_errors.specs.Errors.{error_of, at_end_of}
use Rattle.souper_ir.specs.Parsing.{Parsing}
use Rattle.souper_ir.specs.Reading.{cause_of}
use Rattle.souper_ir.proofs.Nodes.Failing.{refused_for}
use Rattle.souper_ir.proofs.Scope.Entered.{begun, not_begun, is_new_in_table, is_old_in_table, live_inside}
use Rattle.souper_ir.proofs.parse.parser.Parser.begin.Goals as goal

pub returns-then-is_some-clause-begun : goal.returns-then-is_some-clause-begun
returns-then-is_some-clause-begun c =
    let are = c.self.invariant.names (live_inside c.self.inside.failed (subst (λ (p : Parsing). p.failed ≡ None) (sym c.self.view_is) c.requires)) in
    let old = is_old_in_table c.self.inside.names (map view_statement c.self.inside.statements) c.args.name.now c.find-entry.result.0 are c.find-entry.ensures.entry (sym c.if-is_some.ensures) in
    (refused_for (cause_of (error_of c.refuse.result)) (not_begun c.args.name.now c.args.self.now old.0 (at_end_of (error_of c.refuse.result)) (subst (λ (p : Parsing). position_of p.scope c.args.name.now ≡ Some old.0) c.self.view_is old.1) c.refuse.ensures.at_end), c.refuse.ensures.fails)

pub returns-clause-begun : goal.returns-clause-begun
returns-clause-begun c =
    let live = live_inside c.self.inside.failed (subst (λ (p : Parsing). p.failed ≡ None) (sym c.self.view_is) c.requires) in
    let new = is_new_in_table c.self.inside.names (map view_statement c.self.inside.statements) c.args.name.now c.find-entry.result.0 (c.self.invariant.names live) (c.find-entry.ensures.table c.if-slot.false) c.find-entry.ensures.entry (sym c.if-is_some.ensures) in
    begun c.args.name.now c.args.self.now c.args.self.now refl c.requires (subst (λ (p : Parsing). position_of p.scope c.args.name.now ≡ None) c.self.view_is new)
