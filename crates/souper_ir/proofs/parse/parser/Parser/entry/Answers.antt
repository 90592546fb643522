use Rattle.std.proofs.Common.{◌≡◌, Option, Some, None, sym, ◌∙◌, ap, subst}
use Rattle.std.specs.Prelude.{map}
use Rattle.souper_graph.specs.View.{view_statement}
use Rattle.souper_graph.specs.Syntax.Spelling.{entry_of}
use Rattle.souper_ir.specs.NamesView.{entry_in_scope, entry_in_map}
use Rattle.souper_ir.specs.Parsing.{Parsing}
use Rattle.souper_names.specs.TableView.{NameEntry}
use Rattle.souper_ir.proofs.Scope.Entered.{found_in_table, found_in_map, live_inside}
use Rattle.souper_ir.proofs.parse.parser.Parser.entry.Goals as goal

pub returns-in-Some : goal.returns-in-Some
returns-in-Some c =
    let are = c.self.invariant.names (live_inside c.self.inside.failed (subst (λ (p : Parsing). p.failed ≡ None) (sym c.self.view_is) c.requires)) in
    subst (λ (p : Parsing). Some c.in-Some.entry ≡ entry_of p.scope c.args.name.now) c.self.view_is
    (found_in_table c.self.inside.names (map view_statement c.self.inside.statements) c.args.name.now c.in-Some.entry are c.in-Some.ensures)

pub returns-in-None : goal.returns-in-None
returns-in-None c =
    let are = c.self.invariant.names (live_inside c.self.inside.failed (subst (λ (p : Parsing). p.failed ≡ None) (sym c.self.view_is) c.requires)) in
    c.in_scope.ensures ∙ ap (λ (o : Option NameEntry). entry_in_scope (map view_statement c.self.inside.statements) o c.args.name.now) c.in_map.ensures
    ∙ subst (λ (p : Parsing). entry_in_scope (map view_statement c.self.inside.statements) (entry_in_map c.self.inside.names.entries c.args.name.now) c.args.name.now ≡ entry_of p.scope c.args.name.now) c.self.view_is
    (found_in_map c.self.inside.names (map view_statement c.self.inside.statements) c.args.name.now are c.in-None.ensures)
