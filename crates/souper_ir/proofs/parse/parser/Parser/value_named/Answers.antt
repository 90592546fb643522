use Rattle.std.proofs.Common.{◌≡◌, Some, None, sym, subst}
use Rattle.std.specs.Prelude.{map}
use Rattle.souper_graph.specs.View.{view_statement}
use Rattle.souper_graph.specs.Syntax.Spelling.{position_of}
use Rattle.souper_ir.specs.Parsing.{Parsing}
use Rattle.souper_ir.proofs.Scope.Entered.{position_is, live_inside}
use Rattle.souper_ir.proofs.parse.parser.Parser.value_named.Goals as goal

pub returns-then-is_named : goal.returns-then-is_named
returns-then-is_named c =
    let are = c.self.invariant.names (live_inside c.self.inside.failed (subst (λ (p : Parsing). p.failed ≡ None) (sym c.self.view_is) c.requires)) in
    subst (λ (p : Parsing). Some c.in-Some.value ≡ position_of p.scope c.args.name.now) c.self.view_is
    (position_is (map view_statement c.self.inside.statements) c.in-Some.value c.args.name.now are.named (sym c.if-is_named.ensures))
