use Rattle.std.proofs.Common.{map}
use Rattle.std.proofs.lemmas.List.{map-append}
use Rattle.souper_graph.specs.View.{view_statement}
use Rattle.souper_ir.proofs.Scope.Entered.{names_pass}
use Rattle.souper_ir.proofs.parse.parser.Parser.add.Goals as goal

pub invariant_of-self : goal.invariant_of-self
invariant_of-self c = record {
  offset = c.self.invariant.offset;
  failed = c.self.invariant.failed;
  names = λ live. rw (c.in-Ok.ensures.grows, map-append) (names_pass c.self.inside.names (map view_statement c.self.inside.statements) (view_statement c.args.condition) (c.self.invariant.names live) c.requires.unnamed);
}
