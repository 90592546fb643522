use Rattle.std.proofs.Common.{◌≡◌, None, ◌∙◌, sym, map, subst}
use Rattle.std.proofs.lemmas.List.{map-append, length-map}
use Rattle.souper_graph.specs.View.{view_statement, view_assignment}
use Rattle.souper_graph.specs.Syntax.Spelling.{position_of}
use Rattle.souper_ir.specs.Parsing.{Parsing}
use Rattle.souper_ir.proofs.parse.parser.Parser.define.Goals as goal

pub invariant_of-self-in-Ok-enter : goal.invariant_of-self-in-Ok-enter
invariant_of-self-in-Ok-enter c = record {
  offset = c.self.invariant.offset;
  failed = c.self.invariant.failed;
  names = λ live. rw (c.in-Ok.ensures.grows, c.into.ensures, map-append) (c.in-Ok-enter.ensures (map view_statement c.self.inside.statements) (view_assignment c.args.assignment)
      (c.self.invariant.names live)
      (rw c.requires.named (subst (λ (p : Parsing). position_of p.scope c.args.name.now ≡ None) (sym c.self.view_is) c.requires.fresh))
      (sym c.requires.named)
      (c.index.ensures ∙ c.in-Ok.ensures.position ∙ sym (length-map c.self.inside.statements view_statement))
      c.predecessors_of-predecessors.ensures);
}
