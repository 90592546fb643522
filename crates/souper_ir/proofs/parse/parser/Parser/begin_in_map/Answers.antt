use Rattle.std.proofs.Common.{◌≡◌, Option, Some, None, refl, sym, ◌∙◌, ap, subst}
use Rattle.std.specs.Prelude.{is_some, map}
use Rattle.std.proofs.lemmas.List.{length-map}
use Rattle.souper_graph.specs.View.{view_statement}
use Rattle.souper_graph.specs.Syntax.Spelling.{position_of}
use Rattle.souper_errors.specs.Errors.{error_of, at_end_of}
use Rattle.souper_names.specs.TableView.{NameEntry}
use Rattle.souper_ir.specs.Parsing.{Parsing}
use Rattle.souper_ir.specs.Reading.{cause_of}
use Rattle.souper_ir.proofs.Nodes.Failing.{refused_for, fails_first}
use Rattle.souper_ir.proofs.Scope.Entered.{begun, not_begun, is_new, is_old, begin_in_map, live_inside}
use Rattle.souper_ir.proofs.parse.parser.Parser.begin_in_map.Goals as goal

pub fail_at-requires-clause-again : goal.fail_at-requires-clause-again
fail_at-requires-clause-again c x e = cc

pub returns-then-is_some : goal.returns-then-is_some
returns-then-is_some c =
    let are = c.self.invariant.names (live_inside c.self.inside.failed (subst (λ (p : Parsing). p.failed ≡ None) (sym c.self.view_is) c.requires)) in
    let old = is_old c.self.inside.names (map view_statement c.self.inside.statements) c.args.name.now c.in-Ok.replaced are (sym c.in-Ok.ensures.replaced) (sym (c.if-is_some.ensures ∙ ap (λ (o : Option NameEntry). is_some o) c.in_scope.ensures)) in (
      refused_for (cause_of (error_of c.fail_at.result)) (not_begun c.args.name.now c.args.self.now old.0 (at_end_of (error_of c.fail_at.result)) (subst (λ (p : Parsing). position_of p.scope c.args.name.now ≡ Some old.0) c.self.view_is old.1) (c.fail_at.ensures.not_at_end refl)),
      fails_first (error_of c.fail_at.result) c.args.self.now _ c.fail_at.new.self c.requires (ap (λ (p : Parsing). p.len) c.self.view_is) c.fail_at.ensures.fails,
    )

-- nothing of the name was entered, or what was is not in scope
pub returns-in-Ok-None : goal.returns-in-Ok-None
returns-in-Ok-None c =
    let live = live_inside c.self.inside.failed (subst (λ (p : Parsing). p.failed ≡ None) (sym c.self.view_is) c.requires) in
    let new = is_new c.self.inside.names (map view_statement c.self.inside.statements) c.args.name.now None (c.self.invariant.names live) (sym (sym c.in-Ok-None.field-0-is ∙ c.in-Ok-None.ensures.replaced)) refl in
    begun c.args.name.now _ c.args.self.now c.self.view_is c.requires new

pub returns-else-is_some : goal.returns-else-is_some
returns-else-is_some c =
    let live = live_inside c.self.inside.failed (subst (λ (p : Parsing). p.failed ≡ None) (sym c.self.view_is) c.requires) in
    let new = is_new c.self.inside.names (map view_statement c.self.inside.statements) c.args.name.now c.in-Ok.replaced (c.self.invariant.names live) (sym c.in-Ok.ensures.replaced) (sym (c.if-is_some.ensures ∙ ap (λ (o : Option NameEntry). is_some o) c.in_scope.ensures)) in
    begun c.args.name.now _ c.args.self.now c.self.view_is c.requires new

pub invariant_of-self : goal.invariant_of-self
invariant_of-self c = record {
  offset = c.self.invariant.offset;
  failed = c.self.invariant.failed;
  names = λ live.
      let are = c.self.invariant.names live in
      let new = is_new c.self.inside.names (map view_statement c.self.inside.statements) c.args.name.now None are (sym (sym c.in-Ok-None.field-0-is ∙ c.in-Ok-None.ensures.replaced)) refl in
      begin_in_map c.self.inside.names c.put_into_map.new.self (map view_statement c.self.inside.statements) c.args.name.now are new c.in-Ok-None.ensures.table
      (rw (length-map c.self.inside.statements view_statement, sym c.len-next.ensures) c.in-Ok-None.ensures.entered) c.in-Ok-None.ensures.last;
}

pub invariant_of-self-else-is_some : goal.invariant_of-self-else-is_some
invariant_of-self-else-is_some c = record {
  offset = c.self.invariant.offset;
  failed = c.self.invariant.failed;
  names = λ live.
      let are = c.self.invariant.names live in
      let new = is_new c.self.inside.names (map view_statement c.self.inside.statements) c.args.name.now c.in-Ok.replaced are (sym c.in-Ok.ensures.replaced) (sym (c.if-is_some.ensures ∙ ap (λ (o : Option NameEntry). is_some o) c.in_scope.ensures)) in
      begin_in_map c.self.inside.names c.put_into_map.new.self (map view_statement c.self.inside.statements) c.args.name.now are new c.in-Ok.ensures.table
      (rw (length-map c.self.inside.statements view_statement, sym c.len-next.ensures) c.in-Ok.ensures.entered) c.in-Ok.ensures.last;
}
