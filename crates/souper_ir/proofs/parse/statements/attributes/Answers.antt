use Rattle.std.proofs.Common.{List, map, refl, ap}
use Rattle.souper_ir.proofs.Exits.{exit}
use Rattle.souper_graph.specs.declared.ast.attributes.Attribute.{Attribute}
use Rattle.souper_graph.specs.View.{view_attribute}
use Rattle.souper_errors.specs.Errors.{error_of}
use Rattle.souper_ir.specs.Laws.Attributes.{attribute_rule, attribute_first}
use Rattle.souper_ir.specs.Laws.FromReadings.{alone, is_taken, is_refused}
use Rattle.souper_ir.specs.Laws.Series.{behind, shorter}
use Rattle.souper_ir.proofs.Nodes.Ahead.{no_attributes}
use Rattle.souper_graph.specs.Syntax.Tokens.{open_paren}
use Rattle.souper_graph.specs.Syntax.Spelling.{attribute as attribute_form}
use Rattle.souper_ir.specs.NodeReadings.{is_mark, attribute_at}
use Rattle.souper_ir.proofs.Items.Stopping.{look_stops, no_attribute, member_stops}
use Rattle.souper_ir.proofs.Nodes.Lists.{peek_refused, member_refused, one_more, members, ends}
use Rattle.souper_ir.proofs.parse.statements.attributes.Goals as goal

pub returns-then-name_on_next_line-clause-ok : goal.returns-then-name_on_next_line-clause-ok
returns-then-name_on_next_line-clause-ok c =
    no_attributes (map view_attribute c.new-attributes.result.items) c.args.parser.now (ap (λ (xs : List Attribute). map view_attribute xs) c.new-attributes.ensures.items) (c.name_on_next_line.ensures c.if-name_on_next_line.true)

pub returns-in_err-mark_comes-clause-err : goal.returns-in_err-mark_comes-clause-err
returns-in_err-mark_comes-clause-err c =
    rw (exit c.from_residual.result c.from_residual.ensures.1) (peek_refused _ _ _ (alone attribute_rule) attribute_first (map view_attribute c.loop-attributes.attributes.items) (error_of c.in_err-mark_comes.field-0.0) c.args.parser.now c.loop-attributes.parser c.mark_comes.new.parser c.loop-attributes.invariant c.in_err-mark_comes.ensures).0

pub returns-in_err-value-clause-err : goal.returns-in_err-value-clause-err
returns-in_err-value-clause-err c =
    let e = error_of c.in_err-value.field-0.0 in
    rw (exit c.from_residual-in_err-value.result c.from_residual-in_err-value.ensures.1) (member_refused _ _ _ (alone attribute_rule) attribute_first (map view_attribute c.loop-attributes.attributes.items) e c.args.parser.now c.loop-attributes.parser c.mark_comes.new.parser c.attribute.new.parser c.loop-attributes.invariant
    (rw c.if-branch.true at c.in_ok-mark_comes.ensures) (is_refused attribute_rule e c.mark_comes.new.parser c.attribute.new.parser c.in_err-value.ensures)).0

pub loop-attributes-smaller : goal.loop-attributes-smaller
loop-attributes-smaller c =
    let took = behind (is_mark open_paren) (view_attribute c.in_ok-value.value) _ c.loop-attributes.parser c.mark_comes.new.parser c.attribute.new.parser c.in_ok-mark_comes.ensures
    (is_taken attribute_rule view_attribute c.in_ok-value.value c.mark_comes.new.parser c.attribute.new.parser c.in_ok-value.ensures) in
    shorter (members _ _ _ (alone attribute_rule) attribute_first) (λ s. s) (view_attribute c.in_ok-value.value) c.loop-attributes.parser c.attribute.new.parser took

pub loop-attributes-preserved : goal.loop-attributes-preserved
loop-attributes-preserved c =
    let took = is_taken attribute_rule view_attribute c.in_ok-value.value c.mark_comes.new.parser c.attribute.new.parser c.in_ok-value.ensures in
    rw c.in-Ok.ensures.items (one_more _ _ _ (alone attribute_rule) attribute_first view_attribute (λ s. s) c.loop-attributes.attributes.items c.in_ok-value.value _ c.args.parser.now c.loop-attributes.parser c.mark_comes.new.parser c.attribute.new.parser (λ s. refl) c.loop-attributes.invariant c.in_ok-mark_comes.ensures took)

pub returns-clause-ok : goal.returns-clause-ok
returns-clause-ok c =
    ends _ _ _ (alone attribute_rule) attribute_first (map view_attribute c.loop-attributes.attributes.items) c.args.parser.now c.loop-attributes.parser c.mark_comes.new.parser c.loop-attributes.invariant (rw c.if-branch.false at c.in_ok-mark_comes.ensures)

pub returns-in_err-mark_comes-clause-stops : goal.returns-in_err-mark_comes-clause-stops
returns-in_err-mark_comes-clause-stops c =
    rw (exit c.from_residual.result c.from_residual.ensures.1) (look_stops attribute_form attribute_at no_attribute (map view_attribute c.loop-attributes.attributes.items) (error_of c.in_err-mark_comes.field-0.0) c.args.parser.now c.loop-attributes.parser c.mark_comes.new.parser c.loop-attributes.invariant c.in_err-mark_comes.ensures)

pub returns-in_err-value-clause-stops : goal.returns-in_err-value-clause-stops
returns-in_err-value-clause-stops c =
    rw (exit c.from_residual-in_err-value.result c.from_residual-in_err-value.ensures.1) (member_stops attribute_form attribute_at (map view_attribute c.loop-attributes.attributes.items) (error_of c.in_err-value.field-0.0) c.args.parser.now c.loop-attributes.parser c.mark_comes.new.parser c.attribute.new.parser c.loop-attributes.invariant
    (rw c.if-branch.true at c.in_ok-mark_comes.ensures) c.in_err-value.ensures)
