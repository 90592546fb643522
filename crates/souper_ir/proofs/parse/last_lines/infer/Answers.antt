use Rattle.std.proofs.Common.{ℕ}
use Rattle.std.specs.Prelude.{map}
use Rattle.souper_ir.proofs.Exits.{exit}
use Rattle.souper_graph.specs.View.{view_root_attribute}
use Rattle.souper_ir.specs.Laws.FromReadings.{is_taken, is_refused}
use Rattle.souper_ir.specs.Laws.Statements.{root_rule, infer_laws}
use Rattle.souper_errors.specs.Errors.{error_of}
use Rattle.souper_graph.specs.Syntax.Spelling.{root_attribute as root_attribute_form}
use Rattle.souper_ir.specs.NodeReadings.{root_at, root_attribute_at}
use Rattle.souper_ir.proofs.Items.Stopping.{node_stops, behind_stops}
use Rattle.souper_ir.proofs.parse.last_lines.infer.Goals as goal

pub returns-in_err-value-clause-err : goal.returns-in_err-value-clause-err
returns-in_err-value-clause-err c =
    rw (exit c.from_residual.result c.from_residual.ensures.1) (infer_laws.refused_before (error_of c.in_err-value.field-0.0) c.args.parser.now c.root.new.parser
    (is_refused root_rule (error_of c.in_err-value.field-0.0) c.args.parser.now c.root.new.parser c.in_err-value.ensures))

pub returns-in_err-attributes-clause-err : goal.returns-in_err-attributes-clause-err
returns-in_err-attributes-clause-err c =
    rw (exit c.from_residual-in_err-attributes.result c.from_residual-in_err-attributes.ensures.1) (infer_laws.refused_behind c.in_ok-value.value (error_of c.in_err-attributes.field-0.0) c.args.parser.now c.root.new.parser c.root_attributes.new.parser
    (is_taken root_rule (λ (x : ℕ). x) c.in_ok-value.value c.args.parser.now c.root.new.parser c.in_ok-value.ensures) c.in_err-attributes.ensures.err)

pub returns-clause-ok : goal.returns-clause-ok
returns-clause-ok c =
    infer_laws.taken (record { value = c.in_ok-value.value; attributes = map view_root_attribute c.in_ok-attributes.attributes.items }) c.args.parser.now c.root.new.parser c.root_attributes.new.parser
    (is_taken root_rule (λ (x : ℕ). x) c.in_ok-value.value c.args.parser.now c.root.new.parser c.in_ok-value.ensures) c.in_ok-attributes.ensures.ok

pub returns-in_err-value-clause-stops : goal.returns-in_err-value-clause-stops
returns-in_err-value-clause-stops c =
    rw (exit c.from_residual.result c.from_residual.ensures.1) (node_stops root_at root_attribute_form root_attribute_at (error_of c.in_err-value.field-0.0) c.args.parser.now c.root.new.parser c.in_err-value.ensures)

pub returns-in_err-attributes-clause-stops : goal.returns-in_err-attributes-clause-stops
returns-in_err-attributes-clause-stops c =
    rw (exit c.from_residual-in_err-attributes.result c.from_residual-in_err-attributes.ensures.1) (behind_stops root_at root_attribute_form root_attribute_at c.in_ok-value.value (error_of c.in_err-attributes.field-0.0) c.args.parser.now c.root.new.parser c.in_ok-value.ensures c.in_err-attributes.ensures.stops)
