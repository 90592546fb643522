use Rattle.std.specs.Prelude.{map}
use Rattle.souper_ir.proofs.Exits.{exit}
use Rattle.souper_graph.specs.declared.ast.operands.Operand.{Operand}
use Rattle.souper_graph.specs.View.{view_root_attribute}
use Rattle.souper_ir.specs.Laws.FromReadings.{is_taken, is_refused}
use Rattle.souper_ir.specs.Laws.Statements.{pair_line_rule, cand_laws}
use Rattle.souper_errors.specs.Errors.{error_of}
use Rattle.souper_graph.specs.Syntax.Spelling.{root_attribute as root_attribute_form}
use Rattle.souper_ir.specs.NodeReadings.{pair_at, root_attribute_at}
use Rattle.souper_ir.proofs.Items.Stopping.{node_stops, behind_stops}
use Rattle.souper_ir.proofs.parse.last_lines.cand.Goals as goal

pub returns-in_err-lhs-clause-err : goal.returns-in_err-lhs-clause-err
returns-in_err-lhs-clause-err c =
    rw (exit c.from_residual.result c.from_residual.ensures.1) (cand_laws.refused_before (error_of c.in_err-lhs.field-0.0) c.args.parser.now c.pair.new.parser
    (is_refused pair_line_rule (error_of c.in_err-lhs.field-0.0) c.args.parser.now c.pair.new.parser c.in_err-lhs.ensures))

pub returns-in_err-attributes-clause-err : goal.returns-in_err-attributes-clause-err
returns-in_err-attributes-clause-err c =
    rw (exit c.from_residual-in_err-attributes.result c.from_residual-in_err-attributes.ensures.1) (cand_laws.refused_behind (c.in_ok-lhs.lhs, c.in_ok-lhs.rhs) (error_of c.in_err-attributes.field-0.0) c.args.parser.now c.pair.new.parser c.root_attributes.new.parser
    (is_taken pair_line_rule (λ (x : Operand × Operand). x) (c.in_ok-lhs.lhs, c.in_ok-lhs.rhs) c.args.parser.now c.pair.new.parser c.in_ok-lhs.ensures) c.in_err-attributes.ensures.err)

pub returns-clause-ok : goal.returns-clause-ok
returns-clause-ok c =
    cand_laws.taken (record { lhs = c.in_ok-lhs.lhs; rhs = c.in_ok-lhs.rhs; attributes = map view_root_attribute c.in_ok-attributes.attributes.items }) c.args.parser.now c.pair.new.parser c.root_attributes.new.parser
    (is_taken pair_line_rule (λ (x : Operand × Operand). x) (c.in_ok-lhs.lhs, c.in_ok-lhs.rhs) c.args.parser.now c.pair.new.parser c.in_ok-lhs.ensures) c.in_ok-attributes.ensures.ok

pub returns-in_err-lhs-clause-stops : goal.returns-in_err-lhs-clause-stops
returns-in_err-lhs-clause-stops c =
    rw (exit c.from_residual.result c.from_residual.ensures.1) (node_stops pair_at root_attribute_form root_attribute_at (error_of c.in_err-lhs.field-0.0) c.args.parser.now c.pair.new.parser c.in_err-lhs.ensures)

pub returns-in_err-attributes-clause-stops : goal.returns-in_err-attributes-clause-stops
returns-in_err-attributes-clause-stops c =
    rw (exit c.from_residual-in_err-attributes.result c.from_residual-in_err-attributes.ensures.1) (behind_stops pair_at root_attribute_form root_attribute_at (c.in_ok-lhs.lhs, c.in_ok-lhs.rhs) (error_of c.in_err-attributes.field-0.0) c.args.parser.now c.pair.new.parser c.in_ok-lhs.ensures c.in_err-attributes.ensures.stops)
