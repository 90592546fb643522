use Rattle.std.proofs.Common.{List, ℕ, sym, subst}
use Rattle.souper_ir.proofs.Exits.{exit}
use Rattle.std.specs.Prelude.{map}
use Rattle.souper_graph.specs.Values.{PlainAssignment}
use Rattle.souper_graph.specs.View.{view_rhs, view_attribute}
use Rattle.souper_errors.specs.Errors.{error_of}
use Rattle.souper_ir.proofs.Nodes.Statements.{TakesAssignment, heading_refused, value_refused, attributes_refused, parts_taken}
use Rattle.souper_ir.proofs.parse.statements.assignment.Goals as goal

pub returns-in_err-name-clause-err : goal.returns-in_err-name-clause-err
returns-in_err-name-clause-err c =
    rw (exit c.from_residual.result c.from_residual.ensures.1) (heading_refused (error_of c.in_err-name.field-0.0) c.args.parser.now c.heading.new.parser c.in_err-name.ensures)

pub returns-in_err-value-clause-err : goal.returns-in_err-value-clause-err
returns-in_err-value-clause-err c =
    rw (exit c.from_residual-in_err-value.result c.from_residual-in_err-value.ensures.1) (value_refused (error_of c.in_err-value.field-0.0) (c.in_ok-name.name.now, c.in_ok-name.ty) c.args.parser.now c.heading.new.parser c.rhs.new.parser c.in_ok-name.ensures c.in_err-value.ensures)

pub returns-in_err-attributes-clause-err : goal.returns-in_err-attributes-clause-err
returns-in_err-attributes-clause-err c =
    rw (exit c.from_residual-in_err-attributes.result c.from_residual-in_err-attributes.ensures.1) (attributes_refused (error_of c.in_err-attributes.field-0.0) (record { name = c.in_ok-name.name.now; ty = c.in_ok-name.ty; value = view_rhs c.in_ok-value.value }) c.args.parser.now c.heading.new.parser c.rhs.new.parser c.attributes.new.parser
    c.in_ok-name.ensures c.in_ok-value.ensures c.in_err-attributes.ensures.err)

pub returns-in-Ok-clause-ok : goal.returns-in-Ok-clause-ok
returns-in-Ok-clause-ok c =
    let a : PlainAssignment = record { name = c.in_ok-name.name.now; ty = c.in_ok-name.ty; value = view_rhs c.in_ok-value.value; attributes = map view_attribute c.in_ok-attributes.attributes.items } in
    let whole = parts_taken a c.args.parser.now c.heading.new.parser c.rhs.new.parser c.attributes.new.parser c.in_ok-name.ensures c.in_ok-value.ensures c.in_ok-attributes.ensures.ok in
    subst (λ (n : List ℕ). TakesAssignment (record { name = n; ty = c.in_ok-name.ty; value = view_rhs c.in_ok-value.value; attributes = map view_attribute c.in_ok-attributes.attributes.items }) c.args.parser.now c.attributes.new.parser)
    (sym c.in-Ok.ensures.ok) whole
