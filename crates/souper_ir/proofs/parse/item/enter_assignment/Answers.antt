use Rattle.std.proofs.Common.{None, ◌≡◌, ◌∙◌, sym, subst}
use Rattle.std.proofs.lemmas.Result.{on_ok_weaker}
use Rattle.souper_ir.proofs.Exits.{exit}
use Rattle.std.specs.Prelude.{map}
use Rattle.souper_graph.specs.Syntax.Spelling.{position_of}
use Rattle.souper_graph.specs.Values.{PlainAssignment, assigned}
use Rattle.souper_graph.specs.View.{view_rhs, view_attribute}
use Rattle.souper_errors.specs.Errors.{error_of}
use Rattle.souper_ir.specs.Parsing.{Parsing}
use Rattle.souper_ir.specs.NodeReadings.{Definition}
use Rattle.souper_ir.proofs.Nodes.Statements.{heading_refused, value_refused, attributes_refused, parts_taken, assignment_taken, assignment_refused}
use Rattle.souper_ir.proofs.Nodes.NextStatements.{no_pc_seen, no_block_pc_seen}
use Rattle.souper_ir.proofs.Items.Steps.{entered}
use Rattle.souper_ir.proofs.Items.Stopping.{heading_stops, value_stops, attributes_stop}
use Rattle.souper_ir.proofs.parse.item.enter_assignment.Goals as goal

pub returns-in_err-name : goal.returns-in_err-name
returns-in_err-name c =
    let here = c.args.parser.now in
    let e = error_of c.in_err-name.field-0.0 in
    let bad = heading_refused e here c.entered_heading.new.parser c.in_err-name.ensures.heading in
    rw (exit c.from_residual.result c.from_residual.ensures.1) (record {
      ok = tt;
      err = assignment_refused e here here here c.entered_heading.new.parser (no_pc_seen here here c.requires) (no_block_pc_seen here here c.requires) bad;
      stops = heading_stops e here c.entered_heading.new.parser c.requires c.in_err-name.ensures.heading;
    })

pub returns-in-Err : goal.returns-in-Err
returns-in-Err c =
    let here = c.args.parser.now in
    let e = error_of c.in-Err.error in
    let bad = value_refused e (c.in_ok-name.name.now, c.in_ok-name.ty) here c.entered_heading.new.parser c.rhs.new.parser c.in_ok-name.ensures.heading c.in-Err.ensures in record {
      ok = tt;
      err = assignment_refused e here here here c.rhs.new.parser (no_pc_seen here here c.requires) (no_block_pc_seen here here c.requires) bad;
      stops = value_stops e (c.in_ok-name.name.now, c.in_ok-name.ty) here c.entered_heading.new.parser c.rhs.new.parser c.requires c.in_ok-name.ensures.heading c.in-Err.ensures;
    }

pub returns-in_err-attributes-in-Ok : goal.returns-in_err-attributes-in-Ok
returns-in_err-attributes-in-Ok c =
    let here = c.args.parser.now in
    let e = error_of c.in_err-attributes-in-Ok.field-0.0 in
    let d : Definition = record { name = c.in_ok-name.name.now; ty = c.in_ok-name.ty; value = view_rhs c.in-Ok.value } in
    let bad = attributes_refused e d here c.entered_heading.new.parser c.rhs.new.parser c.attributes.new.parser c.in_ok-name.ensures.heading c.in-Ok.ensures c.in_err-attributes-in-Ok.ensures.err in
    rw (exit c.from_residual-in_err-attributes-in-Ok.result c.from_residual-in_err-attributes-in-Ok.ensures.1) (record {
      ok = tt;
      err = assignment_refused e here here here c.attributes.new.parser (no_pc_seen here here c.requires) (no_block_pc_seen here here c.requires) bad;
      stops = attributes_stop e d here c.entered_heading.new.parser c.rhs.new.parser c.requires c.in_ok-name.ensures.heading c.in-Ok.ensures c.in_err-attributes-in-Ok.ensures.stops;
    })

pub define-requires-clause-fresh : goal.define-requires-clause-fresh
define-requires-clause-fresh c =
    let a : PlainAssignment = record { name = c.in_ok-name.name.now; ty = c.in_ok-name.ty; value = view_rhs c.in-Ok.value; attributes = map view_attribute c.in_ok-attributes-in-Ok.attributes.items } in
    let t = parts_taken a c.args.parser.now c.entered_heading.new.parser c.rhs.new.parser c.attributes.new.parser c.in_ok-name.ensures.heading c.in-Ok.ensures c.in_ok-attributes-in-Ok.ensures.ok in
    subst (λ (p : Parsing). position_of p.scope c.in_ok-name.name.now ≡ None) (sym t.state ∙ sym c.in-Ok-copy_name.ensures.kept) t.spelled.first.1

pub returns-in-Ok-copy_name-clause-ok : goal.returns-in-Ok-copy_name-clause-ok
returns-in-Ok-copy_name-clause-ok c =
    let here = c.args.parser.now in
    let a : PlainAssignment = record { name = c.in_ok-name.name.now; ty = c.in_ok-name.ty; value = view_rhs c.in-Ok.value; attributes = map view_attribute c.in_ok-attributes-in-Ok.attributes.items } in
    let t = parts_taken a here c.entered_heading.new.parser c.rhs.new.parser c.attributes.new.parser c.in_ok-name.ensures.heading c.in-Ok.ensures c.in_ok-attributes-in-Ok.ensures.ok in
    on_ok_weaker c.define.result
    (entered (assigned a) here c.attributes.new.parser c.define.new.self
    (assignment_taken a here here here c.attributes.new.parser (no_pc_seen here here c.requires) (no_block_pc_seen here here c.requires) t))
    (rw (c.in-Ok-copy_name.ensures.copied, c.in-Ok-copy_name.ensures.kept) at c.define.ensures.ok)
