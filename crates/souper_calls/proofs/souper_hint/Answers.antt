use Rattle.std.proofs.Common.{rules}
use Rattle.std.specs.String.{string_bytes}
use Rattle.souper_graph.specs.Syntax.Spelling.{SpellsNone}
use Rattle.souper_ir.specs.Kinds.{item_type_of}
use Rattle.souper_calls.proofs.HintsWritten.{is_rejected, hint_is_written, hint_is_short}
use Rattle.souper_calls.proofs.souper_hint.Goals as goal

pub returns-in-Ok-Some-clause-hinted : goal.returns-in-Ok-Some-clause-hinted
returns-in-Ok-Some-clause-hinted c =
    let none : SpellsNone (item_type_of c.in-Ok.given.0) c.in-Ok.given.1.now = search rules in
    let rejected = is_rejected c.args.kind c.args.text.now c.in-Ok.given.1.now (item_type_of c.in-Ok.given.0) c.in-Ok.ensures.kind c.in-Ok.ensures.source none in
    hint_is_written c.args.kind c.args.text.now c.args.out.now c.write.new.out c.as_bytes.result.now c.new-outcome.result c.write.result rejected c.write.ensures.written c.write.ensures.short (search rules)

pub returns-in-Ok-Some-clause-short : goal.returns-in-Ok-Some-clause-short
returns-in-Ok-Some-clause-short c =
    let none : SpellsNone (item_type_of c.in-Ok.given.0) c.in-Ok.given.1.now = search rules in
    let rejected = is_rejected c.args.kind c.args.text.now c.in-Ok.given.1.now (item_type_of c.in-Ok.given.0) c.in-Ok.ensures.kind c.in-Ok.ensures.source none in
    hint_is_short c.args.kind c.args.text.now c.args.out.now c.write.new.out c.as_bytes.result.now c.new-outcome.result c.write.result rejected c.write.ensures.written c.write.ensures.short (search rules)
