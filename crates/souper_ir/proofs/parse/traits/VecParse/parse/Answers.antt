use Rattle.souper_ir.proofs.Exits.{exit}
use Rattle.std.proofs.Common.{map}
use Rattle.souper_ir.proofs.Nodes.Lists.{peek_refused, member_refused, one_more, members, ends, memory_ends}
use Rattle.souper_ir.specs.Laws.Series.{behind, shorter}
use Rattle.souper_errors.specs.Errors.{error_of}
use Rattle.souper_ir.proofs.parse.traits.VecParse.parse.Goals as goal

pub returns-in_err-peek : goal.returns-in_err-peek
returns-in_err-peek g c =
    let bad = peek_refused g.P.Parse.spells g.P.Parse.continues g.P.Peek.starts g.met.P.Parse.alone g.met.P.Peek.first _ c.in_err-peek.field-0.0 _ _ _ c.loop-values.invariant c.in_err-peek.ensures in
    rw (exit c.from_residual.result c.from_residual.ensures.1) (record { ok = tt; err = bad.0; stuck = bad.1 })

pub returns-in_err-value : goal.returns-in_err-value
returns-in_err-value g c =
    let seen = rw c.if-branch.true at c.in_ok-peek.ensures in
    let bad = member_refused g.P.Parse.spells g.P.Parse.continues g.P.Peek.starts g.met.P.Parse.alone g.met.P.Peek.first _ c.in_err-value.field-0.0 _ _ _ _ c.loop-values.invariant seen c.in_err-value.ensures.err in
    rw (exit c.from_residual-in_err-value.result c.from_residual-in_err-value.ensures.1) (record { ok = tt; err = bad.0; stuck = bad.1 })

pub loop-values-smaller : goal.loop-values-smaller
loop-values-smaller g c =
    shorter (members g.P.Parse.spells g.P.Parse.continues g.P.Peek.starts g.met.P.Parse.alone g.met.P.Peek.first) g.P.Parse.leaves (g.P.Parse.view c.in_ok-value.value) c.loop-values.parser c.parse.new.parser
    (behind g.P.Peek.starts (g.P.Parse.view c.in_ok-value.value) _ c.loop-values.parser c.peek.new.parser c.parse.new.parser c.in_ok-peek.ensures c.in_ok-value.ensures.ok)

pub loop-values-preserved : goal.loop-values-preserved
loop-values-preserved g c =
    rw c.in-Ok.ensures.items (one_more g.P.Parse.spells g.P.Parse.continues g.P.Peek.starts g.met.P.Parse.alone g.met.P.Peek.first g.P.Parse.view g.P.Parse.leaves c.loop-values.values.items c.in_ok-value.value _ c.args.parser.now c.loop-values.parser c.peek.new.parser c.parse.new.parser g.met.P.Peek.stays c.loop-values.invariant c.in_ok-peek.ensures c.in_ok-value.ensures.ok)

pub returns-in-Err : goal.returns-in-Err
returns-in-Err g c =
    let so = one_more g.P.Parse.spells g.P.Parse.continues g.P.Peek.starts g.met.P.Parse.alone g.met.P.Peek.first g.P.Parse.view g.P.Parse.leaves c.loop-values.values.items c.in_ok-value.value _ c.args.parser.now c.loop-values.parser c.peek.new.parser c.parse.new.parser g.met.P.Peek.stays c.loop-values.invariant c.in_ok-peek.ensures c.in_ok-value.ensures.ok in
    let bad = memory_ends g.P.Parse.spells g.P.Parse.continues g.P.Peek.starts g.met.P.Parse.alone g.met.P.Peek.first _ (error_of c.want_memory.result) c.args.parser.now c.parse.new.parser c.want_memory.new.self so c.want_memory.ensures in
    rw c.into.ensures (record { ok = tt; err = bad.0; stuck = bad.1 })

pub returns-clause-ok : goal.returns-clause-ok
returns-clause-ok g c =
    ends g.P.Parse.spells g.P.Parse.continues g.P.Peek.starts g.met.P.Parse.alone g.met.P.Peek.first (map g.P.Parse.view c.loop-values.values.items) c.args.parser.now c.loop-values.parser c.peek.new.parser c.loop-values.invariant (rw c.if-branch.false at c.in_ok-peek.ensures)
