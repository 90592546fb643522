use Rattle.std.proofs.Common.{rules, ◌≢◌, []}
use Rattle.std.proofs.lemmas.List.{map-append}
use Rattle.souper_code.proofs.Items.{read_more, all_read, stopped}
use Rattle.souper_code.proofs.decode.decode_items.Goals as goal

pub returns-in_err-item-clause-no_code : goal.returns-in_err-item-clause-no_code
returns-in_err-item-clause-no_code g c =
    let some : c.loop-reader.reader.rest.now ≢ [] = search rules in
    stopped _ _ _ _ _ c.in_err-item.field-0.0 c.loop-reader.invariant some c.in_err-item.ensures.only (search rules)

pub loop-reader-preserved : goal.loop-reader-preserved
loop-reader-preserved g c =
    let some : c.loop-reader.reader.rest.now ≢ [] = search rules in
    rw (c.in_ok-push.ensures.items, map-append)
    (read_more _ _ _ _ _ _ c.loop-reader.invariant some c.in_ok-item.ensures.read.0 c.in_ok-item.ensures.read.1 c.in_ok-item.ensures.only)

pub returns-clause-decoded : goal.returns-clause-decoded
returns-clause-decoded g c = all_read _ _ _ _ c.loop-reader.invariant (search rules)
