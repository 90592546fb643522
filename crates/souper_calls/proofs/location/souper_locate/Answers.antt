use Rattle.souper_ir.specs.Kinds.{item_type_of}
use Rattle.souper_calls.proofs.Locations.{located}
use Rattle.souper_calls.proofs.location.souper_locate.Goals as goal

pub returns-clause-refused : goal.returns-clause-refused
returns-clause-refused c status =
    located c.args.kind (item_type_of c.in-Ok.given.0) c.args.text.now c.in-Err-read_items.error c.location_of.result c.in-Ok.ensures.kind
    (rw c.in-Ok.ensures.source at c.in-Err-read_items.ensures.refused) (rw c.in-Ok.ensures.source at c.in-Err-read_items.ensures.stops) c.location_of.ensures status
