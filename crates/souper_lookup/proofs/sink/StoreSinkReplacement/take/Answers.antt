use Rattle.souper_graph.specs.View.{view_replacement}
use Rattle.souper_lookup.proofs.Adding.{added-more}
use Rattle.souper_lookup.proofs.sink.StoreSinkReplacement.take.Goals as goal

pub returns-in-Ok : goal.returns-in-Ok
returns-in-Ok c = λ first items held entries stored.
    let (mid, before, stores) = held entries stored in
    let (now, is, after) = c.in-Ok.ensures.added mid stores c.requires in
    (now, added-more items (view_replacement c.args.item) c.in-Ok.field-0 entries mid now before is, after)
