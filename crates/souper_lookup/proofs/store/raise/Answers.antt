use Rattle.souper_graph.specs.View.{view_replacement}
use Rattle.souper_lookup.proofs.Storing.{raised-at}
use Rattle.souper_lookup.proofs.store.raise.Goals as goal

pub returns-in-Some : goal.returns-in-Some
returns-in-Some c = λ e at.
    let s = c.in-Some.stored.now in
    raised-at c.args.stored.now.items c.args.index s (record { replacement = s.replacement; count = c.saturating_add-stored.result }) e c.in-Some.ensures.value at
    (λ j. record { replacement = view_replacement s.replacement; count = c.saturating_add-stored.ensures j })
