use Rattle.std.proofs.Common.{map}
use Rattle.std.proofs.lemmas.Result.{IfOk-weaker}
use Rattle.souper_graph.specs.View.{view_left_hand_side, view_replacement}
use Rattle.souper_find.proofs.Answering.{instances-well}
use Rattle.souper_find.proofs.texts.found_texts.Goals as goal

pub returns : goal.returns
returns c = λ wq rq is entries h.
    let found = c.in_ok-found.ensures.found wq rq is entries h in
    let are = (rw c.deref.ensures.value at c.texts_of.ensures) (instances-well (view_left_hand_side c.args.query.now) _ _ found) in
    IfOk-weaker c.texts_of.result _ _ (λ texts e. (map view_replacement c.in_ok-found.found.items, found, e)) are
