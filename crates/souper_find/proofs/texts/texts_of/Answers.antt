use Rattle.std.proofs.Common.{◌∷◌, [], ◌++◌, map, ap, sym, ◌∙◌, arith}
use Rattle.std.specs.String.{string_bytes}
use Rattle.std.proofs.lemmas.List.{map-append}
use Rattle.souper_graph.specs.Values.{Item}
use Rattle.souper_graph.specs.View.{view_replacement}
use Rattle.souper_graph.specs.WellFormed.{WellFormed}
use Rattle.souper_lookup.proofs.Answering.{all-at, all-mapped}
use Rattle.souper_records.specs.Uniques.{text_by}
use Rattle.souper_find.proofs.Answering.{texts-next}
use Rattle.souper_find.proofs.texts.texts_of.Goals as goal

pub loop-item-preserved : goal.loop-item-preserved
loop-item-preserved c = λ well.
    let xs = c.args.items.now in
    let k = c.loop-item.item-index in
    let l = c.loop-item-test.true in
    let f = text_by c.args.rename in
    let one = c.in_ok-text.ensures (all-at (λ r. WellFormed (view_replacement r)) xs k c.item-item.result (omega arith) c.item-item.is (all-mapped view_replacement (λ (x : Item). WellFormed x) xs well)) in
    ap (map string_bytes) c.in_ok-push.ensures.items ∙ map-append string_bytes c.loop-item.texts.items (c.in_ok-text.text ∷ [])
    ∙ (λ i. c.loop-item.invariant well i ++ one i ∷ []) ∙ sym (texts-next view_replacement f xs k c.item-item.result (omega arith) c.item-item.is)
