use Rattle.std.proofs.Common.{◌≡◌, ℕ, ◌+◌, List, [], ◌∷◌, ◌++◌, map, take, get_or, sym, ap, ◌∙◌, arith}
use Rattle.std.specs.String.{string_bytes}
use Rattle.std.proofs.lemmas.List.{take_more, map-append, flat_map_more}
use Rattle.souper_graph.specs.Values.{Item}
use Rattle.souper_graph.specs.Text.{text_with_newline, texts_of}
use Rattle.souper_graph.specs.View.{view_replacement}
use Rattle.souper_graph.specs.WellFormed.{WellFormed}
use Rattle.souper_lookup.proofs.Answering.{all-at, all-mapped}
use Rattle.souper_calls.proofs.answers.append_texts.Goals as goal

pub loop-item-preserved : goal.loop-item-preserved
loop-item-preserved c = λ well.
    let xs = c.args.items.now in
    let k = c.loop-item.item-index in
    let d = c.item-item.result in
    let l = c.loop-item-test.true in
    let before = string_bytes c.args.out.now in
    let one = c.in_ok-append_text.ensures (all-at (λ r. WellFormed (view_replacement r)) xs k d (omega arith) c.item-item.is (all-mapped view_replacement (λ (x : Item). WellFormed x) xs well)) in
    let views : map view_replacement (take (k + 1) xs) ≡ map view_replacement (take k xs) ++ view_replacement d ∷ [] =
    ap (map view_replacement) (take_more xs k d (omega arith)) ∙ map-append view_replacement (take k xs) (get_or xs k d ∷ []) ∙ ap (λ z. map view_replacement (take k xs) ++ view_replacement z ∷ []) (sym c.item-item.is) in
    one ∙ ap (λ (x : List ℕ). x ++ text_with_newline (view_replacement d)) (c.loop-item.invariant well)
    ∙ flat_map_more text_with_newline before (map view_replacement (take k xs)) (view_replacement d) ∙ ap (λ (x : List Item). before ++ texts_of x) (sym views)
