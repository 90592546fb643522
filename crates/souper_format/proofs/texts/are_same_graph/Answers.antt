use Rattle.std.proofs.Common.{◌≡◌, ℕ, ◌++◌, List, ap, ◌∙◌}
use Rattle.std.specs.String.{string_bytes}
use Rattle.souper_graph.specs.Text.{text_with_newline}
use Rattle.souper_format.proofs.OneGraph.{same_lines}
use Rattle.souper_format.proofs.texts.are_same_graph.Goals as goal

pub returns : goal.returns
returns g c =
    let view = g.T.Item.view in
    let text : string_bytes c.append_item.new.out ≡ text_with_newline (view c.args.a.now) =
    c.in_ok-append_item.ensures ∙ ap (λ (l : List ℕ). l ++ text_with_newline (view c.args.a.now)) c.new-text.ensures.bytes in
    let other : string_bytes c.append_item-2.new.out ≡ text_with_newline (view c.args.b.now) =
    c.in_ok-append_item-2.ensures ∙ ap (λ (l : List ℕ). l ++ text_with_newline (view c.args.b.now)) c.new-other_text.ensures.bytes in
    let same = same_lines g.T.Item.item_type (view c.args.a.now) (view c.args.b.now) (string_bytes c.append_item.new.out) (string_bytes c.append_item-2.new.out)
    (c.requires.formed, g.met.T.Item.ends c.args.a.now) (c.requires.other_formed, g.met.T.Item.ends c.args.b.now) text other in
    rw c.eq.ensures same
