use Rattle.std.proofs.Common.{rules, ◌≡◌, ℕ, List, [], ◌∷◌, ◌++◌, map, refl, ap, ◌∙◌, append_assoc}
use Rattle.std.specs.String.{string_bytes}
use Rattle.souper_graph.specs.Text.{texts_of}
use Rattle.souper_graph.specs.View.{view_left_hand_side, view_replacement}
use Rattle.souper_lookup.specs.Stored.{answers, replacements_of}
use Rattle.souper_calls.proofs.Groups.{instances-well}
use Rattle.souper_calls.proofs.answers.Groups.append.Goals as goal

pub returns-clause-group : goal.returns-clause-group
returns-clause-group c = λ well entries h.
    let q = view_left_hand_side c.args.query.now in
    let items = map view_replacement c.in_ok-found.found.items in
    let before = string_bytes c.args.self.now.out in
    let are = c.in_ok-found.ensures.found well entries h in
    let texts : string_bytes c.append_texts.new.out ≡ before ++ texts_of items = (rw c.deref.ensures.value at c.in_ok-append_texts.ensures) (instances-well q (replacements_of (answers q entries)) items are) in
    let last : string_bytes c.push.new.self ≡ string_bytes c.append_texts.new.out ++ 0 ∷ [] = search rules in
    (texts_of items ++ 0 ∷ [], (items, are, refl), last ∙ ap (λ (x : List ℕ). x ++ 0 ∷ []) texts ∙ append_assoc before (texts_of items) (0 ∷ []))
