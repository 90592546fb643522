use Rattle.std.proofs.Common.{rules, ◌≡◌, ℕ, List, [], ◌∷◌, ◌++◌, ◌∙◌, ap, append_assoc}
use Rattle.std.specs.String.{string_bytes}
use Rattle.souper_graph.specs.Text.{text_of}
use Rattle.souper_graph.specs.View.{view_replacement}
use Rattle.souper_graph.proofs.Judging.Needed.{well_formed_below}
use Rattle.souper_calls.proofs.answers.append_text.Goals as goal

pub returns : goal.returns
returns c = λ well.
    let item = view_replacement c.args.item.now in
    let appended = c.in_ok-append_text.ensures.appended in
    let text : string_bytes c.append_text.new.out ≡ string_bytes c.args.out.now ++ text_of item =
    appended.1 ∙ ap (λ (x : List ℕ). string_bytes c.args.out.now ++ x) (appended.2.canonical (well_formed_below item well)) in
    let line : string_bytes c.push.new.self ≡ string_bytes c.append_text.new.out ++ 10 ∷ [] = search rules in
    line ∙ ap (λ (x : List ℕ). x ++ 10 ∷ []) text ∙ append_assoc (string_bytes c.args.out.now) (text_of item) (10 ∷ [])
