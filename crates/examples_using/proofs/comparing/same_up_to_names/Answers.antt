use Rattle.std.proofs.Common.{refl, rules, ◌≡◌, sym, ◌∙◌}
use Rattle.std.specs.String.{string_bytes}
use Rattle.souper_graph.specs.View.{view_left_hand_side}
use Rattle.souper_graph.specs.Text.{text_of}
use Rattle.souper_graph.specs.Syntax.Spelling.{left_hand_side}
use Rattle.examples_using.proofs.comparing.same_up_to_names.Goals as goal

pub returns : goal.returns
returns c =
    let a = view_left_hand_side c.args.a.now in
    let b = view_left_hand_side c.args.b.now in
    let x = view_left_hand_side c.in_ok-renamed.field-0 in
    let y = view_left_hand_side c.in_ok-renamed-2.field-0 in
    let below = c.law_of_well_formedness.ensures.below in
    let first : string_bytes c.in_ok-first.first ≡ text_of x = c.in_ok-first.ensures.printed.canonical (below x (c.in_ok-renamed.ensures.named.well_formed c.requires.first)) in
    let second : string_bytes c.in_ok-second.second ≡ text_of y = c.in_ok-second.ensures.printed.canonical (below y (c.in_ok-renamed-2.ensures.named.well_formed c.requires.second)) in
    let left : c.as_str.result.now ≡ text_of x = c.as_str.ensures.value ∙ first in
    let right : c.as_str-2.result.now ≡ text_of y = c.as_str-2.ensures.value ∙ second in
    let law = c.law_of_canonical_texts.ensures.renamed left_hand_side a b x y (c.requires.first, refl) (c.requires.second, refl) c.in_ok-renamed.ensures.named c.in_ok-renamed-2.ensures.named in (
      (λ t. law.0 (sym left ∙ c.agree.ensures.0 t ∙ right)),
      (λ s. c.agree.ensures.1 (left ∙ law.1 s ∙ sym right)),
    )
