use Rattle.std.proofs.Common.{◌≡◌, ℕ, List, take, drop, ap, ◌∙◌}
use Rattle.std.proofs.lemmas.List.{take_rest}
use Rattle.souper_diff.specs.declared.comparison.Comparison.{Comparison}
use Rattle.souper_diff.specs.Comparisons.{line_ends, AgreeUpTo}
use Rattle.souper_diff.proofs.Comparing.{compared_more}
use Rattle.souper_diff.proofs.comparison.Comparison.append.Goals as goal

pub returns : goal.returns
returns c = λ before others h.
    let old : Comparison = c.args.self.now in
    let held : List ℕ = c.extend_from_slice.new.self.items in
    let held_other : List ℕ = c.extend_from_slice-2.new.self.items in
    let front = c.common_front-len in
    let text_is : c.deref.result.now ≡ held = c.deref.ensures.value in
    let other_is : c.deref-2.result.now ≡ held_other = c.deref-2.ensures.value in
    let agree : AgreeUpTo held held_other front.result.0 front.result.2 = rw (text_is, other_is) at front.ensures.same in
    let new : Comparison = record { alloc = old.alloc; line = c.saturating_add-self.result; differs = front.result.2; text = c.in_ok-self.field-0; other = c.in_ok-self-2.field-0 } in
    compared_more old new before others c.args.text.now c.args.other.now held held_other front.result.0 front.result.1 h c.if-self.false c.in_ok-extend_from_slice.ensures.items c.in_ok-extend_from_slice-2.ensures.items
    agree (front.ensures.newlines ∙ ap (λ (x : List ℕ). line_ends (take front.result.0 x)) text_is) c.saturating_add-self.ensures
    (c.in_ok-self.ensures.items_if_clones_equal (λ x y e. e) ∙ take_rest c.deref-3.result.now front.result.0 ∙ ap (drop front.result.0) c.deref-3.ensures.value)
    (c.in_ok-self-2.ensures.items_if_clones_equal (λ x y e. e) ∙ take_rest c.deref-4.result.now front.result.0 ∙ ap (drop front.result.0) c.deref-4.ensures.value)
