use Rattle.std.proofs.Common.{◌∙◌, ◌<◌, ℕ, List, length, sym, ap, subst, arith, rules}
use Rattle.std.specs.Prelude.{slice_index}
use Rattle.std.proofs.lemmas.List.{with_items_is, places}
use Rattle.souper_graph.specs.Values.{Item}
use Rattle.souper_graph.specs.PartsView.{view_parts}
use Rattle.souper_graph.proofs.Judging.Needed.{well_formed_inside}
use Rattle.souper_widths.specs.Maps.{WidthMap}
use Rattle.souper_widths.specs.View.{view_widths}
use Rattle.souper_meaning.specs.Worlds.{World}
use Rattle.souper_meaning.specs.View.{view_world}
use Rattle.souper_meaning.specs.Numbering.{HasDigitAt, HasDigits}
use Rattle.souper_meaning.proofs.Stepped.{given_all}
use Rattle.souper_meaning.proofs.stepping.step.Goals as goal

pub put_digits-requires-clause-digits : goal.put_digits-requires-clause-digits
put_digits-requires-clause-digits c p l n =
    let a : Item = view_parts c.args.parts.now in
    let whole = with_items_is c.args.numbered.now.digits c.advance-end.new.digits (search (rules, places)) in
    let i : p < length c.args.counts.now = omega (arith, well_formed_inside a c.requires.planned.well_formed p n, c.requires.counts.size) in
    c.requires.counts.allow p (slice_index c.deref.result.now p)
    (subst (λ (z : List ℕ). slice_index z p < slice_index c.args.counts.now p) (sym (c.deref.ensures.value ∙ whole)) (c.advance-end.ensures.digits p i)) n

pub returns-clause-numbered : goal.returns-clause-numbered
returns-clause-numbered c =
    let a : Item = view_parts c.args.parts.now in
    let m : WidthMap = view_widths c.args.plan.now.widths in
    let x : World = view_world c.args.numbered.now.world in
    let y : World = view_world c.put_digits.new.world in
    let whole = with_items_is c.args.numbered.now.digits c.advance-end.new.digits (search (rules, places)) in
    record {
      size = ap (λ (z : List ℕ). length z) whole ∙ c.advance-end.auto.digits ∙ ap (λ (z : List ℕ). length z) c.deref_mut.ensures.value ∙ c.requires.numbered.size;
      places = c.put_digits.ensures.places;
      below = λ p l. subst (λ (z : List ℕ). slice_index z p < slice_index c.args.counts.now p) (sym whole) (c.advance-end.ensures.digits p (omega (arith, l, c.requires.counts.size)));
      given = subst (λ (z : List ℕ). HasDigits a m y (slice_index z)) (sym whole) (given_all a m x y (slice_index c.args.numbered.now.digits.items) (slice_index c.advance-end.new.digits) c.advance-end.result
          (λ p l n. subst (λ (z : List ℕ). HasDigitAt a m y p (slice_index z p)) (c.deref.ensures.value ∙ whole) (c.put_digits.ensures.given p l n)) c.put_digits.ensures.others
          (λ p l. c.advance-end.ensures.kept p l ∙ ap (λ (z : List ℕ). slice_index z p) c.deref_mut.ensures.value) c.requires.numbered.given);
    }
