use Rattle.std.proofs.Common.{◌≡◌, refl, sym, ap, ◌∙◌}
use Rattle.souper_graph.specs.Values.{Item}
use Rattle.souper_widths.specs.Maps.{WidthMap}
use Rattle.souper_typed.specs.Written.{written_item}
use Rattle.souper_typed.proofs.Widths.{item-written}
use Rattle.souper_typed.proofs.laws.law_of_written_items.Goals as goal

pub returns-clause-written : goal.returns-clause-written
returns-clause-written c = λ f m a w t. item-written f m a (written_item f m a) w t refl

pub returns-clause-one : goal.returns-clause-one
returns-clause-one c = λ f m n a b d x y.
    let e : n ≡ m = x.was_typed.only n y.was_typed.has in
    y.written ∙ ap (λ (z : WidthMap). written_item f z a) e ∙ sym x.written

pub returns-clause-again : goal.returns-clause-again
returns-clause-again c = λ f m n a b d x y.
    let e : n ≡ m = x.typed.only n y.was_typed.has in
    y.written ∙ ap (λ (z : WidthMap). written_item f z b) e ∙ x.again
