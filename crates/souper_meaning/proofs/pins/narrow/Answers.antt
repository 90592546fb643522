use Rattle.std.proofs.Common.{◌∙◌, List, Option, sym, ap}
use Rattle.std.specs.Prelude.{slice_index_or}
use Rattle.souper_widths.specs.Maps.{WidthMap}
use Rattle.souper_widths.specs.View.{view_widths}
use Rattle.souper_meaning.specs.declared.spans.Span.{Span}
use Rattle.souper_meaning.specs.declared.pins.Pin.{Pin}
use Rattle.souper_meaning.specs.Pins.{unsaid, pinned_by}
use Rattle.souper_meaning.proofs.Pinned.{narrowed}
use Rattle.souper_meaning.proofs.pins.narrow.Goals as goal

pub returns-then-pin-numbers : goal.returns-then-pin-numbers
returns-then-pin-numbers c = λ p l.
    let m : WidthMap = view_widths c.args.plan.now.widths in
    let ns : List Span = c.args.numbers.now in
    narrowed m ns c.in-Some.pin c.shared-narrowed.result c.widths_at-width.result.result p c.if-pin-numbers.true c.widths_at-width.ensures.result c.shared-narrowed.ensures
    ∙ ap (λ (o : Option Pin). pinned_by m p (slice_index_or ns p unsaid) o) (sym c.in-Some.is)
