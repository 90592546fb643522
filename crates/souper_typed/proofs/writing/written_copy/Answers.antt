use Rattle.std.proofs.Common.{◌∙◌, ap}
use Rattle.souper_widths.specs.Maps.{WidthMap}
use Rattle.souper_widths.specs.View.{view_widths}
use Rattle.souper_typed.specs.Written.{written_item}
use Rattle.souper_typed.proofs.Widths.{item-written}
use Rattle.souper_typed.proofs.writing.written_copy.Goals as goal

pub returns-clause-written : goal.returns-clause-written
returns-clause-written g c =
    let m : WidthMap = view_widths c.in-Ok.found in (
      m,
      item-written c.args.form m (g.T.Item.view c.args.item.now) (g.T.Item.view c.put_widths.new.self) c.in-Ok.ensures.well_formed c.in-Ok.ensures.typed (c.put_widths.ensures ∙ ap (written_item c.args.form m) c.in_ok-copy.ensures),
    )
