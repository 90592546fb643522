use Rattle.souper_widths.specs.View.{view_widths}
use Rattle.souper_typed.proofs.Widths.{item-written}
use Rattle.souper_typed.proofs.writing.write_widths.Goals as goal

pub returns-clause-written : goal.returns-clause-written
returns-clause-written g c =
    item-written c.args.form (view_widths c.in-Ok.found) (g.T.Item.view c.args.item.now) (g.T.Item.view c.put_widths.new.self) c.in-Ok.ensures.well_formed c.in-Ok.ensures.typed c.put_widths.ensures
