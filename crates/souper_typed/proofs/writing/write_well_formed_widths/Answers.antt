use Rattle.souper_widths.specs.View.{view_widths}
use Rattle.souper_typed.proofs.Widths.{item-written}
use Rattle.souper_typed.proofs.writing.write_well_formed_widths.Goals as goal

pub returns-clause-written : goal.returns-clause-written
returns-clause-written g c =
    item-written c.args.form (view_widths c.in-Ok.found) (g.T.Item.view c.args.item.now) (g.T.Item.view c.put_widths.new.self) c.requires c.in-Ok.ensures.typed c.put_widths.ensures
