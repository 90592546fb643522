use Rattle.souper_graph.specs.PartsView.{view_parts}
use Rattle.souper_widths.proofs.Lines.{lines-shape}
use Rattle.souper_widths.proofs.places.shape_flaw.Goals as goal

pub returns-in-None : goal.returns-in-None
returns-in-None c = lines-shape (view_parts c.args.parts.now) c.lines_shape.result c.in-None.ensures c.lines_shape.ensures
