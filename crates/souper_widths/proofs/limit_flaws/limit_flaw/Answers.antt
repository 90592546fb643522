use Rattle.souper_graph.specs.PartsView.{view_parts}
use Rattle.souper_widths.specs.View.{view_widths}
use Rattle.souper_widths.proofs.Lines.{lines-limit}
use Rattle.souper_widths.proofs.limit_flaws.limit_flaw.Goals as goal

pub returns-in-None : goal.returns-in-None
returns-in-None c = lines-limit (view_parts c.args.parts.now) (view_widths c.args.widths.now) c.lines_limit.result c.in-None.ensures c.lines_limit.ensures
