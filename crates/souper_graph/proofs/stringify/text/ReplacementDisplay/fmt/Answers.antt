use Rattle.std.proofs.Common.{◌∙◌}
use Rattle.souper_graph.specs.View.{view_replacement}
use Rattle.souper_graph.proofs.Judging.Lower.{shown, shown_styled}
use Rattle.souper_graph.proofs.stringify.text.ReplacementDisplay.fmt.Goals as goal

pub returns-in-Ok-clause-writes : goal.returns-in-Ok-clause-writes
returns-in-Ok-clause-writes g c =
    shown g.W.Write.write_str_gives (view_replacement c.args.self.now) c.deref.result.now c.args.f.now c.write_str.new.self c.write_str.result (λ b. c.deref.ensures ∙ c.in-Ok.ensures.printed.canonical b) c.write_str.ensures.writes

pub returns-in-Ok-clause-styled : goal.returns-in-Ok-clause-styled
returns-in-Ok-clause-styled g c =
    shown_styled g.W.Write.write_str_gives (view_replacement c.args.self.now) c.deref.result.now c.args.f.now c.write_str.new.self c.write_str.result (λ b. c.deref.ensures ∙ c.in-Ok.ensures.printed.canonical b) c.write_str.ensures.styled
