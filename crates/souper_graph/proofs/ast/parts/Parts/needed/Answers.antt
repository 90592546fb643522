use Rattle.std.proofs.Common.{ℕ, Vec, Global}
use Rattle.souper_graph.specs.PartsView.{view_parts}
use Rattle.souper_graph.proofs.FlawSearch.Needed.{needed_answer}
use Rattle.souper_graph.proofs.ast.parts.Parts.needed.Goals as goal

pub returns-clause-needed : goal.returns-clause-needed
returns-clause-needed c =
    needed_answer (λ (v : Vec ℕ Global). v.items) c.marked.result (view_parts c.args.self.now) c.new-targets.result.items c.push_ending.new.targets.items c.push_conditions.new.targets.items _
    c.new-targets.ensures.items c.in_ok-push_ending.ensures.ok c.in_ok-push_conditions.ensures.ok c.in_ok-marks.ensures.reached c.marked.ensures.marked
