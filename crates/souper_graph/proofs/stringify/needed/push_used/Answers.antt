use Rattle.std.proofs.Common.{◌≡◌, ◌++◌, ◌∙◌, List, map, sym, ap, append-nil}
use Rattle.souper_graph.specs.Uses.{position_of}
use Rattle.souper_graph.specs.UsesView.{view_use}
use Rattle.souper_graph.specs.Walks.{position_of_target}
use Rattle.souper_graph.proofs.FlawSearch.Targets.{pushed_use}
use Rattle.souper_graph.proofs.stringify.needed.push_used.Goals as goal

pub loop-used-init : goal.loop-used-init
loop-used-init c = (tt, tt, ap (λ us. map position_of_target c.args.targets.now.items ++ map position_of us) (c.into_iter-used-iterator.ensures.into_iter_gives ∙ c.uses-used-items.ensures))

pub loop-used-preserved : goal.loop-used-preserved
loop-used-preserved c = (
  tt,
  tt,
  pushed_use c.loop-used.targets.items c.push.new.self.items c.target.result (view_use c.in-Some.used) c.loop-used.used-iterator c.next.new.self _
      c.in-Some.ensures.steps c.in_ok-push.ensures.items c.target.ensures c.loop-used.invariant.2,
)

pub returns-clause-ok : goal.returns-clause-ok
returns-clause-ok c =
    sym (ap (λ us. map position_of_target c.loop-used.targets.items ++ map position_of us) c.in-None.ensures.steps.0 ∙ append-nil (map position_of_target c.loop-used.targets.items))
    ∙ c.loop-used.invariant.2
