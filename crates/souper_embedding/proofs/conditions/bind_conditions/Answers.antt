use Rattle.std.proofs.Common.{◌≡◌, length, map, sym, ap, ◌∙◌, subst}
use Rattle.souper_graph.specs.Values.{condition, block_condition}
use Rattle.souper_graph.specs.Uses.{position_of, uses_of}
use Rattle.souper_graph.specs.Sameness.{carried}
use Rattle.souper_graph.specs.View.{view_statement}
use Rattle.souper_embedding.specs.Maps.{AreBelow}
use Rattle.souper_embedding.proofs.conditions.bind_conditions.Goals as goal

pub returns-in-Pc-y-clause-forced : goal.returns-in-Pc-y-clause-forced
returns-in-Pc-y-clause-forced c = λ f w t e below.
    let same : condition c.in-Pc-y.other ≡ carried f (condition c.in-Pc.pc) = sym (ap view_statement c.in-Pc-y.is) ∙ e ∙ ap (λ z. carried f (view_statement z)) c.in-Pc.is in
    c.bind_pc.ensures.forced f w same (subst (λ z. AreBelow (length c.args.to.now) (map position_of (uses_of (view_statement z)))) c.in-Pc.is below)

pub returns-then-pc-other-clause-forced : goal.returns-then-pc-other-clause-forced
returns-then-pc-other-clause-forced c = λ f w t e below.
    let same : block_condition c.in-BlockPc-y.other ≡ carried f (block_condition c.in-BlockPc.pc) = sym (ap view_statement c.in-BlockPc-y.is) ∙ e ∙ ap (λ z. carried f (view_statement z)) c.in-BlockPc.is in
    c.bind_block_pc.ensures.forced f w same (subst (λ z. AreBelow (length c.args.to.now) (map position_of (uses_of (view_statement z)))) c.in-BlockPc.is below)
