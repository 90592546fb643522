use Rattle.std.proofs.Common.{◌++◌, ◌∷◌, [], ℕ, List, sym, ap, ◌∙◌, add-one}
use Rattle.souper_widths.specs.Nodes.{listed}
use Rattle.souper_widths.proofs.solving.first_parents.Goals as goal

pub loop-node-preserved : goal.loop-node-preserved
loop-node-preserved c =
    c.in_ok-push.ensures.items ∙ ap (λ (z : List ℕ). z ++ c.loop-node.node ∷ []) c.loop-node.invariant ∙ ap (listed (λ (i : ℕ). i)) (sym (add-one c.loop-node.node))
