use Rattle.std.proofs.Common.{ℕ, ◌++◌, List, [], ◌∷◌, ap, ◌∙◌}
use Rattle.souper_embedding.proofs.search.with_last.Goals as goal

pub returns : goal.returns
returns c = c.in_ok-push.ensures.items ∙ ap (λ (z : List ℕ). z ++ c.args.last ∷ []) c.in_ok-copy.ensures.items
