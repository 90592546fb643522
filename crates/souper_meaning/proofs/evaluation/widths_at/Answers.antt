use Rattle.std.proofs.Common.{ℕ, List, ap, ◌∙◌}
use Rattle.std.specs.Prelude.{slice_index}
use Rattle.souper_meaning.proofs.evaluation.widths_at.Goals as goal

pub returns-clause-result : goal.returns-clause-result
returns-clause-result c = c.width_at-own.ensures ∙ ap (λ (z : List ℕ). slice_index z c.args.position) c.deref.ensures.value

pub returns-clause-operands : goal.returns-clause-operands
returns-clause-operands c = c.width_at-used.ensures ∙ ap (λ (z : List ℕ). slice_index z c.args.position) c.deref-2.ensures.value
