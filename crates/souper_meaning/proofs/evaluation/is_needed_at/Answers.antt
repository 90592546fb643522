use Rattle.std.proofs.Common.{Bool, false, List, ap, ◌∙◌, arith}
use Rattle.std.specs.Prelude.{slice_index_or}
use Rattle.souper_meaning.proofs.evaluation.is_needed_at.Goals as goal

pub returns-in-Some : goal.returns-in-Some
returns-in-Some c = c.in-Some.ensures.lookup.4 (omega arith) false ∙ ap (λ (z : List Bool). slice_index_or z c.args.position false) c.deref.ensures.value

pub returns-in-None : goal.returns-in-None
returns-in-None c = c.in-None.ensures.lookup.4 (omega arith) false ∙ ap (λ (z : List Bool). slice_index_or z c.args.position false) c.deref.ensures.value
