use Rattle.std.proofs.Common.{ℕ, List, ap, ◌∙◌, arith}
use Rattle.std.specs.Prelude.{slice_index_or}
use Rattle.souper_meaning.proofs.worlds.World.choice.Goals as goal

pub returns-in-Some : goal.returns-in-Some
returns-in-Some c = c.in-Some.ensures.lookup.4 (omega arith) 0 ∙ ap (λ (z : List ℕ). slice_index_or z c.args.position 0) c.deref.ensures.value

pub returns-in-None : goal.returns-in-None
returns-in-None c = c.in-None.ensures.lookup.4 (omega arith) 0 ∙ ap (λ (z : List ℕ). slice_index_or z c.args.position 0) c.deref.ensures.value
