use Rattle.std.proofs.Common.{List, ap, ◌∙◌, arith}
use Rattle.std.specs.Prelude.{slice_index_or}
use Rattle.souper_words.specs.declared.outcome.Outcome.{Outcome}
use Rattle.souper_words.specs.declared.outcome.Outcome.TheVariants.{Poison}
use Rattle.souper_meaning.proofs.worlds.World.value.Goals as goal

pub returns-in-Some : goal.returns-in-Some
returns-in-Some c = c.in-Some.ensures.lookup.4 (omega arith) Poison ∙ ap (λ (z : List Outcome). slice_index_or z c.args.position Poison) c.deref.ensures.value

pub returns-in-None : goal.returns-in-None
returns-in-None c = c.in-None.ensures.lookup.4 (omega arith) Poison ∙ ap (λ (z : List Outcome). slice_index_or z c.args.position Poison) c.deref.ensures.value
