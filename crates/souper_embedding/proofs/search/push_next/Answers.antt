use Rattle.std.proofs.Common.{◌++◌, Option, sym, ap, ◌∙◌, append-nil}
use Rattle.std.specs.Option.{option_to_list}
use Rattle.souper_embedding.specs.declared.search.Embedding.{Embedding}
use Rattle.souper_embedding.proofs.search.push_next.Goals as goal

pub returns-in_ok-push-in-Some : goal.returns-in_ok-push-in-Some
returns-in_ok-push-in-Some c = c.in_ok-push-in-Some.ensures.items ∙ ap (λ (o : Option Embedding). c.args.found.now.items ++ option_to_list o) (sym c.in-Some.is)

pub returns-in-None : goal.returns-in-None
returns-in-None c = sym (append-nil c.args.found.now.items) ∙ ap (λ (o : Option Embedding). c.args.found.now.items ++ option_to_list o) (sym c.in-None.is)
