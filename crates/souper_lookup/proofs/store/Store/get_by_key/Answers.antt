use Rattle.std.proofs.Common.{ℕ, List, ap, ◌∙◌}
use Rattle.std.specs.String.{string_bytes}
use Rattle.std.specs.Prelude.{filter}
use Rattle.std.proofs.lemmas.Result.{IfOk-weaker}
use Rattle.souper_lookup.specs.Stored.{Entry, elements_at, has_left_key}
use Rattle.souper_lookup.proofs.Indexing.{elements-found}
use Rattle.souper_lookup.proofs.store.Store.get_by_key.Goals as goal

pub returns : goal.returns
returns c = λ q is entries h. IfOk-weaker c.stored_at.result _ _ (λ found e. e ∙ (λ j. elements_at (h.entries_are j) (c.group_of-indices.ensures entries h j)) ∙ elements-found entries (string_bytes c.args.key.now)
    ∙ ap (λ (z : List ℕ). filter (λ (e : Entry). has_left_key z e.replacement) entries) is) c.stored_at.ensures
