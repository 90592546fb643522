use Rattle.std.proofs.Common.{ℕ, List, map, sym, ◌∙◌, subst}
use Rattle.souper_graph.specs.View.{view_statement}
use Rattle.souper_embedding.specs.Given.{AreGiven}
use Rattle.souper_embedding.proofs.Firsts.{list-after}
use Rattle.souper_embedding.proofs.embed.list_after.Goals as goal

pub returns : goal.returns
returns c =
    list-after c.all_from.result _ c.args.start c.args.limit c.all_from.ensures
    (record {
      conditions = c.as_slice.ensures.value ∙ c.in_ok-conditions.ensures;
      given = subst (λ (z : List ℕ). AreGiven (map view_statement c.args.query.now) z) (sym c.deref.ensures.value) c.in_ok-given.ensures;
    })
