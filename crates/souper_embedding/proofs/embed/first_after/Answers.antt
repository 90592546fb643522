use Rattle.std.proofs.Common.{ℕ, List, map, sym, ◌∙◌, subst}
use Rattle.souper_graph.specs.View.{view_statement}
use Rattle.souper_embedding.specs.Given.{AreGiven}
use Rattle.souper_embedding.proofs.Firsts.{first-after}
use Rattle.souper_embedding.proofs.embed.first_after.Goals as goal

pub returns : goal.returns
returns c =
    first-after c.first_from.result _ c.args.start c.first_from.ensures.first c.first_from.ensures.none
    (record {
      conditions = c.as_slice.ensures.value ∙ c.in_ok-conditions.ensures;
      given = subst (λ (z : List ℕ). AreGiven (map view_statement c.args.query.now) z) (sym c.deref.ensures.value) c.in_ok-given.ensures;
    })
