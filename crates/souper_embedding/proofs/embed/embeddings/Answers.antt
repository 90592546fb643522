use Rattle.std.proofs.Common.{◌≡◌, true, refl, sym, ap, ◌∙◌, subst}
use Rattle.souper_graph.specs.declared.ast.items.Replacement.{Replacement}
use Rattle.souper_graph.specs.declared.ast.items.Replacement.TheVariants.{LhsRhs}
use Rattle.souper_graph.specs.Values.{replaced, candidate}
use Rattle.souper_graph.specs.View.{view_infer, view_cand, view_left_hand_side, view_replacement}
use Rattle.souper_graph.specs.WellFormed.{WellFormed}
use Rattle.souper_embedding.proofs.Firsts.{AnswersAll, list-item, none-item, other-embeds}
use Rattle.souper_embedding.proofs.embed.embeddings.Goals as goal

pub returns-in-LhsRhs : goal.returns-in-LhsRhs
returns-in-LhsRhs c = λ ws.
    let s = LhsRhs c.in-LhsRhs.statements c.in-LhsRhs.lhs c.in-LhsRhs.rhs in
    subst (λ (z : Replacement). AnswersAll c.list_of_left.result c.args.limit (view_replacement z) (view_left_hand_side c.args.query.now)) (sym c.in-LhsRhs.is)
    (list-item c.list_of_left.result (view_replacement s) (view_left_hand_side c.args.query.now) (view_infer c.in-LhsRhs.lhs) (view_infer c.args.query.now.infer) c.in-LhsRhs.rhs c.args.limit refl refl
    (subst (λ (z : Replacement). WellFormed (view_replacement z)) c.in-LhsRhs.is ws) c.list_of_left.ensures)

pub returns-in-Cand : goal.returns-in-Cand
returns-in-Cand c = λ ws.
    none-item (view_replacement c.args.stored.now) (view_left_hand_side c.args.query.now) c.args.limit (record { found = c.new.result; are_all = true }) c.new.ensures.items refl
    (λ f h. other-embeds (view_replacement c.args.stored.now) (view_left_hand_side c.args.query.now) f
    (λ i r e. (let z : candidate (view_cand c.in-Cand.cand) ≡ replaced i r = sym (ap (λ (y : Replacement). (view_replacement y).ending) c.in-Cand.is) ∙ e in cc)) h)
