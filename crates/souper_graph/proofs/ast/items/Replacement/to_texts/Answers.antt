use Rattle.std.proofs.Common.{◌≡◌, ℕ, ◌++◌, List, take, sym, ap, subst, ◌∙◌}
use Rattle.std.specs.List.{flat_map}
use Rattle.std.specs.Prelude.{Err, ◌↔◌}
use Rattle.std.proofs.lemmas.Result.{err_from_is_err_and}
use Rattle.souper_graph.specs.declared.ast.items.Replacement.{Replacement}
use Rattle.souper_graph.specs.declared.stringify.errors.TextError.{TextError}
use Rattle.souper_graph.specs.Values.{inferred}
use Rattle.souper_graph.specs.View.{view_infer, view_replacement}
use Rattle.souper_graph.specs.Uses.{Has, uses_at, roots_of, NeededIn}
use Rattle.souper_graph.specs.Text.{text_in_order}
use Rattle.souper_graph.specs.Faults.{IsFaultAmong, IsFaultOf}
use Rattle.souper_graph.specs.Endings.{replacement_ending}
use Rattle.souper_graph.specs.ItemText.{IsItemText}
use Rattle.souper_graph.specs.Syntax.Spelling.{replacement}
use Rattle.souper_graph.proofs.Texts.Naming.{IsFaultOf-answered}
use Rattle.souper_graph.proofs.Texts.ItemTexts.{item-text}
use Rattle.souper_graph.proofs.Lefts.{left-text}
use Rattle.souper_graph.proofs.ast.items.Replacement.to_texts.Goals as goal

-- a fault of the replacement that was matched
of-whole : (r v : Replacement) (ids : List ℕ) (e : TextError) → r ≡ v → IsFaultAmong (view_replacement v).statements (roots_of (view_replacement v).ending ++ flat_map (uses_at (view_replacement v).statements) ids) e →
    ((i : ℕ) → Has ids i ↔ NeededIn (view_replacement r) i) → IsFaultOf (view_replacement r) e
of-whole r v ids e is h n =
    IsFaultOf-answered {T = Unit {0}} (view_replacement r) ids (Err e) n
    (subst (λ (z : Replacement). IsFaultAmong (view_replacement z).statements (roots_of (view_replacement z).ending ++ flat_map (uses_at (view_replacement z).statements) ids) e) (sym is) h)

pub returns-in_err-text-in-LhsRhs-clause-refused : goal.returns-in_err-text-in-LhsRhs-clause-refused
returns-in_err-text-in-LhsRhs-clause-refused c =
    let p = err_from_is_err_and c.from_residual-in_err-text-in-LhsRhs.result c.from_residual-in_err-text-in-LhsRhs.ensures.1 in
    rw (p.1, p.2)
    (of-whole c.args.self.now _ c.in_ok-order-in-LhsRhs.order.ids.items _ c.in-LhsRhs.is c.in_err-text-in-LhsRhs.ensures.refused c.in_ok-order-in-LhsRhs.ensures.ordered.exact)

pub returns-in_ok-text-in-LhsRhs-clause-printed : goal.returns-in_ok-text-in-LhsRhs-clause-printed
returns-in_ok-text-in-LhsRhs-clause-printed c =
    let a = view_replacement c.args.self.now in
    let order = c.in_ok-order-in-LhsRhs.order in
    subst (IsItemText replacement a)
    (sym (c.in_ok-text-in-LhsRhs.ensures.whole ∙ sym (ap (λ (z : Replacement). text_in_order (view_replacement z).statements (view_replacement z).ending order.ids.items order.lead) c.in-LhsRhs.is)))
    (item-text a order.ids.items order.lead order.turns c.in_ok-order-in-LhsRhs.ensures.ordered replacement (replacement_ending c.args.self.now))

pub returns-in_ok-text-in-LhsRhs-clause-left : goal.returns-in_ok-text-in-LhsRhs-clause-left
returns-in_ok-text-in-LhsRhs-clause-left c = λ below.
    let order = c.in_ok-order-in-LhsRhs.order in
    left-text (view_replacement c.args.self.now) (view_infer c.in-LhsRhs.lhs) c.in-LhsRhs.rhs order.ids.items order.lead order.turns _
    (ap (λ (z : Replacement). (view_replacement z).ending) c.in-LhsRhs.is) c.in_ok-order-in-LhsRhs.ensures.ordered below
    (c.in_ok-text-in-LhsRhs.ensures.left ∙ sym (ap (λ (z : Replacement). text_in_order (view_replacement z).statements (inferred (view_infer c.in-LhsRhs.lhs)) (take order.lead order.ids.items) order.lead) c.in-LhsRhs.is))
