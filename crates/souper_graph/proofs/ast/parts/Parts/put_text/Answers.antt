use Rattle.std.proofs.Common.{ℕ, List, ◌++◌, sym, ap, subst, ◌∙◌}
use Rattle.std.specs.Prelude.{Err}
use Rattle.std.specs.String.{string_bytes}
use Rattle.souper_graph.specs.ItemText.{IsItemText}
use Rattle.souper_graph.specs.Text.{text_in_order}
use Rattle.souper_graph.specs.Values.{Item}
use Rattle.souper_graph.specs.PartsView.{view_parts}
use Rattle.souper_graph.specs.Syntax.Spelling.{IsEndingOf}
use Rattle.souper_graph.proofs.Texts.Naming.{IsFaultOf-answered}
use Rattle.souper_graph.proofs.Texts.ItemTexts.{item-text}
use Rattle.souper_graph.proofs.ast.parts.Parts.put_text.Goals as goal

pub returns-clause-refused : goal.returns-clause-refused
returns-clause-refused c =
    IsFaultOf-answered {T = Unit {0}} (view_parts c.args.self.now) c.in_ok-order.order.ids.items (Err c.in-Err.error) c.in_ok-order.ensures.ordered.exact c.in-Err.ensures.refused

pub returns-in-Ok-clause-printed : goal.returns-in-Ok-clause-printed
returns-in-Ok-clause-printed c k a e ends =
    let b = view_parts c.args.self.now in
    let order = c.in_ok-order.order in
    let item_text = item-text b order.ids.items order.lead order.turns c.in_ok-order.ensures.ordered k (subst (λ (x : Item). IsEndingOf k x.ending) (sym e) ends) in
    subst (λ (x : Item). IsItemText k x (string_bytes c.append_by.new.out)) e
    (subst (IsItemText k b) (sym (c.in-Ok.ensures.ok ∙ ap (λ (l : List ℕ). l ++ text_in_order b.statements b.ending order.ids.items order.lead) c.requires)) item_text)
