use Rattle.std.proofs.Common.{◌≡◌, ℕ, ◌*◌, length, get_or, sym, ap, subst, ◌∙◌}
use Rattle.std.proofs.lemmas.List.{length-map}
use Rattle.souper_graph.specs.declared.ast.flaws.FlawLocation.TheVariants.{Statement}
use Rattle.souper_graph.specs.Values.{Item}
use Rattle.souper_graph.specs.View.{view_statement}
use Rattle.souper_graph.specs.PartsView.{view_parts}
use Rattle.souper_widths.specs.Told.{IsFirstUntold}
use Rattle.souper_widths.proofs.Untold.{line-untold, all-told}
use Rattle.souper_widths.proofs.told.first_untold.Goals as goal

pub returns-in-Some : goal.returns-in-Some
returns-in-Some c = subst (λ (z : ℕ). IsFirstUntold (view_parts c.args.parts.now) c.args.nodes.now (Statement z)) (sym c.at.ensures) c.in-Some.ensures

pub returns-then-nodes-len-eq0 : goal.returns-then-nodes-len-eq0
returns-then-nodes-len-eq0 c =
    let a : Item = view_parts c.args.parts.now in
    let size : c.len.result ≡ length a.statements = c.len.ensures ∙ sym (length-map c.args.parts.now.statements.now view_statement) in
    line-untold a c.args.nodes.now c.first_line.result c.first_line.ensures (ap (λ (z : ℕ). get_or c.args.nodes.now (2 * z) 0) (sym size) ∙ c.if-nodes-len-eq0.true) c.in-None.ensures

pub returns-else-nodes-len-eq0 : goal.returns-else-nodes-len-eq0
returns-else-nodes-len-eq0 c =
    let a : Item = view_parts c.args.parts.now in
    let size : c.len.result ≡ length a.statements = c.len.ensures ∙ sym (length-map c.args.parts.now.statements.now view_statement) in
    all-told a c.args.nodes.now (λ e. c.if-nodes-len-eq0.false (ap (λ (z : ℕ). get_or c.args.nodes.now (2 * z) 0) size ∙ e)) c.in-None.ensures
