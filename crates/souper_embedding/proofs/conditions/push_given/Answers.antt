use Rattle.std.proofs.Common.{ℕ, ◌+◌, List, sym, ◌∙◌, subst}
use Rattle.std.specs.Prelude.{map}
use Rattle.souper_graph.specs.Uses.{Has}
use Rattle.souper_graph.specs.View.{view_statement}
use Rattle.souper_embedding.specs.Given.{AreGivenTo}
use Rattle.souper_embedding.proofs.Given.{given-past, given-again, given-more}
use Rattle.souper_embedding.proofs.conditions.push_given.Goals as goal

pub returns-then-not-is_condition_at : goal.returns-then-not-is_condition_at
returns-then-not-is_condition_at c = λ h.
    given-past (map view_statement c.args.statements.now) c.args.index c.args.found.now.items (λ s e. sym c.if-not-is_condition_at.true ∙ c.is_condition_at.ensures.test s e) h

pub returns-then-is_repeated : goal.returns-then-is_repeated
returns-then-is_repeated c = λ h.
    let r = c.is_repeated.ensures.repeated c.if-is_repeated.true in
    given-again (map view_statement c.args.statements.now) c.args.index r.0 c.args.found.now.items (subst (λ (z : List ℕ). Has z r.0) c.deref.ensures.value r.1) r.2 h

pub returns : goal.returns
returns c = λ h.
    let x = c.is_condition_at.ensures.there c.if-not-is_condition_at.false in
    subst (λ (z : List ℕ). AreGivenTo (map view_statement c.args.statements.now) (c.args.index + 1) z) (sym c.in_ok-push.ensures.items)
    (given-more (map view_statement c.args.statements.now) c.args.index x.0 c.args.found.now.items x.1 x.2
    (λ g m e. c.is_repeated.ensures.new c.if-is_repeated.false g x.0 (subst (λ (z : List ℕ). Has z g) (sym c.deref.ensures.value) m) e x.1 x.2) h)
