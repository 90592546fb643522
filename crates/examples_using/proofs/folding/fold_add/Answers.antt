use Rattle.std.proofs.Common.{◌≡◌, ◌∙◌, refl, sym, ap, subst, List}
use Rattle.std.specs.Prelude.{Some, slice_get}
use Rattle.souper_graph.specs.declared.ast.operands.Operand.{Operand}
use Rattle.souper_graph.specs.Values.{PlainAssignment, PlainStatement, assigned}
use Rattle.souper_graph.specs.View.{view_assignment}
use Rattle.souper_graph.specs.Replacing.{with_uses_replaced}
use Rattle.examples_using.specs.Folding.{IsSum}
use Rattle.examples_using.proofs.Sums.{assigned-there}
use Rattle.examples_using.proofs.folding.fold_add.Goals as goal

pub returns-clause-folded : goal.returns-clause-folded
returns-clause-folded g c = λ _. record {
  constant = c.in-Some-sum.constant;
  sum = record {
    assignment = view_assignment c.in-Some.assignment.now;
    there = ap (λ (ss : List PlainStatement). slice_get ss c.args.value) (sym c.statements.ensures)
        ∙ assigned-there c.statements.result.now c.args.value c.in-Some.assignment.now c.in-Some.ensures;
    is_sum = c.in-Some-sum.ensures.some;
  };
  replaced = c.replace_uses.ensures ∙ ap (λ (by : Operand). with_uses_replaced c.args.value by (g.T.Item.view c.args.item.now)) c.into.ensures;
}

pub returns-in_default-sum-clause-kept : goal.returns-in_default-sum-clause-kept
returns-in_default-sum-clause-kept g c = λ _. record {
  no_sum = λ k s.
      let own = view_assignment c.in-Some.assignment.now in
      let there : slice_get (g.T.Item.view c.args.item.now).statements c.args.value ≡ Some (assigned own) =
      ap (λ (ss : List PlainStatement). slice_get ss c.args.value) (sym c.statements.ensures)
      ∙ assigned-there c.statements.result.now c.args.value c.in-Some.assignment.now c.in-Some.ensures in
      let both : Some (assigned s.assignment) ≡ Some (assigned own) = sym s.there ∙ there in
      let same : s.assignment ≡ own = cc in
      c.in_default-sum.ensures.none k (subst (λ (p : PlainAssignment). IsSum p.value k) same s.is_sum);
  same = refl;
}
