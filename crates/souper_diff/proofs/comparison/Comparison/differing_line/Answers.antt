use Rattle.std.proofs.Common.{◌≡◌, true, false, length, sym, ap, ◌∙◌, arith}
use Rattle.std.proofs.lemmas.Bool.{eqb-false}
use Rattle.souper_diff.proofs.Comparing.{compared_apart}
use Rattle.souper_diff.proofs.comparison.Comparison.differing_line.Goals as goal
use Rattle.souper_diff.proofs.comparison.Comparison.differing_line.Goals.{else-not-self-via-then-not-self+then-is_empty+else-is_empty-2, else-not-self-via-then-not-self+else-is_empty, else-not-self-via-else-not-self}

pub returns-clause-differs : goal.returns-clause-differs
returns-clause-differs c = λ text other h. compared_apart c.args.self.now text other h (λ good none.
    let first = ap length none.0 in
    let second = ap length none.1 in
    elim c.else-not-self.branch [
      | else-not-self-via-then-not-self+then-is_empty+else-is_empty-2 w ↦ eqb-false _ _ (sym w.is_empty-then-is_empty.ensures ∙ w.if-is_empty-2.false) (omega (arith, c.args.self.now.other.ok))
      | else-not-self-via-then-not-self+else-is_empty w ↦ eqb-false _ _ (sym w.is_empty.ensures ∙ w.if-is_empty.false) (omega (arith, c.args.self.now.text.ok))
      | else-not-self-via-else-not-self w ↦ (let bad : true ≡ false = sym w.if-not-self.false ∙ good in cc)
    ])
