use Rattle.std.proofs.Common.{◌≢◌, ℕ, ◌∙◌, sym, ap, arith, get_or}
use Rattle.souper_widths.specs.declared.ties.Side.TheVariants.{Node}
use Rattle.souper_widths.proofs.Forests.{same-trans}
use Rattle.souper_widths.proofs.Tying.{adds-nothing, adds-sym, adds-through}
use Rattle.souper_widths.proofs.forest.join.Goals as goal

pub returns-then-left-right-clause-ok : goal.returns-then-left-right-clause-ok
returns-then-left-right-clause-ok c =
    let one = c.root_of-left.ensures in
    let two = c.root_of-right.ensures in
    adds-nothing c.args.parents.now c.root_of-right.new.parents c.args.numbers.now (Node c.args.x) (Node c.args.y)
    (same-trans c.args.parents.now c.root_of-left.new.parents c.root_of-right.new.parents one.same two.same)
    (λ u s. one.tied u s.follows ∙ ap u c.if-left-right.true ∙ sym (two.tied u (one.same.to u s.follows)))

pub returns-then-numbers-left-clause-err : goal.returns-then-numbers-left-clause-err
returns-then-numbers-left-clause-err c =
    let one = c.root_of-left.ensures in
    let two = c.root_of-right.ensures in
    let a : ℕ = c.root_of-left.result in
    let b : ℕ = c.root_of-right.result in
    let ns = c.args.numbers.now in
    let left : get_or ns a 0 ≢ 0 = c.if-numbers-left-ne0.true in
    let right : get_or ns b 0 ≢ 0 = c.if-numbers-right-ne0.true in
    record {
      differ = c.if-numbers-left.true;
      left_positive = omega (arith, left);
      right_positive = omega (arith, right);
      sides = λ u s. (one.tied u s.follows ∙ s.numbered a left, two.tied u (one.same.to u s.follows) ∙ s.numbered b right);
    }

pub returns-then-left-right-2-clause-ok : goal.returns-then-left-right-2-clause-ok
returns-then-left-right-2-clause-ok c =
    let ps = c.args.parents.now in
    let ns = c.args.numbers.now in
    let qs = c.root_of-right.new.parents in
    let one = c.root_of-left.ensures in
    let two = c.root_of-right.ensures in
    let a : ℕ = c.root_of-left.result in
    let b : ℕ = c.root_of-right.result in
    let rs = c.put_below.new.parents in
    let ms = c.put_below.new.numbers in
    adds-through ps qs rs ns ms c.args.x c.args.y a b (same-trans ps c.root_of-left.new.parents qs one.same two.same)
    one.tied (λ u f. two.tied u (one.same.to u f)) (adds-sym qs ns rs ms (Node b) (Node a) c.put_below.ensures.tie)

pub returns-else-left-right-2-clause-ok : goal.returns-else-left-right-2-clause-ok
returns-else-left-right-2-clause-ok c =
    let ps = c.args.parents.now in
    let ns = c.args.numbers.now in
    let qs = c.root_of-right.new.parents in
    let one = c.root_of-left.ensures in
    let two = c.root_of-right.ensures in
    let a : ℕ = c.root_of-left.result in
    let b : ℕ = c.root_of-right.result in
    adds-through ps qs c.put_below-else-left-right-2.new.parents ns c.put_below-else-left-right-2.new.numbers c.args.x c.args.y a b
    (same-trans ps c.root_of-left.new.parents qs one.same two.same)
    one.tied (λ u f. two.tied u (one.same.to u f)) c.put_below-else-left-right-2.ensures.tie
