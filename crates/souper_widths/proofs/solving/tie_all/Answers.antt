use Rattle.std.proofs.Common.{◌≡◌, ◌+◌, get_or, arith}
use Rattle.souper_widths.proofs.AddedTies.{no_tie, adds-more, clashes-at}
use Rattle.souper_widths.proofs.solving.tie_all.Goals as goal

pub returns-in-Err-clause-err : goal.returns-in-Err-clause-err
returns-in-Err-clause-err c =
    let at = c.loop-item in
    let more = (get_or c.args.ties.now at.item-index no_tie).more in
    let left : c.from.result + c.from-more.result ≡ c.in-Err.left + more = omega (arith, c.from.ensures, c.from-more.ensures) in
    let right : c.from-in-Err.result + c.from-more.result ≡ c.in-Err.right + more = omega (arith, c.from-in-Err.ensures, c.from-more.ensures) in
    clashes-at c.args.parents.now c.args.numbers.now at.parents at.numbers c.args.ties.now at.item-index c.in-Err.left c.in-Err.right
    (c.from.result + c.from-more.result) (c.from-in-Err.result + c.from-more.result)
    c.loop-item-test.true at.invariant.classes at.invariant.added c.in-Err.ensures.err left right

pub loop-item-preserved : goal.loop-item-preserved
loop-item-preserved c =
    let at = c.loop-item in
    record {
      classes = c.in-Ok.ensures.classes;
      added = adds-more c.args.parents.now c.args.numbers.now at.parents at.numbers c.tie.new.parents c.tie.new.numbers c.args.ties.now at.item-index c.loop-item-test.true at.invariant.added c.in-Ok.ensures.ok;
    }
