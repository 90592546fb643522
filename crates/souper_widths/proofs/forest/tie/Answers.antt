use Rattle.souper_widths.specs.declared.ties.Side.TheVariants.{Node, Number}
use Rattle.souper_widths.proofs.Tying.{adds-sym, refuses-sym}
use Rattle.souper_widths.proofs.forest.tie.Goals as goal

pub returns-in-Ok-fix-clause-ok : goal.returns-in-Ok-fix-clause-ok
returns-in-Ok-fix-clause-ok c =
    let f = c.fix-in-Number-Node.new in
    rw (c.in-Number-Node.is-0, c.in-Number-Node.is-1) (adds-sym c.args.parents.now c.args.numbers.now f.parents f.numbers (Node c.in-Number-Node.y) (Number c.in-Number-Node.n) c.in-Ok-fix.ensures.ok)

pub returns-in-Err-fix-clause-err : goal.returns-in-Err-fix-clause-err
returns-in-Err-fix-clause-err c =
    rw (c.in-Number-Node.is-0, c.in-Number-Node.is-1) (refuses-sym c.args.parents.now c.args.numbers.now (Node c.in-Number-Node.y) (Number c.in-Number-Node.n) c.in-Err-fix.known c.in-Number-Node.n c.in-Err-fix.ensures.err)
