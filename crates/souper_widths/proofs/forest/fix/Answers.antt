use Rattle.std.proofs.Common.{◌<◌, ◌∙◌, arith, length}
use Rattle.souper_widths.proofs.Tying.{adds-nothing, adds-number}
use Rattle.souper_widths.specs.declared.ties.Side.TheVariants.{Node, Number}
use Rattle.souper_widths.proofs.forest.fix.Goals as goal

pub returns-then-known-eq0-clause-ok : goal.returns-then-known-eq0-clause-ok
returns-then-known-eq0-clause-ok c =
    let within : c.root_of-root.result < length c.args.numbers.now = omega (arith, c.root_of-root.ensures.below, c.requires.within, c.requires.classes.size) in
    adds-number c.args.parents.now c.root_of-root.new.parents c.args.numbers.now c.args.node c.root_of-root.result c.args.number
    c.root_of-root.ensures.same c.requires.classes within c.if-known-eq0.true c.requires.positive c.root_of-root.ensures.tied

pub returns-else-known-number-clause-ok : goal.returns-else-known-number-clause-ok
returns-else-known-number-clause-ok c =
    adds-nothing c.args.parents.now c.root_of-root.new.parents c.args.numbers.now (Node c.args.node) (Number c.args.number) c.root_of-root.ensures.same
    (λ u s. c.root_of-root.ensures.tied u s.follows ∙ s.numbered c.root_of-root.result c.if-known-eq0.false ∙ c.if-known-number.false)
