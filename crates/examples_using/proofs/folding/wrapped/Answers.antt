use Rattle.std.proofs.Common.{arith, rules}
use Rattle.std.proofs.lemmas.Int.{ints, to_z-of_z}
use Rattle.examples_using.proofs.Wrapping.{power-fits, not-below, below}
use Rattle.examples_using.proofs.folding.wrapped.Goals as goal

pub pow-requires : goal.pow-requires
pow-requires c = record { sfits = let p = power-fits c.args.width c.from.result c.from.ensures c.requires in omega arith }

pub returns-clause-value : goal.returns-clause-value
returns-clause-value c = grind (arith, to_z-of_z, c.rem_euclid.ensures.value, c.pow.ensures, c.from.ensures)

pub returns-clause-low : goal.returns-clause-low
returns-clause-low c = search (rules, not-below)

pub returns-clause-high : goal.returns-clause-high
returns-clause-high c = grind (arith, ints, below, power-fits)
