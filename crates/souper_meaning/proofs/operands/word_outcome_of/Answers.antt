use Rattle.std.proofs.Common.{arith}
use Rattle.souper_meaning.specs.Statements.{outcome_in}
use Rattle.souper_meaning.proofs.OperandBits.{read_below, word_read}
use Rattle.souper_meaning.proofs.operands.word_outcome_of.Goals as goal

pub outcome_of-requires-clause-fits_a : goal.outcome_of-requires-clause-fits_a
outcome_of-requires-clause-fits_a c =
    read_below (outcome_in c.args.done.now) c.first_width_of-first.result c.args.widths.operands c.args.operands.now 0 c.optional_outcome_of-a.result c.optional_outcome_of-a.ensures c.first_width_of-first.ensures.high c.requires.below

pub outcome_of-requires-clause-fits_b : goal.outcome_of-requires-clause-fits_b
outcome_of-requires-clause-fits_b c =
    read_below (outcome_in c.args.done.now) c.second_width_of-second.result c.args.widths.operands c.args.operands.now 1 c.optional_outcome_of-b.result c.optional_outcome_of-b.ensures c.second_width_of-second.ensures.high c.requires.below

pub outcome_of-requires-clause-fits_c : goal.outcome_of-requires-clause-fits_c
outcome_of-requires-clause-fits_c c =
    read_below (outcome_in c.args.done.now) c.args.widths.operands c.args.widths.operands c.args.operands.now 2 c.optional_outcome_of-c.result c.optional_outcome_of-c.ensures (omega arith) c.requires.below

pub returns : goal.returns
returns c =
    word_read c.args.word c.args.widths.result c.args.widths.operands c.args.choice (outcome_in c.args.done.now) c.args.operands.now c.first_width_of-first.result c.second_width_of-second.result
    c.optional_outcome_of-a.result c.optional_outcome_of-b.result c.optional_outcome_of-c.result c.outcome_of.result c.first_width_of-first.ensures.value c.second_width_of-second.ensures.value
    c.optional_outcome_of-a.ensures c.optional_outcome_of-b.ensures c.optional_outcome_of-c.ensures c.outcome_of.ensures
