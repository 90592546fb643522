use Rattle.std.proofs.Common.{refl}
use Rattle.std.specs.Int.Count.{ones, ones_in, count_trailing_zeros, count_leading_zeros}
use Rattle.souper_words.proofs.laws.law_of_counts.Goals as goal

pub returns-clause-ctpop : goal.returns-clause-ctpop
unfolding ones ones_in
returns-clause-ctpop c = refl

pub returns-clause-cttz : goal.returns-clause-cttz
unfolding count_trailing_zeros
returns-clause-cttz c = refl

pub returns-clause-cttz_of_zero : goal.returns-clause-cttz_of_zero
unfolding count_trailing_zeros
returns-clause-cttz_of_zero c = refl

pub returns-clause-ctlz : goal.returns-clause-ctlz
unfolding count_leading_zeros
returns-clause-ctlz c = refl

pub returns-clause-ctlz_of_zero : goal.returns-clause-ctlz_of_zero
unfolding count_leading_zeros
returns-clause-ctlz_of_zero c = refl
