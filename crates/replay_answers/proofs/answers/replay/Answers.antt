use Rattle.std.proofs.Common.{rules, arith, ◌≡◌, length, sym, subst}
use Rattle.std.proofs.lemmas.List.{nil_from_length}
use Rattle.replay_answers.specs.Answers.{AllRight, no_record, one_more}
use Rattle.replay_answers.proofs.answers.replay.Goals as goal

-- src/answers.rt:36:5
pub loop-record-preserved-then-branch : goal.loop-record-preserved-then-branch
loop-record-preserved-then-branch g c = (
  let counted = c.loop-record.invariant.0 in let shorter = c.in-Some.ensures.shorter in omega arith,
  λ same right. c.loop-record.invariant.1 same
      (one_more c.in-Some.record c.in-Some.ensures.taken (c.in_ok-is_as_stored.ensures c.if-branch.true) right),
)

-- src/answers.rt:30:1
pub returns : goal.returns
returns g c = λ same.
    let none : length c.loop-record.rest.now ≡ 0 = search rules in
    c.loop-record.invariant.1 same (subst AllRight (sym (nil_from_length c.loop-record.rest.now none)) no_record)
