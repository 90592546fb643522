use Rattle.std.proofs.Common.{rules, inr}
use Rattle.souper_calls.proofs.Same.{spell_same, spell_others, second_no_text, first_fails}
use Rattle.souper_calls.proofs.souper_same.Goals as goal

-- src/lib.rt:139:1
pub returns-in-Ok-true-clause-same : goal.returns-in-Ok-true-clause-same
returns-in-Ok-true-clause-same c is_yes =
    spell_same c.args.kind c.in-Ok.items c.in-Ok-items.items c.args.a.now c.args.b.now c.in-Ok.ensures.spelled c.in-Ok-items.ensures.spelled
    (search rules)

-- src/lib.rt:139:1
pub returns-in-Ok-false-clause-different : goal.returns-in-Ok-false-clause-different
returns-in-Ok-false-clause-different c is_no =
    spell_others c.args.kind c.in-Ok.items c.in-Ok-items.items c.args.a.now c.args.b.now c.in-Ok.ensures.spelled c.in-Ok-items.ensures.spelled
    c.in-Ok.ensures.kind c.in-Ok-items.ensures.kind (search rules)

-- src/lib.rt:150:25
pub returns-in-Err-items-clause-no_text : goal.returns-in-Err-items-clause-no_text
returns-in-Err-items-clause-no_text c =
    second_no_text c.args.kind c.args.a.now c.args.b.now c.in-Ok.items c.in-Err-items.failure c.outcome-in-Err-items.result
    c.in-Ok.ensures.spelled c.in-Err-items.ensures.failed (search rules)

pub returns-in-Err-clause-second_no_text : goal.returns-in-Err-clause-second_no_text
returns-in-Err-clause-second_no_text c some text no_text = inr (first_fails c.args.kind c.args.a.now c.in-Err.failure c.outcome.result c.in-Err.ensures.failed c.outcome.ensures some text)
