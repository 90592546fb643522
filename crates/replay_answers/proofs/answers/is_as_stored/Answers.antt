use Rattle.std.specs.String.{string_bytes}
use Rattle.souper_ir.specs.Kinds.{item_type_of}
use Rattle.replay_answers.proofs.Stored.{accepted, not_accepted}
use Rattle.replay_answers.proofs.answers.is_as_stored.Goals as goal
use Rattle.replay_answers.proofs.answers.is_as_stored.Goals.{then-not-stored, else-not-stored}

pub returns-after-not-stored : goal.returns-after-not-stored
returns-after-not-stored c = elim c.if-not-stored.branch [
  | then-not-stored w ↦ (λ holds. accepted (item_type_of c.args.stored.now.kind) c.args.stored.now.is_refused c.if-not-stored.result w.eq.result c.args.stored.now.text.now
      (string_bytes c.in-Ok.text) w.as_str.result.now c.args.stored.now.answer.now w.if-not-stored.true holds w.result-is w.eq.ensures w.as_str.ensures.value c.in-Ok.ensures.formatted)
  | else-not-stored w ↦ (λ holds. absurd (not_accepted c.args.stored.now.is_refused c.if-not-stored.result w.if-not-stored.false w.result-is holds))
]
