use Rattle.souper_calls.proofs.WholeLines.{segment_is_found}
use Rattle.souper_calls.proofs.cuts.souper_first_segment.Goals as goal

pub returns-clause-text : goal.returns-clause-text
returns-clause-text c = λ some utf8. segment_is_found c.args.kind c.args.text.now c.find_first_segment.result.status c.find_first_segment.ensures.known (λ two. some (c.find_first_segment.ensures.no_kind.0 two)) c.find_first_segment.ensures.no_text utf8
