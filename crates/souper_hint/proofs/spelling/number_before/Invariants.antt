-- The last tokens are text.
use denote.Text.{Utf8}
use denote.Shadow.{shadow}
use Rattle.souper_hint.proofs.spelling.number_before.Given as goal

abbrev pub invariant-loop-token : goal.invariant-loop-token
invariant-loop-token l =
    goal.iterator-loop-token.can_next l.token-iterator
    × goal.iterator-loop-token.is_finite l.token-iterator
    × (shadow (Utf8 l.attribute) × (shadow (Utf8 l.mark) × shadow (Utf8 l.number)))
