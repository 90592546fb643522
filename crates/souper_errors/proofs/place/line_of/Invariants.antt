use Rattle.std.proofs.Common.{length}
use denote.Text.{Utf8}
use denote.Shadow.{shadow}
use Rattle.souper_errors.proofs.Shown.Lines.{IsReached}
use Rattle.souper_errors.proofs.place.line_of.Given as goal

abbrev pub invariant-loop-body : goal.invariant-loop-body
invariant-loop-body l = record {
  text : shadow (Utf8 l.rest);
  reached : IsReached l.source l.rest l.number l.start l.position;
}

abbrev pub decreases-loop-body : goal.decreases-loop-body
decreases-loop-body l = length l.rest
