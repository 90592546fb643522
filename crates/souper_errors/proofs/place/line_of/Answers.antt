use Rattle.std.proofs.Common.{Some, None, rules, arith, lit<}
use Rattle.std.proofs.lemmas.Str.Pattern.{split_parts}
use Rattle.souper_errors.proofs.Shown.Lines.{BeginsWithLine, reached_more, line_from, place_within, place_last, without_return}
use Rattle.souper_errors.proofs.place.line_of.Goals as goal

pub returns-then-position-end : goal.returns-then-position-end
returns-then-position-end c =
    let parts = split_parts 10 c.loop-body.rest.now (Some (c.in-Some.body, c.in-Some.after)) c.in-Some.ensures.cases (lit< tt) in
    let line : BeginsWithLine c.loop-body.rest.now c.in-Some.body.now c.in-Some.after.now = record { is = parts.0; none = parts.1 } in
    let stripped = without_return c.in-Some.body c.strip_suffix.result c.strip_suffix.ensures.cases in
    let text = rw (← c.unwrap_or.ensures) at stripped in
    let reached = rw c.saturating_sub-position.ensures at c.loop-body.invariant.reached in
    record { place = rw c.saturating_sub-position.ensures (place_within reached line (omega arith) text); from = line_from reached }

pub loop-body-preserved : goal.loop-body-preserved
loop-body-preserved c =
    let parts = split_parts 10 c.loop-body.rest.now (Some (c.in-Some.body, c.in-Some.after)) c.in-Some.ensures.cases (lit< tt) in
    let line : BeginsWithLine c.loop-body.rest.now c.in-Some.body.now c.in-Some.after.now = record { is = parts.0; none = parts.1 } in
    record { text = search rules; reached = reached_more c.loop-body.invariant.reached line (omega arith) }

pub returns : goal.returns
returns c =
    let none = split_parts 10 c.loop-body.rest.now None c.in_default.ensures.cases (lit< tt) in
    let reached = rw c.saturating_sub-position.ensures at c.loop-body.invariant.reached in
    record { place = rw c.saturating_sub-position.ensures (place_last reached none c.requires); from = line_from reached }
