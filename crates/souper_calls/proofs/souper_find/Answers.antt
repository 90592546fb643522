use Rattle.std.proofs.Common.{rules, ◌≡◌, [], inl, inr, refl}
use Rattle.std.specs.String.{string_bytes}
use Rattle.souper_calls.specs.Outcomes.{SpellsSome}
use Rattle.souper_calls.proofs.Failing.{left_hand_sides_are_a_kind, replacements_are_a_kind, fails}
use Rattle.souper_calls.proofs.Failures.{bytes_are_written, bytes_are_short, nothing_is_written}
use Rattle.souper_calls.proofs.souper_find.Goals as goal

pub returns-in-Err : goal.returns-in-Err
returns-in-Err c =
    let f = fails 2 c.args.store.now 0 c.args.out.now c.write_failure.new.out c.in-Err.failure c.write_failure.result replacements_are_a_kind c.in-Err.ensures.failed c.write_failure.ensures.written c.write_failure.ensures.short in
    record {
      known = f.known;
      found = λ done. absurd (f.not_done done);
      refused = λ one. inl (f.refused one);
      no_text = λ four. inl (f.no_text four);
      first_no_text = λ bad. f.not_utf8 (let e = c.in-Err.ensures.no_text bad in cc);
      second_no_text = λ some text bad. inr (f.spelled some text);
      texts = λ done. absurd (f.not_done done);
      short = λ five. (let s = f.short five in (s.0, (s.1.0, inr (inl s.1.1), s.1.2)));
      kept = f.kept;
      no_place = f.no_place;
      no_length = f.no_length;
      first = f.first;
      gaps = search rules;
    }

pub returns : goal.returns
returns c =
    let f = fails 0 c.args.queries.now 1 c.args.out.now c.write_failure-in-Err-answers_to.new.out c.in-Err-answers_to.failure c.write_failure-in-Err-answers_to.result left_hand_sides_are_a_kind c.in-Err-answers_to.ensures.failed
    c.write_failure-in-Err-answers_to.ensures.written c.write_failure-in-Err-answers_to.ensures.short in
    let stored = c.in-Ok.ensures.stores in
    let some : SpellsSome 2 c.args.store.now = (stored.1.0, stored.1.1) in
    record {
      known = f.known;
      found = λ done. absurd (f.not_done done);
      refused = λ one. (let r = f.refused one in inr (r.0, some, r.1));
      no_text = λ four. (let n = f.no_text four in inr (n.0, some, n.1));
      first_no_text = λ bad. absurd (bad (c.in-Ok.ensures.text refl));
      second_no_text = λ _ _ bad. inl (f.not_utf8 (let e = c.in-Err-answers_to.ensures.no_text bad in cc));
      texts = λ done. absurd (f.not_done done);
      short = λ five. (let s = f.short five in (s.0, (s.1.0, inr (inr (some, s.1.1)), s.1.2)));
      kept = f.kept;
      no_place = f.no_place;
      no_length = f.no_length;
      first = f.first;
      gaps = search rules;
    }

pub returns-in-Ok-answers_to-clause-found : goal.returns-in-Ok-answers_to-clause-found
returns-in-Ok-answers_to-clause-found c = λ done.
    let bytes = string_bytes c.in-Ok-answers_to.answers in
    let written = bytes_are_written c.args.out.now c.write.new.out bytes c.new-outcome.result c.write.result (search rules) (search rules) done in
    let stored = c.in-Ok.ensures.stores in
    (bytes, (stored.0, stored.1, c.in-Ok-answers_to.ensures.answered stored.0 stored.2), written.0, written.1)

pub returns-in-Ok-answers_to-clause-short : goal.returns-in-Ok-answers_to-clause-short
returns-in-Ok-answers_to-clause-short c = λ five.
    let bytes = string_bytes c.in-Ok-answers_to.answers in
    let short = bytes_are_short c.args.out.now c.write.new.out bytes c.new-outcome.result c.write.result (search rules) (search rules) five in
    let stored = c.in-Ok.ensures.stores in
    (short.0, (bytes, inl (stored.0, stored.1, c.in-Ok-answers_to.ensures.answered stored.0 stored.2), short.1))

pub returns-in-Ok-answers_to-clause-gaps : goal.returns-in-Ok-answers_to-clause-gaps
returns-in-Ok-answers_to-clause-gaps c = λ _ _ text gap.
    let none : string_bytes c.in-Ok-answers_to.answers ≡ [] = c.in-Ok-answers_to.ensures.gaps text gap in
    nothing_is_written c.args.out.now c.write.new.out (string_bytes c.in-Ok-answers_to.answers) c.new-outcome.result c.write.result (search rules) none (search rules) (search rules)
