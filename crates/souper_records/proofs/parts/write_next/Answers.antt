use Rattle.std.proofs.Common.{rules, ◌≡◌, ℕ, List, [], ◌∷◌, ◌++◌, false, None, Some, option_map, option_copied, refl, sym, ap, ◌∙◌, subst, append-nil, string_bytes}
use Rattle.std.proofs.KnownBytes.{Keeps-refl}
use Rattle.souper_records.proofs.Prelude.{Parse, kind_of}
use Rattle.souper_stream.specs.Parts.{EndsAfter, starts_of_part}
use Rattle.souper_stream.proofs.Passing.{done_more}
use Rattle.souper_records.proofs.Outcomes.{some_parts}
use Rattle.souper_stream.proofs.Reached.{refusal_begun}
use Rattle.souper_records.specs.Outcomes.{Outcome}
use Rattle.souper_records.proofs.parts.write_next.Goals as goal

pub part-text-requires : goal.part-text-requires
part-text-requires g c =
    let p = c.requires.had in
    let t = (rw c.in-Ok-true.is at c.read_part.ensures.read) c.in-Ok-true.field-0-test p.0 p.1 p.2 in
    (g.T.Item.item_type, p.0, g.R.Read.remaining c.read_part.new.reader, _, t.goes_on)

pub is_at_end-requires : goal.is_at_end-requires
is_at_end-requires g c =
    let p = c.requires.had in
    let kind : kind_of c.in-Err.error ≡ Parse = search rules in
    let t = c.in-Err.ensures.refused kind p.0 p.1 p.2 in
    (g.T.Item.item_type, p.0, g.R.Read.remaining c.read_part.new.reader, _, t.goes_on)

pub part-text-requires-in-Err : goal.part-text-requires-in-Err
part-text-requires-in-Err g c =
    let p = c.requires.had in
    let kind : kind_of c.in-Err.error ≡ Parse = search rules in
    let t = c.in-Err.ensures.refused kind p.0 p.1 p.2 in
    (g.T.Item.item_type, p.0, g.R.Read.remaining c.read_part.new.reader, _, t.goes_on)

pub returns-in_ok-write_part-in-Ok-true-clause-part : goal.returns-in_ok-write_part-in-Ok-true-clause-part
returns-in_ok-write_part-in-Ok-true-clause-part g c = λ start ps had.
    let t = (rw c.in-Ok-true.is at c.read_part.ensures.read) c.in-Ok-true.field-0-test start ps had in
    let o : Outcome = record { part = t.part; last = false; starts = starts_of_part c.read_part.new.self; items = t.items; refusal = None } in
    record {
      outcome = o;
      had = t.goes_on;
      is = t.spelled;
      begin = t.begin;
      any = refl;
      after = λ e. absurd cc;
      are_written = λ first before os h. c.in_ok-write_part-in-Ok-true.ensures.written first before os c.args.sink.now o h c.requires.none (t.taken c.args.sink.now c.requires.none) (sym c.starts-starts.ensures) (sym (c.part-text.ensures ∙ t.text)) refl;
      reported = Keeps-refl _;
    }

pub returns-in-Ok-false-clause-ended : goal.returns-in-Ok-false-clause-ended
returns-in-Ok-false-clause-ended g c = λ start ps had. ((rw c.in-Ok-false.is at c.read_part.ensures.ended) c.in-Ok-false.field-0-test start ps had).0

pub returns-in-Ok-false-clause-quiet : goal.returns-in-Ok-false-clause-quiet
returns-in-Ok-false-clause-quiet g c =
    let p = c.requires.had in
    (refl, refl, ((rw c.in-Ok-false.is at c.read_part.ensures.ended) c.in-Ok-false.field-0-test p.0 p.1 p.2).1)

pub returns-in-Ok-false-clause-none : goal.returns-in-Ok-false-clause-none
returns-in-Ok-false-clause-none g c =
    let p = c.requires.had in
    let same = ((rw c.in-Ok-false.is at c.read_part.ensures.ended) c.in-Ok-false.field-0-test p.0 p.1 p.2).1 in
    subst (λ s. g.S.Sink.holds s s []) (sym same) c.requires.none

pub returns-in_ok-write_part-in-Err-clause-part : goal.returns-in_ok-write_part-in-Err-clause-part
returns-in_ok-write_part-in-Err-clause-part g c = λ start ps had.
    let k = g.T.Item.item_type in
    let now = g.R.Read.remaining c.read_part.new.reader in
    let kind : kind_of c.in-Err.error ≡ Parse = search rules in
    let t = c.in-Err.ensures.refused kind start ps had in
    let ends = subst (λ (x : List ℕ). EndsAfter start now x c.is_at_end.result) (done_more ps t.part) (c.is_at_end.ensures k start now (ps ++ t.part ∷ []) (some_parts ps t.part) t.goes_on) in
    let o : Outcome = record { part = t.part; last = c.is_at_end.result; starts = starts_of_part c.read_part.new.self; items = t.items; refusal = Some (record { error = c.in-Err.error; hint = option_copied c.as_text.result }) } in
    record {
      outcome = o;
      had = t.goes_on;
      is = record { kind = kind; unasked = λ none. c.as_text.ensures ∙ ap (option_map string_bytes) (c.in_ok-hint-in-Err.ensures none); segment = t.segment; none = t.none; begun = t.begun; now = now; read = t.read; consumed = t.consumed; ends = ends; placed = t.placed; located = t.located; stops = t.stops };
      begin = t.begin;
      any = refl;
      after = λ e. record {
        read = t.read;
        rest = t.after;
        consumed = t.consumed;
        whole = t.whole;
        never = t.never;
        begun = refusal_begun k _ start now ps g.S.Sink.holds c.args.sink.now c.read_part.new.sink c.read_part.new.self c.in-Err.error t;
      };
      are_written = λ first before os h. c.in_ok-write_part-in-Err.ensures.written first before os c.args.sink.now o h c.requires.none (t.taken c.args.sink.now c.requires.none) (sym c.starts-starts-in-Err.ensures) (sym (c.part-text-in-Err.ensures ∙ t.text)) refl;
      reported = λ works. (let lines = string_bytes c.in_ok-lines-in-Err.lines in (lines, (lines, [], sym (append-nil lines), c.in_ok-lines-in-Err.ensures, refl), c.report_line.ensures.given works));
    }
