use Rattle.std.proofs.Common.{◌≡◌, inl, ◌||◌, false, [], refl, sym, ◌∙◌}
use Rattle.std.proofs.KnownBytes.{Keeps-refl}
use Rattle.std.specs.Prelude.{None}
use Rattle.souper_watched.specs.Watching.{watched_inner, has_failed}
use Rattle.souper_records.specs.declared.stop.Stop.TheVariants.{Input}
use Rattle.souper_records.specs.declared.stop.ReadFault.TheVariants.{Io}
use Rattle.souper_records.specs.Outcomes.{input_stream}
use Rattle.souper_typing.proofs.Bools.{or_none, or_swap, clash}
use Rattle.souper_typing.proofs.Reporting.{none_reported}
use Rattle.souper_typing.proofs.Stepping.{begun, step_of, part_unsaid}
use Rattle.souper_typing.proofs.Ends.{typed_end, typed_stopped, typed_reached, typed_last}
use Rattle.souper_typing.proofs.parts.write_typed.Goals as goal
use Rattle.souper_typing.proofs.parts.write_typed.Goals.{else-bad-via-then-bad+else-not-options, else-bad-via-else-bad}

pub write_next-requires-clause-had : goal.write_next-requires-clause-had
write_next-requires-clause-had g c = let r = c.loop-turn.invariant.reached.3 in (g.R.Read.remaining c.args.reader.now, _, r.had)

pub loop-turn-init : goal.loop-turn-init
loop-turn-init g c = record {
  options = c.with_starts-source.ensures.options;
  same = c.with_starts-source.ensures.asked;
  none = c.requires.none;
  form = refl;
  recover = refl;
  reached = (
    false,
    false,
    refl,
    record {
      outcomes = [];
      had = c.with_starts-source.ensures.begins g.T.Item.item_type (g.R.Read.remaining c.args.reader.now);
      are = tt;
      started = λ e. tt;
      written = record { parts = []; are = refl; taken = tt; are_written = c.requires.begins c.args.sink.now.inner (g.W.Write.contents (watched_inner c.args.out.now)); reported = none_reported _ _ (Keeps-refl _); any = refl; first = λ e. inl refl };
      reported = Keeps-refl None;
      any_is = refl;
    },
  );
  quiet = λ e. refl;
  stays = λ e. e;
}

pub loop-turn-preserved : goal.loop-turn-preserved
loop-turn-preserved g c =
    let i = c.loop-turn.invariant in
    let e = rw i.options at (rw c.in-Ok-Some.field-0-is at c.in-Ok-Some.ensures) in
    let r = i.reached.3 in
    let name = c.args.options.name.now in
    let refused = c.in-Ok-Some.refused in
    let untyped = c.is_some-untyped.result in
    let before = g.R.Read.remaining c.args.reader.now in
    let stream_of = input_stream g.T.Item.item_type c.args.options before in
    let y = g.W.Write.contents (watched_inner c.loop-turn.out) in
    let z = g.W.Write.contents (watched_inner c.write_next.new.out) in
    let first = begun g.S.PartSink.wrote name c.loop-turn.sink y (c.requires.begins c.loop-turn.sink.inner y) in
    let whole = e.part before _ r.had in
    let not_bad : c.args.options.recover ≡ false → (refused || untyped) ≡ false = elim c.else-bad.branch [
      | else-bad-via-then-bad+else-not-options w ↦ (λ stops. clash w.if-not-options.false stops)
      | else-bad-via-else-bad w ↦ (λ stops. w.if-bad.false)
    ] in
    let v = whole.are_written c.loop-turn.sink y [] first in
    let w = part_unsaid stream_of (λ o more parsed. step_of g.S.PartSink.wrote name c.args.options.recover c.args.sink.now.form c.loop-turn.sink c.write_next.new.sink y z _ _ untyped o (i.recover ∙ c.requires.same) i.form c.is_some-untyped.ensures c.write_report.ensures.reported (more c.loop-turn.sink y [] first) parsed) whole in
    record {
      options = e.options;
      same = e.same ∙ i.same;
      none = e.none;
      form = v.form ∙ i.form;
      recover = v.recover ∙ i.recover;
      reached = (
        i.reached.0 || refused,
        i.reached.1 || untyped,
        (λ j. i.reached.2 j || (refused || untyped)) ∙ or_swap i.reached.0 i.reached.1 refused untyped,
        typed_reached stream_of c.args.sink.now.form (g.R.Read.remaining c.loop-turn.reader) (g.R.Read.remaining c.write_next.new.reader) g.S.PartSink.wrote c.requires.joins g.E.Write.contents c.args.sink.now.inner c.loop-turn.sink.inner c.write_next.new.sink.inner (g.W.Write.contents (watched_inner c.args.out.now)) y z
            c.args.err.now c.loop-turn.err c.write_next.new.err c.write_report.new.err e.stays c.write_report.ensures.stays i.reached.0 i.reached.1 refused untyped c.loop-turn.source.parts c.write_next.new.source.parts (e.same ∙ i.same)
            (λ stops. (or_none i.reached.0 i.reached.1 (sym i.reached.2 ∙ i.quiet stops)).1) r w,
      );
      quiet = λ stops. (λ j. i.quiet stops j || not_bad stops j);
      stays = λ f. c.write_report.ensures.stays (e.stays (i.stays f));
    }

pub returns-then-not-options-clause-returned : goal.returns-then-not-options-clause-returned
returns-then-not-options-clause-returned g c =
    let i = c.loop-turn.invariant in
    let e = rw i.options at (rw c.in-Ok-Some.field-0-is at c.in-Ok-Some.ensures) in
    let r = i.reached.3 in
    let name = c.args.options.name.now in
    let refused = c.in-Ok-Some.refused in
    let untyped = c.is_some-untyped.result in
    let before = g.R.Read.remaining c.args.reader.now in
    let stream_of = input_stream g.T.Item.item_type c.args.options before in
    let y = g.W.Write.contents (watched_inner c.loop-turn.out) in
    let z = g.W.Write.contents (watched_inner c.write_next.new.out) in
    let first = begun g.S.PartSink.wrote name c.loop-turn.sink y (c.requires.begins c.loop-turn.sink.inner y) in
    let whole = e.part before _ r.had in
    let w = part_unsaid stream_of (λ o more parsed. step_of g.S.PartSink.wrote name c.args.options.recover c.args.sink.now.form c.loop-turn.sink c.write_next.new.sink y z _ _ untyped o (i.recover ∙ c.requires.same) i.form c.is_some-untyped.ensures c.write_report.ensures.reported (more c.loop-turn.sink y [] first) parsed) whole in
    typed_last stream_of c.args.sink.now.form (g.R.Read.remaining c.loop-turn.reader) (g.R.Read.remaining c.write_next.new.reader) g.S.PartSink.wrote c.requires.joins g.E.Write.contents c.args.sink.now.inner c.loop-turn.sink.inner c.write_next.new.sink.inner (g.W.Write.contents (watched_inner c.args.out.now)) y z
    c.args.err.now c.loop-turn.err c.write_next.new.err c.write_report.new.err e.stays c.write_report.ensures.stays i.reached.0 i.reached.1 refused untyped c.loop-turn.source.parts c.write_next.new.source.parts (e.same ∙ i.same) r w
    c.if-not-options.true (sym i.reached.2 ∙ i.quiet c.if-not-options.true) c.if-bad.true

pub returns-in-Ok-None-clause-returned : goal.returns-in-Ok-None-clause-returned
returns-in-Ok-None-clause-returned g c =
    let i = c.loop-turn.invariant in
    let e = rw c.in-Ok-None.field-0-is at c.in-Ok-None.ensures in
    let r = i.reached.3 in
    rw (e.quiet.0, e.quiet.1, e.quiet.2, i.reached.2) (typed_end _ _ _ _ _ _ i.reached.0 i.reached.1 _ r (λ stops. sym i.reached.2 ∙ i.quiet stops) (e.ended (g.R.Read.remaining c.args.reader.now) _ r.had))

pub returns-in-Err-clause-returned : goal.returns-in-Err-clause-returned
returns-in-Err-clause-returned g c =
    let i = c.loop-turn.invariant in
    let e = c.in-Err.ensures in
    rw e.stopped (typed_stopped _ _ _ _ i.reached.0 i.reached.1 _ _ c.in-Err.stop (λ s w os. g.S.PartSink.wrote c.args.options.name.now c.args.sink.now.inner (g.W.Write.contents (watched_inner c.args.out.now)) s (g.W.Write.contents (watched_inner w)) os) c.loop-turn.sink.inner c.loop-turn.out c.write_next.new.out i.reached.3 (λ stops. sym i.reached.2 ∙ i.quiet stops) e.unwritten)

pub returns-clause-returned : goal.returns-clause-returned
returns-clause-returned g c =
    let i = c.loop-turn.invariant in
    typed_stopped _ _ _ _ i.reached.0 i.reached.1 (has_failed c.loop-turn.out) _ (Input (Io c.from-fault.result)) (λ s w os. g.S.PartSink.wrote c.args.options.name.now c.args.sink.now.inner (g.W.Write.contents (watched_inner c.args.out.now)) s (g.W.Write.contents (watched_inner w)) os) c.loop-turn.sink.inner c.loop-turn.out c.loop-turn.out i.reached.3 (λ stops. sym i.reached.2 ∙ i.quiet stops) refl
