use Rattle.std.proofs.Common.{◌≡◌, ◌||◌, false, List, [], refl, sym, ap, ◌∙◌}
use Rattle.std.proofs.KnownBytes.{Keeps-refl}
use Rattle.souper_records.proofs.Prelude.{keeps_starts, watched_inner, has_failed}
use Rattle.souper_records.specs.declared.stop.Stop.TheVariants.{Input}
use Rattle.souper_records.specs.declared.stop.ReadFault.TheVariants.{Io}
use Rattle.souper_records.specs.Outcomes.{Outcome, WroteParts}
use Rattle.souper_records.specs.declared.options.ReadOptions.{ReadOptions}
use Rattle.souper_records.proofs.Outcomes.{reached_more, reached_refusal, reached_end, stopped_after, known_mapped}
use Rattle.souper_records.proofs.parts.write_parts.Goals as goal
use Rattle.souper_records.proofs.parts.write_parts.Goals.{else-refused-via-then-refused+else-not-source, else-refused-via-else-refused}

pub loop-turn-init : goal.loop-turn-init
loop-turn-init g c = record {
  options = refl;
  same = refl;
  none = c.requires.none;
  reached = record { outcomes = []; had = c.requires.begins g.T.Item.item_type (g.R.Read.remaining c.args.reader.now); are = tt; started = λ e. tt; written = c.requires.started; reported = Keeps-refl _; any_is = refl };
  quiet = λ e. refl;
  stays = λ e. e;
}

pub returns-then-not-source-clause-returned : goal.returns-then-not-source-clause-returned
returns-then-not-source-clause-returned g c =
    let i = c.loop-turn.invariant in
    let e = rw (i.options, c.if-refused.true) at (rw c.in-Ok-Some.field-0-is at c.in-Ok-Some.ensures) in
    let stops : c.args.source.options.recover ≡ false = sym (ap (λ (o : ReadOptions). o.recover) e.options) ∙ c.if-not-source.true in
    reached_refusal g.E.Write.contents c.args.err.now c.loop-turn.err c.write_next.new.err e.stays (e.same ∙ i.same) (λ os o h more. more c.args.sink.now (g.W.Write.contents (watched_inner c.args.out.now)) os h) i.reached (e.part (g.R.Read.remaining c.args.reader.now) _ i.reached.had)
    refl stops (i.quiet stops)

pub returns-in-Ok-None-clause-returned : goal.returns-in-Ok-None-clause-returned
returns-in-Ok-None-clause-returned g c =
    let i = c.loop-turn.invariant in
    let e = rw c.in-Ok-None.field-0-is at c.in-Ok-None.ensures in
    rw (e.quiet.0, e.quiet.1, e.quiet.2) (reached_end i.reached i.quiet (e.ended (g.R.Read.remaining c.args.reader.now) _ i.reached.had))

pub returns-in-Err-clause-returned : goal.returns-in-Err-clause-returned
returns-in-Err-clause-returned g c =
    let i = c.loop-turn.invariant in
    let e = c.in-Err.ensures in
    let known : List Outcome → Type 0 = λ os. (s : _) × WroteParts g.T.Item.item_type (keeps_starts c.args.source.parts) (g.S.PartSink.wrote c.args.source.options.name.now c.args.sink.now (g.W.Write.contents (watched_inner c.args.out.now)) s (g.W.Write.contents (watched_inner c.write_next.new.out))) os in
    rw e.stopped (stopped_after i.reached i.quiet known _ c.in-Err.stop (known_mapped c.in-Err.stop _ _ _ (λ same. (c.loop-turn.sink, (rw same i.reached.written, i.reached.started))) e.unwritten))

pub loop-turn-preserved : goal.loop-turn-preserved
loop-turn-preserved g c =
    let i = c.loop-turn.invariant in
    let refused = c.in-Ok-Some.refused in
    let e = rw i.options at (rw c.in-Ok-Some.field-0-is at c.in-Ok-Some.ensures) in
    let not_last : c.args.source.options.recover ≡ false → refused ≡ false = elim c.else-refused.branch [
      | else-refused-via-then-refused+else-not-source w ↦ (λ stops. (let going = ap (λ (o : ReadOptions). o.recover) e.options ∙ stops in let bad = w.if-not-source.false in cc))
      | else-refused-via-else-refused w ↦ (λ stops. w.if-refused.false)
    ] in
    record {
      options = e.options;
      same = e.same ∙ i.same;
      none = e.none;
      reached = reached_more g.E.Write.contents c.args.err.now c.loop-turn.err c.write_next.new.err e.stays (e.same ∙ i.same) (λ os o h more. more c.args.sink.now (g.W.Write.contents (watched_inner c.args.out.now)) os h) i.reached (e.part (g.R.Read.remaining c.args.reader.now) _ i.reached.had);
      quiet = λ stops. (λ j. i.quiet stops j || not_last stops j);
      stays = λ f. e.stays (i.stays f);
    }

pub returns-clause-returned : goal.returns-clause-returned
returns-clause-returned g c =
    let i = c.loop-turn.invariant in
    let known : List Outcome → Type 0 = λ os. (s : _) × WroteParts g.T.Item.item_type (keeps_starts c.args.source.parts) (g.S.PartSink.wrote c.args.source.options.name.now c.args.sink.now (g.W.Write.contents (watched_inner c.args.out.now)) s (g.W.Write.contents (watched_inner c.loop-turn.out))) os in
    stopped_after i.reached i.quiet known (has_failed c.loop-turn.out) (Input (Io c.from-fault.result)) (c.loop-turn.sink, (i.reached.written, i.reached.started))
