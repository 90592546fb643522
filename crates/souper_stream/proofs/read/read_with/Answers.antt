use Rattle.std.proofs.Common.{sym, ap, map}
use Rattle.souper_stream.proofs.Reached.{reached_none, reached_more, reached_end, reached_refusal}
use Rattle.souper_stream.proofs.read.read_with.Goals as goal

pub loop-turn-init : goal.loop-turn-init
loop-turn-init g c = record { reached = reached_none _ _ _ _ _ (c.requires.begins _); none = c.new.ensures.items }

pub pass_on-requires : goal.pass_on-requires
pass_on-requires g c =
    let r = c.loop-turn.invariant.reached in
    let h = (c.in-Ok-true.ensures.read c.in-Ok-true.field-0-test (g.R.Read.remaining c.args.reader.now) r.parts r.had).taken c.loop-turn.pending (ap (map g.T.Item.view) c.loop-turn.invariant.none, tt) in
    rw h.0 h.1

pub returns-in-Ok-false-clause-taken : goal.returns-in-Ok-false-clause-taken
returns-in-Ok-false-clause-taken g c =
    let r = c.loop-turn.invariant.reached in
    reached_end _ _ _ _ _ _ _ _ r (c.in-Ok-false.ensures.ended c.in-Ok-false.field-0-test _ r.parts r.had).0

pub loop-turn-preserved : goal.loop-turn-preserved
loop-turn-preserved g c =
    let r = c.loop-turn.invariant.reached in
    record {
      reached = reached_more _ _ _ _ _ _ _ _ _ _ _ _ _ _ r (c.in-Ok-true.ensures.read c.in-Ok-true.field-0-test _ r.parts r.had) (λ h. h.0) (ap (map g.T.Item.view) c.loop-turn.invariant.none, tt) c.in_ok-pass_on-in-Ok-true.ensures.taken;
      none = c.in_ok-pass_on-in-Ok-true.ensures.none;
    }

pub pass_on-requires-in-Parse : goal.pass_on-requires-in-Parse
pass_on-requires-in-Parse g c =
    let r = c.loop-turn.invariant.reached in
    let h = (c.in-Err.ensures.refused (sym c.in-Parse.ensures) (g.R.Read.remaining c.args.reader.now) r.parts r.had).taken c.loop-turn.pending (ap (map g.T.Item.view) c.loop-turn.invariant.none, tt) in
    rw h.0 h.1

pub returns-in-Parse-clause-refused : goal.returns-in-Parse-clause-refused
returns-in-Parse-clause-refused g c = λ kind.
    let r = c.loop-turn.invariant.reached in
    reached_refusal _ _ _ _ _ _ _ _ _ _ _ _ _ _ _ _ r (c.in-Err.ensures.refused kind _ r.parts r.had) (λ h. h.0) (ap (map g.T.Item.view) c.loop-turn.invariant.none, tt) c.in_ok-pass_on-in-Parse.ensures.taken

pub returns-in-Parse-clause-had : goal.returns-in-Parse-clause-had
returns-in-Parse-clause-had g c = λ kind.
    let r = c.loop-turn.invariant.reached in
    let t = c.in-Err.ensures.refused kind _ r.parts r.had in
    (r.parts, t.part, t.goes_on)
