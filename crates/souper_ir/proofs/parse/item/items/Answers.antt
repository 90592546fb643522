use Rattle.std.proofs.Common.{◌≡◌, [], ◌∷◌, ◌++◌, false, true, refl, sym, ap, length, subst, arith}
use Rattle.souper_ir.proofs.Exits.{exit}
use Rattle.std.proofs.lemmas.List.{append-nil, length-append}
use Rattle.souper_errors.specs.Errors.{error_of}
use Rattle.souper_ir.specs.Reading.{cause_of}
use Rattle.souper_ir.specs.Starts.{starts_kept}
use Rattle.souper_ir.specs.Laws.Series.{begins, goes_on, shorter}
use Rattle.souper_ir.proofs.Items.Lists.{item_series, all_taken, look_refused, item_refused, nothing_taken, nothing_seen, still_sound, still_empty, read_behind, read_well, takes_one, taken_first}
use Rattle.souper_ir.proofs.Items.Stopping.{items_look, item_stops}
use Rattle.souper_ir.proofs.Items.Starts.{begun, after_none, keeps_both, keeps_asked}
use Rattle.souper_ir.proofs.parse.item.items.Goals as goal

pub returns-in_err-start : goal.returns-in_err-start
returns-in_err-start g c =
    let k = g.T.Item.item_type in
    let e = error_of c.in_err-start.field-0.0 in
    let so = c.loop-start.invariant in
    rw (exit c.from_residual.result c.from_residual.ensures.1) (record {
      ok = tt;
      err = look_refused k _ e c.args.parser.now c.loop-start.parser c.next_start.new.self so.1 c.in_err-start.ensures.next;
      stops = items_look k _ e c.args.parser.now c.loop-start.parser c.next_start.new.self so.1 c.in_err-start.ensures.next;
      first = taken_first g.S.Sink.holds k _ _ _ (cause_of e) c.args.parser.now c.loop-start.parser c.args.sink.now c.loop-start.sink so.1 so.2 so.5 so.6;
      asked = keeps_asked c.args.kept.now c.loop-start.kept so.4 so.6;
      ended = λ no_token sound live.
          let none = nothing_taken k _ c.args.parser.now c.loop-start.parser so.1 no_token in
          let still = still_sound k _ c.args.parser.now c.loop-start.parser so.1 sound live in
          let ok : false ≡ true = c.in_err-start.ensures.ended none.0 still.0 still.1 in absurd cc;
    })

pub returns-in_err-item : goal.returns-in_err-item
returns-in_err-item g c =
    let k = g.T.Item.item_type in
    let e = c.in_err-item.field-0.0 in
    let so = c.loop-start.invariant in
    let seen = rw c.in-Some.is at c.in_ok-start.ensures.next in
    rw (exit c.from_residual-in_err-item.result c.from_residual-in_err-item.ensures.1) (record {
      ok = tt;
      err = item_refused k _ e c.args.parser.now c.loop-start.parser c.next_start.new.self c.next_item.new.parser so.1 seen c.in_err-item.ensures.err;
      stops = item_stops k _ e c.args.parser.now c.loop-start.parser c.next_start.new.self so.1 seen c.in_err-item.ensures.stops;
      first = taken_first g.S.Sink.holds k _ _ _ (cause_of e) c.args.parser.now c.loop-start.parser c.args.sink.now c.loop-start.sink so.1 so.2 so.5 so.6;
      asked = keeps_asked c.args.kept.now c.loop-start.kept so.4 so.6;
      ended = λ no_token sound live. absurd (nothing_seen k _ c.args.parser.now c.loop-start.parser c.next_start.new.self so.1 no_token seen);
    })

pub next_item-requires : goal.next_item-requires
next_item-requires g c =
    still_empty g.T.Item.item_type _ c.args.parser.now c.loop-start.parser c.next_start.new.self c.loop-start.invariant.1 c.in_ok-start.ensures.next

pub take-requires : goal.take-requires
take-requires g c =
    read_well g.T.Item.item_type _ (g.T.Item.view c.in_ok-item.item) c.args.parser.now c.loop-start.parser c.next_start.new.self c.next_item.new.parser
    c.requires.lexemes c.loop-start.invariant.1 c.in_ok-start.ensures.next c.in_ok-item.ensures.ok

pub loop-start-smaller : goal.loop-start-smaller
loop-start-smaller g c =
    let item = g.T.Item.view c.in_ok-item.item in
    shorter (item_series g.T.Item.item_type) _ item c.loop-start.parser c.next_item.new.parser
    (read_behind g.T.Item.item_type _ item c.args.parser.now c.loop-start.parser c.next_start.new.self c.next_item.new.parser c.loop-start.invariant.1 c.in_ok-start.ensures.next c.in_ok-item.ensures.ok)

pub loop-start-preserved : goal.loop-start-preserved
unfolding goes_on
loop-start-preserved g c =
    let k = g.T.Item.item_type in
    let item = g.T.Item.view c.in_ok-item.item in
    let so = c.loop-start.invariant in
    let took = read_behind k _ item c.args.parser.now c.loop-start.parser c.next_start.new.self c.next_item.new.parser so.1 c.in_ok-start.ensures.next c.in_ok-item.ensures.ok in (
      so.0 ++ item ∷ [],
      goes_on (item_series k) _ so.0 item c.args.parser.now c.loop-start.parser c.next_item.new.parser refl so.1 took,
      takes_one g.S.Sink.holds so.0 item c.args.sink.now c.loop-start.sink c.take.new.self so.2 c.in-Ok.ensures,
      λ e. absurd (omega (arith, ap length e, length-append so.0 (item ∷ []))),
      so.4 ++ c.in-Some.start ∷ [],
      begun k _ _ item c.in-Some.start c.args.parser.now c.loop-start.parser c.next_item.new.parser so.1 took so.5 (rw c.in-Some.is at c.in_ok-start.ensures.start),
      keeps_both c.args.kept.now c.loop-start.kept c.add_start.new.self so.4 (c.in-Some.start ∷ []) so.6 c.in-Ok-add_start.ensures.kept,
    )

pub returns-in-Err-clause-ended : goal.returns-in-Err-clause-ended
returns-in-Err-clause-ended g c = λ e f l.
    absurd (nothing_seen g.T.Item.item_type _ c.args.parser.now c.loop-start.parser c.next_start.new.self c.loop-start.invariant.1 e (rw c.in-Some.is at c.in_ok-start.ensures.next))

pub returns-in-Err-add_start-clause-ended : goal.returns-in-Err-add_start-clause-ended
returns-in-Err-add_start-clause-ended g c = λ e f l.
    absurd (nothing_seen g.T.Item.item_type _ c.args.parser.now c.loop-start.parser c.next_start.new.self c.loop-start.invariant.1 e (rw c.in-Some.is at c.in_ok-start.ensures.next))

pub returns-clause-ok : goal.returns-clause-ok
returns-clause-ok g c =
    let so = c.loop-start.invariant in
    let all = all_taken g.T.Item.item_type _ so.4 c.args.parser.now c.loop-start.parser c.next_start.new.self so.1 so.5 (rw c.in_default.is at c.in_ok-start.ensures.next) in
    (so.0, so.4, all.0, all.1, so.2, so.6)

pub returns-clause-ended : goal.returns-clause-ended
returns-clause-ended g c = λ e f l.
    c.loop-start.invariant.3 (nothing_taken g.T.Item.item_type _ c.args.parser.now c.loop-start.parser c.loop-start.invariant.1 e).1

pub loop-start-init : goal.loop-start-init
unfolding begins
loop-start-init g c = (
  [],
  begins (item_series g.T.Item.item_type) c.args.parser.now c.requires.scope,
  λ first before held. subst (g.S.Sink.holds first c.args.sink.now) (sym (append-nil before)) held,
  λ e. refl,
  [],
  refl,
  after_none (starts_kept c.args.kept.now),
)
