use Rattle.std.proofs.Common.{◌≡◌, ◌∙◌, ◌-◌, ◌^◌, min, ℕ, List, length, sym, ap, arith}
use Rattle.std.specs.Prelude.{Result, Ok, Err, IfOk, slice_index}
use Rattle.std.proofs.lemmas.Bool.{false≢true}
use Rattle.souper_graph.specs.Values.{Item}
use Rattle.souper_graph.specs.PartsView.{view_parts}
use Rattle.souper_widths.specs.Maps.{WidthMap}
use Rattle.souper_widths.specs.View.{view_widths}
use Rattle.souper_meaning.specs.declared.exhausting.Verdict.{Verdict}
use Rattle.souper_meaning.specs.declared.plans.PlanError.{PlanError}
use Rattle.souper_meaning.specs.Exhausted.{IsVerdictWithin, IsVerdict}
use Rattle.souper_meaning.specs.Worlds.{Mode}
use Rattle.souper_meaning.specs.View.{view_mode}
use Rattle.souper_meaning.specs.Digits.{product_of}
use Rattle.souper_meaning.specs.Numbering.{world_count}
use Rattle.souper_meaning.proofs.Tried.{count_capped, above_limit, within_limit, counts_within, vacuous_none, verdict_by}
use Rattle.souper_meaning.proofs.exhausting.planned_exhaust.Goals as goal

decided_by : (r : Result Verdict PlanError) (P Q : Verdict → Type 0) → ((v : Verdict) → P v → Q v) → IfOk r P → IfOk r Q
decided_by (Ok v) P Q f h = f v h
decided_by (Err e) P Q f h = h

pub returns-then-exceeds-clause-decided : goal.returns-then-exceeds-clause-decided
returns-then-exceeds-clause-decided c =
    let mode : Mode = view_mode c.args.mode in
    let a : Item = view_parts c.args.parts.now in
    let m : WidthMap = view_widths c.args.plan.now.widths in
    let e : c.product-world_count.result ≡ min (product_of (slice_index c.in_ok-counts.counts.items) (length c.in_ok-counts.counts.items)) (2 ^ 128 - 1) =
    c.product-world_count.ensures ∙ ap (λ (z : List ℕ). min (product_of (slice_index z) (length z)) (2 ^ 128 - 1)) c.deref.ensures.value
    in
    let f : c.product-world_count.result ≡ min (world_count mode a m c.args.plan.now.needed.items) (2 ^ 128 - 1) =
    count_capped mode a m c.args.plan.now.needed.items c.in_ok-counts.counts.items c.product-world_count.result c.in_ok-counts.ensures.size c.in_ok-counts.ensures.counts e
    in
    record {
      widths = m;
      marks = c.args.plan.now.needed.items;
      well_formed = c.requires.well_formed;
      typed = c.requires.typed;
      evaluable = c.requires.evaluable;
      marked = c.requires.marked;
      verdict = (above_limit c.product-world_count.result (world_count mode a m c.args.plan.now.needed.items) c.args.limit f (c.exceeds.ensures.0 c.if-exceeds.true), f);
    }

pub returns-then-world_count-eq0-clause-decided : goal.returns-then-world_count-eq0-clause-decided
returns-then-world_count-eq0-clause-decided c =
    let mode : Mode = view_mode c.args.mode in
    let a : Item = view_parts c.args.parts.now in
    let m : WidthMap = view_widths c.args.plan.now.widths in
    let e : c.product-world_count.result ≡ min (product_of (slice_index c.in_ok-counts.counts.items) (length c.in_ok-counts.counts.items)) (2 ^ 128 - 1) =
    c.product-world_count.ensures ∙ ap (λ (z : List ℕ). min (product_of (slice_index z) (length z)) (2 ^ 128 - 1)) c.deref.ensures.value
    in
    let f : c.product-world_count.result ≡ min (world_count mode a m c.args.plan.now.needed.items) (2 ^ 128 - 1) =
    count_capped mode a m c.args.plan.now.needed.items c.in_ok-counts.counts.items c.product-world_count.result c.in_ok-counts.ensures.size c.in_ok-counts.ensures.counts e
    in
    let w = within_limit c.product-world_count.result (world_count mode a m c.args.plan.now.needed.items) c.args.limit f c.ranges.limit.fits (λ l. false≢true (sym c.if-exceeds.false ∙ c.exceeds.ensures.1 l)) in
    record {
      widths = m;
      marks = c.args.plan.now.needed.items;
      well_formed = c.requires.well_formed;
      typed = c.requires.typed;
      evaluable = c.requires.evaluable;
      marked = c.requires.marked;
      verdict = (w.1, vacuous_none mode a m c.args.plan.now.needed.items c.requires.well_formed c.requires.marked c.requires.evaluable.meaning (sym w.0 ∙ c.if-world_count-eq0.true));
    }

pub try_all-requires-clause-counts : goal.try_all-requires-clause-counts
try_all-requires-clause-counts c p l =
    let mode : Mode = view_mode c.args.mode in
    let a : Item = view_parts c.args.parts.now in
    let m : WidthMap = view_widths c.args.plan.now.widths in
    let e : c.product-world_count.result ≡ min (product_of (slice_index c.in_ok-counts.counts.items) (length c.in_ok-counts.counts.items)) (2 ^ 128 - 1) =
    c.product-world_count.ensures ∙ ap (λ (z : List ℕ). min (product_of (slice_index z) (length z)) (2 ^ 128 - 1)) c.deref.ensures.value
    in
    let f : c.product-world_count.result ≡ min (world_count mode a m c.args.plan.now.needed.items) (2 ^ 128 - 1) =
    count_capped mode a m c.args.plan.now.needed.items c.in_ok-counts.counts.items c.product-world_count.result c.in_ok-counts.ensures.size c.in_ok-counts.ensures.counts e
    in
    let w = within_limit c.product-world_count.result (world_count mode a m c.args.plan.now.needed.items) c.args.limit f c.ranges.limit.fits (λ l. false≢true (sym c.if-exceeds.false ∙ c.exceeds.ensures.1 l)) in
    ap (λ (z : List ℕ). slice_index z p) c.deref-2.ensures.value
    ∙ counts_within mode a m c.args.plan.now.needed.items c.in_ok-counts.counts.items c.args.limit c.in_ok-counts.ensures.counts (omega (arith, c.if-world_count-eq0.false, w.0)) w.1 c.ranges.limit.fits p l

pub try_all-requires-clause-world_count : goal.try_all-requires-clause-world_count
try_all-requires-clause-world_count c =
    let mode : Mode = view_mode c.args.mode in
    let a : Item = view_parts c.args.parts.now in
    let m : WidthMap = view_widths c.args.plan.now.widths in
    let e : c.product-world_count.result ≡ min (product_of (slice_index c.in_ok-counts.counts.items) (length c.in_ok-counts.counts.items)) (2 ^ 128 - 1) =
    c.product-world_count.ensures ∙ ap (λ (z : List ℕ). min (product_of (slice_index z) (length z)) (2 ^ 128 - 1)) c.deref.ensures.value
    in
    let f : c.product-world_count.result ≡ min (world_count mode a m c.args.plan.now.needed.items) (2 ^ 128 - 1) =
    count_capped mode a m c.args.plan.now.needed.items c.in_ok-counts.counts.items c.product-world_count.result c.in_ok-counts.ensures.size c.in_ok-counts.ensures.counts e
    in
    let w = within_limit c.product-world_count.result (world_count mode a m c.args.plan.now.needed.items) c.args.limit f c.ranges.limit.fits (λ l. false≢true (sym c.if-exceeds.false ∙ c.exceeds.ensures.1 l)) in
    w.0

pub returns-clause-decided : goal.returns-clause-decided
returns-clause-decided c =
    let mode : Mode = view_mode c.args.mode in
    let a : Item = view_parts c.args.parts.now in
    let m : WidthMap = view_widths c.args.plan.now.widths in
    let e : c.product-world_count.result ≡ min (product_of (slice_index c.in_ok-counts.counts.items) (length c.in_ok-counts.counts.items)) (2 ^ 128 - 1) =
    c.product-world_count.ensures ∙ ap (λ (z : List ℕ). min (product_of (slice_index z) (length z)) (2 ^ 128 - 1)) c.deref.ensures.value
    in
    let f : c.product-world_count.result ≡ min (world_count mode a m c.args.plan.now.needed.items) (2 ^ 128 - 1) =
    count_capped mode a m c.args.plan.now.needed.items c.in_ok-counts.counts.items c.product-world_count.result c.in_ok-counts.ensures.size c.in_ok-counts.ensures.counts e
    in
    let w = within_limit c.product-world_count.result (world_count mode a m c.args.plan.now.needed.items) c.args.limit f c.ranges.limit.fits (λ l. false≢true (sym c.if-exceeds.false ∙ c.exceeds.ensures.1 l)) in
    decided_by c.try_all.result (λ v. IsVerdictWithin mode a m c.args.plan.now.needed.items v) (λ v. IsVerdict mode a c.args.limit v) (λ v h. record {
      widths = m;
      marks = c.args.plan.now.needed.items;
      well_formed = c.requires.well_formed;
      typed = c.requires.typed;
      evaluable = c.requires.evaluable;
      marked = c.requires.marked;
      verdict = verdict_by mode a m c.args.plan.now.needed.items c.args.limit v w.1 h;
    }) c.try_all.ensures.decided
