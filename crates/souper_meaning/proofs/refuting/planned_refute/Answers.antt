use Rattle.std.proofs.Common.{◌≡◌, ◌∙◌, ◌-◌, ◌^◌, min, ℕ, List, length, ap, arith}
use Rattle.std.specs.Prelude.{Result, Ok, Err, IfOk, slice_index}
use Rattle.souper_graph.specs.Values.{Item}
use Rattle.souper_graph.specs.PartsView.{view_parts}
use Rattle.souper_widths.specs.Maps.{WidthMap}
use Rattle.souper_widths.specs.View.{view_widths}
use Rattle.souper_meaning.specs.declared.refuting.Refutation.{Refutation}
use Rattle.souper_meaning.specs.declared.plans.PlanError.{PlanError}
use Rattle.souper_meaning.specs.Refutations.{IsRefutationBy, IsRefutation}
use Rattle.souper_meaning.specs.Worlds.{Mode}
use Rattle.souper_meaning.specs.Sound.{Vacuous}
use Rattle.souper_meaning.specs.View.{view_mode}
use Rattle.souper_meaning.specs.Digits.{product_of}
use Rattle.souper_meaning.specs.Numbering.{world_count}
use Rattle.souper_meaning.proofs.Tried.{count_capped, vacuous_none}
use Rattle.souper_meaning.proofs.TriesBelow.{no_try_refutes, no_try_meets}
use Rattle.souper_meaning.proofs.refuting.planned_refute.Goals as goal

found_by : (r : Result Refutation PlanError) (P Q : Refutation → Type 0) → ((v : Refutation) → P v → Q v) → IfOk r P → IfOk r Q
found_by (Ok v) P Q f h = f v h
found_by (Err e) P Q f h = h

pub returns-then-world_count-eq0-clause-decided : goal.returns-then-world_count-eq0-clause-decided
returns-then-world_count-eq0-clause-decided c =
    let mode : Mode = view_mode c.args.mode in
    let a : Item = view_parts c.args.parts.now in
    let m : WidthMap = view_widths c.args.plan.now.widths in
    let e : c.product-world_count.result ≡ min (product_of (slice_index c.in_ok-counts.counts.items) (length c.in_ok-counts.counts.items)) (2 ^ 128 - 1) =
    c.product-world_count.ensures ∙ ap (λ (z : List ℕ). min (product_of (slice_index z) (length z)) (2 ^ 128 - 1)) c.deref.ensures.value
    in
    let f : c.product-world_count.result ≡ min (world_count mode a m c.args.plan.now.needed.items) (2 ^ 128 - 1) =
    count_capped mode a m c.args.plan.now.needed.items c.in_ok-counts.counts.items c.product-world_count.result c.in_ok-counts.ensures.size c.in_ok-counts.ensures.counts e
    in
    let v : Vacuous mode a m = vacuous_none mode a m c.args.plan.now.needed.items c.requires.well_formed c.requires.marked c.requires.evaluable.meaning (omega (arith, f, c.if-world_count-eq0.true)) in
    record {
      widths = m;
      well_formed = c.requires.well_formed;
      typed = c.requires.typed;
      evaluable = c.requires.evaluable;
      found = (no_try_refutes mode a m c.args.tries c.args.seed v, no_try_meets mode a m c.args.tries c.args.seed v);
    }

pub try_each-requires-clause-some : goal.try_each-requires-clause-some
try_each-requires-clause-some c =
    let mode : Mode = view_mode c.args.mode in
    let a : Item = view_parts c.args.parts.now in
    let m : WidthMap = view_widths c.args.plan.now.widths in
    let e : c.product-world_count.result ≡ min (product_of (slice_index c.in_ok-counts.counts.items) (length c.in_ok-counts.counts.items)) (2 ^ 128 - 1) =
    c.product-world_count.ensures ∙ ap (λ (z : List ℕ). min (product_of (slice_index z) (length z)) (2 ^ 128 - 1)) c.deref.ensures.value
    in
    let f : c.product-world_count.result ≡ min (world_count mode a m c.args.plan.now.needed.items) (2 ^ 128 - 1) =
    count_capped mode a m c.args.plan.now.needed.items c.in_ok-counts.counts.items c.product-world_count.result c.in_ok-counts.ensures.size c.in_ok-counts.ensures.counts e
    in
    omega (arith, f, c.if-world_count-eq0.false)

pub try_each-requires-clause-hints : goal.try_each-requires-clause-hints
try_each-requires-clause-hints c = record { edges = c.in_ok-edges.ensures; numbers = c.in_ok-numbers.ensures.numbers }

pub returns-clause-decided : goal.returns-clause-decided
returns-clause-decided c =
    let mode : Mode = view_mode c.args.mode in
    let a : Item = view_parts c.args.parts.now in
    let m : WidthMap = view_widths c.args.plan.now.widths in
    found_by c.try_each.result (λ v. IsRefutationBy mode a m c.args.tries c.args.seed v) (λ v. IsRefutation mode a c.args.tries c.args.seed v) (λ v h. record {
      widths = m;
      well_formed = c.requires.well_formed;
      typed = c.requires.typed;
      evaluable = c.requires.evaluable;
      found = h;
    }) c.try_each.ensures.decided
