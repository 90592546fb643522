use Rattle.std.proofs.Common.{◌≡◌, ◌∙◌, ◌+◌, ◌||◌, ℕ, Bool, List, length, sym, ap, subst, arith, rules}
use Rattle.std.specs.Prelude.{slice_index}
use Rattle.std.proofs.lemmas.Bool.{false≢true}
use Rattle.std.proofs.lemmas.List.{length-map, with_items_is, places}
use Rattle.souper_words.specs.declared.outcome.Outcome.{Outcome}
use Rattle.souper_graph.specs.Values.{Item}
use Rattle.souper_graph.specs.View.{view_statement}
use Rattle.souper_graph.specs.PartsView.{view_parts}
use Rattle.souper_widths.specs.Maps.{WidthMap}
use Rattle.souper_widths.specs.View.{view_widths}
use Rattle.souper_meaning.specs.Worlds.{World, Mode}
use Rattle.souper_meaning.specs.View.{view_world, view_mode}
use Rattle.souper_meaning.specs.Digits.{product_of, number_of}
use Rattle.souper_meaning.specs.Numbering.{world_count, IsWorldNumber}
use Rattle.souper_meaning.specs.Stepping.{IsFirst}
use Rattle.souper_meaning.proofs.Counting.{number_zero}
use Rattle.souper_meaning.proofs.Stepped.{first_numbered}
use Rattle.souper_meaning.proofs.Numbers.{world_here, number_here, product_here, some_here, counts_allow}
use Rattle.souper_meaning.proofs.Tried.{Tried, also_poison, tried_none, tried_more, sound_end, vacuous_end, or_true, or_false}
use Rattle.souper_meaning.proofs.exhausting.try_all.Goals as goal
use Rattle.souper_meaning.proofs.exhausting.try_all.Goals.{then-has_met, else-has_met}

pub loop-number-init : goal.loop-number-init
loop-number-init c =
    let a : Item = view_parts c.args.parts.now in
    let m : WidthMap = view_widths c.args.plan.now.widths in
    let counts : List ℕ = c.args.counts.now in
    let size : c.len-2.result ≡ length a.statements = c.len-2.ensures ∙ sym (length-map c.args.parts.now.statements.now view_statement) in
    let first : IsFirst (length a.statements) c.in_ok-numbered.numbered = subst (λ (n : ℕ). IsFirst n c.in_ok-numbered.numbered) size c.in_ok-numbered.ensures in
    record {
      outcomes = omega (arith, c.in_ok-outcomes.outcomes.ok.0, c.in_ok-outcomes.ensures.len, c.len.ensures, length-map c.args.parts.now.statements.now view_statement);
      numbered = first_numbered a m counts c.in_ok-numbered.numbered c.requires.planned.well_formed
          (some_here (view_mode c.args.mode) a m c.args.plan.now.needed.items c.requires.planned.well_formed c.requires.planned.marked counts c.requires.size c.requires.counts (omega (arith, c.requires.some, c.requires.world_count))) first;
      number = λ l. number_zero (slice_index counts) (slice_index c.in_ok-numbered.numbered.digits.items) (length counts) (λ p q. first.digits p);
      tried = tried_none (view_mode c.args.mode) a m c.args.plan.now.needed.items c.requires.planned.well_formed;
    }

pub trial_of-trial-requires-clause-world : goal.trial_of-trial-requires-clause-world
trial_of-trial-requires-clause-world c =
    let a : Item = view_parts c.args.parts.now in
    let m : WidthMap = view_widths c.args.plan.now.widths in
    also_poison (view_mode c.args.mode) a m (view_world c.loop-number.numbered.world)
    (world_here (view_mode c.args.mode) a m c.args.plan.now.needed.items c.requires.planned.well_formed c.requires.planned.marked c.args.counts.now c.requires.size c.requires.counts c.loop-number.numbered c.loop-number.invariant.numbered)

pub returns-then-refutes-clause-decided : goal.returns-then-refutes-clause-decided
returns-then-refutes-clause-decided c =
    let a : Item = view_parts c.args.parts.now in
    let m : WidthMap = view_widths c.args.plan.now.widths in
    let t = c.refutes.ensures.0 c.if-refutes.true in (
      c.loop-number.invariant.numbered.places,
      record {
        world = world_here (view_mode c.args.mode) a m c.args.plan.now.needed.items c.requires.planned.well_formed c.requires.planned.marked c.args.counts.now c.requires.size c.requires.counts c.loop-number.numbered
            c.loop-number.invariant.numbered;
        meets = c.trial_of-trial.ensures.met.0 t.0;
        fails = λ r. t.1 (c.trial_of-trial.ensures.refined.1 r);
        number = c.loop-number._number;
        inside = omega (arith, c.loop-number-test.true, c.requires.world_count);
        numbered = number_here (view_mode c.args.mode) a m c.args.plan.now.needed.items c.requires.planned.well_formed c.requires.planned.marked c.args.counts.now c.requires.size c.requires.counts c.loop-number.numbered
            c.loop-number.invariant.numbered c.loop-number._number (c.loop-number.invariant.number c.loop-number-test.true);
        before = c.loop-number.invariant.tried.refine;
      },
    )

pub step-requires-clause-counts : goal.step-requires-clause-counts
step-requires-clause-counts c =
    counts_allow (view_mode c.args.mode) (view_parts c.args.parts.now) (view_widths c.args.plan.now.widths) c.args.plan.now.needed.items c.requires.planned.well_formed c.requires.planned.marked c.args.counts.now c.requires.size
    c.requires.counts

pub loop-number-preserved : goal.loop-number-preserved
loop-number-preserved c =
    let mode : Mode = view_mode c.args.mode in
    let a : Item = view_parts c.args.parts.now in
    let m : WidthMap = view_widths c.args.plan.now.widths in
    let counts : List ℕ = c.args.counts.now in
    let k : ℕ = c.loop-number._number in
    let x : World = view_world c.loop-number.numbered.world in
    let here : number_of (slice_index counts) (slice_index c.loop-number.numbered.digits.items) (length counts) ≡ k = c.loop-number.invariant.number c.loop-number-test.true in
    let all : product_of (slice_index counts) (length counts) ≡ world_count mode a m c.args.plan.now.needed.items =
    product_here mode a m c.args.plan.now.needed.items c.requires.planned.well_formed c.requires.planned.marked counts c.requires.size c.requires.counts
    in
    let numbered : IsWorldNumber mode a m c.args.plan.now.needed.items k x =
    number_here mode a m c.args.plan.now.needed.items c.requires.planned.well_formed c.requires.planned.marked counts c.requires.size c.requires.counts c.loop-number.numbered c.loop-number.invariant.numbered k here
    in
    let more : Tried mode a m c.args.plan.now.needed.items (k + 1) (c.loop-number.has_met || c.trial_of-trial.result.is_met) =
    tried_more mode a m c.args.plan.now.needed.items c.requires.planned.well_formed k x numbered
    (world_here mode a m c.args.plan.now.needed.items c.requires.planned.well_formed c.requires.planned.marked counts c.requires.size c.requires.counts c.loop-number.numbered c.loop-number.invariant.numbered)
    c.loop-number.has_met c.trial_of-trial.result.is_met c.trial_of-trial.result.is_refined c.trial_of-trial.ensures.met c.trial_of-trial.ensures.refined
    (λ t. false≢true (sym c.if-refutes.false ∙ c.refutes.ensures.1 t)) c.loop-number.invariant.tried
    in
    let joined : (c.loop-number.has_met || c.trial_of-trial.result.is_met) ≡ c.if-has_met.has_met =
    elim c.if-has_met.branch [
      | then-has_met w ↦ or_true c.loop-number.has_met c.trial_of-trial.result.is_met c.if-has_met.has_met w.if-has_met.true (w.has_met-is ∙ w.if-has_met.true)
      | else-has_met w ↦ or_false c.loop-number.has_met c.trial_of-trial.result.is_met c.if-has_met.has_met w.if-has_met.false w.has_met-is
    ]
    in
    record {
      outcomes = ap (λ (z : List Outcome). length z) (with_items_is c.loop-number.outcomes c.trial_of-trial.new.outcomes (search (rules, places))) ∙ c.trial_of-trial.auto.outcomes ∙ ap (λ (z : List Outcome). length z) c.deref_mut.ensures.value
          ∙ c.loop-number.invariant.outcomes;
      numbered = c.step.ensures.numbered;
      number = λ l. c.step.ensures.next (omega (arith, l, here, all, c.requires.world_count)) ∙ ap (λ (z : ℕ). z + 1) here;
      tried = subst (λ (b : Bool). Tried mode a m c.args.plan.now.needed.items (k + 1) b) joined more;
    }

pub returns-then-has_met-2-clause-decided : goal.returns-then-has_met-2-clause-decided
returns-then-has_met-2-clause-decided c =
    let mode : Mode = view_mode c.args.mode in
    let a : Item = view_parts c.args.parts.now in
    let m : WidthMap = view_widths c.args.plan.now.widths in
    let k : ℕ = c.loop-number._number in
    let e : k ≡ c.args.world_count = omega (arith, c.loop-number-test.false, c.loop-number.auto._number-end) in
    sound_end mode a m c.args.plan.now.needed.items c.requires.planned.well_formed c.requires.planned.marked c.requires.planned.evaluable.meaning k (e ∙ c.requires.world_count)
    (subst (λ (b : Bool). Tried mode a m c.args.plan.now.needed.items k b) c.if-has_met-2.true c.loop-number.invariant.tried)

pub returns-clause-decided : goal.returns-clause-decided
returns-clause-decided c =
    let mode : Mode = view_mode c.args.mode in
    let a : Item = view_parts c.args.parts.now in
    let m : WidthMap = view_widths c.args.plan.now.widths in
    let k : ℕ = c.loop-number._number in
    let e : k ≡ c.args.world_count = omega (arith, c.loop-number-test.false, c.loop-number.auto._number-end) in
    vacuous_end mode a m c.args.plan.now.needed.items c.requires.planned.well_formed c.requires.planned.marked c.requires.planned.evaluable.meaning k (e ∙ c.requires.world_count)
    (subst (λ (b : Bool). Tried mode a m c.args.plan.now.needed.items k b) c.if-has_met-2.false c.loop-number.invariant.tried)
