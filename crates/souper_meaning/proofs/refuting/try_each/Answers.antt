use Rattle.std.proofs.Common.{◌≡◌, ◌∙◌, ◌+◌, ◌≤◌, ℕ, List, length, refl, sym, ap, subst, arith, rules}
use Rattle.std.proofs.lemmas.Bool.{false≢true}
use Rattle.std.proofs.lemmas.List.{length-map, with_items_is, places}
use Rattle.souper_words.specs.declared.outcome.Outcome.{Outcome}
use Rattle.souper_graph.specs.Values.{Item}
use Rattle.souper_graph.specs.View.{view_statement}
use Rattle.souper_graph.specs.PartsView.{view_parts}
use Rattle.souper_widths.specs.Maps.{WidthMap}
use Rattle.souper_widths.specs.View.{view_widths}
use Rattle.souper_meaning.specs.Worlds.{World, Mode}
use Rattle.souper_meaning.specs.View.{view_world, view_mode}
use Rattle.souper_meaning.specs.Stepping.{IsFirst}
use Rattle.souper_meaning.specs.Sampling.{IsTry}
use Rattle.souper_meaning.specs.Refutations.{AllTriesRefine, MeetsAtTry, HoldsTimes}
use Rattle.souper_meaning.proofs.WantedBits.{bit_small}
use Rattle.souper_meaning.proofs.Tried.{also_poison}
use Rattle.souper_meaning.proofs.TriesBelow.{try_here, none_before, refined_more, met_more}
use Rattle.souper_meaning.proofs.refuting.try_each.Goals as goal

pub loop-number-init : goal.loop-number-init
loop-number-init c =
    let a : Item = view_parts c.args.parts.now in
    let m : WidthMap = view_widths c.args.plan.now.widths in
    let size : c.len-2.result ≡ length a.statements = c.len-2.ensures ∙ sym (length-map c.args.parts.now.statements.now view_statement) in
    let first : IsFirst (length a.statements) c.in_ok-first.first = subst (λ (n : ℕ). IsFirst n c.in_ok-first.first) size c.in_ok-first.ensures in
    record {
      outcomes = omega (arith, c.in_ok-outcomes.outcomes.ok.0, c.in_ok-outcomes.ensures.len, c.len.ensures, length-map c.args.parts.now.statements.now view_statement);
      places = first.places;
      refine = none_before (view_mode c.args.mode) a m c.args.seed c.requires.planned.well_formed;
      few = omega arith;
      met = refl;
    }

pub trial_of-trial-requires-clause-world : goal.trial_of-trial-requires-clause-world
trial_of-trial-requires-clause-world c =
    let a : Item = view_parts c.args.parts.now in
    let m : WidthMap = view_widths c.args.plan.now.widths in
    let t = try_here (view_mode c.args.mode) a m c.args.plan.now.needed.items c.requires.planned.well_formed c.requires.planned.marked c.requires.some c.args.seed c.loop-number.number c.output_of-state.result (view_world c.put_try.new.world)
    c.output_of-state.ensures c.put_try.ensures.given
    in
    also_poison (view_mode c.args.mode) a m (view_world c.put_try.new.world) t.world

pub returns-then-refutes-clause-decided : goal.returns-then-refutes-clause-decided
returns-then-refutes-clause-decided c =
    let a : Item = view_parts c.args.parts.now in
    let m : WidthMap = view_widths c.args.plan.now.widths in
    let t = c.refutes.ensures.0 c.if-refutes.true in (
      c.put_try.ensures.places,
      record {
        number = c.loop-number.number;
        inside = omega (arith, c.loop-number-test.true);
        tried = try_here (view_mode c.args.mode) a m c.args.plan.now.needed.items c.requires.planned.well_formed c.requires.planned.marked c.requires.some c.args.seed c.loop-number.number c.output_of-state.result (view_world c.put_try.new.world)
            c.output_of-state.ensures c.put_try.ensures.given;
        meets = c.trial_of-trial.ensures.met.0 t.0;
        fails = λ r. t.1 (c.trial_of-trial.ensures.refined.1 r);
        before = c.loop-number.invariant.refine;
      },
    )

pub overflow_add-met : goal.overflow_add-met
overflow_add-met c =
    let b : c.from-met.result ≤ 1 = subst (λ (z : ℕ). z ≤ 1) (sym c.from-met.ensures) (bit_small c.trial_of-trial.result.is_met) in
    omega (arith, b, c.loop-number.invariant.few, c.loop-number-test.true, c.ranges.tries.fits)

pub loop-number-preserved : goal.loop-number-preserved
loop-number-preserved c =
    let mode : Mode = view_mode c.args.mode in
    let a : Item = view_parts c.args.parts.now in
    let m : WidthMap = view_widths c.args.plan.now.widths in
    let k : ℕ = c.loop-number.number in
    let x : World = view_world c.put_try.new.world in
    let b : c.from-met.result ≤ 1 = subst (λ (z : ℕ). z ≤ 1) (sym c.from-met.ensures) (bit_small c.trial_of-trial.result.is_met) in
    let here : IsTry mode a m c.args.seed k x =
    try_here mode a m c.args.plan.now.needed.items c.requires.planned.well_formed c.requires.planned.marked c.requires.some c.args.seed k c.output_of-state.result x c.output_of-state.ensures c.put_try.ensures.given
    in
    record {
      outcomes = ap (λ (z : List Outcome). length z) (with_items_is c.loop-number.outcomes c.trial_of-trial.new.outcomes (search (rules, places))) ∙ c.trial_of-trial.auto.outcomes ∙ ap (λ (z : List Outcome). length z) c.deref_mut.ensures.value
          ∙ c.loop-number.invariant.outcomes;
      places = c.put_try.ensures.places;
      refine = refined_more mode a m c.args.seed c.requires.planned.well_formed k x here c.trial_of-trial.result.is_met c.trial_of-trial.result.is_refined c.trial_of-trial.ensures.met c.trial_of-trial.ensures.refined
          (λ t. false≢true (sym c.if-refutes.false ∙ c.refutes.ensures.1 t)) c.loop-number.invariant.refine;
      few = omega (arith, b, c.loop-number.invariant.few);
      met = subst (λ (z : ℕ). HoldsTimes (MeetsAtTry mode a m c.args.seed) (k + 1) (c.loop-number.met + z)) (sym c.from-met.ensures)
          (met_more mode a m c.args.seed c.requires.planned.well_formed k x here c.trial_of-trial.result.is_met c.trial_of-trial.ensures.met c.loop-number.met c.loop-number.invariant.met);
    }

pub returns-clause-decided : goal.returns-clause-decided
returns-clause-decided c =
    let mode : Mode = view_mode c.args.mode in
    let a : Item = view_parts c.args.parts.now in
    let m : WidthMap = view_widths c.args.plan.now.widths in
    let e : c.loop-number.number ≡ c.args.tries = omega (arith, c.loop-number-test.false, c.loop-number.auto.number-end) in (
      subst (λ (z : ℕ). AllTriesRefine mode a m c.args.seed z) e c.loop-number.invariant.refine,
      subst (λ (z : ℕ). HoldsTimes (MeetsAtTry mode a m c.args.seed) z c.loop-number.met) e c.loop-number.invariant.met,
    )
