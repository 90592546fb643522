-- An item has one evaluation in a world, and then no error but one of those of its widths.
use Rattle.std.proofs.Common.{◌≡◌, Bool, true, false, Option, refl, sym, ap, subst, ◌∙◌}
use Rattle.std.specs.Prelude.{IsTrue}
use Rattle.souper_graph.specs.Values.{Item}
use Rattle.souper_widths.specs.declared.flaws.WidthsError.{WidthsError}
use Rattle.souper_widths.specs.Maps.{WidthMap}
use Rattle.souper_widths.specs.Typed.{Typed}
use Rattle.souper_words.specs.declared.outcome.Outcome.{Outcome}
use Rattle.souper_meaning.specs.declared.plans.PlanError.{PlanError}
use Rattle.souper_meaning.specs.declared.plans.PlanError.TheVariants.{Untyped, Hole, TooWide, RootTooWide}
use Rattle.souper_meaning.specs.declared.item_outcomes.Evaluation.{Evaluation}
use Rattle.souper_meaning.specs.declared.item_outcomes.EvalError.{EvalError}
use Rattle.souper_meaning.specs.declared.item_outcomes.EvalError.TheVariants.{NoPlan, NotAWorld}
use Rattle.souper_meaning.specs.Worlds.{World}
use Rattle.souper_meaning.specs.Plans.{IsPlanError}
use Rattle.souper_meaning.specs.Evaluations.{IsEvaluationBy, IsEvaluation, IsEvalError}

abbrev evaluation : Option Outcome → Option Outcome → Bool → Evaluation
evaluation l r b = record { left = l; right = r; is_met = b }

parts_same : (e f : Evaluation) → e.left ≡ f.left → e.right ≡ f.right → e.is_met ≡ f.is_met → e ≡ f
parts_same e f p q s =
    ap (λ (l : Option Outcome). evaluation l e.right e.is_met) p ∙ ap (λ (r : Option Outcome). evaluation f.left r e.is_met) q ∙ ap (λ (b : Bool). evaluation f.left f.right b) s

answers_same : (b c : Bool) → (IsTrue b → IsTrue c) → (IsTrue c → IsTrue b) → b ≡ c
answers_same true c h k = sym (h refl)
answers_same false true h k = k refl
answers_same false false h k = refl

by_one_map : (a : Item) (m n : WidthMap) (x : World) (f : Evaluation) → Typed a m → IsEvaluationBy a n x f → IsEvaluationBy a m x f
by_one_map a m n x f t h = subst (λ (z : WidthMap). IsEvaluationBy a z x f) (t.only n h.typed.has) h

one_by : (a : Item) (m : WidthMap) (x : World) (e f : Evaluation) → IsEvaluationBy a m x e → IsEvaluationBy a m x f → e ≡ f
one_by a m x e f h k =
    parts_same e f (h.left ∙ sym k.left) (h.right ∙ sym k.right) (answers_same e.is_met f.is_met (λ t. k.met.1 (h.met.0 t)) (λ t. h.met.1 (k.met.0 t)))

pub one_evaluation : (a : Item) (x : World) (e f : Evaluation) → IsEvaluation a x e → IsEvaluation a x f → e ≡ f
one_evaluation a x e f h k = one_by a h.1.0 x e f h.1.1 (by_one_map a h.1.0 k.1.0 x f h.1.1.typed k.1.1)

plan_refused : (a : Item) (m : WidthMap) (x : World) (e : Evaluation) (f : PlanError) → IsEvaluationBy a m x e → IsPlanError a f → (g : WidthsError) × (NoPlan f ≡ NoPlan (Untyped g))
plan_refused a m x e (Untyped g) h k = (g, refl)
plan_refused a m x e (Hole p) h k = absurd (k.1.2.fails (h.evaluable.meaning p k.1.2.needed))
plan_refused a m x e (TooWide p) h k =
    let n = by_one_map a k.1.0 m x e k.1.1 h in
    absurd (k.1.2.1.fails (n.evaluable.narrow p k.1.2.1.needed))
plan_refused a m x e RootTooWide h k =
    let n = by_one_map a k.1.0 m x e k.1.1 h in
    absurd (k.1.2.2 n.evaluable.root)

-- an item that is evaluated has no other error
pub refused_for_widths : (a : Item) (x : World) (e : Evaluation) (f : EvalError) → IsEvaluation a x e → IsEvalError a x f → (g : WidthsError) × (f ≡ NoPlan (Untyped g))
refused_for_widths a x e (NoPlan f) h k = plan_refused a h.1.0 x e f h.1.1 k
refused_for_widths a x e (NotAWorld p) h k =
    let n = by_one_map a k.1.0 h.1.0 x e k.1.1 h.1.1 in
    absurd (k.1.3.fails (n.world p k.1.3.needed))
