-- A statement as the code reads it, with its widths as numbers.
use Rattle.std.proofs.Common.{◌≡◌, ◌↔◌, ℕ, List, map, Option, Some, None, sym, ap, subst, ◌∙◌}
use Rattle.std.specs.Prelude.{slice_get, option_map}
use Rattle.std.proofs.lemmas.Option.{slice_get-map}
use Rattle.souper_graph.specs.declared.ast.statements.Statement.{Statement as StatementNode}
use Rattle.souper_graph.specs.Values.{PlainStatement, Item}
use Rattle.souper_graph.specs.View.{view_statement}
use Rattle.souper_graph.specs.Uses.{NeededIn}
use Rattle.souper_graph.specs.WellFormed.{WellFormed}
use Rattle.souper_graph.proofs.Judging.Needed.{statement_at, well_formed_stands}
use Rattle.souper_widths.specs.Maps.{WidthMap, result_width, operand_width}
use Rattle.souper_widths.specs.Typed.{Typed}
use Rattle.souper_words.specs.declared.outcome.Outcome.{Outcome}
use Rattle.souper_meaning.specs.declared.plans.PlanError.{PlanError}
use Rattle.souper_meaning.specs.declared.plans.PlanError.TheVariants.{Untyped, Hole, TooWide, RootTooWide}
use Rattle.souper_meaning.specs.Plans.{IsRefusal, IsPlanError}
use Rattle.souper_meaning.specs.Worlds.{World, Mode, GivesStatement, GivesAt}
use Rattle.souper_meaning.specs.Statements.{outcome_by, statement_outcome}
use Rattle.souper_meaning.specs.Evaluable.{AreNarrow, IsNarrowAt, IsReadyStatement}

pub viewed : (xs : List StatementNode) (i : ℕ) (o : Option StatementNode) → slice_get xs i ≡ o → slice_get (map view_statement xs) i ≡ option_map view_statement o
viewed xs i o e = slice_get-map view_statement xs i ∙ ap (option_map view_statement) e

-- a needed position has a statement
pub not_none : (a : Item) (p : ℕ) → WellFormed a → NeededIn a p → slice_get a.statements p ≡ None → ⊥
not_none a p w d e = let s : slice_get a.statements p ≡ Some (statement_at a.statements p) = well_formed_stands a w p d in cc

pub ready_by : (w v : ℕ) (m : WidthMap) (p : ℕ) (at : ℕ → Outcome) (s : PlainStatement) → w ≡ result_width m p → v ≡ operand_width m p → IsReadyStatement (result_width m p) (operand_width m p) at s → IsReadyStatement w v at s
ready_by w v m p at s e f h = subst (λ (k : ℕ). IsReadyStatement k v at s) (sym e) (subst (λ (k : ℕ). IsReadyStatement (result_width m p) k at s) (sym f) h)

pub by_widths : (w v : ℕ) (m : WidthMap) (x : World) (p : ℕ) (at : ℕ → Outcome) (s : PlainStatement) → w ≡ result_width m p → v ≡ operand_width m p → outcome_by w v x p at s ≡ statement_outcome m x p at s
by_widths w v m x p at s e f = ap (λ (k : ℕ). outcome_by k v x p at s) e ∙ ap (λ (k : ℕ). outcome_by (result_width m p) k x p at s) f

pub narrow_to : (w v : ℕ) (m : WidthMap) (p : ℕ) → w ≡ result_width m p → v ≡ operand_width m p → AreNarrow w v → IsNarrowAt m p
narrow_to w v m p e f h = subst (λ (k : ℕ). AreNarrow k (operand_width m p)) e (subst (λ (k : ℕ). AreNarrow w k) f h)

pub narrow_from : (w v : ℕ) (m : WidthMap) (p : ℕ) → w ≡ result_width m p → v ≡ operand_width m p → IsNarrowAt m p → AreNarrow w v
narrow_from w v m p e f h = subst (λ (k : ℕ). AreNarrow k v) (sym e) (subst (λ (k : ℕ). AreNarrow (result_width m p) k) (sym f) h)

pub refusal_error : (a : Item) (m : WidthMap) (e : PlanError) → WellFormed a → Typed a m → IsRefusal a m e → IsPlanError a e
refusal_error a m (Untyped q) w t r = absurd r
refusal_error a m (Hole p) w t r = (w, (m, t, r))
refusal_error a m (TooWide p) w t r = (w, (m, t, r))
refusal_error a m RootTooWide w t r = (w, (m, t, r))

pub gives_by : (mode : Mode) (a : Item) (m : WidthMap) (x : World) (p : ℕ) (s : PlainStatement) (w : ℕ) → slice_get a.statements p ≡ Some s → w ≡ result_width m p → GivesStatement mode w x p (Some s) ↔ GivesAt mode a m x p
gives_by mode a m x p s w e f = (
  (λ h. subst (λ (o : Option PlainStatement). GivesStatement mode (result_width m p) x p o) (sym e) (subst (λ (z : ℕ). GivesStatement mode z x p (Some s)) f h)),
  (λ h. subst (λ (z : ℕ). GivesStatement mode z x p (Some s)) (sym f) (subst (λ (o : Option PlainStatement). GivesStatement mode (result_width m p) x p o) e h)),
)
