-- Definitions. What the functions return that look for the first flaw.
use Rattle.std.specs.Prelude.{◌≡◌, ℕ, suc, ◌<◌, ◌↔◌, Bool, true, false, List, [], ◌∷◌, length, Option, Some, None, slice_get, take, get_or, if◌then◌else◌}
use Rattle.std.specs.List.{AllByRecursion}
use Rattle.souper_graph.specs.declared.ast.flaws.Flaw.{Flaw}
use Rattle.souper_graph.specs.declared.ast.flaws.FlawLocation.{FlawLocation}
use Rattle.souper_graph.specs.declared.ast.flaws.FlawLocation.TheVariants.{Statement, Infer, Result, Cand}
use Rattle.souper_graph.specs.declared.ast.flaws.FlawReason.{FlawReason}
use Rattle.souper_graph.specs.declared.ast.flaws.FlawReason.TheVariants.{UseBeforeDefinition, NotAnAssignment, NotABlock, ValueCount, PredecessorOutOfRange}
use Rattle.souper_graph.specs.Values.{PlainStatement, Ending, Item}
use Rattle.souper_graph.specs.Uses.{Has, Needed, NeededIn}
use Rattle.souper_graph.specs.Judging.{AllStand}
use Rattle.souper_graph.specs.Flaws.{MeetsAlone, StatementMeets, LineMeets, line_operands, line_attributes, reasons, IsFirstFailing}

-- the marks are on the statements that can be reached from the walks
pub record AreReached (ss : List PlainStatement) (walks : List ℕ) (marks : List Bool) : Type 0 where
  pub size : length marks ≡ length ss
  pub sound : (i : ℕ) → get_or marks i false ≡ true → Needed ss walks i
  pub whole : (i : ℕ) → i < length ss → Needed ss walks i → get_or marks i false ≡ true

-- the positions that are marked, ascending, if the first mark is on k
abbrev pub marked_from : ℕ → List Bool → List ℕ
marked_from k [] = []
marked_from k (m ∷ ms) = if m then k ∷ marked_from (suc k) ms else marked_from (suc k) ms

-- the positions are those of the needed statements, ascending
pub record AreNeeded (a : Item) (ids : List ℕ) : Type 0 where
  pub inside : (i : ℕ) → Has ids i → i < length a.statements
  pub exact : (i : ℕ) → i < length a.statements → Has ids i ↔ NeededIn a i
  pub ascending : (k i : ℕ) → k < length ids → Has (take k ids) i ↔ (Has ids i × (i < get_or ids k 0))

-- the reasons that concern the uses of a statement, but for what its block is
abbrev pub use_reasons : List FlawReason
use_reasons = UseBeforeDefinition ∷ NotAnAssignment ∷ []

-- the reasons that concern the block of a statement
abbrev pub block_reasons : List FlawReason
block_reasons = NotABlock ∷ ValueCount ∷ PredecessorOutOfRange ∷ []

abbrev pub MeetsBlock : List PlainStatement → PlainStatement → FlawReason → Type 0
MeetsBlock ss s r = MeetsAlone ss 0 s r

abbrev pub StatementMeetsAlone : List PlainStatement → ℕ → Option PlainStatement → FlawReason → Type 0
StatementMeetsAlone ss p None r = Unit {0}
StatementMeetsAlone ss p (Some s) r = MeetsAlone ss p s r

-- of the statements at these positions, in this order, one has the flaw, and those before it have none
pub record IsFlawAmong (ss : List PlainStatement) (ids : List ℕ) (flaw : Flaw) : Type 0 where
  pub index : ℕ
  pub within : index < length ids
  pub there : flaw.location ≡ Statement (get_or ids index 0)
  pub stand : AllStand ss (take index ids)
  pub first : IsFirstFailing (StatementMeets ss (Has (take index ids)) (get_or ids index 0) (slice_get ss (get_or ids index 0))) reasons flaw.reason

-- the last line at the location has none of the flaws
abbrev pub LineStands : List PlainStatement → Ending → FlawLocation → Type 0
LineStands ss e l = AllByRecursion (LineMeets ss (line_operands l e) (line_attributes l e)) reasons

abbrev pub LinesStand : List PlainStatement → Ending → Type 0
LinesStand ss e = LineStands ss e Infer × LineStands ss e Result × LineStands ss e Cand

abbrev pub IsFirstOfLine : List PlainStatement → Ending → FlawLocation → FlawReason → Type 0
IsFirstOfLine ss e l r = IsFirstFailing (LineMeets ss (line_operands l e) (line_attributes l e)) reasons r

-- the flaw is the first of the last lines
abbrev pub IsFlawOfLines : List PlainStatement → Ending → FlawLocation → FlawReason → Type 0
IsFlawOfLines ss e (Statement p) r = ⊥
IsFlawOfLines ss e Infer r = IsFirstOfLine ss e Infer r
IsFlawOfLines ss e Result r = LineStands ss e Infer × IsFirstOfLine ss e Result r
IsFlawOfLines ss e Cand r = IsFirstOfLine ss e Cand r
