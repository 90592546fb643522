-- Definitions. The first flaw of an item: the first statement or last line that is not well formed, and the reason. A
-- reason names the condition of well-formedness that fails.
use Rattle.std.specs.Prelude.{◌≡◌, ℕ, ◌<◌, ◌^◌, ◌⊎◌, List, [], ◌∷◌, ◌++◌, Option, Some, None, slice_get}
use Rattle.std.specs.List.{AllByRecursion}
use Rattle.souper_graph.specs.declared.ast.operands.Operand.{Operand}
use Rattle.souper_graph.specs.declared.ast.operands.Operand.TheVariants.{Value}
use Rattle.souper_graph.specs.declared.ast.flaws.Flaw.{Flaw}
use Rattle.souper_graph.specs.declared.ast.flaws.FlawLocation.{FlawLocation}
use Rattle.souper_graph.specs.declared.ast.flaws.FlawLocation.TheVariants.{Statement, Infer, Result, Cand}
use Rattle.souper_graph.specs.declared.ast.flaws.FlawReason.{FlawReason}
use Rattle.souper_graph.specs.declared.ast.flaws.FlawReason.TheVariants.{InvalidName, EmptyBits, ZeroWidth, UseBeforeDefinition, NotAnAssignment, NotABlock, ValueCount, PredecessorOutOfRange, DuplicateName}
use Rattle.souper_graph.specs.Values.{PlainRootAttribute, PlainRhs, var, block, phi, reserved_inst, reserved_const, instruction, PlainStatement, assigned, condition, block_condition, Ending, inferred, resulting, replaced, candidate, Item}
use Rattle.souper_graph.specs.Names.{IsName}
use Rattle.souper_graph.specs.Uses.{Use, value_use, block_use, position_of, uses_of, uses_of_operands, NeededIn}
use Rattle.souper_graph.specs.WellFormed.{FitsOptionalType, FitsOperand, FitsAttribute, FitsRootAttribute, FitsRhs, predecessors_at, AgreesRhs, IsAssigned, IsBlock, IsMet}
use Rattle.souper_graph.specs.Judging.{assigned_name_at}

abbrev pub HasValidName : PlainStatement → Type 0
HasValidName (assigned a) = IsName a.name
HasValidName (condition p) = Unit {0}
HasValidName (block_condition p) = Unit {0}

-- each list of bits has an entry, and each number of an attribute is within its limits
abbrev pub HasValidBits : PlainStatement → Type 0
HasValidBits (assigned a) = AllByRecursion FitsAttribute a.attributes
HasValidBits (condition p) = Unit {0}
HasValidBits (block_condition p) = Unit {0}

-- each width is above 0, and each number is within its limits
abbrev pub HasValidWidths : PlainStatement → Type 0
HasValidWidths (assigned a) = FitsOptionalType a.ty × FitsRhs a.value
HasValidWidths (condition p) = FitsOperand p.x × FitsOperand p.y
HasValidWidths (block_condition p) = (p.predecessor < 2 ^ 32) × FitsOperand p.x × FitsOperand p.y

abbrev pub IsEarlier : ℕ → Use → Type 0
IsEarlier p u = position_of u < p

-- if the use is of a value, an assignment is there
abbrev pub IsValueMet : List PlainStatement → Use → Type 0
IsValueMet ss (value_use i) = IsAssigned (slice_get ss i)
IsValueMet ss (block_use i) = Unit {0}

abbrev pub HasBlockRhs : List PlainStatement → PlainRhs → Type 0
HasBlockRhs ss var = Unit {0}
HasBlockRhs ss (block b) = Unit {0}
HasBlockRhs ss (phi p) = IsBlock (slice_get ss p.block)
HasBlockRhs ss reserved_inst = Unit {0}
HasBlockRhs ss reserved_const = Unit {0}
HasBlockRhs ss (instruction i) = Unit {0}

-- the block that a phi or a condition names is there
abbrev pub HasBlock : List PlainStatement → PlainStatement → Type 0
HasBlock ss (assigned a) = HasBlockRhs ss a.value
HasBlock ss (condition p) = Unit {0}
HasBlock ss (block_condition p) = IsBlock (slice_get ss p.block)

-- a phi has one value per predecessor of its block
abbrev pub HasValueCount : List PlainStatement → PlainStatement → Type 0
HasValueCount ss (assigned a) = AgreesRhs ss a.value
HasValueCount ss (condition p) = Unit {0}
HasValueCount ss (block_condition p) = Unit {0}

-- a condition on a predecessor of a block names one of them
abbrev pub HasPredecessor : List PlainStatement → PlainStatement → Type 0
HasPredecessor ss (assigned a) = Unit {0}
HasPredecessor ss (condition p) = Unit {0}
HasPredecessor ss (block_condition p) = p.predecessor < predecessors_at ss p.block

-- the statement s at position p meets the condition of the reason, whatever names other statements have
abbrev pub MeetsAlone : List PlainStatement → ℕ → PlainStatement → FlawReason → Type 0
MeetsAlone ss p s InvalidName = HasValidName s
MeetsAlone ss p s EmptyBits = HasValidBits s
MeetsAlone ss p s ZeroWidth = HasValidWidths s
MeetsAlone ss p s UseBeforeDefinition = AllByRecursion (IsEarlier p) (uses_of s)
MeetsAlone ss p s NotAnAssignment = AllByRecursion (IsValueMet ss) (uses_of s)
MeetsAlone ss p s NotABlock = HasBlock ss s
MeetsAlone ss p s ValueCount = HasValueCount ss s
MeetsAlone ss p s PredecessorOutOfRange = HasPredecessor ss s
MeetsAlone ss p s DuplicateName = Unit {0}

-- no assignment at a position that Before holds of has the name of the assignment at position p
abbrev pub IsNamedAnew : List PlainStatement → (ℕ → Type 0) → ℕ → Type 0
IsNamedAnew ss Before p = (q : ℕ) (n : List ℕ) → Before q → assigned_name_at ss q ≡ Some n → assigned_name_at ss p ≡ Some n → ⊥

-- the statement at position p, if there is one, meets the condition of the reason; Before holds of the earlier statements
abbrev pub StatementMeets : List PlainStatement → (ℕ → Type 0) → ℕ → Option PlainStatement → FlawReason → Type 0
StatementMeets ss Before p None r = Unit {0}
StatementMeets ss Before p (Some s) DuplicateName = IsNamedAnew ss Before p
StatementMeets ss Before p (Some s) r = MeetsAlone ss p s r

-- a last line with these operands and attributes meets the condition of the reason
abbrev pub LineMeets : List PlainStatement → List Operand → List PlainRootAttribute → FlawReason → Type 0
LineMeets ss xs attributes EmptyBits = AllByRecursion FitsRootAttribute attributes
LineMeets ss xs attributes ZeroWidth = AllByRecursion FitsOperand xs
LineMeets ss xs attributes NotAnAssignment = AllByRecursion (IsMet ss) (uses_of_operands xs)
LineMeets ss xs attributes r = Unit {0}

-- the operands of a last line; none if the item does not have the line
abbrev pub line_operands : FlawLocation → Ending → List Operand
line_operands Infer (inferred i) = Value i.value ∷ []
line_operands Infer (replaced i x) = Value i.value ∷ []
line_operands Result (resulting x) = x ∷ []
line_operands Result (replaced i x) = x ∷ []
line_operands Cand (candidate c) = c.lhs ∷ c.rhs ∷ []
line_operands l e = []

abbrev pub line_attributes : FlawLocation → Ending → List PlainRootAttribute
line_attributes Infer (inferred i) = i.attributes
line_attributes Infer (replaced i x) = i.attributes
line_attributes Cand (candidate c) = c.attributes
line_attributes l e = []

-- what is at the location meets the condition of the reason
abbrev pub MeetsAt : Item → FlawLocation → FlawReason → Type 0
MeetsAt a (Statement p) r = StatementMeets a.statements (λ q. NeededIn a q × (q < p)) p (slice_get a.statements p) r
MeetsAt a l r = LineMeets a.statements (line_operands l a.ending) (line_attributes l a.ending) r

-- the reasons in the order in which they are looked for at one location
abbrev pub reasons_alone : List FlawReason
reasons_alone = InvalidName ∷ EmptyBits ∷ ZeroWidth ∷ UseBeforeDefinition ∷ NotAnAssignment ∷ NotABlock ∷ ValueCount ∷ PredecessorOutOfRange ∷ []

abbrev pub reasons : List FlawReason
reasons = reasons_alone ++ DuplicateName ∷ []

-- the reason is the first of the list whose condition fails
abbrev pub IsFirstFailing : (FlawReason → Type 0) → List FlawReason → FlawReason → Type 0
IsFirstFailing Meets [] r = ⊥
IsFirstFailing Meets (x ∷ xs) r = ((x ≡ r) × ¬ Meets x) ⊎ (Meets x × IsFirstFailing Meets xs r)

-- last lines come after all statements, and a result line after its infer line
abbrev pub IsBefore : FlawLocation → FlawLocation → Type 0
IsBefore (Statement p) (Statement q) = p < q
IsBefore (Statement p) l = Unit {0}
IsBefore Infer Result = Unit {0}
IsBefore l m = ⊥

-- of the statements those are checked that the item needs
abbrev pub IsChecked : Item → FlawLocation → Type 0
IsChecked a (Statement p) = NeededIn a p
IsChecked a l = Unit {0}

-- all conditions hold before the location, and there the reason is the first whose condition fails
pub record IsFirstFlaw (a : Item) (flaw : Flaw) : Type 0 where
  pub checked : IsChecked a flaw.location
  pub first : IsFirstFailing (MeetsAt a flaw.location) reasons flaw.reason
  pub before : (l : FlawLocation) → IsBefore l flaw.location → IsChecked a l → AllByRecursion (MeetsAt a l) reasons
