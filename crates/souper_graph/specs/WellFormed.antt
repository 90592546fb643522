-- Definitions. When an item is well formed. Statements that it does not need are not checked.
use Rattle.std.specs.Prelude.{◌≡◌, ℕ, ◌<◌, ◌^◌, List, Option, Some, None, length, slice_get, FitsSigned}
use Rattle.std.specs.Int.{w128}
use Rattle.std.specs.List.{AllByRecursion}
use Rattle.souper_graph.specs.declared.ast.operands.«Type».{«Type» as Ty}
use Rattle.souper_graph.specs.declared.ast.operands.Constant.{Constant}
use Rattle.souper_graph.specs.declared.ast.operands.Operand.{Operand}
use Rattle.souper_graph.specs.declared.ast.operands.Operand.TheVariants.{Value, Constant as constant_variant}
use Rattle.souper_graph.specs.Values.{PlainAttribute, known_bits, sign_bits, range, PlainRootAttribute, demanded_bits, harvested_from_use, PlainRhs, block, phi, instruction, PlainAssignment, PlainStatement, assigned, condition, block_condition, PlainInfer, PlainCand, Ending, inferred, resulting, replaced, candidate, Item}
use Rattle.souper_graph.specs.Instructions.{operands_of}
use Rattle.souper_graph.specs.Names.{IsName}
use Rattle.souper_graph.specs.Uses.{Has, Use, value_use, block_use, position_of, uses_of, roots_of, NeededIn}

-- it is an assignment
abbrev pub IsAssigned : Option PlainStatement → Type 0
IsAssigned (Some (assigned a)) = Unit {0}
IsAssigned o = ⊥

abbrev pub IsBlockRhs : PlainRhs → Type 0
IsBlockRhs (block b) = Unit {0}
IsBlockRhs r = ⊥

-- it is the assignment of a block
abbrev pub IsBlock : Option PlainStatement → Type 0
IsBlock (Some (assigned a)) = IsBlockRhs a.value
IsBlock o = ⊥

-- the statement at the position is of the kind that the use asks for
abbrev pub IsMet : List PlainStatement → Use → Type 0
IsMet ss (value_use i) = IsAssigned (slice_get ss i)
IsMet ss (block_use i) = IsBlock (slice_get ss i)

abbrev pub AreMet : List PlainStatement → List Use → Type 0
AreMet ss us = (u : Use) → Has us u → IsMet ss u

-- a width of 1 to 65535 bits
abbrev pub FitsType : Ty → Type 0
FitsType t = (0 < t.width) × (t.width < 2 ^ 16)

abbrev pub FitsOptionalType : Option Ty → Type 0
FitsOptionalType None = Unit {0}
FitsOptionalType (Some t) = FitsType t

abbrev pub FitsConstant : Constant → Type 0
FitsConstant c = FitsSigned w128 c.value × FitsOptionalType c.ty

abbrev pub FitsOperand : Operand → Type 0
FitsOperand (Value i) = Unit {0}
FitsOperand (constant_variant c) = FitsConstant c

-- bit lists are not empty, and numbers are within their limits
abbrev pub FitsAttribute : PlainAttribute → Type 0
FitsAttribute (known_bits bits) = 0 < length bits
FitsAttribute (sign_bits n) = n < 2 ^ 8
FitsAttribute (range low high) = FitsSigned w128 low × FitsSigned w128 high
FitsAttribute x = Unit {0}

abbrev pub FitsRootAttribute : PlainRootAttribute → Type 0
FitsRootAttribute (demanded_bits bits) = 0 < length bits
FitsRootAttribute harvested_from_use = Unit {0}

abbrev pub FitsRhs : PlainRhs → Type 0
FitsRhs (block b) = b.predecessors < 2 ^ 32
FitsRhs (phi p) = AllByRecursion FitsOperand p.values
FitsRhs (instruction i) = AllByRecursion FitsOperand (operands_of i)
FitsRhs r = Unit {0}

-- an assignment is valid by itself
pub record FitsAssignment (a : PlainAssignment) : Type 0 where
  pub name_fits : IsName a.name
  pub type_fits : FitsOptionalType a.ty
  pub value_fits : FitsRhs a.value
  pub attributes_fit : AllByRecursion FitsAttribute a.attributes

-- a statement is valid by itself
abbrev pub FitsStatement : PlainStatement → Type 0
FitsStatement (assigned a) = FitsAssignment a
FitsStatement (condition p) = FitsOperand p.x × FitsOperand p.y
FitsStatement (block_condition p) = (p.predecessor < 2 ^ 32) × FitsOperand p.x × FitsOperand p.y

abbrev pub predecessors_of_rhs : PlainRhs → ℕ
predecessors_of_rhs (block b) = b.predecessors
predecessors_of_rhs r = 0

abbrev pub predecessors_of : Option PlainStatement → ℕ
predecessors_of (Some (assigned a)) = predecessors_of_rhs a.value
predecessors_of o = 0

-- the number of predecessors of the block at a position; 0 if there is none
abbrev pub predecessors_at : List PlainStatement → ℕ → ℕ
predecessors_at ss i = predecessors_of (slice_get ss i)

abbrev pub AgreesRhs : List PlainStatement → PlainRhs → Type 0
AgreesRhs ss (phi p) = length p.values ≡ predecessors_at ss p.block
AgreesRhs ss r = Unit {0}

-- a phi has one value per predecessor of its block, and a condition on a predecessor of a block names one of them
abbrev pub AgreesWithBlock : List PlainStatement → PlainStatement → Type 0
AgreesWithBlock ss (assigned a) = AgreesRhs ss a.value
AgreesWithBlock ss (condition p) = Unit {0}
AgreesWithBlock ss (block_condition p) = p.predecessor < predecessors_at ss p.block

-- the statement s is valid at position p
pub record Closed (ss : List PlainStatement) (p : ℕ) (s : PlainStatement) : Type 0 where
  pub fits : FitsStatement s
  pub below : (u : Use) → Has (uses_of s) u → position_of u < p
  pub met : AreMet ss (uses_of s)
  pub agrees : AgreesWithBlock ss s

-- the last lines are valid by themselves
abbrev pub FitsInfer : PlainInfer → Type 0
FitsInfer i = AllByRecursion FitsRootAttribute i.attributes

abbrev pub FitsCand : PlainCand → Type 0
FitsCand c = FitsOperand c.lhs × FitsOperand c.rhs × AllByRecursion FitsRootAttribute c.attributes

abbrev pub FitsEnding : Ending → Type 0
FitsEnding (inferred i) = FitsInfer i
FitsEnding (resulting r) = FitsOperand r
FitsEnding (replaced i r) = FitsInfer i × FitsOperand r
FitsEnding (candidate c) = FitsCand c

-- the needed assignments have distinct names
abbrev pub AreNamedApart : List PlainStatement → (ℕ → Type 0) → Type 0
AreNamedApart ss In = (p q : ℕ) (v w : PlainAssignment) → In p → In q → slice_get ss p ≡ Some (assigned v) → slice_get ss q ≡ Some (assigned w) → v.name ≡ w.name → p ≡ q

pub record WellFormed (a : Item) : Type 0 where
  pub roots_met : AreMet a.statements (roots_of a.ending)
  pub ending_fits : FitsEnding a.ending
  pub closed : (p : ℕ) (s : PlainStatement) → NeededIn a p → slice_get a.statements p ≡ Some s → Closed a.statements p s
  pub named_apart : AreNamedApart a.statements (NeededIn a)
