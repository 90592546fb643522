-- When a node can be written in a scope: it is valid by itself, and each position that it names has a name that the
-- scope knows.
use Rattle.std.proofs.Common.{◌≡◌, List, [], ◌∷◌, ◌++◌, Some, None, inl, inr}
use Rattle.std.specs.List.{AllByRecursion}
use Rattle.souper_graph.specs.declared.ast.operands.Operand.{Operand}
use Rattle.souper_graph.specs.Values.{PlainRhs, PlainAssignment, PlainStatement, assigned, condition, block_condition}
use Rattle.souper_graph.specs.Names.{IsName}
use Rattle.souper_graph.specs.Uses.{Has, Use, value_use, block_use, uses_of_operand, uses_of_operands, uses_of_rhs, uses_of}
use Rattle.souper_graph.specs.Text.{name_at}
use Rattle.souper_graph.specs.WellFormed.{FitsOperand, FitsRhs, FitsStatement, predecessors_at, AgreesRhs, AgreesWithBlock}
use Rattle.souper_graph.specs.Syntax.Spelling.{Scope, entry_of, position_of}
use Rattle.souper_graph.proofs.Lists.{Has-left, Has-right}

-- the name of the position is one, and the scope has it at that position
abbrev pub Known : Scope → List PlainStatement → Use → Type 0
Known s ss (value_use i) = IsName (name_at ss i) × (position_of s (name_at ss i) ≡ Some i)
Known s ss (block_use i) = IsName (name_at ss i) × (entry_of s (name_at ss i) ≡ Some (i, Some (predecessors_at ss i)))

abbrev pub AreKnown : Scope → List PlainStatement → List Use → Type 0
AreKnown s ss us = (u : Use) → Has us u → Known s ss u

pub known_left : (s : Scope) (ss : List PlainStatement) (us vs : List Use) → AreKnown s ss (us ++ vs) → AreKnown s ss us
known_left s ss us vs k u h = k u (Has-left us vs u h)

pub known_right : (s : Scope) (ss : List PlainStatement) (us vs : List Use) → AreKnown s ss (us ++ vs) → AreKnown s ss vs
known_right s ss us vs k u h = k u (Has-right us vs u h)

abbrev pub ReadyOperand : Scope → List PlainStatement → Operand → Type 0
ReadyOperand s ss x = FitsOperand x × AreKnown s ss (uses_of_operand x)

pub ready_operands : (s : Scope) (ss : List PlainStatement) (xs : List Operand) → AllByRecursion FitsOperand xs → AreKnown s ss (uses_of_operands xs) → AllByRecursion (ReadyOperand s ss) xs
ready_operands s ss [] f k = tt
ready_operands s ss (x ∷ xs) f k =
    ((f.0, known_left s ss (uses_of_operand x) (uses_of_operands xs) k), ready_operands s ss xs f.1 (known_right s ss (uses_of_operand x) (uses_of_operands xs) k))

-- the name of an assignment is not in the scope
abbrev pub IsFresh : Scope → PlainStatement → Type 0
IsFresh s (assigned a) = position_of s a.name ≡ None
IsFresh s (condition p) = Unit {0}
IsFresh s (block_condition p) = Unit {0}

pub record ReadyRhs (s : Scope) (ss : List PlainStatement) (r : PlainRhs) : Type 0 where
  pub fits : FitsRhs r
  pub known : AreKnown s ss (uses_of_rhs r)
  pub agrees : AgreesRhs ss r

pub record ReadyStatement (s : Scope) (ss : List PlainStatement) (v : PlainStatement) : Type 0 where
  pub fits : FitsStatement v
  pub known : AreKnown s ss (uses_of v)
  pub agrees : AgreesWithBlock ss v
  pub fresh : IsFresh s v

pub ready_rhs : (s : Scope) (ss : List PlainStatement) (a : PlainAssignment) → ReadyStatement s ss (assigned a) → ReadyRhs s ss a.value
ready_rhs s ss a h = record { fits = h.fits.value_fits; known = h.known; agrees = h.agrees }

-- the first and the second of two operands
pub ready_first : (s : Scope) (ss : List PlainStatement) (x y : Operand) → FitsOperand x → AreKnown s ss (uses_of_operand x ++ uses_of_operand y) → ReadyOperand s ss x
ready_first s ss x y f k = (f, known_left s ss (uses_of_operand x) (uses_of_operand y) k)

pub ready_second : (s : Scope) (ss : List PlainStatement) (x y : Operand) → FitsOperand y → AreKnown s ss (uses_of_operand x ++ uses_of_operand y) → ReadyOperand s ss y
ready_second s ss x y f k = (f, known_right s ss (uses_of_operand x) (uses_of_operand y) k)

-- after the use of a block
pub known_after : (s : Scope) (ss : List PlainStatement) (u : Use) (us : List Use) → AreKnown s ss (u ∷ us) → AreKnown s ss us
known_after s ss u us k v h = k v (inr h)

pub known_here : (s : Scope) (ss : List PlainStatement) (u : Use) (us : List Use) → AreKnown s ss (u ∷ us) → Known s ss u
known_here s ss u us k = k u (inl (λ i. u))

-- statements in sequence, each in the scope of those before it
abbrev pub AreReady : Scope → List PlainStatement → List PlainStatement → Type 0
AreReady s ss [] = Unit {0}
AreReady s ss (v ∷ vs) = ReadyStatement s ss v × AreReady (s ++ v ∷ []) ss vs
