-- Definitions. What the checks of single statements and of names return.
use Rattle.std.specs.Prelude.{ℕ, ◌<◌, List, Option, Some, None, slice_get}
use Rattle.std.specs.List.{AllByRecursion}
use Rattle.souper_graph.specs.Values.{PlainStatement, assigned, condition, block_condition}
use Rattle.souper_graph.specs.Uses.{Has, Use, position_of, uses_of}
use Rattle.souper_graph.specs.WellFormed.{FitsStatement, AgreesWithBlock, AreNamedApart, IsMet}

-- the use is of a position below the limit, and what it asks for is there
abbrev pub IsMetBelow : List PlainStatement → ℕ → Use → Type 0
IsMetBelow ss limit u = (position_of u < limit) × IsMet ss u

abbrev pub AreMetBelow : List PlainStatement → ℕ → List Use → Type 0
AreMetBelow ss limit us = AllByRecursion (IsMetBelow ss limit) us

-- the statement, if there is one, is valid at position p
abbrev pub MayStand : List PlainStatement → ℕ → Option PlainStatement → Type 0
MayStand ss p None = Unit {0}
MayStand ss p (Some s) = FitsStatement s × AreMetBelow ss p (uses_of s) × AgreesWithBlock ss s

abbrev pub MayStandAt : List PlainStatement → ℕ → Type 0
MayStandAt ss p = MayStand ss p (slice_get ss p)

abbrev pub assigned_name : Option PlainStatement → Option (List ℕ)
assigned_name None = None
assigned_name (Some (assigned a)) = Some a.name
assigned_name (Some (condition p)) = None
assigned_name (Some (block_condition p)) = None

-- the name of the assignment at a position, if there is one
abbrev pub assigned_name_at : List PlainStatement → ℕ → Option (List ℕ)
assigned_name_at ss p = assigned_name (slice_get ss p)

-- the statements at these positions are valid there, and their assignments have distinct names
abbrev pub AllStand : List PlainStatement → List ℕ → Type 0
AllStand ss ids = AllByRecursion (MayStandAt ss) ids × AreNamedApart ss (Has ids)
