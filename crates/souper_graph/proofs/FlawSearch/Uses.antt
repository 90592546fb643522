-- The checks of uses by reason, and that they are the check of all uses at once.
use Rattle.std.proofs.Common.{ℕ, ◌↔◌, List, [], ◌∷◌}
use Rattle.std.specs.List.{AllByRecursion}
use Rattle.std.specs.Prelude.{slice_get}
use Rattle.souper_graph.specs.declared.ast.operands.Operand.{Operand}
use Rattle.souper_graph.specs.declared.ast.operands.Operand.TheVariants.{Value, Constant}
use Rattle.souper_graph.specs.Values.{PlainRhs, var, block, phi, reserved_inst, reserved_const, instruction, PlainStatement, assigned, condition, block_condition}
use Rattle.souper_graph.specs.Instructions.{operands_of}
use Rattle.souper_graph.specs.Uses.{Use, value_use, block_use, uses_of_operand, uses_of_operands, uses_of_rhs, uses_of}
use Rattle.souper_graph.specs.WellFormed.{IsBlock, IsMet}
use Rattle.souper_graph.specs.Judging.{AreMetBelow}
use Rattle.souper_graph.specs.Flaws.{IsEarlier, IsValueMet, HasBlockRhs, HasBlock}
use Rattle.souper_graph.proofs.Judging.Closed.{All-both, All-first, All-second}

pub uses_all : (P : Use → Type 0) (xs : List Operand) → AllByRecursion (λ x. AllByRecursion P (uses_of_operand x)) xs → AllByRecursion P (uses_of_operands xs)
uses_all P [] h = h
uses_all P (x ∷ xs) h = All-both P (uses_of_operand x) (uses_of_operands xs) h.0 (uses_all P xs h.1)

pub uses_each : (P : Use → Type 0) (xs : List Operand) → AllByRecursion P (uses_of_operands xs) → AllByRecursion (λ x. AllByRecursion P (uses_of_operand x)) xs
uses_each P [] h = h
uses_each P (x ∷ xs) h = (All-first P (uses_of_operand x) (uses_of_operands xs) h, uses_each P xs (All-second P (uses_of_operand x) (uses_of_operands xs) h))

-- if the use is of a block, a block is there
abbrev pub IsBlockMet : List PlainStatement → Use → Type 0
IsBlockMet ss (value_use i) = Unit {0}
IsBlockMet ss (block_use i) = IsBlock (slice_get ss i)

operand_no_block : (ss : List PlainStatement) (x : Operand) → AllByRecursion (IsBlockMet ss) (uses_of_operand x)
operand_no_block ss (Value i) = (tt, tt)
operand_no_block ss (Constant c) = tt

operands_no_block : (ss : List PlainStatement) (xs : List Operand) → AllByRecursion (IsBlockMet ss) (uses_of_operands xs)
operands_no_block ss [] = tt
operands_no_block ss (x ∷ xs) = All-both (IsBlockMet ss) (uses_of_operand x) (uses_of_operands xs) (operand_no_block ss x) (operands_no_block ss xs)

blocks_of_rhs : (ss : List PlainStatement) (r : PlainRhs) → HasBlockRhs ss r → AllByRecursion (IsBlockMet ss) (uses_of_rhs r)
blocks_of_rhs ss var h = tt
blocks_of_rhs ss (block b) h = tt
blocks_of_rhs ss (phi p) h = (h, operands_no_block ss p.values)
blocks_of_rhs ss reserved_inst h = tt
blocks_of_rhs ss reserved_const h = tt
blocks_of_rhs ss (instruction i) h = operands_no_block ss (operands_of i)

blocks_of : (ss : List PlainStatement) (s : PlainStatement) → HasBlock ss s → AllByRecursion (IsBlockMet ss) (uses_of s)
blocks_of ss (assigned a) h = blocks_of_rhs ss a.value h
blocks_of ss (condition p) h = All-both (IsBlockMet ss) (uses_of_operand p.x) (uses_of_operand p.y) (operand_no_block ss p.x) (operand_no_block ss p.y)
blocks_of ss (block_condition p) h = (h, All-both (IsBlockMet ss) (uses_of_operand p.x) (uses_of_operand p.y) (operand_no_block ss p.x) (operand_no_block ss p.y))

met_by_kind : (ss : List PlainStatement) (u : Use) → IsValueMet ss u → IsBlockMet ss u → IsMet ss u
met_by_kind ss (value_use i) h k = h
met_by_kind ss (block_use i) h k = k

joined : (ss : List PlainStatement) (p : ℕ) (us : List Use) → AllByRecursion (IsEarlier p) us → AllByRecursion (IsValueMet ss) us → AllByRecursion (IsBlockMet ss) us → AreMetBelow ss p us
joined ss p [] e v b = e
joined ss p (u ∷ us) e v b = ((e.0, met_by_kind ss u v.0 b.0), joined ss p us e.1 v.1 b.1)

-- from the checks of a statement's uses by reason
pub met_of_checks : (ss : List PlainStatement) (p : ℕ) (s : PlainStatement) → AllByRecursion (IsEarlier p) (uses_of s) → AllByRecursion (IsValueMet ss) (uses_of s) → HasBlock ss s → AreMetBelow ss p (uses_of s)
met_of_checks ss p s e v b = joined ss p (uses_of s) e v (blocks_of ss s b)

pub earlier_of_met : (ss : List PlainStatement) (p : ℕ) (us : List Use) → AreMetBelow ss p us → AllByRecursion (IsEarlier p) us
earlier_of_met ss p [] h = h
earlier_of_met ss p (u ∷ us) h = (h.0.0, earlier_of_met ss p us h.1)

value_of_met : (ss : List PlainStatement) (u : Use) → IsMet ss u → IsValueMet ss u
value_of_met ss (value_use i) h = h
value_of_met ss (block_use i) h = tt

pub values_of_met : (ss : List PlainStatement) (p : ℕ) (us : List Use) → AreMetBelow ss p us → AllByRecursion (IsValueMet ss) us
values_of_met ss p [] h = h
values_of_met ss p (u ∷ us) h = (value_of_met ss u h.0.1, values_of_met ss p us h.1)

block_of_rhs_met : (ss : List PlainStatement) (p : ℕ) (r : PlainRhs) → AreMetBelow ss p (uses_of_rhs r) → HasBlockRhs ss r
block_of_rhs_met ss p var h = tt
block_of_rhs_met ss p (block b) h = tt
block_of_rhs_met ss p (phi f) h = h.0.1
block_of_rhs_met ss p reserved_inst h = tt
block_of_rhs_met ss p reserved_const h = tt
block_of_rhs_met ss p (instruction i) h = tt

pub block_of_met : (ss : List PlainStatement) (p : ℕ) (s : PlainStatement) → AreMetBelow ss p (uses_of s) → HasBlock ss s
block_of_met ss p (assigned a) h = block_of_rhs_met ss p a.value h
block_of_met ss p (condition c) h = tt
block_of_met ss p (block_condition c) h = h.0.1
