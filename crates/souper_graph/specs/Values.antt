-- Definitions. Nodes as plain data: lists in place of `Vec` and `String`, positions in place of ids, and nothing else
-- different.
use Rattle.std.specs.Prelude.{ℕ, ℤ, Bool, List, Option}
use Rattle.souper_graph.specs.declared.ast.operands.«Type».{«Type» as Ty}
use Rattle.souper_graph.specs.declared.ast.operands.Operand.{Operand}
use Rattle.souper_graph.specs.declared.ast.instructions.Instruction.{Instruction}
use Rattle.souper_graph.specs.declared.ast.statements.Block.{Block}
use Rattle.souper_graph.specs.declared.ast.statements.Pc.{Pc}
use Rattle.souper_graph.specs.declared.ast.statements.BlockPc.{BlockPc}

pub data PlainAttribute : Type 0 where
  known_bits : List (Option Bool) → PlainAttribute
  power_of_two : PlainAttribute
  negative : PlainAttribute
  non_negative : PlainAttribute
  non_zero : PlainAttribute
  has_external_uses : PlainAttribute
  sign_bits : ℕ → PlainAttribute
  range : ℤ → ℤ → PlainAttribute

pub data PlainRootAttribute : Type 0 where
  demanded_bits : List Bool → PlainRootAttribute
  harvested_from_use : PlainRootAttribute

pub record PlainPhi : Type 0 where
  pub block : ℕ
  pub values : List Operand

pub data PlainRhs : Type 0 where
  var : PlainRhs
  block : Block → PlainRhs
  phi : PlainPhi → PlainRhs
  reserved_inst : PlainRhs
  reserved_const : PlainRhs
  instruction : Instruction → PlainRhs

pub record PlainAssignment : Type 0 where
  pub name : List ℕ
  pub ty : Option Ty
  pub value : PlainRhs
  pub attributes : List PlainAttribute

pub data PlainStatement : Type 0 where
  assigned : PlainAssignment → PlainStatement
  condition : Pc → PlainStatement
  block_condition : BlockPc → PlainStatement

pub record PlainInfer : Type 0 where
  pub value : ℕ
  pub attributes : List PlainRootAttribute

pub record PlainCand : Type 0 where
  pub lhs : Operand
  pub rhs : Operand
  pub attributes : List PlainRootAttribute

-- what an item has besides its statements: a left-hand side, a right-hand side, and the two replacements
pub data Ending : Type 0 where
  inferred : PlainInfer → Ending
  resulting : Operand → Ending
  replaced : PlainInfer → Operand → Ending
  candidate : PlainCand → Ending

-- a whole value of any type
pub record Item : Type 0 where
  pub statements : List PlainStatement
  pub ending : Ending
