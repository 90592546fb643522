-- Definitions. Items with all widths written, by a map of widths.
use Rattle.std.specs.Prelude.{◌≡◌, ℕ, suc, Bool, ◌&&◌, List, [], ◌∷◌, map, Some, if◌then◌else◌, nat_eq, slice_get}
use Rattle.souper_graph.specs.declared.ast.operands.Constant.{Constant}
use Rattle.souper_graph.specs.declared.ast.operands.Operand.{Operand}
use Rattle.souper_graph.specs.declared.ast.operands.Operand.TheVariants.{Value, Constant as constant_variant}
use Rattle.souper_graph.specs.declared.ast.instructions.Instruction.{Instruction}
use Rattle.souper_graph.specs.declared.ast.instructions.Instruction.TheVariants.{Select, ExtractValue}
use Rattle.souper_graph.specs.Instructions.{instruction_map}
use Rattle.souper_graph.specs.Values.{PlainAttribute, range, PlainRhs, phi, instruction, PlainAssignment, PlainStatement, assigned, condition, block_condition, Ending, inferred, resulting, replaced, candidate, Item}
use Rattle.souper_graph.specs.Uses.{NeededIn}
use Rattle.souper_graph.specs.WellFormed.{WellFormed}
use Rattle.souper_widths.specs.Maps.{WidthMap, result_width, operand_width}
use Rattle.souper_widths.specs.Typed.{Typed}
use Rattle.souper_typed.specs.declared.form.Form.{Form}
use Rattle.souper_typed.specs.Numbers.{type_of, written_number, index_type}

-- a constant of n bits with its type; a value stays
abbrev pub written_constant : Form → ℕ → Constant → Constant
written_constant f n c = record { value = written_number f n c.value; ty = type_of n }

abbrev pub written_operand : Form → ℕ → Operand → Operand
written_operand f n (Value i) = Value i
written_operand f n (constant_variant c) = constant_variant (written_constant f n c)

-- the index of extractvalue, which has no width
abbrev pub written_index : Form → Operand → Operand
written_index f (Value i) = Value i
written_index f (constant_variant c) = constant_variant (record { value = c.value; ty = index_type f c.ty })

-- an instruction with operands of v bits: the condition of a select has one bit
abbrev pub written_instruction : Form → ℕ → Instruction → Instruction
written_instruction f v (Select a b c) = Select (written_operand f 1 a) (written_operand f v b) (written_operand f v c)
written_instruction f v (ExtractValue a b) = ExtractValue (written_operand f v a) (written_index f b)
written_instruction f v i = instruction_map (written_operand f v) i

abbrev pub written_rhs : Form → ℕ → PlainRhs → PlainRhs
written_rhs f v (phi p) = phi (record { block = p.block; values = map (written_operand f v) p.values })
written_rhs f v (instruction i) = instruction (written_instruction f v i)
written_rhs f v r = r

-- an attribute of a value of w bits: the ends of a range are numbers of w bits
abbrev pub written_attribute : Form → ℕ → PlainAttribute → PlainAttribute
written_attribute f w (range low high) = range (written_number f w low) (written_number f w high)
written_attribute f w a = a

-- The name stays. A block has no bits, and so no type.
abbrev pub written_assignment : Form → ℕ → ℕ → PlainAssignment → PlainAssignment
written_assignment f w v a = record { name = a.name; ty = type_of w; value = written_rhs f v a.value; attributes = map (written_attribute f w) a.attributes }

-- a statement with a result of w bits and operands of v
abbrev pub written_statement : Form → ℕ → ℕ → PlainStatement → PlainStatement
written_statement f w v (assigned a) = assigned (written_assignment f w v a)
written_statement f w v (condition p) = condition (record { x = written_operand f v p.x; y = written_operand f v p.y })
written_statement f w v (block_condition p) = block_condition (record { block = p.block; predecessor = p.predecessor; x = written_operand f v p.x; y = written_operand f v p.y })

-- the last lines with operands of n bits
abbrev pub written_ending : Form → ℕ → Ending → Ending
written_ending f n (inferred i) = inferred i
written_ending f n (resulting x) = resulting (written_operand f n x)
written_ending f n (replaced i x) = replaced i (written_operand f n x)
written_ending f n (candidate c) = candidate (record { lhs = written_operand f n c.lhs; rhs = written_operand f n c.rhs; attributes = c.attributes })

abbrev pub has_none : ℕ → ℕ → Bool
has_none w v = nat_eq w 0 && nat_eq v 0

-- The statement at a position. One without widths stays: a block, or one that the item does not need.
abbrev pub written_with : Form → ℕ → ℕ → PlainStatement → PlainStatement
written_with f w v s = if has_none w v then s else written_statement f w v s

-- each of these statements, of which the first is at position k
abbrev pub written_from : Form → WidthMap → ℕ → List PlainStatement → List PlainStatement
written_from f m k [] = []
written_from f m k (s ∷ ss) = written_with f (result_width m k) (operand_width m k) s ∷ written_from f m (suc k) ss

abbrev pub written_item : Form → WidthMap → Item → Item
written_item f m a = record { statements = written_from f m 0 a.statements; ending = written_ending f m.root a.ending }

-- b is the typed item a with the widths m written. The fields from `needed` on say what that changes and keeps.
pub record IsWritten (f : Form) (m : WidthMap) (a b : Item) : Type 0 where
  pub was_well_formed : WellFormed a
  pub was_typed : Typed a m
  pub written : b ≡ written_item f m a
  pub needed : (p : ℕ) (s : PlainStatement) → NeededIn a p → slice_get a.statements p ≡ Some s → slice_get b.statements p ≡ Some (written_statement f (result_width m p) (operand_width m p) s)
  pub unneeded : (p : ℕ) → ¬ NeededIn a p → slice_get b.statements p ≡ slice_get a.statements p
  pub well_formed : WellFormed b
  pub typed : Typed b m
  pub again : written_item f m b ≡ b
