-- Definitions. Worked examples: items with their widths, and worlds.
use Rattle.std.specs.Prelude.{ℕ, pos, negsuc, [], ◌∷◌, None, codes}
use Rattle.souper_graph.specs.declared.ast.operands.Operand.TheVariants.{Value, Constant}
use Rattle.souper_graph.specs.declared.ast.instructions.Instruction.TheVariants.{AddNsw, Mul, MulNsw, Udiv, And, Or, Shl, ShlNsw, Select, Freeze, Hole}
use Rattle.souper_graph.specs.Values.{negative, range, var, block, phi, assigned, replaced, Item}
use Rattle.souper_words.specs.declared.outcome.Outcome.{Outcome}
use Rattle.souper_words.specs.declared.outcome.Outcome.TheVariants.{Number}
use Rattle.souper_widths.specs.Maps.{WidthMap}
use Rattle.souper_widths.specs.Examples.{typed, number, typed_number, define, define_by}
use Rattle.souper_meaning.specs.Worlds.{World}

-- the world of one input, in which each block is reached by its first predecessor, and each choice is 0
abbrev pub world_of : Outcome → World
world_of x = record { values = x ∷ []; predecessors = []; choices = [] }

-- %0:i8 = var, %1 = mulnsw %0, -128, infer %1, %2 = shlnsw %0, 7, result %2
abbrev pub shifted : Item
shifted = record {
  statements = define (typed 8) var ∷ define_by (MulNsw (Value 0) (Constant (record { value = negsuc 127; ty = None }))) ∷ define_by (ShlNsw (Value 0) (number 7)) ∷ [];
  ending = replaced (record { value = 1; attributes = [] }) (Value 2);
}

abbrev pub shifted_widths : WidthMap
shifted_widths = record { results = 8 ∷ 8 ∷ 8 ∷ []; operands = 0 ∷ 8 ∷ 8 ∷ []; root = 8 }

-- %0:i8 = var, %1 = mul %0, 2, infer %1, %2 = shl %0, 1, result %2
abbrev pub doubled : Item
doubled = record {
  statements = define (typed 8) var ∷ define_by (Mul (Value 0) (number 2)) ∷ define_by (Shl (Value 0) (number 1)) ∷ [];
  ending = replaced (record { value = 1; attributes = [] }) (Value 2);
}

-- %0:i1 = var, %1:i1 = var, %2 = select %0, 1:i1, %1, infer %2, %3 = or %0, %1, result %3
abbrev pub either : Item
either = record {
  statements = define (typed 1) var ∷ define (typed 1) var ∷ define_by (Select (Value 0) (typed_number 1 1) (Value 1)) ∷ define_by (Or (Value 0) (Value 1)) ∷ [];
  ending = replaced (record { value = 2; attributes = [] }) (Value 3);
}

abbrev pub either_widths : WidthMap
either_widths = record { results = 1 ∷ 1 ∷ 1 ∷ 1 ∷ []; operands = 0 ∷ 0 ∷ 1 ∷ 1 ∷ []; root = 1 }

-- %0:i8 = var, %1 = freeze %0, infer %1, result %0
abbrev pub thawed : Item
thawed = record {
  statements = define (typed 8) var ∷ define_by (Freeze (Value 0)) ∷ [];
  ending = replaced (record { value = 1; attributes = [] }) (Value 0);
}

abbrev pub thawed_widths : WidthMap
thawed_widths = record { results = 8 ∷ 8 ∷ []; operands = 0 ∷ 8 ∷ []; root = 8 }

-- %0 = addnsw 127:i8, 1, infer %0, %1 = udiv 1:i8, 0, result %1
abbrev pub overflowing : Item
overflowing = record {
  statements = define_by (AddNsw (typed_number 127 8) (number 1)) ∷ define_by (Udiv (typed_number 1 8) (number 0)) ∷ [];
  ending = replaced (record { value = 0; attributes = [] }) (Value 1);
}

abbrev pub overflowing_widths : WidthMap
overflowing_widths = record { results = 8 ∷ 8 ∷ []; operands = 8 ∷ 8 ∷ []; root = 8 }

-- %0:i8 = var, %1 = and %0, 0, infer %1, %2 = udiv 1, %0, %3 = select 1:i1, 0, %2, result %3
abbrev pub divided : Item
divided = record {
  statements = define (typed 8) var ∷ define_by (And (Value 0) (number 0)) ∷ define_by (Udiv (number 1) (Value 0)) ∷ define_by (Select (typed_number 1 1) (number 0) (Value 2)) ∷ [];
  ending = replaced (record { value = 1; attributes = [] }) (Value 3);
}

abbrev pub divided_widths : WidthMap
divided_widths = record { results = 8 ∷ 8 ∷ 8 ∷ 8 ∷ []; operands = 0 ∷ 8 ∷ 8 ∷ 8 ∷ []; root = 8 }

-- %0:i8 = var (range=[1,10)) (negative), infer %0, result 7:i8
abbrev pub contradicted : Item
contradicted = record {
  statements = assigned (record { name = codes "%x"; ty = typed 8; value = var; attributes = range (pos 1) (pos 10) ∷ negative ∷ [] }) ∷ [];
  ending = replaced (record { value = 0; attributes = [] }) (typed_number 7 8);
}

abbrev pub contradicted_widths : WidthMap
contradicted_widths = record { results = 8 ∷ []; operands = 0 ∷ []; root = 8 }

-- %0 = hole, infer %0, result 5:i8
abbrev pub holed : Item
holed = record {
  statements = define_by Hole ∷ [];
  ending = replaced (record { value = 0; attributes = [] }) (typed_number 5 8);
}

-- the world of two inputs
abbrev pub world_of_two : Outcome → Outcome → World
world_of_two x y = record { values = x ∷ y ∷ []; predecessors = []; choices = [] }

-- %0 = block 2, %1:i8 = var, %2 = udiv 1, %1, %3 = phi %0, %2, 0: the operand that is not executed is not undefined
abbrev pub chosen : Item
chosen = record {
  statements = define None (block (record { predecessors = 2 })) ∷ define (typed 8) var ∷ define_by (Udiv (number 1) (Value 1)) ∷ define None (phi (record { block = 0; values = Value 2 ∷ number 0 ∷ [] })) ∷ [];
  ending = replaced (record { value = 3; attributes = [] }) (number 0);
}

abbrev pub chosen_widths : WidthMap
chosen_widths = record { results = 0 ∷ 8 ∷ 8 ∷ 8 ∷ []; operands = 0 ∷ 0 ∷ 8 ∷ 8 ∷ []; root = 8 }

-- the world that gives the second statement 0, and reaches the block by this predecessor
abbrev pub reached_by : ℕ → World
reached_by n = record { values = Number 0 ∷ Number 0 ∷ []; predecessors = n ∷ []; choices = [] }
