-- Definitions. Worked examples: items with their widths, or with their first flaw.
use Rattle.std.specs.Prelude.{ℕ, pos, [], ◌∷◌, Option, Some, None, codes}
use Rattle.souper_graph.specs.declared.ast.operands.«Type».{«Type» as Ty}
use Rattle.souper_graph.specs.declared.ast.operands.Operand.{Operand}
use Rattle.souper_graph.specs.declared.ast.operands.Operand.TheVariants.{Value, Constant}
use Rattle.souper_graph.specs.declared.ast.instructions.Instruction.{Instruction}
use Rattle.souper_graph.specs.declared.ast.instructions.Instruction.TheVariants.{Mul, Shl, Add, Zext, UaddWithOverflow, ExtractValue}
use Rattle.souper_graph.specs.Values.{PlainRhs, var, instruction, PlainStatement, assigned, Ending, inferred, replaced, Item}
use Rattle.souper_widths.specs.Maps.{WidthMap}

-- a type of n bits
abbrev pub typed : ℕ → Option Ty
typed n = Some (record { width = n })

-- a constant without a type, and with one
abbrev pub number : ℕ → Operand
number n = Constant (record { value = pos n; ty = None })

abbrev pub typed_number : ℕ → ℕ → Operand
typed_number n t = Constant (record { value = pos n; ty = typed t })

abbrev pub define : Option Ty → PlainRhs → PlainStatement
define t x = assigned (record { name = codes "%x"; ty = t; value = x; attributes = [] })

abbrev pub define_by : Instruction → PlainStatement
define_by i = define None (instruction i)

abbrev pub infer : ℕ → Ending
infer i = inferred (record { value = i; attributes = [] })

-- %0:i8 = var, %1 = mul %0, 2, infer %1, %2 = shl %0, 1, result %2
abbrev pub doubled : Item
doubled = record {
  statements = define (typed 8) var ∷ define_by (Mul (Value 0) (number 2)) ∷ define_by (Shl (Value 0) (number 1)) ∷ [];
  ending = replaced (record { value = 1; attributes = [] }) (Value 2);
}

abbrev pub doubled_widths : WidthMap
doubled_widths = record { results = 8 ∷ 8 ∷ 8 ∷ []; operands = 0 ∷ 8 ∷ 8 ∷ []; root = 8 }

-- a later line has the width: %0 = var, %1:i8 = add %0, 1, infer %1
abbrev pub typed_later : Item
typed_later = record {
  statements = define None var ∷ define (typed 8) (instruction (Add (Value 0) (number 1))) ∷ [];
  ending = infer 1;
}

abbrev pub typed_later_widths : WidthMap
typed_later_widths = record { results = 8 ∷ 8 ∷ []; operands = 0 ∷ 8 ∷ []; root = 8 }

-- the overflow of a sum: %0:i8 = var, %1 = uadd.with.overflow %0, 1, %2 = extractvalue %1, 1:i32, infer %2
abbrev pub overflow : Item
overflow = record {
  statements = define (typed 8) var ∷ define_by (UaddWithOverflow (Value 0) (number 1)) ∷ define_by (ExtractValue (Value 1) (typed_number 1 32)) ∷ [];
  ending = infer 2;
}

abbrev pub overflow_widths : WidthMap
overflow_widths = record { results = 8 ∷ 9 ∷ 1 ∷ []; operands = 0 ∷ 8 ∷ 9 ∷ []; root = 1 }

-- a pair of one bit: %0 = var, %1:i1 = uadd.with.overflow %0, %0, %2 = extractvalue %1, 0, infer %2
abbrev pub narrow_pair : Item
narrow_pair = record {
  statements = define None var ∷ define (typed 1) (instruction (UaddWithOverflow (Value 0) (Value 0))) ∷ define_by (ExtractValue (Value 1) (number 0)) ∷ [];
  ending = infer 2;
}

-- nothing says how wide the operand is: %0 = var, %1:i2 = zext %0, infer %1
abbrev pub unknown_operand : Item
unknown_operand = record {
  statements = define None var ∷ define (typed 2) (instruction (Zext (Value 0))) ∷ [];
  ending = infer 1;
}

-- a constant that does not fit: %0:i8 = var, %1 = add %0, 300:i8, infer %1
abbrev pub large_constant : Item
large_constant = record {
  statements = define (typed 8) var ∷ define_by (Add (Value 0) (typed_number 300 8)) ∷ [];
  ending = infer 1;
}

abbrev pub large_constant_widths : WidthMap
large_constant_widths = record { results = 8 ∷ 8 ∷ []; operands = 0 ∷ 8 ∷ []; root = 8 }

-- the index is no part of a pair: %0:i8 = var, %1 = uadd.with.overflow %0, 1, %2 = extractvalue %1, 2, infer %2
abbrev pub third_part : Item
third_part = record {
  statements = define (typed 8) var ∷ define_by (UaddWithOverflow (Value 0) (number 1)) ∷ define_by (ExtractValue (Value 1) (number 2)) ∷ [];
  ending = infer 2;
}
