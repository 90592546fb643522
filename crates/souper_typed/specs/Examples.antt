-- Definitions. Worked examples: items with their widths written.
use Rattle.std.specs.Prelude.{ℕ, negsuc, [], ◌∷◌, None}
use Rattle.souper_graph.specs.declared.ast.operands.Operand.{Operand}
use Rattle.souper_graph.specs.declared.ast.operands.Operand.TheVariants.{Value, Constant}
use Rattle.souper_graph.specs.declared.ast.instructions.Instruction.TheVariants.{Mul, Shl, Add, UaddWithOverflow, ExtractValue}
use Rattle.souper_graph.specs.Values.{var, instruction, replaced, Item}
use Rattle.souper_widths.specs.Maps.{WidthMap}
use Rattle.souper_widths.specs.Examples.{typed, number, typed_number, define, define_by, infer}

abbrev pub minus_one : Operand
minus_one = Constant (record { value = negsuc 0; ty = typed 8 })

-- %0:i8 = var, %1:i8 = mul %0, 2:i8, infer %1, %2:i8 = shl %0, 1:i8, result %2
abbrev pub doubled_typed : Item
doubled_typed = record {
  statements = define (typed 8) var ∷ define (typed 8) (instruction (Mul (Value 0) (typed_number 2 8))) ∷ define (typed 8) (instruction (Shl (Value 0) (typed_number 1 8))) ∷ [];
  ending = replaced (record { value = 1; attributes = [] }) (Value 2);
}

-- %0:i8 = var, %1:i9 = uadd.with.overflow %0, 1:i8, %2:i1 = extractvalue %1, 1:i32, infer %2
abbrev pub overflow_complete : Item
overflow_complete = record {
  statements = define (typed 8) var ∷ define (typed 9) (instruction (UaddWithOverflow (Value 0) (typed_number 1 8))) ∷ define (typed 1) (instruction (ExtractValue (Value 1) (typed_number 1 32))) ∷ [];
  ending = infer 2;
}

-- %0:i8 = var, %1 = add %0, 255, infer %1
abbrev pub unsigned_sum : Item
unsigned_sum = record { statements = define (typed 8) var ∷ define_by (Add (Value 0) (number 255)) ∷ []; ending = infer 1 }

abbrev pub sum_widths : WidthMap
sum_widths = record { results = 8 ∷ 8 ∷ []; operands = 0 ∷ 8 ∷ []; root = 8 }

-- %0:i8 = var, %1:i8 = add %0, 255:i8, infer %1
abbrev pub unsigned_sum_typed : Item
unsigned_sum_typed = record { statements = define (typed 8) var ∷ define (typed 8) (instruction (Add (Value 0) (typed_number 255 8))) ∷ []; ending = infer 1 }

-- %0:i8 = var, %1:i8 = add %0, -1:i8, infer %1
abbrev pub signed_sum : Item
signed_sum = record { statements = define (typed 8) var ∷ define (typed 8) (instruction (Add (Value 0) minus_one)) ∷ []; ending = infer 1 }
