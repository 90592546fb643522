-- Definitions. What is to be written where a width is missing: at the first such place a value, or a constant, with a type.
use Rattle.std.specs.Prelude.{ℕ, ℤ, List, [], ◌++◌, codes, decimal, Option, Some, None, slice_get}
use Rattle.std.specs.Option.{option_or}
use Rattle.souper_graph.specs.declared.ast.operands.«Type».{«Type» as Ty}
use Rattle.souper_graph.specs.declared.ast.operands.Constant.{Constant}
use Rattle.souper_graph.specs.declared.ast.operands.Operand.{Operand}
use Rattle.souper_graph.specs.declared.ast.operands.Operand.TheVariants.{Value, Constant as constant_variant}
use Rattle.souper_graph.specs.declared.ast.instructions.Instruction.{Instruction}
use Rattle.souper_graph.specs.declared.ast.instructions.Instruction.TheVariants.{Zext, Sext, Trunc, Eq, Ne, Ult, Slt, Ule, Sle, SaddWithOverflow, UaddWithOverflow, SsubWithOverflow, UsubWithOverflow, SmulWithOverflow, UmulWithOverflow}
use Rattle.souper_graph.specs.declared.ast.flaws.FlawLocation.{FlawLocation}
use Rattle.souper_graph.specs.declared.ast.flaws.FlawLocation.TheVariants.{Statement}
use Rattle.souper_graph.specs.Leaves.{text_of_constant}
use Rattle.souper_graph.specs.Values.{PlainRhs, instruction, PlainAssignment, PlainStatement, assigned, condition, block_condition, Ending, inferred, resulting, replaced, candidate, Item}
use Rattle.souper_widths.specs.declared.flaws.WidthFlaw.{WidthFlaw}
use Rattle.souper_widths.specs.declared.flaws.WidthReason.{WidthReason}
use Rattle.souper_widths.specs.declared.flaws.WidthReason.TheVariants.{Undetermined}

-- the width of the value if its operands have 32 bits
abbrev pub value_bits : Instruction → ℕ
value_bits (SaddWithOverflow a b) = 33
value_bits (UaddWithOverflow a b) = 33
value_bits (SsubWithOverflow a b) = 33
value_bits (UsubWithOverflow a b) = 33
value_bits (SmulWithOverflow a b) = 33
value_bits (UmulWithOverflow a b) = 33
value_bits i = 32

-- the operands of a comparison, whose result has its width
abbrev pub compared : Instruction → Option (Operand × Operand)
compared (Eq a b) = Some (a, b)
compared (Ne a b) = Some (a, b)
compared (Ult a b) = Some (a, b)
compared (Slt a b) = Some (a, b)
compared (Ule a b) = Some (a, b)
compared (Sle a b) = Some (a, b)
compared i = None

-- a constant without a type, with one of this width
abbrev pub given_type : ℤ → Option Ty → ℕ → Option Constant
given_type value None width = Some (record { value = value; ty = Some (record { width = width }) })
given_type value (Some ty) width = None

-- the same of an operand
abbrev pub with_type : Operand → ℕ → Option Constant
with_type (Value i) width = None
with_type (constant_variant c) width = given_type c.value c.ty width

-- the constant without a type that is converted, with one; the result does not say its width
abbrev pub converted : Instruction → Option Constant
converted (Zext a) = with_type a 8
converted (Sext a) = with_type a 8
converted (Trunc a) = with_type a 64
converted i = None

-- the first constant without a type, with one
abbrev pub first_constant : Operand → Operand → Option Constant
first_constant a b = option_or (with_type a 32) (with_type b 32)

abbrev pub constant_hint : Constant → Option (List ℕ)
constant_hint c = Some (codes "write " ++ text_of_constant c)

abbrev pub value_hint : List ℕ → ℕ → Option (List ℕ)
value_hint name bits = Some (codes "write " ++ (name ++ (codes ":i" ++ decimal bits)))

abbrev pub optional_hint : Option Constant → Option (List ℕ)
optional_hint None = None
optional_hint (Some c) = constant_hint c

abbrev pub operands_hint : Operand → Operand → Option (List ℕ)
operands_hint a b = optional_hint (first_constant a b)

abbrev pub converted_hint : List ℕ → ℕ → Option Constant → Option (List ℕ)
converted_hint name bits None = value_hint name bits
converted_hint name bits (Some c) = constant_hint c

abbrev pub compared_hint : Option (Operand × Operand) → Option (List ℕ) → Option (List ℕ)
compared_hint None hint = hint
compared_hint (Some p) hint = operands_hint p.0 p.1

abbrev pub instruction_hint : List ℕ → Instruction → Option (List ℕ)
instruction_hint name i = compared_hint (compared i) (converted_hint name (value_bits i) (converted i))

abbrev pub rhs_hint : List ℕ → PlainRhs → Option (List ℕ)
rhs_hint name (instruction i) = instruction_hint name i
rhs_hint name r = value_hint name 32

abbrev pub assignment_hint : PlainAssignment → Option (List ℕ)
assignment_hint a = rhs_hint a.name a.value

abbrev pub statement_hint : PlainStatement → Option (List ℕ)
statement_hint (assigned a) = assignment_hint a
statement_hint (condition c) = operands_hint c.x c.y
statement_hint (block_condition c) = operands_hint c.x c.y

abbrev pub position_hint : Option PlainStatement → Option (List ℕ)
position_hint None = None
position_hint (Some s) = statement_hint s

-- the root of an infer line is a value
abbrev pub ending_hint : Ending → Option (List ℕ)
ending_hint (inferred i) = None
ending_hint (resulting x) = operands_hint x x
ending_hint (replaced i x) = operands_hint x x
ending_hint (candidate c) = operands_hint c.lhs c.rhs

abbrev pub missing_hint : Item → FlawLocation → Option (List ℕ)
missing_hint a (Statement p) = position_hint (slice_get a.statements p)
missing_hint a l = ending_hint a.ending

abbrev pub reason_hint : WidthReason → Option (List ℕ) → Option (List ℕ)
reason_hint Undetermined hint = hint
reason_hint r hint = None

abbrev pub hint_of : Item → WidthFlaw → Option (List ℕ)
hint_of a flaw = reason_hint flaw.reason (missing_hint a flaw.location)

-- the line of a hint, if there is one
abbrev pub hint_line : Option (List ℕ) → List ℕ
hint_line None = []
hint_line (Some hint) = codes "hint: " ++ (hint ++ codes "\n")
