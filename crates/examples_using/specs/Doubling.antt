-- Definitions. The replacement of twice a value by a shift of it.
use Rattle.std.specs.Prelude.{ℕ, ℤ, pos, [], ◌∷◌, Some, None, codes, decimal}
use Rattle.souper_graph.specs.declared.ast.operands.Operand.{Operand}
use Rattle.souper_graph.specs.declared.ast.operands.Operand.TheVariants.{Value, Constant}
use Rattle.souper_graph.specs.declared.ast.instructions.Instruction.{Instruction}
use Rattle.souper_graph.specs.declared.ast.instructions.Instruction.TheVariants.{Mul, Shl}
use Rattle.souper_graph.specs.Values.{PlainStatement, var, instruction, assigned, replaced, Item}

-- a number without a type
abbrev pub untyped : ℤ → Operand
untyped n = Constant (record { value = n; ty = None })

-- the assignment of an instruction to `%` (37) and a number, without a type
abbrev pub numbered : ℕ → Instruction → PlainStatement
numbered n i = assigned (record { name = 37 ∷ decimal n; ty = None; value = instruction i; attributes = [] })

-- `%x:i32 = var`, `%1 = mul %x, 2`, `%2 = shl %x, 1`; `infer %1`, `result %2`
abbrev pub doubling : Item
doubling = record {
  statements = assigned (record { name = codes "%x"; ty = Some (record { width = 32 }); value = var; attributes = [] })
      ∷ numbered 1 (Mul (Value 0) (untyped (pos 2)))
      ∷ numbered 2 (Shl (Value 0) (untyped (pos 1))) ∷ [];
  ending = replaced (record { value = 1; attributes = [] }) (Value 2);
}
