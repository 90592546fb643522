-- Definitions. Worked examples: replacements, and left-hand sides that they answer or not.
use Rattle.std.specs.Prelude.{ℕ, pos, List, [], ◌∷◌, None, Some, Option, codes, get_or}
use Rattle.souper_graph.specs.declared.ast.operands.«Type».{«Type» as Ty}
use Rattle.souper_graph.specs.declared.ast.operands.Operand.{Operand}
use Rattle.souper_graph.specs.declared.ast.operands.Operand.TheVariants.{Value, Constant}
use Rattle.souper_graph.specs.declared.ast.instructions.Instruction.TheVariants.{Sub, Ult, Shl}
use Rattle.souper_graph.specs.Values.{PlainAttribute, PlainRootAttribute, PlainRhs, var, block, phi, instruction, PlainStatement, assigned, condition, block_condition, Ending, inferred, replaced, Item}

abbrev pub byte : Option Ty
byte = Some (record { width = 8 })

abbrev pub number : ℕ → Operand
number n = Constant (record { value = pos n; ty = None })

abbrev pub defines : List ℕ → Option Ty → PlainRhs → List PlainAttribute → PlainStatement
defines name t x facts = assigned (record { name = name; ty = t; value = x; attributes = facts })

-- a variable of 8 bits with these facts
abbrev pub input : List ℕ → List PlainAttribute → PlainStatement
input name facts = defines name byte var facts

-- x is less than n
abbrev pub less : List ℕ → Operand → ℕ → PlainStatement
less name x n = defines name None (instruction (Ult x (number n))) []

abbrev pub holds : ℕ → PlainStatement
holds i = condition (record { x = Value i; y = number 1 })

abbrev pub fails : ℕ → PlainStatement
fails i = condition (record { x = Value i; y = number 0 })

abbrev pub infer : ℕ → List PlainRootAttribute → Ending
infer i attributes = inferred (record { value = i; attributes = attributes })

abbrev pub infer_result : ℕ → List PlainRootAttribute → Operand → Ending
infer_result i attributes r = replaced (record { value = i; attributes = attributes }) r

-- `%0:i8 = var`, `%1 = sub %0, 3`, `%2 = ult %0, 9`, `%3 = ult %0, 5`, and these conditions
abbrev pub graph : List ℕ → List ℕ → List PlainAttribute → List PlainStatement → List PlainStatement
graph x y facts rest = input x facts ∷ defines y None (instruction (Sub (Value 0) (number 3))) [] ∷ less (codes "%2") (Value 0) 9 ∷ less (codes "%3") (Value 0) 5 ∷ rest

abbrev pub stored : List PlainAttribute → List PlainStatement → List PlainRootAttribute → Item
stored facts rest attributes = record { statements = graph (codes "%0") (codes "%1") facts rest; ending = infer_result 1 attributes (number 0) }

-- the same graph with other names
abbrev pub query : List PlainAttribute → List PlainStatement → List PlainRootAttribute → Item
query facts rest attributes = record { statements = graph (codes "%x") (codes "%y") facts rest; ending = infer 1 attributes }

-- operands in another order: `%1 = sub 3, %0`
abbrev pub turned : Item
turned = record { statements = input (codes "%0") [] ∷ defines (codes "%1") None (instruction (Sub (number 3) (Value 0))) [] ∷ []; ending = infer 1 [] }

-- a phi of a block, and a condition on this predecessor of the block: `%0 = block 2`, `%1:i8 = phi %0, 7, 8`, `blockpc %0 k 1 0`
abbrev pub joined : ℕ → List PlainStatement
joined k = defines (codes "%0") None (block (record { predecessors = 2 })) [] ∷ defines (codes "%1") byte (phi (record { block = 0; values = number 7 ∷ number 8 ∷ [] })) []
    ∷ block_condition (record { block = 0; predecessor = k; x = number 1; y = number 0 }) ∷ []

abbrev pub joined_stored : ℕ → Item
joined_stored k = record { statements = joined k; ending = infer_result 1 [] (number 7) }

abbrev pub joined_query : ℕ → Item
joined_query k = record { statements = joined k; ending = infer 1 [] }

-- the root does not reach the input of the condition, and the result needs it: `%0:i8 = var`, `%1 = ult %0, 4`, `pc %1 1`, `%3:i8 = var`,
-- `%4 = sub %3, 3`, `infer %4`, `%5 = shl %0, 1`, `result %5`
abbrev pub apart_stored : Item
apart_stored = record {
  statements = input (codes "%0") [] ∷ less (codes "%1") (Value 0) 4 ∷ holds 1 ∷ input (codes "%3") [] ∷ defines (codes "%4") None (instruction (Sub (Value 3) (number 3))) []
      ∷ defines (codes "%5") None (instruction (Shl (Value 0) (number 1))) [] ∷ [];
  ending = infer_result 4 [] (Value 5);
}

-- the same twice over: `%0:i8 = var`, `%1 = ult %0, 4`, `pc %1 1`, `%3:i8 = var`, `%4 = sub %3, 3`, `%a:i8 = var`, `%b = ult %a, 4`, `pc %b 1`, `infer %4`
abbrev pub apart_query : Item
apart_query = record {
  statements = input (codes "%0") [] ∷ less (codes "%1") (Value 0) 4 ∷ holds 1 ∷ input (codes "%3") [] ∷ defines (codes "%4") None (instruction (Sub (Value 3) (number 3))) []
      ∷ input (codes "%a") [] ∷ less (codes "%b") (Value 5) 4 ∷ holds 6 ∷ [];
  ending = infer 4 [];
}

abbrev pub first_map : ℕ → ℕ
first_map p = p

-- the input of the condition is the other one
abbrev pub second_map : ℕ → ℕ
second_map p = get_or (5 ∷ 6 ∷ 7 ∷ 3 ∷ 4 ∷ 0 ∷ 1 ∷ 2 ∷ []) p p

-- the answer by each map
abbrev pub apart_answer : ℕ → Item
apart_answer x = record {
  statements = input (codes "%0") [] ∷ less (codes "%1") (Value 0) 4 ∷ holds 1 ∷ input (codes "%3") [] ∷ defines (codes "%4") None (instruction (Sub (Value 3) (number 3))) []
      ∷ input (codes "%a") [] ∷ less (codes "%b") (Value 5) 4 ∷ holds 6 ∷ defines (codes "%8") None (instruction (Shl (Value x) (number 1))) [] ∷ [];
  ending = infer_result 4 [] (Value 8);
}

-- the input of the condition is another one than the root's: `%0:i8 = var`, `%1 = ult %0, 4`, `pc %1 1`, `%3:i8 = var`, `%4 = sub %3, 3`, `infer %4`, `result 0`
abbrev pub merged_stored : Item
merged_stored = record {
  statements = input (codes "%0") [] ∷ less (codes "%1") (Value 0) 4 ∷ holds 1 ∷ input (codes "%3") [] ∷ defines (codes "%4") None (instruction (Sub (Value 3) (number 3))) [] ∷ [];
  ending = infer_result 4 [] (number 0);
}

-- it is the root's: `%0:i8 = var`, `%1 = ult %0, 4`, `pc %1 1`, `%3 = sub %0, 3`, `infer %3`
abbrev pub merged_query : Item
merged_query = record {
  statements = input (codes "%0") [] ∷ less (codes "%1") (Value 0) 4 ∷ holds 1 ∷ defines (codes "%3") None (instruction (Sub (Value 0) (number 3))) [] ∷ [];
  ending = infer 3 [];
}

-- both inputs go to the one
abbrev pub merged_map : ℕ → ℕ
merged_map p = get_or (0 ∷ 1 ∷ 2 ∷ 0 ∷ 3 ∷ []) p p

-- the root needs two inputs: `%0:i8 = var`, `%1:i8 = var`, `%2 = sub %0, %1`, `infer %2`, `result 0`
abbrev pub paired_stored : Item
paired_stored = record {
  statements = input (codes "%0") [] ∷ input (codes "%1") [] ∷ defines (codes "%2") None (instruction (Sub (Value 0) (Value 1))) [] ∷ [];
  ending = infer_result 2 [] (number 0);
}

-- it needs one: `%0:i8 = var`, `%1 = sub %0, %0`, `infer %1`
abbrev pub paired_query : Item
paired_query = record { statements = input (codes "%0") [] ∷ defines (codes "%1") None (instruction (Sub (Value 0) (Value 0))) [] ∷ []; ending = infer 1 [] }

-- an input of 16 bits: `%0:i16 = var`, `%1 = sub %0, 3`, `infer %1`
abbrev pub wide_query : Item
wide_query = record {
  statements = defines (codes "%0") (Some (record { width = 16 })) var [] ∷ defines (codes "%1") None (instruction (Sub (Value 0) (number 3))) [] ∷ [];
  ending = infer 1 [];
}
