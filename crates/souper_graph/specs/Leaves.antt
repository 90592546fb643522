-- Definitions. The bytes of types, constants, blocks and attributes.
use Rattle.std.specs.Prelude.{ℕ, Bool, true, false, List, [], ◌∷◌, ◌++◌, map, flat_map, codes, decimal, Option, Some, None}
use Rattle.std.specs.Fmt.{signed_decimal}
use Rattle.souper_graph.specs.declared.ast.operands.«Type».{«Type» as Ty}
use Rattle.souper_graph.specs.declared.ast.operands.Constant.{Constant}
use Rattle.souper_graph.specs.declared.ast.statements.Block.{Block}
use Rattle.souper_graph.specs.Values.{PlainAttribute, known_bits, power_of_two, negative, non_negative, non_zero, has_external_uses, sign_bits, range, PlainRootAttribute, demanded_bits, harvested_from_use}

abbrev pub text_of_type : Ty → List ℕ
text_of_type t = codes "i" ++ decimal t.width

-- `:` and the type, if there is one
abbrev pub text_of_optional_type : Option Ty → List ℕ
text_of_optional_type None = []
text_of_optional_type (Some t) = codes ":" ++ text_of_type t

abbrev pub text_of_constant : Constant → List ℕ
text_of_constant c = signed_decimal c.value ++ text_of_optional_type c.ty

abbrev pub text_of_block : Block → List ℕ
text_of_block b = codes "block " ++ decimal b.predecessors

-- `x` (120), `0` (48) or `1` (49)
abbrev pub text_of_known_bit : Option Bool → ℕ
text_of_known_bit None = 120
text_of_known_bit (Some false) = 48
text_of_known_bit (Some true) = 49

abbrev pub text_of_bit : Bool → ℕ
text_of_bit false = 48
text_of_bit true = 49

abbrev pub text_of_attribute : PlainAttribute → List ℕ
text_of_attribute (known_bits bits) = codes "(knownBits=" ++ (map text_of_known_bit bits ++ codes ")")
text_of_attribute power_of_two = codes "(powerOfTwo)"
text_of_attribute negative = codes "(negative)"
text_of_attribute non_negative = codes "(nonNegative)"
text_of_attribute non_zero = codes "(nonZero)"
text_of_attribute has_external_uses = codes "(hasExternalUses)"
text_of_attribute (sign_bits n) = codes "(signBits=" ++ (decimal n ++ codes ")")
text_of_attribute (range low high) = codes "(range=[" ++ (signed_decimal low ++ (codes "," ++ (signed_decimal high ++ codes "))")))

abbrev pub text_of_root_attribute : PlainRootAttribute → List ℕ
text_of_root_attribute (demanded_bits bits) = codes "(demandedBits=" ++ (map text_of_bit bits ++ codes ")")
text_of_root_attribute harvested_from_use = codes "(harvestedFromUse)"

-- a space and the attribute, for each
abbrev pub text_of_attributes : List PlainAttribute → List ℕ
text_of_attributes xs = flat_map (λ x. 32 ∷ text_of_attribute x) xs

abbrev pub text_of_root_attributes : List PlainRootAttribute → List ℕ
text_of_root_attributes xs = flat_map (λ x. 32 ∷ text_of_root_attribute x) xs
