-- Definitions. Each node as plain data.
use Rattle.std.specs.Prelude.{map}
use Rattle.std.specs.String.{string_bytes}
use Rattle.souper_graph.specs.declared.ast.attributes.Attribute.{Attribute}
use Rattle.souper_graph.specs.declared.ast.attributes.Attribute.TheVariants.{KnownBits, PowerOfTwo, Negative, NonNegative, NonZero, HasExternalUses, SignBits, Range}
use Rattle.souper_graph.specs.declared.ast.attributes.RootAttribute.{RootAttribute}
use Rattle.souper_graph.specs.declared.ast.attributes.RootAttribute.TheVariants.{DemandedBits, HarvestedFromUse}
use Rattle.souper_graph.specs.declared.ast.statements.AssignmentRhs.{AssignmentRhs}
use Rattle.souper_graph.specs.declared.ast.statements.AssignmentRhs.TheVariants.{Var, Block, Phi, ReservedInst, ReservedConst, Instruction}
use Rattle.souper_graph.specs.declared.ast.statements.Phi.{Phi as PhiNode}
use Rattle.souper_graph.specs.declared.ast.statements.Assignment.{Assignment}
use Rattle.souper_graph.specs.declared.ast.statements.Statement.{Statement}
use Rattle.souper_graph.specs.declared.ast.statements.Statement.TheVariants.{Assignment as assignment_variant, Pc as pc_variant, BlockPc as block_pc_variant}
use Rattle.souper_graph.specs.declared.ast.items.Infer.{Infer}
use Rattle.souper_graph.specs.declared.ast.items.Cand.{Cand}
use Rattle.souper_graph.specs.declared.ast.items.LeftHandSide.{LeftHandSide}
use Rattle.souper_graph.specs.declared.ast.items.RightHandSide.{RightHandSide}
use Rattle.souper_graph.specs.declared.ast.items.Replacement.{Replacement}
use Rattle.souper_graph.specs.declared.ast.items.Replacement.TheVariants.{LhsRhs, Cand as cand_variant}
use Rattle.souper_graph.specs.Values.{PlainAttribute, known_bits, power_of_two, negative, non_negative, non_zero, has_external_uses, sign_bits, range, PlainRootAttribute, demanded_bits, harvested_from_use, PlainPhi, PlainRhs, var, block, phi, reserved_inst, reserved_const, instruction, PlainAssignment, PlainStatement, assigned, condition, block_condition, PlainInfer, PlainCand, inferred, resulting, replaced, candidate, Item}

abbrev pub view_attribute : Attribute → PlainAttribute
view_attribute (KnownBits bits) = known_bits bits.items
view_attribute PowerOfTwo = power_of_two
view_attribute Negative = negative
view_attribute NonNegative = non_negative
view_attribute NonZero = non_zero
view_attribute HasExternalUses = has_external_uses
view_attribute (SignBits n) = sign_bits n
view_attribute (Range low high) = range low high

abbrev pub view_root_attribute : RootAttribute → PlainRootAttribute
view_root_attribute (DemandedBits bits) = demanded_bits bits.items
view_root_attribute HarvestedFromUse = harvested_from_use

abbrev pub view_phi : PhiNode → PlainPhi
view_phi p = record { block = p.block; values = p.values.items }

abbrev pub view_rhs : AssignmentRhs → PlainRhs
view_rhs Var = var
view_rhs (Block b) = block b
view_rhs (Phi p) = phi (view_phi p)
view_rhs ReservedInst = reserved_inst
view_rhs ReservedConst = reserved_const
view_rhs (Instruction i) = instruction i

abbrev pub view_assignment : Assignment → PlainAssignment
view_assignment a = record { name = string_bytes a.name; ty = a.ty; value = view_rhs a.value; attributes = map view_attribute a.attributes.items }

abbrev pub view_statement : Statement → PlainStatement
view_statement (assignment_variant a) = assigned (view_assignment a)
view_statement (pc_variant p) = condition p
view_statement (block_pc_variant p) = block_condition p

abbrev pub view_infer : Infer → PlainInfer
view_infer i = record { value = i.value; attributes = map view_root_attribute i.attributes.items }

abbrev pub view_cand : Cand → PlainCand
view_cand c = record { lhs = c.lhs; rhs = c.rhs; attributes = map view_root_attribute c.attributes.items }

abbrev pub view_left_hand_side : LeftHandSide → Item
view_left_hand_side l = record { statements = map view_statement l.statements; ending = inferred (view_infer l.infer) }

abbrev pub view_right_hand_side : RightHandSide → Item
view_right_hand_side r = record { statements = map view_statement r.statements; ending = resulting r.result }

abbrev pub view_replacement : Replacement → Item
view_replacement (LhsRhs ss l r) = record { statements = map view_statement ss; ending = replaced (view_infer l) r }
view_replacement (cand_variant ss c) = record { statements = map view_statement ss; ending = candidate (view_cand c) }
