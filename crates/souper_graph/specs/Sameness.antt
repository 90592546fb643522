-- Definitions. When two items are the same graph, and an item renumbered.
use Rattle.std.specs.Prelude.{◌≡◌, ◌↔◌, ℕ, suc, ◌<◌, List, [], ◌∷◌, map, flat_map, if◌then◌else◌, nat_eq, Option, Some, None, slice_get}
use Rattle.souper_graph.specs.declared.ast.operands.Operand.{Operand}
use Rattle.souper_graph.specs.declared.ast.operands.Operand.TheVariants.{Value, Constant}
use Rattle.souper_graph.specs.Instructions.{instruction_map}
use Rattle.souper_graph.specs.Values.{PlainRhs, phi, instruction, PlainStatement, assigned, condition, block_condition, PlainInfer, PlainCand, Ending, inferred, resulting, replaced, candidate, Item}
use Rattle.souper_graph.specs.Uses.{Has, conditions, NeededIn}
use Rattle.souper_graph.specs.Order.{printed_order, Distinct, EachAfterItsUses}

-- nodes with f applied to each position
abbrev pub carried_operand : (ℕ → ℕ) → Operand → Operand
carried_operand f (Value i) = Value (f i)
carried_operand f (Constant c) = Constant c

abbrev pub carried_rhs : (ℕ → ℕ) → PlainRhs → PlainRhs
carried_rhs f (phi p) = phi (record { block = f p.block; values = map (carried_operand f) p.values })
carried_rhs f (instruction i) = instruction (instruction_map (carried_operand f) i)
carried_rhs f r = r

abbrev pub carried : (ℕ → ℕ) → PlainStatement → PlainStatement
carried f (assigned a) = assigned (record a { value = carried_rhs f a.value })
carried f (condition p) = condition (record { x = carried_operand f p.x; y = carried_operand f p.y })
carried f (block_condition p) = block_condition (record { block = f p.block; predecessor = p.predecessor; x = carried_operand f p.x; y = carried_operand f p.y })

abbrev pub carried_infer : (ℕ → ℕ) → PlainInfer → PlainInfer
carried_infer f i = record { value = f i.value; attributes = i.attributes }

abbrev pub carried_cand : (ℕ → ℕ) → PlainCand → PlainCand
carried_cand f c = record { lhs = carried_operand f c.lhs; rhs = carried_operand f c.rhs; attributes = c.attributes }

abbrev pub carried_ending : (ℕ → ℕ) → Ending → Ending
carried_ending f (inferred i) = inferred (carried_infer f i)
carried_ending f (resulting r) = resulting (carried_operand f r)
carried_ending f (replaced i r) = replaced (carried_infer f i) (carried_operand f r)
carried_ending f (candidate c) = candidate (carried_cand f c)

-- a one-to-one map between the needed statements that keeps contents, uses, roots and the order of path conditions
pub record SameGraph (a b : Item) : Type 0 where
  pub to : ℕ → ℕ
  pub needed : (i : ℕ) → NeededIn a i → NeededIn b (to i)
  pub onto : (j : ℕ) → NeededIn b j → (i : ℕ) × NeededIn a i × (to i ≡ j)
  pub one_to_one : (i j : ℕ) → NeededIn a i → NeededIn a j → to i ≡ to j → i ≡ j
  pub contents : (i : ℕ) (s : PlainStatement) → NeededIn a i → slice_get a.statements i ≡ Some s → slice_get b.statements (to i) ≡ Some (carried to s)
  pub ending : b.ending ≡ carried_ending to a.ending
  pub condition_order : (i j : ℕ) → Has (conditions a) i → Has (conditions a) j → i < j → to i < to j

-- the index of the first occurrence of a number in a list
abbrev pub place : List ℕ → ℕ → ℕ
place [] i = 0
place (x ∷ xs) i = if nat_eq x i then 0 else suc (place xs i)

abbrev pub carried_optional : (ℕ → ℕ) → Option PlainStatement → List PlainStatement
carried_optional f None = []
carried_optional f (Some s) = carried f s ∷ []

-- the statements at these positions, in order, each position replaced by its index among them
abbrev pub taken : List PlainStatement → List ℕ → List PlainStatement
taken ss ids = flat_map (λ i. carried_optional (place ids) (slice_get ss i)) ids

-- the needed statements in printed order, each position replaced by its index there
abbrev pub renumbered : Item → Item
renumbered a = record {
  statements = taken a.statements (printed_order a);
  ending = carried_ending (place (printed_order a)) a.ending;
}

-- the positions are the needed ones, each once and after all its uses, and path conditions keep their order
pub record OrdersNeeded (a : Item) (ids : List ℕ) : Type 0 where
  pub needed : (i : ℕ) → Has ids i ↔ NeededIn a i
  pub once : Distinct ids
  pub after_uses : EachAfterItsUses a.statements ids
  pub condition_order : (i j : ℕ) → Has (conditions a) i → Has (conditions a) j → i < j → place ids i < place ids j
