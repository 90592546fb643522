-- Definitions. A left-hand side that is completed by the result of a replacement that embeds into it.
use Rattle.std.specs.Prelude.{ℕ, ◌+◌, ◌++◌, List, [], ◌∷◌, length, drop, flat_map, if◌then◌else◌, nat_lt, slice_get, suc}
use Rattle.souper_graph.specs.declared.ast.operands.Operand.{Operand}
use Rattle.souper_graph.specs.Values.{PlainStatement, PlainInfer, replaced, Item}
use Rattle.souper_graph.specs.Order.{printed_order, lead_of}
use Rattle.souper_graph.specs.Sameness.{carried_operand, carried_optional, place}
use Rattle.souper_graph.specs.Renaming.{with_name, name_in}

-- what the result alone needs, in printed order
abbrev pub right_of : Item → List ℕ
right_of s = drop (lead_of s) (printed_order s)

-- the statements of this list follow `count` others; the rest is mapped
abbrev pub extended : List ℕ → ℕ → (ℕ → ℕ) → ℕ → ℕ
extended ids count to p = if nat_lt (place ids p) (length ids) then count + place ids p else to p

-- the statements at these positions, carried
abbrev pub carried_at : (ℕ → ℕ) → List PlainStatement → List ℕ → List PlainStatement
carried_at to ss ids = flat_map (λ p. carried_optional to (slice_get ss p)) ids

-- the statements with these names, from the name at index k on
abbrev pub with_names : List (List ℕ) → ℕ → List PlainStatement → List PlainStatement
with_names names k [] = []
with_names names k (s ∷ ss) = with_name (name_in names k) s ∷ with_names names (suc k) ss

-- q with the infer line j, all its statements first, then what the result of s alone needs under these names, and the result
abbrev pub completed : Item → Item → PlainInfer → Operand → (ℕ → ℕ) → List (List ℕ) → Item
completed s q j result to names = let all = extended (right_of s) (length q.statements) to in record {
  statements = q.statements ++ with_names names 0 (carried_at all s.statements (right_of s));
  ending = replaced j (carried_operand all result);
}
