use Rattle.std.proofs.Common.{◌≡◌, ◌+◌, ◌≤◌, length, map, reverse, take, []}
use Rattle.souper_graph.specs.View.{view_statement}
use Rattle.souper_graph.proofs.Order.Runs.{work}
use Rattle.souper_graph.proofs.Order.Stack.{Running}
use Rattle.souper_graph.proofs.Order.Loops.{Leads, LeadNeeds}
use Rattle.souper_graph.proofs.stringify.order.order_of.Given as goal

-- the walks before k are over, and the lead counts the statements that the walks before both k and the infer line have appended
abbrev pub invariant-loop-k : goal.invariant-loop-k
invariant-loop-k l =
    (l.stack.items ≡ [])
    × Running (map view_statement l.statements) (take l.k l.walks.targets.items) (reverse l.stack.items) l.marks l.ids.items l.turns
    × (l.lead ≤ length l.ids.items)
    × Leads (map view_statement l.statements) l.walks.targets.items l.k l.walks.before l.lead
    × (length l.walks.targets.items ≤ l.walks.before → l.lead ≡ length l.ids.items)
    × LeadNeeds (map view_statement l.statements) l.walks.targets.items l.k l.walks.before l.lead l.ids.items

-- the walk at k is under way
abbrev pub invariant-loop-entry : goal.invariant-loop-entry
invariant-loop-entry l =
    Running (map view_statement l.statements) (take (l.k + 1) l.walks.targets.items) (reverse l.stack.items) l.marks l.ids.items l.turns
    × (l.lead ≤ length l.ids.items)
    × LeadNeeds (map view_statement l.statements) l.walks.targets.items l.k l.walks.before l.lead l.ids.items

abbrev pub decreases-loop-entry : goal.decreases-loop-entry
decreases-loop-entry l = work (map view_statement l.statements) l.marks + length l.stack.items
