-- Definitions. What `print_order` returns: the needed statements of an item, each once; what it costs, and their lines.
use Rattle.std.specs.Prelude.{◌≡◌, ℕ, ◌<◌, ◌≤◌, ◌↔◌, ◌+◌, ◌-◌, ◌^◌, min, nat_lt, Bool, true, ◌&&◌, List, [], ◌∷◌, length, take}
use Rattle.souper_graph.specs.Values.{PlainStatement, Item}
use Rattle.souper_graph.specs.Uses.{Has, used_at, last_roots, first_walks, walks_of, Needed, NeededIn, UsesBelow}
use Rattle.souper_graph.specs.Order.{printed_order, lead_of, Distinct, EachAfterItsUses}
use Rattle.souper_graph.specs.Faults.{HasBadId}
use Rattle.souper_graph.specs.Text.{text_in_order}

-- each of the positions is below i
abbrev pub are_below : ℕ → List ℕ → Bool
are_below i [] = true
are_below i (u ∷ us) = nat_lt u i && are_below i us

-- each of these statements uses positions below it alone
abbrev pub use_below : List PlainStatement → List ℕ → Bool
use_below ss [] = true
use_below ss (i ∷ is) = are_below i (used_at ss i) && use_below ss is

-- Each needed statement uses positions below it alone. If the statements of the printed order do, it has all needed ones.
abbrev pub uses_below : Item → Bool
uses_below a = use_below a.statements (printed_order a)

-- for each of these statements 1, and the length of its list of uses
abbrev pub cost : List PlainStatement → List ℕ → ℕ
cost ss [] = 0
cost ss (i ∷ is) = 1 + length (used_at ss i) + cost ss is

-- how often the work stack is popped: once per walk, and the cost of the needed statements, but at most what a `u128`
-- holds
abbrev pub turns_of : Item → List ℕ → ℕ
turns_of a ids = min (2 ^ 128 - 1) (length (walks_of a) + cost a.statements ids)

-- The order of an item: its statements by position, how many of them come before the infer line, and the number of turns.
-- The last three fields are for items of which each needed statement uses lower positions alone.
pub record IsPrintOrder (a : Item) (ids : List ℕ) (lead turns : ℕ) : Type 0 where
  pub no_bad_id : ¬ HasBadId a
  pub inside : (i : ℕ) → Has ids i → i < length a.statements
  -- all needed statements, and no others
  pub exact : (i : ℕ) → Has ids i ↔ NeededIn a i
  pub once : Distinct ids
  pub lead_within : lead ≤ length ids
  -- before the infer line are those that its root and the path conditions need
  pub lead_exact : (i : ℕ) → Has (take lead ids) i ↔ Needed a.statements (first_walks a) i
  -- without a result line after it, all come before it
  pub lead_is_all : last_roots a.ending ≡ [] → lead ≡ length ids
  pub turned : turns ≡ turns_of a ids
  pub printed : UsesBelow a → ids ≡ printed_order a
  pub led : UsesBelow a → lead ≡ lead_of a
  pub after : UsesBelow a → EachAfterItsUses a.statements ids

-- the order has no statements
pub record IsEmptyOrder (ids : List ℕ) (lead turns : ℕ) : Type 0 where
  pub no_ids : ids ≡ []
  pub no_lead : lead ≡ 0
  pub no_turns : turns ≡ 0

-- the text has the line of each needed statement once, in some order, and the last lines
pub record IsLinesOf (a : Item) (text : List ℕ) : Type 0 where
  pub ids : List ℕ
  pub lead : ℕ
  pub needed : (i : ℕ) → Has ids i ↔ NeededIn a i
  pub once : Distinct ids
  pub lead_within : lead ≤ length ids
  pub text_is : text ≡ text_in_order a.statements a.ending ids lead
