-- The runs of the work stack over plain positions.
use Rattle.std.proofs.Common.{◌≡◌, ℕ, zero, suc, ◌+◌, ◌<◌, ◌++◌, length, map, List, [], ◌∷◌, Bool, true, false, get_or, arith}
use Rattle.std.proofs.Math.ListN.{replicate, set}
use Rattle.std.proofs.lemmas.List.{length-map}
use Rattle.souper_graph.specs.Values.{PlainStatement}
use Rattle.souper_graph.specs.Uses.{Has, position_of, uses_of, used_at, Needed}

-- an entry of the stack: a position that is to be visited, or one whose uses are
pub data Step : Type 0 where
  trace : ℕ → Step
  finish : ℕ → Step

-- what a run over the walks can reach: the stack with its top first, the marks, the finished statements, and the number
-- of entries that were popped
pub data Reached (g : List PlainStatement) : List ℕ → List Step → List Bool → List ℕ → ℕ → Type 0 where
  start : Reached g [] [] (replicate (length g) false) [] 0
  walk : {i t : ℕ} {walks : List ℕ} {m : List Bool} {ids : List ℕ} →
      Reached g walks [] m ids t → Reached g (walks ++ i ∷ []) (trace i ∷ []) m ids t
  dropped : {i t : ℕ} {walks : List ℕ} {s : List Step} {m : List Bool} {ids : List ℕ} →
      Reached g walks (trace i ∷ s) m ids t → get_or m i false ≡ true → Reached g walks s m ids (t + 1)
  entered : {i t : ℕ} {walks : List ℕ} {s : List Step} {m : List Bool} {ids : List ℕ} →
      Reached g walks (trace i ∷ s) m ids t → i < length g → get_or m i false ≡ false →
      Reached g walks (map (λ u. trace u) (used_at g i) ++ finish i ∷ s) (set m i true) ids (t + 1)
  finished : {i t : ℕ} {walks : List ℕ} {s : List Step} {m : List Bool} {ids : List ℕ} →
      Reached g walks (finish i ∷ s) m ids t → Reached g walks s m (ids ++ i ∷ []) (t + 1)

-- each use of a statement that the walks need is below it
abbrev pub Below : List PlainStatement → List ℕ → Type 0
Below g walks = (i u : ℕ) → Needed g walks i → Has (used_at g i) u → u < i

-- the work left for the statements without a mark: 2 for each, and 1 per use
unfoldable pub work : List PlainStatement → List Bool → ℕ
work [] m = 0
work (n ∷ g) [] = 0
work (n ∷ g) (true ∷ m) = work g m
work (n ∷ g) (false ∷ m) = 2 + length (uses_of n) + work g m

pub work-set : (g : List PlainStatement) (m : List Bool) (i : ℕ) → length m ≡ length g → i < length g → get_or m i false ≡ false →
    work g (set m i true) + (2 + length (used_at g i)) ≡ work g m
unfolding work
work-set [] m i e h f = absurd (omega arith)
work-set (n ∷ g) [] i e h f = absurd (omega arith)
work-set (n ∷ g) (true ∷ m) zero e h f = absurd (cc)
work-set (n ∷ g) (false ∷ m) zero e h f = omega (arith, length-map (uses_of n) position_of)
work-set (n ∷ g) (true ∷ m) (suc i) e h f = work-set g m i (omega arith) (omega arith) f
work-set (n ∷ g) (false ∷ m) (suc i) e h f = omega (arith, work-set g m i (omega arith) (omega arith) f)
