-- Definitions. The path conditions of a query, of equal ones the first.
use Rattle.std.specs.Prelude.{◌≡◌, ℕ, ◌<◌, List, length, Some, slice_get, IsTrue}
use Rattle.souper_graph.specs.Values.{PlainStatement}
use Rattle.souper_graph.specs.Uses.{Has, is_condition}
use Rattle.souper_embedding.specs.Images.{IsFirstOfEqual}

-- there is a path condition at the position, and no equal one before
pub record IsGivenAt (qs : List PlainStatement) (d : ℕ) : Type 0 where
  pub statement : PlainStatement
  pub there : slice_get qs d ≡ Some statement
  pub is : IsTrue (is_condition statement)
  pub first : IsFirstOfEqual qs d

-- the positions below n, ascending
pub record AreGivenTo (qs : List PlainStatement) (n : ℕ) (given : List ℕ) : Type 0 where
  pub each : (d : ℕ) → Has given d → d < n
  pub first : (d : ℕ) → Has given d → IsGivenAt qs d
  pub covers : (d : ℕ) (s : PlainStatement) → d < n → slice_get qs d ≡ Some s → IsTrue (is_condition s) → (g : ℕ) × Has given g × (slice_get qs g ≡ Some s)
  pub ascending : (a b x y : ℕ) → slice_get given a ≡ Some x → slice_get given b ≡ Some y → a < b → x < y

abbrev pub AreGiven : List PlainStatement → List ℕ → Type 0
AreGiven qs given = AreGivenTo qs (length qs) given
