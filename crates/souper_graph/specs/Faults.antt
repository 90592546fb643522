-- Definitions. Bad ids: those that name nothing that they may name, and the errors for them.
use Rattle.std.specs.Prelude.{ℕ, ◌<◌, ◌≤◌, ◌⊎◌, ◌++◌, length, List, slice_get, codes, decimal}
use Rattle.souper_graph.specs.declared.stringify.errors.TextError.{TextError}
use Rattle.souper_graph.specs.declared.stringify.errors.TextError.TheVariants.{OutOfRange, NotAnAssignment, NotABlock, OutOfMemory}
use Rattle.souper_graph.specs.Values.{PlainStatement, Item}
use Rattle.souper_graph.specs.Uses.{Has, Use, value_use, block_use, uses_at, roots_of, NeededIn}
use Rattle.souper_graph.specs.WellFormed.{IsAssigned, IsBlock, IsMet}

-- the error is a bad id among the uses that Used holds of, in the variant for its fault, or is out of memory
abbrev pub IsFault : List PlainStatement → (Use → Type 0) → TextError → Type 0
IsFault ss Used (OutOfRange i) = (Used (value_use i) ⊎ Used (block_use i)) × (length ss ≤ i)
IsFault ss Used (NotAnAssignment i) = Used (value_use i) × (i < length ss) × ¬ IsAssigned (slice_get ss i)
IsFault ss Used (NotABlock i) = Used (block_use i) × (i < length ss) × ¬ IsBlock (slice_get ss i)
IsFault ss Used OutOfMemory = Unit {0}

abbrev pub IsFaultAmong : List PlainStatement → List Use → TextError → Type 0
IsFaultAmong ss us e = IsFault ss (Has us) e

-- a root or a needed statement has this use
abbrev pub NamedIn : Item → Use → Type 0
NamedIn a u = Has (roots_of a.ending) u ⊎ ((p : ℕ) × NeededIn a p × Has (uses_at a.statements p) u)

-- a root or a needed statement names a position at which there is nothing that it may name
abbrev pub HasBadId : Item → Type 0
HasBadId a = (u : Use) × NamedIn a u × ¬ IsMet a.statements u

-- the error has a bad id of the item, in the variant for its fault, or is out of memory
abbrev pub IsFaultOf : Item → TextError → Type 0
IsFaultOf a e = IsFault a.statements (NamedIn a) e

-- how an error is shown
abbrev pub text_of_error : TextError → List ℕ
text_of_error (OutOfRange i) = codes "statement id " ++ (decimal i ++ codes " is out of range")
text_of_error (NotAnAssignment i) = codes "statement id " ++ (decimal i ++ codes " is not an assignment")
text_of_error (NotABlock i) = codes "statement id " ++ (decimal i ++ codes " is not a block")
text_of_error OutOfMemory = codes "out of memory"
