-- Definitions. Texts that are put one after the other.
use Rattle.std.specs.Prelude.{◌≡◌, ℕ, ◌+◌, List, ◌++◌, map, length}
use Rattle.souper_graph.specs.Values.{Item}
use Rattle.souper_graph.specs.Syntax.Tokens.{Lexeme, IsTextOf}
use Rattle.souper_graph.specs.Syntax.Spelling.{ItemType, TextSpells}
use Rattle.souper_errors.specs.Places.{IsLines}

-- tokens n bytes later
abbrev pub moved : ℕ → List (ℕ × Lexeme) → List (ℕ × Lexeme)
moved n ts = map (λ t. (n + t.0, t.1)) ts

-- lines and a text after them have the tokens of both
abbrev pub TokensJoin : Type 0
TokensJoin = (a b : List ℕ) (ts us : List (ℕ × Lexeme)) → IsLines a → IsTextOf a ts → IsTextOf b us → IsTextOf (a ++ b) (ts ++ moved (length a) us)

-- and the items of both
abbrev pub ItemsJoin : Type 0
ItemsJoin = (k : ItemType) (a b : List ℕ) (xs ys : List Item) → IsLines a → TextSpells k a xs → TextSpells k b ys → TextSpells k (a ++ b) (xs ++ ys)

-- and no others: where lines and a text after them have tokens, each has those in it
abbrev pub TokensPart : Type 0
TokensPart = (a b : List ℕ) (us : List (ℕ × Lexeme)) → IsLines a → IsTextOf (a ++ b) us → (ts : List (ℕ × Lexeme)) × (vs : List (ℕ × Lexeme))
    × IsTextOf a ts × IsTextOf b vs × (us ≡ ts ++ moved (length a) vs)
