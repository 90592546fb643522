-- What reads back, and is read, is the one renumbered item.
use Rattle.std.proofs.Common.{◌≡◌, ℕ, List, [], ◌∷◌, ◌++◌, subst}
use Rattle.std.specs.Prelude.{Result, Ok, Err, IfOk}
use Rattle.souper_graph.specs.Values.{Item}
use Rattle.souper_graph.specs.Sameness.{renumbered}
use Rattle.souper_graph.specs.ItemText.{ReadsBack}
use Rattle.souper_graph.specs.Syntax.Spelling.{ItemType, TextSpells, OneList}

pub composed : {T E : Type 0} (view : T → List Item) (k : ItemType) (a : Item) (text source : List ℕ) (r : Result T E) → OneList → source ≡ text ++ 10 ∷ [] → ReadsBack k a text
    → IfOk r (λ (t : T). TextSpells k source (view t)) → IfOk r (λ (t : T). view t ≡ renumbered a ∷ [])
composed view k a text source (Ok t) one e back read = one k (text ++ 10 ∷ []) (view t) (renumbered a ∷ []) (subst (λ (s : List ℕ). TextSpells k s (view t)) e read) back
composed view k a text source (Err x) one e back read = tt
