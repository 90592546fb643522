-- Lemmas. What it means that a result is the stored one.
use Rattle.std.proofs.Common.{◌≡◌, ℕ, List, Bool, true, false, sym, ◌∙◌, subst}
use Rattle.std.specs.Prelude.{IsTrue, bytes_eq, not}
use Rattle.std.proofs.lemmas.Slice.Eq.{bytes_eq-Decides}
use Rattle.souper_graph.specs.Syntax.Spelling.{ItemType}
use Rattle.souper_format.specs.Formatted.{IsFormatted}
use Rattle.replay_answers.specs.Answers.{right_of}

-- a text that is not rejected, whose result is as stored
pub accepted : (k : ItemType) (refused r q : Bool) (source out shown answer : List ℕ) → refused ≡ false → IsTrue r → r ≡ q → q ≡ bytes_eq shown answer → shown ≡ out → IsFormatted k source out
    → right_of k refused source answer
accepted k true r q source out shown answer e holds f g h is = absurd cc
accepted k false r q source out shown answer e holds f g h is =
    subst (IsFormatted k source) (sym h ∙ (bytes_eq-Decides shown answer).0 (subst IsTrue (f ∙ g) holds)) is

-- a text that should have been rejected has no result as stored
pub not_accepted : (refused r : Bool) → refused ≡ true → r ≡ not refused → IsTrue r → ⊥
not_accepted true true e f holds = absurd cc
not_accepted true false e f holds = absurd cc
not_accepted false r e f holds = absurd cc
