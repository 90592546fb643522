-- Lemmas. A value of each type has the last lines of its type of item.
use Rattle.std.specs.Prelude.{refl}
use Rattle.souper_graph.specs.declared.ast.items.Replacement.{Replacement}
use Rattle.souper_graph.specs.declared.ast.items.Replacement.TheVariants.{LhsRhs, Cand}
use Rattle.souper_graph.specs.View.{view_replacement}
use Rattle.souper_graph.specs.Syntax.Spelling.{replacement, IsEndingOf}

pub replacement_ending : (r : Replacement) → IsEndingOf replacement (view_replacement r).ending
replacement_ending (LhsRhs ss l r) = refl
replacement_ending (Cand ss c) = refl
