use Rattle.std.proofs.Common.{◌≡◌, ℕ, List, [], ◌∷◌, ◌++◌, Some, Option, ◌∙◌, ap, subst, sym, append_assoc}
use Rattle.souper_graph.specs.Values.{Item}
use Rattle.souper_code.specs.declared.write.Place.{Place}
use Rattle.souper_code.specs.Judging.{Judged}
use Rattle.souper_code.proofs.write.Texts.add.Goals as goal

judged_past : (xs : List Item) (x : Item) (found : Option Place) (p : Place) (text : List ℕ) → found ≡ Some p → Judged xs found text → Judged (xs ++ (x ∷ [])) found text
judged_past xs x found p text is judged =
    let (before, y, after, same, fine, ill, at) = subst (λ (o : Option Place). Judged xs o text) is judged in
    subst (λ (o : Option Place). Judged (xs ++ (x ∷ [])) o text) (sym is)
    (before, y, after ++ (x ∷ []), ap (λ (zs : List Item). zs ++ (x ∷ [])) same ∙ append_assoc before (y ∷ after) (x ∷ []), fine, ill, at)

pub returns-in-Some : goal.returns-in-Some
returns-in-Some g c = λ done at judged. judged_past done _ _ c.in-Some.field-0 _ c.in-Some.is judged
