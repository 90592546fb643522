-- The names of statements, one by one.
use Rattle.std.proofs.Common.{◌≡◌, ℕ, ◌+◌, ◌<◌, List, [], ◌∷◌, ◌++◌, Option, Some, None, map, length, take, get_or, take-suc, add-one, append-nil, refl, ap, sym, ◌∙◌, Bor}
use Rattle.std.specs.List.{cons_option}
use Rattle.std.proofs.lemmas.List.Elements.{filter_map-append}
use Rattle.souper_graph.specs.declared.ast.statements.Statement.{Statement}
use Rattle.examples_using.specs.Names.{name_of_value, names_at}

next : (ss : List Statement) (ids : List ℕ) (i id : ℕ) → i < length ids → id ≡ get_or ids i id
    → names_at ss (take (i + 1) ids) ≡ names_at ss (take i ids) ++ cons_option (name_of_value ss id) []
next ss ids i id within is =
    ap (λ (n : ℕ). names_at ss (take n ids)) (add-one i)
    ∙ ap (names_at ss) (take-suc ids i id within ∙ ap (λ (x : ℕ). take i ids ++ x ∷ []) (sym is))
    ∙ filter_map-append (name_of_value ss) (take i ids) (id ∷ [])

texts : List (Bor (List ℕ)) → List (List ℕ)
texts names = map (λ (name : Bor (List ℕ)). name.now) names

texts-last : (names : List (Bor (List ℕ))) (name : Bor (List ℕ)) → texts (names ++ name ∷ []) ≡ texts names ++ name.now ∷ []
unfolding texts
texts-last [] name = refl
texts-last (x ∷ names) name = ap (λ (ns : List (List ℕ)). x.now ∷ ns) (texts-last names name)

pub with_name : (ss : List Statement) (ids : List ℕ) (i id : ℕ) (names more : List (Bor (List ℕ))) (name : Bor (List ℕ)) → i < length ids → id ≡ get_or ids i id
    → Some name.now ≡ name_of_value ss id → map (λ (n : Bor (List ℕ)). n.now) names ≡ names_at ss (take i ids) → more ≡ names ++ name ∷ []
    → map (λ (n : Bor (List ℕ)). n.now) more ≡ names_at ss (take (i + 1) ids)
unfolding texts
with_name ss ids i id names more name within is named so_far added =
    ap texts added ∙ texts-last names name ∙ ap (λ (ns : List (List ℕ)). ns ++ name.now ∷ []) so_far
    ∙ ap (λ (o : Option (List ℕ)). names_at ss (take i ids) ++ cons_option o []) named ∙ sym (next ss ids i id within is)

pub without_name : (ss : List Statement) (ids : List ℕ) (i id : ℕ) (names more : List (Bor (List ℕ))) → i < length ids → id ≡ get_or ids i id
    → None ≡ name_of_value ss id → map (λ (n : Bor (List ℕ)). n.now) names ≡ names_at ss (take i ids) → more ≡ names
    → map (λ (n : Bor (List ℕ)). n.now) more ≡ names_at ss (take (i + 1) ids)
unfolding texts
without_name ss ids i id names more within is unnamed so_far same =
    ap texts same ∙ so_far ∙ sym (append-nil (names_at ss (take i ids)))
    ∙ ap (λ (o : Option (List ℕ)). names_at ss (take i ids) ++ cons_option o []) unnamed ∙ sym (next ss ids i id within is)
