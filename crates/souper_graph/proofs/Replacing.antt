-- Lists of which the first elements are replaced by what a function has for them.
use Rattle.std.proofs.Common.{◌≡◌, ℕ, zero, suc, ◌+◌, ◌<◌, ◌≤◌, ◌++◌, List, [], ◌∷◌, length, map, take, drop, get_or, Option, Some, None, refl, sym, ap, ◌∙◌, arith, add-one}
use Rattle.std.specs.Prelude.{slice_set, option_map}
use Rattle.std.specs.List.{slice_get}
use Rattle.std.proofs.Math.ListN.{set}
use Rattle.std.proofs.lemmas.Option.{slice_get-map}
use Rattle.souper_graph.specs.declared.ast.statements.Statement.{Statement}
use Rattle.souper_graph.specs.Values.{PlainStatement}
use Rattle.souper_graph.specs.View.{view_statement}

next-is : {A : Type 0} (h : A → A) (xs : List A) (i : ℕ) (d : A) → i < length xs → get_or (map h (take i xs) ++ drop i xs) i d ≡ get_or xs i d
next-is h [] i d l = absurd (omega arith)
next-is h (x ∷ xs) zero d l = refl
next-is h (x ∷ xs) (suc i) d l = next-is h xs i d (omega arith)

next-set : {A : Type 0} (h : A → A) (xs : List A) (i : ℕ) (d : A) → i < length xs → set (map h (take i xs) ++ drop i xs) i (h (get_or xs i d)) ≡ map h (take (suc i) xs) ++ drop (suc i) xs
next-set h [] i d l = absurd (omega arith)
next-set h (x ∷ xs) zero d l = refl
next-set h (x ∷ xs) (suc i) d l = ap (λ zs. h x ∷ zs) (next-set h xs i d (omega arith))

-- one more is replaced
pub mapped-next : {A : Type 0} (h : A → A) (xs ys : List A) (i : ℕ) (d y : A) → ys ≡ map h (take i xs) ++ drop i xs → i < length xs → y ≡ h (get_or ys i d) →
    set ys i y ≡ map h (take (i + 1) xs) ++ drop (i + 1) xs
mapped-next {A} h xs ys i d y so l e =
    ap (λ (zs : List A). set zs i y) so
    ∙ ap (λ (z : A). set (map h (take i xs) ++ drop i xs) i z) (e ∙ ap (λ (zs : List A). h (get_or zs i d)) so ∙ ap h (next-is h xs i d l))
    ∙ next-set h xs i d l
    ∙ ap (λ (n : ℕ). map h (take n xs) ++ drop n xs) (sym (add-one i))

-- all are replaced
pub mapped-all : {A : Type 0} (h : A → A) (xs : List A) (i : ℕ) → length xs ≤ i → map h (take i xs) ++ drop i xs ≡ map h xs
mapped-all h [] zero l = refl
mapped-all h [] (suc i) l = refl
mapped-all h (x ∷ xs) zero l = absurd (omega arith)
mapped-all h (x ∷ xs) (suc i) l = ap (λ zs. h x ∷ zs) (mapped-all h xs i (omega arith))

map-set : (ss : List Statement) (i : ℕ) (s : Statement) → map view_statement (slice_set ss i s) ≡ slice_set (map view_statement ss) i (view_statement s)
map-set [] i s = refl
map-set (x ∷ ss) zero s = refl
map-set (x ∷ ss) (suc i) s = ap (λ (z : List PlainStatement). view_statement x ∷ z) (map-set ss i s)

there-is : (ss : List Statement) (i : ℕ) (s : Statement) → slice_get ss i ≡ Some s → view_statement s ≡ get_or (map view_statement ss) i (view_statement s)
there-is [] i s e = refl
there-is (x ∷ ss) zero s e = some-is x s e
  where
    some-is : (x s : Statement) → Some x ≡ Some s → view_statement s ≡ view_statement x
    some-is x s e = ap view_statement (let p : s ≡ x = cc in p)
there-is (x ∷ ss) (suc i) s e = there-is ss i s e

-- one more statement is replaced
pub statement-next : (h : PlainStatement → PlainStatement) (xs : List PlainStatement) (ss : List Statement) (i : ℕ) (old new : Statement) →
    map view_statement ss ≡ map h (take i xs) ++ drop i xs → i < length xs → Some old ≡ slice_get ss i → view_statement new ≡ h (view_statement old) →
    map view_statement (slice_set ss i new) ≡ map h (take (i + 1) xs) ++ drop (i + 1) xs
statement-next h xs ss i old new so l at is =
    map-set ss i new ∙ mapped-next h xs (map view_statement ss) i (view_statement old) (view_statement new) so l (is ∙ ap h (there-is ss i old (sym at)))

-- no statement is missing
pub statement-there : {A : Type 0} (h : PlainStatement → PlainStatement) (xs : List PlainStatement) (ss : List Statement) (i : ℕ) →
    map view_statement ss ≡ map h (take i xs) ++ drop i xs → i < length xs → None ≡ slice_get ss i → A
statement-there h xs ss i so l none =
    absurd (missing h xs i l (ap (λ (zs : List PlainStatement). slice_get zs i) (sym so) ∙ slice_get-map view_statement ss i
    ∙ ap (λ (o : Option Statement). option_map view_statement o) (sym none)))
  where
    missing : (h : PlainStatement → PlainStatement) (xs : List PlainStatement) (i : ℕ) → i < length xs → slice_get (map h (take i xs) ++ drop i xs) i ≡ None → ⊥
    missing h [] i l e = absurd (omega arith)
    missing h (x ∷ xs) zero l e = absurd (cc)
    missing h (x ∷ xs) (suc i) l e = missing h xs i (omega arith) e
