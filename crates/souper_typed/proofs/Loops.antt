-- Lists whose first elements are written already.
use Rattle.std.proofs.Common.{◌≡◌, ℕ, zero, suc, ◌+◌, ◌<◌, ◌≤◌, ◌++◌, List, [], ◌∷◌, length, map, take, drop, get_or, Option, Some, None, refl, sym, ap, ◌∙◌, arith, add-one}
use Rattle.std.specs.Prelude.{slice_set, option_map, slice_get, slice_index}
use Rattle.std.proofs.Math.ListN.{set, get_or-map}
use Rattle.std.proofs.lemmas.List.{map-set as list-set}
use Rattle.std.proofs.lemmas.Option.{slice_get-map}
use Rattle.souper_graph.specs.declared.ast.attributes.Attribute.{Attribute}
use Rattle.souper_graph.specs.declared.ast.statements.Statement.{Statement}
use Rattle.souper_graph.specs.Values.{PlainAttribute, PlainStatement}
use Rattle.souper_graph.specs.View.{view_attribute, view_statement}
use Rattle.souper_graph.proofs.Replacing.{mapped-next}
use Rattle.souper_widths.specs.Maps.{WidthMap}
use Rattle.souper_typed.specs.declared.form.Form.{Form}
use Rattle.souper_typed.specs.Written.{written_from}
use Rattle.souper_typed.proofs.Graphs.{written_at}

-- the first i are written
abbrev pub written_to : Form → WidthMap → ℕ → ℕ → List PlainStatement → List PlainStatement
written_to f m k i xs = written_from f m k (take i xs) ++ drop i xs

next-is : (f : Form) (m : WidthMap) (k : ℕ) (xs : List PlainStatement) (i : ℕ) (d : PlainStatement) → i < length xs → get_or (written_to f m k i xs) i d ≡ get_or xs i d
next-is f m k [] i d l = absurd (omega arith)
next-is f m k (x ∷ xs) zero d l = refl
next-is f m k (x ∷ xs) (suc i) d l = next-is f m (suc k) xs i d (omega arith)

next-set : (f : Form) (m : WidthMap) (k : ℕ) (xs : List PlainStatement) (i : ℕ) (d : PlainStatement) → i < length xs → set (written_to f m k i xs) i (written_at f m (k + i) (get_or xs i d)) ≡ written_to f m k (suc i) xs
next-set f m k [] i d l = absurd (omega arith)
next-set f m k (x ∷ xs) zero d l = ap (λ (n : ℕ). written_at f m n x ∷ xs) (let e : k + 0 ≡ k = omega arith in e)
next-set f m k (x ∷ xs) (suc i) d l =
    let e : k + suc i ≡ suc k + i = omega arith in
    ap (λ (n : ℕ). written_at f m k x ∷ set (written_to f m (suc k) i xs) i (written_at f m n (get_or xs i d))) e
    ∙ ap (λ (zs : List PlainStatement). written_at f m k x ∷ zs) (next-set f m (suc k) xs i d (omega arith))

pub all-written : (f : Form) (m : WidthMap) (k : ℕ) (xs : List PlainStatement) (i : ℕ) → length xs ≤ i → written_to f m k i xs ≡ written_from f m k xs
all-written f m k [] zero l = refl
all-written f m k [] (suc i) l = refl
all-written f m k (x ∷ xs) zero l = absurd (omega arith)
all-written f m k (x ∷ xs) (suc i) l = ap (λ (zs : List PlainStatement). written_at f m k x ∷ zs) (all-written f m (suc k) xs i (omega arith))

map-set : (ss : List Statement) (i : ℕ) (s : Statement) → map view_statement (slice_set ss i s) ≡ slice_set (map view_statement ss) i (view_statement s)
map-set [] i s = refl
map-set (x ∷ ss) zero s = refl
map-set (x ∷ ss) (suc i) s = ap (λ (z : List PlainStatement). view_statement x ∷ z) (map-set ss i s)

there-is : (ss : List Statement) (i : ℕ) (s : Statement) → slice_get ss i ≡ Some s → view_statement s ≡ get_or (map view_statement ss) i (view_statement s)
there-is [] i s e = refl
there-is (x ∷ ss) zero s e = some-is x s e
  where
    some-is : (x s : Statement) → Some x ≡ Some s → view_statement s ≡ view_statement x
    some-is x s e = ap view_statement (let p : s ≡ x = cc in p)
there-is (x ∷ ss) (suc i) s e = there-is ss i s e

-- one more statement is written
pub statement-next : (f : Form) (m : WidthMap) (xs : List PlainStatement) (ss : List Statement) (i : ℕ) (old new : Statement) →
    map view_statement ss ≡ written_to f m 0 i xs → i < length xs → Some old ≡ slice_get ss i → view_statement new ≡ written_at f m i (view_statement old) →
    map view_statement (slice_set ss i new) ≡ written_to f m 0 (i + 1) xs
statement-next f m xs ss i old new so l at is =
    let d : PlainStatement = view_statement old in
    let there : d ≡ get_or xs i d = there-is ss i old (sym at) ∙ ap (λ (zs : List PlainStatement). get_or zs i d) so ∙ next-is f m 0 xs i d l in
    let z : i ≡ 0 + i = omega arith in
    map-set ss i new
    ∙ ap (λ (zs : List PlainStatement). set zs i (view_statement new)) so
    ∙ ap (λ (y : PlainStatement). set (written_to f m 0 i xs) i y) (is ∙ ap (λ (y : PlainStatement). written_at f m i y) there ∙ ap (λ (n : ℕ). written_at f m n (get_or xs i d)) z)
    ∙ next-set f m 0 xs i d l
    ∙ ap (λ (n : ℕ). written_to f m 0 n xs) (sym (add-one i))

-- no statement is missing
pub statement-there : {A : Type 0} (f : Form) (m : WidthMap) (xs : List PlainStatement) (ss : List Statement) (i : ℕ) →
    map view_statement ss ≡ written_to f m 0 i xs → i < length xs → None ≡ slice_get ss i → A
statement-there f m xs ss i so l none =
    absurd (missing f m 0 xs i l (ap (λ (zs : List PlainStatement). slice_get zs i) (sym so) ∙ slice_get-map view_statement ss i
    ∙ ap (λ (o : Option Statement). option_map view_statement o) (sym none)))
  where
    missing : (f : Form) (m : WidthMap) (k : ℕ) (xs : List PlainStatement) (i : ℕ) → i < length xs → slice_get (written_to f m k i xs) i ≡ None → ⊥
    missing f m k [] i l e = absurd (omega arith)
    missing f m k (x ∷ xs) zero l e = absurd (cc)
    missing f m k (x ∷ xs) (suc i) l e = missing f m (suc k) xs i (omega arith) e

-- one more attribute is written
pub attribute-next : (h : PlainAttribute → PlainAttribute) (xs : List PlainAttribute) (ys : List Attribute) (i : ℕ) (d new : Attribute) → map view_attribute ys ≡ map h (take i xs) ++ drop i xs → i < length xs
    → view_attribute new ≡ h (view_attribute (get_or ys i d)) → map view_attribute (set ys i new) ≡ map h (take (i + 1) xs) ++ drop (i + 1) xs
attribute-next h xs ys i d new so l is =
    list-set view_attribute ys i new ∙ mapped-next h xs (map view_attribute ys) i (view_attribute d) (view_attribute new) so l (is ∙ ap h (sym (get_or-map view_attribute ys i d)))

-- an index within the list needs no default
pub within-index : (xs : List ℕ) (i d : ℕ) → i < length xs → get_or xs i d ≡ slice_index xs i
within-index [] i d h = absurd (omega arith)
within-index (x ∷ xs) zero d h = refl
within-index (x ∷ xs) (suc i) d h = within-index xs i d (omega arith)
