-- Reading items to the end of their code.
use Rattle.std.proofs.Common.{◌≡◌, ◌≢◌, ℕ, ◌≤◌, ◌-◌, List, [], ◌∷◌, ◌++◌, length, flat_map, Result, Err, IfErr, ◌⊎◌, inl, inr, refl, sym, ◌∙◌, ap, subst, append_assoc, arith, rules, length-append}
use Rattle.std.proofs.lemmas.List.{flat_map_more, nil_from_length}
use Rattle.std.specs.List.{AllByRecursion}
use Rattle.souper_graph.specs.Values.{Item}
use Rattle.souper_graph.specs.Syntax.Spelling.{ItemType}
use Rattle.souper_code.specs.declared.decode.DecodeError.{DecodeError}
use Rattle.souper_code.specs.declared.decode.DecodeError.TheVariants.{NoCode, OutOfMemory}
use Rattle.souper_code.specs.Codes.{code_of_size, code_of_statement, code_of_statements, code_of_ending, code_of, code_of_items}
use Rattle.souper_code.specs.Codable.{CodableItem}
use Rattle.souper_code.specs.Writing.{IsCodeOf, IsCodeOfOnly, IsNoCode, BeginsWithNone}
use Rattle.souper_code.proofs.Lists.{IsOnly, IsNone}

size_is_long : (n : ℕ) → length (code_of_size n) ≡ 8
unfolding code_of_size
size_is_long n = refl

code_is_long : (x : Item) → 8 ≤ length (code_of x)
code_is_long x = omega (arith, length-append (code_of_statements x.statements) (code_of_ending x.ending), length-append (code_of_size (length x.statements)) (flat_map code_of_statement x.statements), size_is_long (length x.statements))

pub items_are_long : (xs : List Item) → length xs ≤ length (code_of_items xs)
items_are_long [] = omega arith
items_are_long (x ∷ xs) = omega (arith, items_are_long xs, code_is_long x, length-append (code_of x) (code_of_items xs))

-- all is the code of the items done and of what is left, and each list whose code it is begins with these items
pub record HasRead (k : ItemType) (all : List ℕ) (done : List Item) (left : List ℕ) : Type 0 where
  pub read : all ≡ code_of_items done ++ left
  pub codable : AllByRecursion (CodableItem k) done
  pub begins : (xs : List Item) → IsCodeOf k all xs → (others : List Item) × (xs ≡ done ++ others) × IsCodeOf k left others

pub nothing_read : (k : ItemType) (all : List ℕ) → HasRead k all [] all
nothing_read k all = record { read = refl; codable = tt; begins = λ xs is. (xs, refl, is) }

begins_more : (k : ItemType) (all : List ℕ) (done : List Item) (left : List ℕ) (x : Item) (after : List ℕ) → HasRead k all done left → left ≢ []
    → IsOnly code_of (CodableItem k) left x after → (xs : List Item) → IsCodeOf k all xs → (others : List Item) × (xs ≡ (done ++ (x ∷ [])) ++ others) × IsCodeOf k after others
begins_more k all done left x after has some only xs is =
    let (others, same, rest_is) = has.begins xs is in
    elim others as (λ (others : List Item). xs ≡ done ++ others → IsCodeOf k left others → (more : List Item) × (xs ≡ (done ++ (x ∷ [])) ++ more) × IsCodeOf k after more) [
      | [] ↦ λ same rest_is. absurd (some rest_is.1)
      | ◌∷◌ y more ↦ λ same rest_is.
          let one = only y (code_of_items more) rest_is.0.0 rest_is.1 in
          (more, same ∙ ap (λ (z : Item). done ++ (z ∷ more)) (sym one.0) ∙ sym (append_assoc done (x ∷ []) more), (rest_is.0.1, one.1))
    ] same rest_is

pub all_more : {X : Type 0} (P : X → Type 0) (done : List X) (x : X) → AllByRecursion P done → P x → AllByRecursion P (done ++ (x ∷ []))
all_more P [] x all one = (one, tt)
all_more P (d ∷ ds) x all one = (all.0, all_more P ds x all.1 one)

pub read_more : (k : ItemType) (all : List ℕ) (done : List Item) (left : List ℕ) (x : Item) (after : List ℕ) → HasRead k all done left → left ≢ []
    → CodableItem k x → left ≡ code_of x ++ after → IsOnly code_of (CodableItem k) left x after → HasRead k all (done ++ (x ∷ [])) after
read_more k all done left x after has some fits front only = record {
  read = has.read ∙ ap (λ (t : List ℕ). code_of_items done ++ t) front ∙ sym (append_assoc (code_of_items done) (code_of x) after)
      ∙ ap (λ (t : List ℕ). t ++ after) (flat_map_more code_of [] done x);
  codable = all_more (CodableItem k) done x has.codable fits;
  begins = begins_more k all done left x after has some only;
}

pub all_read : (k : ItemType) (all : List ℕ) (done : List Item) (left : List ℕ) → HasRead k all done left → left ≡ [] → IsCodeOfOnly k all done
all_read k all done left has end = (
  (has.codable, has.read ∙ ap (λ (t : List ℕ). code_of_items done ++ t) end ∙ search rules),
  λ xs is.
      let (others, same, rest_is) = has.begins xs is in
      elim others as (λ (others : List Item). xs ≡ done ++ others → left ≡ code_of_items others → done ≡ xs) [
        | [] ↦ λ same rest_is. sym (same ∙ search rules)
        | ◌∷◌ y more ↦ λ same rest_is. absurd (omega (arith, code_is_long y, ap length (sym end ∙ rest_is), length-append (code_of y) (code_of_items more)))
      ] same rest_is.1,
)

pub none_read : (k : ItemType) (all : List ℕ) (done : List Item) (left : List ℕ) → HasRead k all done left → left ≢ [] → BeginsWithNone k left → IsNoCode k all
none_read k all done left has some none = λ xs is.
    let (others, same, rest_is) = has.begins xs is in
    elim others as (λ (others : List Item). IsCodeOf k left others → ⊥) [
      | [] ↦ λ rest_is. some rest_is.1
      | ◌∷◌ y more ↦ λ rest_is. none y (code_of_items more) rest_is.0.0 rest_is.1
    ] rest_is

pub offset_is : (k : ItemType) (all : List ℕ) (done : List Item) (left : List ℕ) (n : ℕ) → HasRead k all done left → n ≡ length left → length (code_of_items done) ≡ length all - n
offset_is k all done left n has is = omega (arith, is, ap length has.read, length-append (code_of_items done) left)

pub count_is : (k : ItemType) (all : List ℕ) (done : List Item) (left : List ℕ) → HasRead k all done left → length done ≤ length all
count_is k all done left has = omega (arith, items_are_long done, ap length has.read, length-append (code_of_items done) left)

pub stopped : {V : Type 0} (k : ItemType) (all : List ℕ) (done : List Item) (left : List ℕ) (r : Result V DecodeError) (e : DecodeError) → HasRead k all done left → left ≢ []
    → IsNone code_of (CodableItem k) left e → r ≡ Err e → IfErr r (λ e. IsNoCode k all ⊎ (e ≡ OutOfMemory))
stopped {V} k all done left r e has some none is =
    subst (λ (r : Result V DecodeError). IfErr r (λ e. IsNoCode k all ⊎ (e ≡ OutOfMemory))) (sym is)
    (elim e as (λ (e : DecodeError). IsNone code_of (CodableItem k) left e → IsNoCode k all ⊎ (e ≡ OutOfMemory)) [
      | NoCode ↦ λ none. inl (none_read k all done left has some none)
      | OutOfMemory ↦ λ none. inr refl
    ] none)

-- the bytes begin with the code of no item, unless memory ran out
pub no_front : {V : Type 0} (k : ItemType) (code : List ℕ) (r : Result V DecodeError) (e : DecodeError) → IsNone code_of (CodableItem k) code e → r ≡ Err e
    → IfErr r (λ e. BeginsWithNone k code ⊎ (e ≡ OutOfMemory))
no_front {V} k code r e none is =
    subst (λ (r : Result V DecodeError). IfErr r (λ e. BeginsWithNone k code ⊎ (e ≡ OutOfMemory))) (sym is)
    (elim e as (λ (e : DecodeError). IsNone code_of (CodableItem k) code e → BeginsWithNone k code ⊎ (e ≡ OutOfMemory)) [
      | NoCode ↦ λ none. inl none
      | OutOfMemory ↦ λ none. inr refl
    ] none)

-- no items have the code of no bytes, and nothing of it is left
pub of_nothing : (k : ItemType) (all : List ℕ) (done : List Item) (left : List ℕ) → HasRead k all done left → all ≡ [] → (done ≡ []) × (left ≡ [])
of_nothing k all done left has none =
    let total : length (code_of_items done ++ left) ≡ 0 = ap length (sym has.read ∙ none) in (
      nil_from_length done (omega (arith, total, items_are_long done, length-append (code_of_items done) left)),
      nil_from_length left (omega (arith, total, length-append (code_of_items done) left)),
    )
