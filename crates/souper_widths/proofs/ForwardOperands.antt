-- Operands whose widths earlier results and written types force.
use Rattle.std.proofs.Common.{◌≡◌, ◌≢◌, ℕ, ◌+◌, ◌<◌, ◌≤◌, inl, inr, List, [], ◌∷◌, ◌++◌, length, get_or, take, Option, Some, None, sym, ap, subst, ◌∙◌, arith}
use Rattle.std.specs.Prelude.{flat_map}
use Rattle.std.specs.List.{AllByRecursion}
use Rattle.std.proofs.lemmas.List.{take_more}
use Rattle.souper_graph.specs.declared.ast.operands.«Type».{«Type» as Ty}
use Rattle.souper_graph.specs.declared.ast.operands.Operand.{Operand}
use Rattle.souper_graph.specs.declared.ast.operands.Operand.TheVariants.{Value, Constant}
use Rattle.souper_graph.proofs.Judging.Closed.{All-both, All-first, All-second}
use Rattle.souper_widths.specs.Maps.{WidthMap, result_width}
use Rattle.souper_widths.specs.Equations.{Width, result_of, width_by, Holds, type_equations, constant_equations, operand_equations}
use Rattle.souper_widths.specs.Table.{each_with}
use Rattle.souper_widths.specs.Forward.{AgreesBefore, IsTypeOf, HasType, HasOwnWidth, IsForcing, AnyForcing, ForceWidth, IsWritten, AreJoined, HasResult}

free-type : (v : ℕ) (t : Option Ty) → ¬ HasType t → IsTypeOf v t
free-type v None h = tt
free-type v (Some t) h = absurd (h tt)

-- operands without a width of their own may have any
pub own-free : (rs : List ℕ) (v : ℕ) (xs : List Operand) → AllByRecursion (λ x. ¬ IsForcing x) xs → AllByRecursion (HasOwnWidth rs v) xs
own-free rs v [] h = tt
own-free rs v (Value i ∷ xs) h = absurd (h.0 tt)
own-free rs v (Constant c ∷ xs) h = (free-type v c.ty h.0, own-free rs v xs h.1)

any-left : (xs ys : List Operand) → AnyForcing xs → AnyForcing (xs ++ ys)
any-left [] ys h = absurd h
any-left (x ∷ xs) ys (inl h) = inl h
any-left (x ∷ xs) ys (inr h) = inr (any-left xs ys h)

any-right : (xs ys : List Operand) → AnyForcing ys → AnyForcing (xs ++ ys)
any-right [] ys h = h
any-right (x ∷ xs) ys h = inr (any-right xs ys h)

pub own-at : (rs : List ℕ) (v w : ℕ) (xs : List Operand) → v ≡ w → AllByRecursion (HasOwnWidth rs v) xs → AllByRecursion (HasOwnWidth rs w) xs
own-at rs v w xs e h = subst (λ (z : ℕ). AllByRecursion (HasOwnWidth rs z) xs) e h

-- two lists of operands, by the width that is joined of theirs
pub force-both : (rs : List ℕ) (a b c : ℕ) (xs ys : List Operand) → AreJoined a b c → ForceWidth rs a xs → ForceWidth rs b ys → ForceWidth rs c (xs ++ ys)
force-both rs a b c xs ys j (inl h) (inl k) = inl (
  (λ e. h.0 (j.0 h.0 ∙ e)),
  All-both (HasOwnWidth rs c) xs ys (own-at rs a c xs (j.0 h.0) h.1) (own-at rs b c ys (j.1 k.0) k.1),
  any-left xs ys h.2,
)
force-both rs a b c xs ys j (inl h) (inr k) = inl (
  (λ e. h.0 (j.0 h.0 ∙ e)),
  All-both (HasOwnWidth rs c) xs ys (own-at rs a c xs (j.0 h.0) h.1) (own-free rs c ys k.1),
  any-left xs ys h.2,
)
force-both rs a b c xs ys j (inr h) (inl k) = inl (
  (λ e. k.0 (j.1 k.0 ∙ e)),
  All-both (HasOwnWidth rs c) xs ys (own-free rs c xs h.1) (own-at rs b c ys (j.1 k.0) k.1),
  any-right xs ys k.2,
)
force-both rs a b c xs ys j (inr h) (inr k) = inr (j.2 h.0 k.0, All-both (λ x. ¬ IsForcing x) xs ys h.1 k.1)

-- one more operand
pub force-more : (rs : List ℕ) (a b c : ℕ) (xs : List Operand) (k : ℕ) (x : Operand) → k < length xs → x ≡ get_or xs k x → AreJoined a b c → ForceWidth rs a (take k xs) → ForceWidth rs b (x ∷ []) → ForceWidth rs c (take (k + 1) xs)
force-more rs a b c xs k x l e j h f = subst (ForceWidth rs c) (sym (take_more xs k x l ∙ ap (λ (z : Operand). take k xs ++ z ∷ []) (sym e))) (force-both rs a b c (take k xs) (x ∷ []) j h f)

-- the width that is joined of another and of operands is that of the operands
pub own-joined : (rs : List ℕ) (a b c : ℕ) (xs : List Operand) → AreJoined a b c → ForceWidth rs b xs → AllByRecursion (HasOwnWidth rs c) xs
own-joined rs a b c xs j (inl h) = own-at rs b c xs (j.1 h.0) h.1
own-joined rs a b c xs j (inr h) = own-free rs c xs h.1

-- values with widths of their own have results
pub own-results : (rs : List ℕ) (v : ℕ) (xs : List Operand) → v ≢ 0 → AllByRecursion (HasOwnWidth rs v) xs → AllByRecursion (HasResult rs) xs
own-results rs v [] n h = tt
own-results rs v (Value i ∷ xs) n h = ((h.0.0, λ e. n (sym h.0.1 ∙ e)), own-results rs v xs n h.1)
own-results rs v (Constant c ∷ xs) n h = (tt, own-results rs v xs n h.1)

constant-solves : (m : WidthMap) (x : Width) (v : ℕ) (t : Option Ty) → width_by m x ≡ v → IsTypeOf v t → AllByRecursion (Holds m) (constant_equations t x)
constant-solves m x v None e h = tt
constant-solves m x v (Some t) e h = (h ∙ sym e, tt)

-- the equations of operands hold if a map has their width
pub operands-solve : (m : WidthMap) (rs : List ℕ) (x : Width) (v : ℕ) (xs : List Operand) → AgreesBefore m rs → width_by m x ≡ v → v ≢ 0 → AllByRecursion (HasOwnWidth rs v) xs
    → AllByRecursion (Holds m) (flat_map operand_equations (each_with x xs))
operands-solve m rs x v [] a e n h = tt
operands-solve m rs x v (Value i ∷ xs) a e n h = (omega (arith, e, n), (a i h.0.0 ∙ h.0.1 ∙ sym e, operands-solve m rs x v xs a e n h.1))
operands-solve m rs x v (Constant c ∷ xs) a e n h = (
  omega (arith, e, n),
  All-both (Holds m) (constant_equations c.ty x) (flat_map operand_equations (each_with x xs)) (constant-solves m x v c.ty e h.0) (operands-solve m rs x v xs a e n h.1),
)

constant-tells : (m : WidthMap) (x : Width) (v : ℕ) (t : Option Ty) → HasType t → IsTypeOf v t → AllByRecursion (Holds m) (constant_equations t x) → width_by m x ≡ v
constant-tells m x v None f h k = absurd f
constant-tells m x v (Some t) f h k = sym k.0 ∙ h

-- a map that solves the equations of operands has the width that one of them forces
pub operands-tell : (m : WidthMap) (rs : List ℕ) (x : Width) (v : ℕ) (xs : List Operand) → AgreesBefore m rs → AllByRecursion (HasOwnWidth rs v) xs → AnyForcing xs
    → AllByRecursion (Holds m) (flat_map operand_equations (each_with x xs)) → width_by m x ≡ v
operands-tell m rs x v [] a h f k = absurd f
operands-tell m rs x v (Value i ∷ xs) a h f k = sym k.1.0 ∙ a i h.0.0 ∙ h.0.1
operands-tell m rs x v (Constant c ∷ xs) a h (inl f) k =
    constant-tells m x v c.ty f h.0 (All-first (Holds m) (constant_equations c.ty x) (flat_map operand_equations (each_with x xs)) k.1)
operands-tell m rs x v (Constant c ∷ xs) a h (inr f) k =
    operands-tell m rs x v xs a h.1 f (All-second (Holds m) (constant_equations c.ty x) (flat_map operand_equations (each_with x xs)) k.1)

-- a written type of w bits
pub type-solves : (m : WidthMap) (p w : ℕ) (t : Option Ty) → result_width m p ≡ w → IsTypeOf w t → AllByRecursion (Holds m) (type_equations t (result_of p))
type-solves m p w None e h = tt
type-solves m p w (Some t) e h = (e ∙ sym h, tt)

pub type-tells : (m : WidthMap) (p w : ℕ) (t : Option Ty) → IsWritten w t → w ≢ 0 → AllByRecursion (Holds m) (type_equations t (result_of p)) → result_width m p ≡ w
type-tells m p w None h n k = absurd (n h)
type-tells m p w (Some t) h n k = k.0 ∙ h.1

-- the width that is joined of a type's and of another
pub type-joined : (a b c : ℕ) (t : Option Ty) → AreJoined a b c → IsWritten a t → IsTypeOf c t
type-joined a b c None j h = tt
type-joined a b c (Some t) j h = h.1 ∙ j.0 h.0

pub written-is : (w : ℕ) (t : Option Ty) → IsWritten w t → IsTypeOf w t
written-is w None h = tt
written-is w (Some t) h = h.1

-- a type of one bit at most
pub bit-type : (w : ℕ) (t : Option Ty) → IsWritten w t → w ≤ 1 → IsTypeOf 1 t
bit-type w None h l = tt
bit-type w (Some t) h l = omega (arith, h.0, h.1, l)
