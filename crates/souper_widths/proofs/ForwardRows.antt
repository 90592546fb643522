-- The widths that a type, a row and operands force.
use Rattle.std.proofs.Common.{◌≡◌, ◌≢◌, ℕ, ◌≤◌, inl, inr, List, [], ◌∷◌, ◌++◌, Option, Some, None, refl, sym, subst, ◌∙◌, arith}
use Rattle.std.specs.Prelude.{flat_map, IfSome}
use Rattle.std.specs.List.{AllByRecursion}
use Rattle.souper_graph.specs.declared.ast.operands.«Type».{«Type» as Ty}
use Rattle.souper_graph.specs.declared.ast.operands.Operand.{Operand}
use Rattle.souper_graph.proofs.Judging.Closed.{All-both, All-first, All-second}
use Rattle.souper_widths.specs.declared.rows.Row.{Row}
use Rattle.souper_widths.specs.declared.rows.Row.TheVariants.{Input, Block, Phi, Same, Bit, Resized, Select, Condition}
use Rattle.souper_widths.specs.Maps.{WidthMap, result_width, operand_width}
use Rattle.souper_widths.specs.Equations.{result_of, operands_at, bits, Holds, type_equations, operand_equations}
use Rattle.souper_widths.specs.Table.{row_equations, row_operands, each_with}
use Rattle.souper_widths.specs.Limits.{FitsBits}
use Rattle.souper_widths.specs.Forward.{AgreesBefore, HasOwnWidth, AnyForcing, ForceWidth, IsForcedBy, IsWritten, AreJoined, equations_of_row, ForcedRow}
use Rattle.souper_widths.proofs.ForwardOperands.{own-free, own-at, own-joined, own-results, operands-solve, operands-tell, type-solves, type-tells, type-joined, written-is, bit-type}

-- the equations of a row are those of its type, of the row itself and of its operands
join-row : (m : WidthMap) (p : ℕ) (t : Option Ty) (r : Row) (xs : List Operand) → AllByRecursion (Holds m) (type_equations t (result_of p)) → AllByRecursion (Holds m) (row_equations p r)
    → AllByRecursion (Holds m) (flat_map operand_equations (row_operands p r xs)) → AllByRecursion (Holds m) (equations_of_row p t r xs)
join-row m p t r xs a b c = All-both (Holds m) (type_equations t (result_of p)) (row_equations p r ++ flat_map operand_equations (row_operands p r xs)) a
    (All-both (Holds m) (row_equations p r) (flat_map operand_equations (row_operands p r xs)) b c)

of-type : (m : WidthMap) (p : ℕ) (t : Option Ty) (r : Row) (xs : List Operand) → AllByRecursion (Holds m) (equations_of_row p t r xs) → AllByRecursion (Holds m) (type_equations t (result_of p))
of-type m p t r xs h = All-first (Holds m) (type_equations t (result_of p)) (row_equations p r ++ flat_map operand_equations (row_operands p r xs)) h

of-row : (m : WidthMap) (p : ℕ) (t : Option Ty) (r : Row) (xs : List Operand) → AllByRecursion (Holds m) (equations_of_row p t r xs) → AllByRecursion (Holds m) (row_equations p r)
of-row m p t r xs h = All-first (Holds m) (row_equations p r) (flat_map operand_equations (row_operands p r xs))
    (All-second (Holds m) (type_equations t (result_of p)) (row_equations p r ++ flat_map operand_equations (row_operands p r xs)) h)

of-operands : (m : WidthMap) (p : ℕ) (t : Option Ty) (r : Row) (xs : List Operand) → AllByRecursion (Holds m) (equations_of_row p t r xs) → AllByRecursion (Holds m) (flat_map operand_equations (row_operands p r xs))
of-operands m p t r xs h = All-second (Holds m) (row_equations p r) (flat_map operand_equations (row_operands p r xs))
    (All-second (Holds m) (type_equations t (result_of p)) (row_equations p r ++ flat_map operand_equations (row_operands p r xs)) h)

pub input-forced : (rs : List ℕ) (t : Option Ty) (w : ℕ) → IsWritten w t → w ≢ 0 → ForcedRow rs t Input [] w 0
input-forced rs t w h n = record {
  solves = λ m p a e f. join-row m p t Input [] (type-solves m p w t e (written-is w t h)) (omega (arith, e, n), (f, tt)) tt;
  only = λ m p a k. (type-tells m p w t h n (of-type m p t Input [] k), (of-row m p t Input [] k).1.0);
  single = tt;
  untyped = tt;
  values = tt;
  shown = λ z e. absurd (cc);
  fits = tt;
}

pub block-forced : (rs : List ℕ) → ForcedRow rs None Block [] 0 0
block-forced rs = record {
  solves = λ m p a e f. (e, (f, tt));
  only = λ m p a k. (k.0, k.1.0);
  single = tt;
  untyped = refl;
  values = tt;
  shown = λ z e. z refl;
  fits = tt;
}

-- a result as wide as the operands, by the type or by an operand
same-width : (m : WidthMap) (rs : List ℕ) (p a b v : ℕ) (t : Option Ty) (xs : List Operand) → AgreesBefore m rs → IsWritten a t → ForceWidth rs b xs → AreJoined a b v → v ≢ 0
    → AllByRecursion (Holds m) (type_equations t (result_of p)) → result_width m p ≡ operand_width m p → AllByRecursion (Holds m) (flat_map operand_equations (each_with (operands_at p) xs))
    → (result_width m p ≡ v) × (operand_width m p ≡ v)
same-width m rs p a b v t xs ag h (inl f) j n kt e ko =
    let used : operand_width m p ≡ v = operands-tell m rs (operands_at p) v xs ag (own-at rs b v xs (j.1 f.0) f.1) f.2 ko in
    (e ∙ used, used)
same-width m rs p a b v t xs ag h (inr f) j n kt e ko =
    let above : a ≢ 0 = (λ z. n (j.2 z f.0)) in
    let own : result_width m p ≡ v = type-tells m p a t h above kt ∙ j.0 above in
    (own, sym e ∙ own)

pub same-forced : (rs : List ℕ) (t : Option Ty) (xs : List Operand) (a b v : ℕ) → IsWritten a t → ForceWidth rs b xs → AreJoined a b v → v ≢ 0 → AllByRecursion (FitsBits v) xs → ForcedRow rs t Same xs v v
same-forced rs t xs a b v h f j n fit = record {
  solves = λ m p ag e o. join-row m p t Same xs (type-solves m p v t e (type-joined a b v t j h)) (e ∙ sym o, tt) (operands-solve m rs (operands_at p) v xs ag o n (own-joined rs a b v xs j f));
  only = λ m p ag k. same-width m rs p a b v t xs ag h f j n (of-type m p t Same xs k) (of-row m p t Same xs k).0 (of-operands m p t Same xs k);
  single = tt;
  untyped = tt;
  values = own-results rs v xs n (own-joined rs a b v xs j f);
  shown = λ z e. absurd (cc);
  fits = fit;
}

pub phi-forced : (rs : List ℕ) (t : Option Ty) (xs : List Operand) (a b v : ℕ) → IsWritten a t → ForceWidth rs b xs → AreJoined a b v → v ≢ 0 → AllByRecursion (FitsBits v) xs → ForcedRow rs t Phi xs v v
phi-forced rs t xs a b v h f j n fit = record {
  solves = λ m p ag e o. join-row m p t Phi xs (type-solves m p v t e (type-joined a b v t j h)) (e ∙ sym o, (omega (arith, e, n), tt)) (operands-solve m rs (operands_at p) v xs ag o n (own-joined rs a b v xs j f));
  only = λ m p ag k. same-width m rs p a b v t xs ag h f j n (of-type m p t Phi xs k) (of-row m p t Phi xs k).0 (of-operands m p t Phi xs k);
  single = tt;
  untyped = tt;
  values = own-results rs v xs n (own-joined rs a b v xs j f);
  shown = λ z e. absurd (cc);
  fits = fit;
}

-- operands that force a width have it
forced-own : (rs : List ℕ) (v : ℕ) (xs : List Operand) → v ≢ 0 → ForceWidth rs v xs → AllByRecursion (HasOwnWidth rs v) xs
forced-own rs v xs n (inl h) = h.1
forced-own rs v xs n (inr h) = absurd (n h.0)

forced-any : (rs : List ℕ) (v : ℕ) (xs : List Operand) → v ≢ 0 → ForceWidth rs v xs → AnyForcing xs
forced-any rs v xs n (inl h) = h.2
forced-any rs v xs n (inr h) = absurd (n h.0)

pub bit-forced : (rs : List ℕ) (t : Option Ty) (xs : List Operand) (a v : ℕ) → IsWritten a t → a ≤ 1 → IsForcedBy rs v xs → ForcedRow rs t Bit xs 1 v
bit-forced rs t xs a v h l f = record {
  solves = λ m p ag e o. join-row m p t Bit xs (type-solves m p 1 t e (bit-type a t h l)) (e, tt) (operands-solve m rs (operands_at p) v xs ag o f.0 own);
  only = λ m p ag k. ((of-row m p t Bit xs k).0, operands-tell m rs (operands_at p) v xs ag own (forced-any rs v xs f.0 f.1) (of-operands m p t Bit xs k));
  single = tt;
  untyped = tt;
  values = own-results rs v xs f.0 own;
  shown = λ z e. absurd (cc);
  fits = f.2;
}
  where
    own : AllByRecursion (HasOwnWidth rs v) xs
    own = forced-own rs v xs f.0 f.1

pub resized-forced : (rs : List ℕ) (t : Option Ty) (xs : List Operand) (w v : ℕ) → IsWritten w t → w ≢ 0 → IsForcedBy rs v xs → ForcedRow rs t Resized xs w v
resized-forced rs t xs w v h n f = record {
  solves = λ m p ag e o. join-row m p t Resized xs (type-solves m p w t e (written-is w t h)) (omega (arith, e, n), tt) (operands-solve m rs (operands_at p) v xs ag o f.0 own);
  only = λ m p ag k. (type-tells m p w t h n (of-type m p t Resized xs k), operands-tell m rs (operands_at p) v xs ag own (forced-any rs v xs f.0 f.1) (of-operands m p t Resized xs k));
  single = tt;
  untyped = tt;
  values = own-results rs v xs f.0 own;
  shown = λ z e. absurd (cc);
  fits = f.2;
}
  where
    own : AllByRecursion (HasOwnWidth rs v) xs
    own = forced-own rs v xs f.0 f.1

pub condition-forced : (rs : List ℕ) (xs : List Operand) (v : ℕ) → IsForcedBy rs v xs → ForcedRow rs None Condition xs 0 v
condition-forced rs xs v f = record {
  solves = λ m p ag e o. join-row m p None Condition xs tt (e, tt) (operands-solve m rs (operands_at p) v xs ag o f.0 own);
  only = λ m p ag k. ((of-row m p None Condition xs k).0, operands-tell m rs (operands_at p) v xs ag own (forced-any rs v xs f.0 f.1) (of-operands m p None Condition xs k));
  single = tt;
  untyped = tt;
  values = own-results rs v xs f.0 own;
  shown = λ z e. absurd (cc);
  fits = f.2;
}
  where
    own : AllByRecursion (HasOwnWidth rs v) xs
    own = forced-own rs v xs f.0 f.1

-- the condition of a select has one bit
bit-own : (rs : List ℕ) (b : ℕ) (xs : List Operand) → ForceWidth rs b xs → b ≤ 1 → AllByRecursion (HasOwnWidth rs 1) xs
bit-own rs b xs (inl h) l = own-at rs b 1 xs (omega (arith, h.0, l)) h.1
bit-own rs b xs (inr h) l = own-free rs 1 xs h.1

select-forced : (rs : List ℕ) (t : Option Ty) (c : Operand) (xs : List Operand) (b w v : ℕ) → ForceWidth rs b (c ∷ []) → b ≤ 1 → FitsBits 1 c → ForcedRow rs t Same xs w v → ForcedRow rs t Select (c ∷ xs) w v
select-forced rs t c xs b w v f l fit same = record {
  solves = λ m p ag e o.
      let k = same.solves m p ag e o in
      join-row m p t Select (c ∷ xs) (of-type m p t Same xs k) (of-row m p t Same xs k)
      (All-both (Holds m) (operand_equations (c, bits 1)) (flat_map operand_equations (each_with (operands_at p) xs))
      (All-first (Holds m) (operand_equations (c, bits 1)) [] (operands-solve m rs (bits 1) 1 (c ∷ []) ag refl one (bit-own rs b (c ∷ []) f l)))
      (of-operands m p t Same xs k));
  only = λ m p ag k. same.only m p ag (join-row m p t Same xs (of-type m p t Select (c ∷ xs) k) (of-row m p t Select (c ∷ xs) k)
      (All-second (Holds m) (operand_equations (c, bits 1)) (flat_map operand_equations (each_with (operands_at p) xs)) (of-operands m p t Select (c ∷ xs) k)));
  single = tt;
  untyped = tt;
  values = ((own-results rs 1 (c ∷ []) one (bit-own rs b (c ∷ []) f l)).0, same.values);
  shown = λ z e. absurd (cc);
  fits = (fit, same.fits);
}
  where
    one : ◌≢◌ {A = ℕ} 1 0
    one = λ e. absurd (omega (arith, e))

-- a row and operands that are known
pub known-row : (own : Row) (rs : List ℕ) (t : Option Ty) (r : Row) (xs ys : List Operand) (o : Option (ℕ × ℕ)) → r ≡ own → xs ≡ ys → IfSome o (λ widths. ForcedRow rs t own ys widths.0 widths.1)
    → IfSome o (λ widths. ForcedRow rs t r xs widths.0 widths.1)
known-row own rs t r xs ys None e f h = tt
known-row own rs t r xs ys (Some widths) e f h =
    subst (λ (z : Row). ForcedRow rs t z xs widths.0 widths.1) (sym e) (subst (λ (z : List Operand). ForcedRow rs t own z widths.0 widths.1) (sym f) h)

-- a row that is known, with no operands
pub without-operands : (own : Row) (rs : List ℕ) (t : Option Ty) (r : Row) (xs : List Operand) (o : Option (ℕ × ℕ)) → r ≡ own → xs ≡ [] → IfSome o (λ widths. (ks : List ℕ) → ForcedRow ks t own [] widths.0 widths.1)
    → IfSome o (λ widths. ForcedRow rs t r xs widths.0 widths.1)
without-operands own rs t r xs None e f h = tt
without-operands own rs t r xs (Some widths) e f h =
    subst (λ (z : Row). ForcedRow rs t z xs widths.0 widths.1) (sym e) (subst (λ (z : List Operand). ForcedRow rs t own z widths.0 widths.1) (sym f) (h rs))

pub select-some : (rs : List ℕ) (t : Option Ty) (c : Operand) (arms xs : List Operand) (b : ℕ) (o : Option (ℕ × ℕ)) → xs ≡ c ∷ arms → ForceWidth rs b (c ∷ []) → b ≤ 1 → FitsBits 1 c
    → IfSome o (λ widths. ForcedRow rs t Same arms widths.0 widths.1) → IfSome o (λ widths. ForcedRow rs t Select xs widths.0 widths.1)
select-some rs t c arms xs b None e f l fit h = tt
select-some rs t c arms xs b (Some widths) e f l fit h =
    subst (λ (z : List Operand). ForcedRow rs t Select z widths.0 widths.1) (sym e) (select-forced rs t c arms b widths.0 widths.1 f l fit h)
