-- The operands of a needed statement of a well-formed item, and of its last lines.
use Rattle.std.proofs.Common.{◌≡◌, ℕ, inl, inr, List, [], ◌∷◌, ◌++◌, length, map, Option, Some, refl, sym, subst}
use Rattle.std.specs.Prelude.{slice_get}
use Rattle.std.specs.List.{AllByRecursion}
use Rattle.std.proofs.lemmas.List.{append-nil}
use Rattle.souper_graph.specs.declared.ast.operands.Operand.{Operand}
use Rattle.souper_graph.specs.declared.ast.operands.Operand.TheVariants.{Value, Constant}
use Rattle.souper_graph.specs.Values.{PlainRhs, var, block, phi, reserved_inst, reserved_const, instruction, PlainStatement, assigned, condition, block_condition, Ending, inferred, resulting, replaced, candidate, Item}
use Rattle.souper_graph.specs.Uses.{Has, Use, value_use, position_of, uses_of_operand, uses_of_operands, uses_of_rhs, uses_of, uses_of_optional, roots_of, used, NeededIn}
use Rattle.souper_graph.specs.WellFormed.{FitsOperand, FitsRhs, FitsStatement, FitsEnding, Closed, WellFormed}
use Rattle.souper_graph.proofs.Lists.{Has-map}
use Rattle.souper_graph.specs.declared.ast.flaws.FlawLocation.{FlawLocation}
use Rattle.souper_graph.specs.declared.ast.flaws.FlawLocation.TheVariants.{Infer, Result, Cand}
use Rattle.souper_graph.specs.Flaws.{line_operands}
use Rattle.souper_graph.proofs.Judging.Needed.{met-inside, root-walked}
use Rattle.souper_widths.specs.Table.{operands_of_rhs, operands_in}
use Rattle.souper_widths.specs.Nodes.{UseMet, OperandMet}

-- a property of uses, of an operand
abbrev pub OnOperand : (Use → Type 0) → Operand → Type 0
OnOperand P (Value i) = P (value_use i)
OnOperand P (Constant c) = Unit {0}

pub from-uses : (P : Use → Type 0) (xs : List Operand) → ((u : Use) → Has (uses_of_operands xs) u → P u) → AllByRecursion (OnOperand P) xs
from-uses P [] h = tt
from-uses P (Value i ∷ xs) h = (h (value_use i) (inl refl), from-uses P xs (λ u k. h u (inr k)))
from-uses P (Constant c ∷ xs) h = (tt, from-uses P xs h)

operand-met : (a : Item) (p : ℕ) (x : Operand) → OnOperand (UseMet a p) x → FitsOperand x → OperandMet a p x
operand-met a p (Value i) h f = h
operand-met a p (Constant c) h f = f.1

pub operands-met : (a : Item) (p : ℕ) (xs : List Operand) → AllByRecursion (OnOperand (UseMet a p)) xs → AllByRecursion FitsOperand xs → AllByRecursion (OperandMet a p) xs
operands-met a p [] h f = tt
operands-met a p (x ∷ xs) h f = (operand-met a p x h.0 f.0, operands-met a p xs h.1 f.1)

rhs-uses : (x : PlainRhs) (u : Use) → Has (uses_of_operands (operands_of_rhs x)) u → Has (uses_of_rhs x) u
rhs-uses var u h = h
rhs-uses (block b) u h = h
rhs-uses (phi p) u h = inr h
rhs-uses reserved_inst u h = h
rhs-uses reserved_const u h = h
rhs-uses (instruction i) u h = h

two-uses : (x y : Operand) (u : Use) → Has (uses_of_operands (x ∷ y ∷ [])) u → Has (uses_of_operand x ++ uses_of_operand y) u
two-uses x y u h = subst (λ (z : List Use). Has (uses_of_operand x ++ z) u) (append-nil (uses_of_operand y)) h

operand-uses : (s : PlainStatement) (u : Use) → Has (uses_of_operands (operands_in s)) u → Has (uses_of s) u
operand-uses (assigned a) u h = rhs-uses a.value u h
operand-uses (condition c) u h = two-uses c.x c.y u h
operand-uses (block_condition c) u h = inr (two-uses c.x c.y u h)

rhs-fit : (x : PlainRhs) → FitsRhs x → AllByRecursion FitsOperand (operands_of_rhs x)
rhs-fit var h = tt
rhs-fit (block b) h = tt
rhs-fit (phi p) h = h
rhs-fit reserved_inst h = tt
rhs-fit reserved_const h = tt
rhs-fit (instruction i) h = h

statement-fit : (s : PlainStatement) → FitsStatement s → AllByRecursion FitsOperand (operands_in s)
statement-fit (assigned a) h = rhs-fit a.value h.value_fits
statement-fit (condition c) h = (h.0, (h.1, tt))
statement-fit (block_condition c) h = (h.1, (h.2, tt))

-- what a needed statement uses is needed, earlier, and of its kind
use-met : (a : Item) (p : ℕ) (s : PlainStatement) → WellFormed a → NeededIn a p → slice_get a.statements p ≡ Some s → (u : Use) → Has (uses_of s) u → UseMet a p u
use-met a p s w n e u h =
    let c : Closed a.statements p s = w.closed p s n e in
    (c.below u h, c.met u h, used n (subst (λ (z : Option PlainStatement). Has (map position_of (uses_of_optional z)) (position_of u)) (sym e) (Has-map position_of (uses_of s) u h)))

pub statement-met : (a : Item) (p : ℕ) (s : PlainStatement) → WellFormed a → NeededIn a p → slice_get a.statements p ≡ Some s → AllByRecursion (OperandMet a p) (operands_in s)
statement-met a p s w n e = operands-met a p (operands_in s) (from-uses (UseMet a p) (operands_in s) (λ u h. use-met a p s w n e u (operand-uses s u h))) (statement-fit s (w.closed p s n e).fits)

root-met : (a : Item) (u : Use) → WellFormed a → Has (roots_of a.ending) u → UseMet a (length a.statements) u
root-met a u w h = (met-inside a.statements u (w.roots_met u h), w.roots_met u h, root-walked a u h)

infer-uses : (e : Ending) (u : Use) → Has (uses_of_operands (line_operands Infer e)) u → Has (roots_of e) u
infer-uses (inferred i) u h = h
infer-uses (resulting x) u h = absurd h
infer-uses (replaced i x) u h = elim h [ inl k ↦ inl k | inr k ↦ absurd k ]
infer-uses (candidate c) u h = absurd h

result-uses : (e : Ending) (u : Use) → Has (uses_of_operands (line_operands Result e)) u → Has (roots_of e) u
result-uses (inferred i) u h = absurd h
result-uses (resulting x) u h = h
result-uses (replaced i x) u h = inr (subst (λ (z : List Use). Has z u) (append-nil (uses_of_operand x)) h)
result-uses (candidate c) u h = absurd h

cand-uses : (e : Ending) (u : Use) → Has (uses_of_operands (line_operands Cand e)) u → Has (roots_of e) u
cand-uses (inferred i) u h = absurd h
cand-uses (resulting x) u h = absurd h
cand-uses (replaced i x) u h = absurd h
cand-uses (candidate c) u h = subst (λ (z : List Use). Has z u) (sym (append-nil (uses_of_operand c.lhs ++ uses_of_operand c.rhs))) (two-uses c.lhs c.rhs u h)

infer-fit : (e : Ending) → FitsEnding e → AllByRecursion FitsOperand (line_operands Infer e)
infer-fit (inferred i) h = (tt, tt)
infer-fit (resulting x) h = tt
infer-fit (replaced i x) h = (tt, tt)
infer-fit (candidate c) h = tt

result-fit : (e : Ending) → FitsEnding e → AllByRecursion FitsOperand (line_operands Result e)
result-fit (inferred i) h = tt
result-fit (resulting x) h = (h, tt)
result-fit (replaced i x) h = (h.1, tt)
result-fit (candidate c) h = tt

cand-fit : (e : Ending) → FitsEnding e → AllByRecursion FitsOperand (line_operands Cand e)
cand-fit (inferred i) h = tt
cand-fit (resulting x) h = tt
cand-fit (replaced i x) h = tt
cand-fit (candidate c) h = (h.0, (h.1, tt))

line-met : (a : Item) (l : FlawLocation) → WellFormed a → ((u : Use) → Has (uses_of_operands (line_operands l a.ending)) u → Has (roots_of a.ending) u) → AllByRecursion FitsOperand (line_operands l a.ending)
    → AllByRecursion (OperandMet a (length a.statements)) (line_operands l a.ending)
line-met a l w among fit = operands-met a (length a.statements) (line_operands l a.ending) (from-uses (UseMet a (length a.statements)) (line_operands l a.ending) (λ u h. root-met a u w (among u h))) fit

pub infer-met : (a : Item) → WellFormed a → AllByRecursion (OperandMet a (length a.statements)) (line_operands Infer a.ending)
infer-met a w = line-met a Infer w (infer-uses a.ending) (infer-fit a.ending w.ending_fits)

pub result-met : (a : Item) → WellFormed a → AllByRecursion (OperandMet a (length a.statements)) (line_operands Result a.ending)
result-met a w = line-met a Result w (result-uses a.ending) (result-fit a.ending w.ending_fits)

pub cand-met : (a : Item) → WellFormed a → AllByRecursion (OperandMet a (length a.statements)) (line_operands Cand a.ending)
cand-met a w = line-met a Cand w (cand-uses a.ending) (cand-fit a.ending w.ending_fits)
