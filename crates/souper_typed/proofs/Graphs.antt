-- Written items: the same graph, and well formed.
use Rattle.std.proofs.Common.{◌≡◌, ℕ, zero, suc, ◌+◌, ◌<◌, List, [], ◌∷◌, ◌++◌, Bool, map, length, Option, Some, None, refl, sym, ap, subst, ◌∙◌, arith}
use Rattle.std.specs.Prelude.{if◌then◌else◌, slice_get, option_map}
use Rattle.std.specs.List.{AllByRecursion}
use Rattle.std.proofs.lemmas.List.{length-map}
use Rattle.souper_graph.specs.Values.{PlainRhs, phi, PlainAssignment, PlainStatement, assigned, condition, block_condition, Ending, Item}
use Rattle.souper_graph.specs.Uses.{Has, Use, value_use, block_use, position_of, uses_of, uses_of_optional, used_at, is_condition, conditions_from, conditions, first_roots, last_roots, roots_of, first_walks, walks_of, Needed, walked, used, NeededIn}
use Rattle.souper_graph.specs.WellFormed.{IsAssigned, IsBlock, IsMet, AreMet, FitsStatement, predecessors_of, predecessors_at, AgreesRhs, AgreesWithBlock, Closed, AreNamedApart, WellFormed}
use Rattle.souper_graph.specs.Judging.{assigned_name}
use Rattle.souper_widths.specs.Maps.{WidthMap, result_width, operand_width}
use Rattle.souper_typed.specs.declared.form.Form.{Form}
use Rattle.souper_typed.specs.Written.{written_operand, written_rhs, written_statement, has_none, written_with, written_from, written_ending, written_item}
use Rattle.souper_typed.proofs.WrittenStatements.{either, Alike, alike-with, with-fits, with-again, ending-again, first-roots_are, last-roots_are, ending-fits}

-- the statement of position p
abbrev pub written_at : Form → WidthMap → ℕ → PlainStatement → PlainStatement
written_at f m p s = written_with f (result_width m p) (operand_width m p) s

at-from : (f : Form) (m : WidthMap) (k : ℕ) (ss : List PlainStatement) (i : ℕ) → slice_get (written_from f m k ss) i ≡ option_map (written_at f m (k + i)) (slice_get ss i)
at-from f m k [] i = refl
at-from f m k (s ∷ ss) zero = ap (λ (n : ℕ). Some (written_at f m n s)) (omega arith)
at-from f m k (s ∷ ss) (suc i) =
    let e : suc k + i ≡ k + suc i = omega arith in
    at-from f m (suc k) ss i ∙ ap (λ (n : ℕ). option_map (written_at f m n) (slice_get ss i)) e

-- what stands at a position
pub at-is : (f : Form) (m : WidthMap) (ss : List PlainStatement) (i : ℕ) → slice_get (written_from f m 0 ss) i ≡ option_map (written_at f m i) (slice_get ss i)
at-is f m ss i =
    let e : 0 + i ≡ i = omega arith in
    at-from f m 0 ss i ∙ ap (λ (n : ℕ). option_map (written_at f m n) (slice_get ss i)) e

pub length-written : (f : Form) (m : WidthMap) (k : ℕ) (ss : List PlainStatement) → length (written_from f m k ss) ≡ length ss
length-written f m k [] = refl
length-written f m k (s ∷ ss) = ap suc (length-written f m (suc k) ss)

from-again : (f : Form) (m : WidthMap) (k : ℕ) (ss : List PlainStatement) → written_from f m k (written_from f m k ss) ≡ written_from f m k ss
from-again f m k [] = refl
from-again f m k (s ∷ ss) =
    ap (λ (z : PlainStatement). z ∷ written_from f m (suc k) (written_from f m (suc k) ss)) (with-again f (result_width m k) (operand_width m k) s)
    ∙ ap (λ (z : List PlainStatement). written_at f m k s ∷ z) (from-again f m (suc k) ss)

abbrev item_of : List PlainStatement → Ending → Item
item_of ss e = record { statements = ss; ending = e }

pub item-again : (f : Form) (m : WidthMap) (a : Item) → written_item f m (written_item f m a) ≡ written_item f m a
item-again f m a =
    let b : Item = written_item f m a in
    ap (λ (z : List PlainStatement). item_of z (written_ending f m.root b.ending)) (from-again f m 0 a.statements)
    ∙ ap (λ (z : Ending). item_of b.statements z) (ending-again f m.root a.ending)

conditions-are : (f : Form) (m : WidthMap) (k : ℕ) (ss : List PlainStatement) → conditions_from k (written_from f m k ss) ≡ conditions_from k ss
conditions-are f m k [] = refl
conditions-are f m k (s ∷ ss) =
    let a : Alike s (written_at f m k s) = alike-with f (result_width m k) (operand_width m k) s in
    let rest : List ℕ = conditions_from (suc k) (written_from f m (suc k) ss) in
    ap (λ (b : Bool). if b then k ∷ rest else rest) a.conditional ∙ ap (λ (z : List ℕ). if is_condition s then k ∷ z else z) (conditions-are f m (suc k) ss)

-- a property of what stands at a position, of an optional statement and its written form
on-optional : (P : Option PlainStatement → Option PlainStatement → Type 0) (h : PlainStatement → PlainStatement) → P None None → ((s : PlainStatement) → P (Some s) (Some (h s))) → (o : Option PlainStatement) → P o (option_map h o)
on-optional P h n k None = n
on-optional P h n k (Some s) = k s

pub on-written : (P : Option PlainStatement → Option PlainStatement → Type 0) → P None None → ((s t : PlainStatement) → Alike s t → P (Some s) (Some t)) → (f : Form) (m : WidthMap) (ss : List PlainStatement) (i : ℕ) → P (slice_get ss i) (slice_get (written_from f m 0 ss) i)
on-written P n k f m ss i =
    subst (λ (z : Option PlainStatement). P (slice_get ss i) z) (sym (at-is f m ss i))
    (on-optional P (written_at f m i) n (λ s. k s (written_at f m i s) (alike-with f (result_width m i) (operand_width m i) s)) (slice_get ss i))

used-are : (f : Form) (m : WidthMap) (ss : List PlainStatement) (i : ℕ) → used_at (written_from f m 0 ss) i ≡ used_at ss i
used-are f m ss i = on-written (λ o q. map position_of (uses_of_optional q) ≡ map position_of (uses_of_optional o)) refl (λ s t a. ap (λ (z : List Use). map position_of z) a.uses) f m ss i

walks-are : (f : Form) (m : WidthMap) (a : Item) → walks_of (written_item f m a) ≡ walks_of a
walks-are f m a =
    let e = written_ending f m.root a.ending in
    ap (λ (z : List Use). (map position_of z ++ conditions (written_item f m a)) ++ map position_of (last_roots e)) (first-roots_are f m.root a.ending)
    ∙ ap (λ (z : List ℕ). (map position_of (first_roots a.ending) ++ z) ++ map position_of (last_roots e)) (conditions-are f m 0 a.statements)
    ∙ ap (λ (z : List Use). first_walks a ++ map position_of z) (last-roots_are f m.root a.ending)

needed-by : (ss ts : List PlainStatement) (ws vs : List ℕ) → ((i : ℕ) → used_at ts i ≡ used_at ss i) → vs ≡ ws → (i : ℕ) → Needed ss ws i → Needed ts vs i
needed-by ss ts ws vs u e i (walked h) = walked (subst (λ (z : List ℕ). Has z i) (sym e) h)
needed-by ss ts ws vs u e i (used {i = p} n h) = used (needed-by ss ts ws vs u e p n) (subst (λ (z : List ℕ). Has z i) (sym (u p)) h)

pub needed-to : (f : Form) (m : WidthMap) (a : Item) (i : ℕ) → NeededIn a i → NeededIn (written_item f m a) i
needed-to f m a i n = needed-by a.statements (written_from f m 0 a.statements) (walks_of a) (walks_of (written_item f m a)) (used-are f m a.statements) (walks-are f m a) i n

pub needed-from : (f : Form) (m : WidthMap) (a : Item) (i : ℕ) → NeededIn (written_item f m a) i → NeededIn a i
needed-from f m a i n = needed-by (written_from f m 0 a.statements) a.statements (walks_of (written_item f m a)) (walks_of a) (λ k. sym (used-are f m a.statements k)) (sym (walks-are f m a)) i n

-- what a use asks for is there
pub block-to : (f : Form) (m : WidthMap) (ss : List PlainStatement) (i : ℕ) → IsBlock (slice_get ss i) → IsBlock (slice_get (written_from f m 0 ss) i)
block-to f m ss i = on-written (λ o q. IsBlock o → IsBlock q) (λ h. h) (λ s t a. a.block_to) f m ss i

pub block-from : (f : Form) (m : WidthMap) (ss : List PlainStatement) (i : ℕ) → IsBlock (slice_get (written_from f m 0 ss) i) → IsBlock (slice_get ss i)
block-from f m ss i = on-written (λ o q. IsBlock q → IsBlock o) (λ h. h) (λ s t a. a.block_from) f m ss i

met-to : (f : Form) (m : WidthMap) (ss : List PlainStatement) (u : Use) → IsMet ss u → IsMet (written_from f m 0 ss) u
met-to f m ss (value_use i) = on-written (λ o q. IsAssigned o → IsAssigned q) (λ h. h) (λ s t a. a.is_assigned) f m ss i
met-to f m ss (block_use i) = block-to f m ss i

predecessors-are : (f : Form) (m : WidthMap) (ss : List PlainStatement) (i : ℕ) → predecessors_at (written_from f m 0 ss) i ≡ predecessors_at ss i
predecessors-are f m ss i = on-written (λ o q. predecessors_of q ≡ predecessors_of o) refl (λ s t a. a.counted) f m ss i

rhs-agrees : (f : Form) (m : WidthMap) (ss : List PlainStatement) (v : ℕ) (x : PlainRhs) → AgreesRhs ss x → AgreesRhs (written_from f m 0 ss) (written_rhs f v x)
rhs-agrees f m ss v (phi p) h = length-map p.values (written_operand f v) ∙ h ∙ sym (predecessors-are f m ss p.block)
rhs-agrees f m ss v x h = tt

same-agrees : (f : Form) (m : WidthMap) (ss : List PlainStatement) (x : PlainRhs) → AgreesRhs ss x → AgreesRhs (written_from f m 0 ss) x
same-agrees f m ss (phi p) h = h ∙ sym (predecessors-are f m ss p.block)
same-agrees f m ss x h = tt

self-agrees : (f : Form) (m : WidthMap) (ss : List PlainStatement) (s : PlainStatement) → AgreesWithBlock ss s → AgreesWithBlock (written_from f m 0 ss) s
self-agrees f m ss (assigned a) h = same-agrees f m ss a.value h
self-agrees f m ss (condition c) h = tt
self-agrees f m ss (block_condition c) h = subst (λ (z : ℕ). c.predecessor < z) (sym (predecessors-are f m ss c.block)) h

written-agrees : (f : Form) (m : WidthMap) (ss : List PlainStatement) (w v : ℕ) (s : PlainStatement) → AgreesWithBlock ss s → AgreesWithBlock (written_from f m 0 ss) (written_statement f w v s)
written-agrees f m ss w v (assigned a) h = rhs-agrees f m ss v a.value h
written-agrees f m ss w v (condition c) h = tt
written-agrees f m ss w v (block_condition c) h = self-agrees f m ss (block_condition c) h

with-agrees : (f : Form) (m : WidthMap) (ss : List PlainStatement) (w v : ℕ) (s : PlainStatement) → AgreesWithBlock ss s → AgreesWithBlock (written_from f m 0 ss) (written_with f w v s)
with-agrees f m ss w v s h = either (AgreesWithBlock (written_from f m 0 ss)) (has_none w v) s (written_statement f w v s) (self-agrees f m ss s h) (written-agrees f m ss w v s h)

with-closed : (f : Form) (m : WidthMap) (ss : List PlainStatement) (p : ℕ) (s : PlainStatement) → Closed ss p s → Closed (written_from f m 0 ss) p (written_at f m p s)
with-closed f m ss p s c =
    let w = result_width m p in
    let v = operand_width m p in
    let a : Alike s (written_at f m p s) = alike-with f w v s in
    record {
      fits = with-fits f w v s c.fits;
      below = λ u h. c.below u (subst (λ (z : List Use). Has z u) a.uses h);
      met = λ u h. met-to f m ss u (c.met u (subst (λ (z : List Use). Has z u) a.uses h));
      agrees = with-agrees f m ss w v s c.agrees;
    }

-- a statement at a position was one before
pub was-there : (h : PlainStatement → PlainStatement) (o : Option PlainStatement) (t : PlainStatement) → option_map h o ≡ Some t → (s : PlainStatement) × (o ≡ Some s) × (h s ≡ t)
was-there h None t e = absurd (cc)
was-there h (Some s) t e = (s, refl, let k : h s ≡ t = cc in k)

closed-at : (f : Form) (m : WidthMap) (a : Item) (p : ℕ) (t : PlainStatement) → WellFormed a → NeededIn a p → slice_get (written_from f m 0 a.statements) p ≡ Some t → Closed (written_from f m 0 a.statements) p t
closed-at f m a p t wf n e =
    let r = was-there (written_at f m p) (slice_get a.statements p) t (sym (at-is f m a.statements p) ∙ e) in
    subst (Closed (written_from f m 0 a.statements) p) r.2 (with-closed f m a.statements p r.0 (wf.closed p r.0 n r.1))

-- the assignment that a name is from
named-there : (o : Option PlainStatement) (n : List ℕ) → assigned_name o ≡ Some n → (v : PlainAssignment) × (o ≡ Some (assigned v)) × (v.name ≡ n)
named-there None n e = absurd (cc)
named-there (Some (assigned a)) n e = (a, refl, let k : a.name ≡ n = cc in k)
named-there (Some (condition c)) n e = absurd (cc)
named-there (Some (block_condition c)) n e = absurd (cc)

names-are : (f : Form) (m : WidthMap) (ss : List PlainStatement) (i : ℕ) → assigned_name (slice_get (written_from f m 0 ss) i) ≡ assigned_name (slice_get ss i)
names-are f m ss i = on-written (λ o q. assigned_name q ≡ assigned_name o) refl (λ s t a. a.named) f m ss i

was-named : (f : Form) (m : WidthMap) (ss : List PlainStatement) (p : ℕ) (v : PlainAssignment) → slice_get (written_from f m 0 ss) p ≡ Some (assigned v) → (x : PlainAssignment) × (slice_get ss p ≡ Some (assigned x)) × (x.name ≡ v.name)
was-named f m ss p v e = named-there (slice_get ss p) v.name (sym (names-are f m ss p) ∙ ap assigned_name e)

apart : (f : Form) (m : WidthMap) (a : Item) → WellFormed a → AreNamedApart (written_from f m 0 a.statements) (NeededIn (written_item f m a))
apart f m a wf p q v w np nq ev ew same =
    let x = was-named f m a.statements p v ev in
    let y = was-named f m a.statements q w ew in
    wf.named_apart p q x.0 y.0 (needed-from f m a p np) (needed-from f m a q nq) x.1 y.1 (x.2 ∙ same ∙ sym y.2)

roots-are : (f : Form) (m : WidthMap) (a : Item) → roots_of (written_ending f m.root a.ending) ≡ roots_of a.ending
roots-are f m a =
    ap (λ (z : List Use). z ++ last_roots (written_ending f m.root a.ending)) (first-roots_are f m.root a.ending) ∙ ap (λ (z : List Use). first_roots a.ending ++ z) (last-roots_are f m.root a.ending)

pub item-well_formed : (f : Form) (m : WidthMap) (a : Item) → WellFormed a → WellFormed (written_item f m a)
item-well_formed f m a wf = record {
  roots_met = λ u h. met-to f m a.statements u (wf.roots_met u (subst (λ (z : List Use). Has z u) (roots-are f m a) h));
  ending_fits = ending-fits f m.root a.ending wf.ending_fits;
  closed = λ p t n e. closed-at f m a p t wf (needed-from f m a p n) e;
  named_apart = apart f m a wf;
}
