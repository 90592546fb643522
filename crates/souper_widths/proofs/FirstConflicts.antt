-- The classes of the places so far: their solutions, and the first conflict.
use Rattle.std.proofs.Common.{◌≡◌, ◌≢◌, ℕ, ◌+◌, ◌-◌, ◌<◌, inl, inr, Bool, true, false, cond, List, [], ◌∷◌, ◌++◌, length, get_or, Option, Some, None, refl, sym, ap, subst, ◌∙◌, arith, zero, suc}
use Rattle.std.specs.Prelude.{replicate, flat_map, slice_get, ◌==◌, ◌||◌}
use Rattle.std.specs.List.{AllByRecursion}
use Rattle.std.proofs.lemmas.Bool.Decides.{eqb_tells}
use Rattle.souper_graph.specs.declared.ast.operands.«Type».{«Type» as Ty}
use Rattle.souper_graph.specs.declared.ast.operands.Operand.{Operand}
use Rattle.souper_graph.specs.declared.ast.operands.Operand.TheVariants.{Value, Constant}
use Rattle.souper_graph.specs.declared.ast.flaws.FlawLocation.{FlawLocation}
use Rattle.souper_graph.specs.declared.ast.flaws.FlawLocation.TheVariants.{Statement}
use Rattle.souper_graph.specs.Values.{PlainStatement, Item}
use Rattle.souper_graph.specs.Uses.{NeededIn}
use Rattle.souper_graph.specs.WellFormed.{WellFormed}
use Rattle.souper_graph.specs.Flaws.{IsBefore}
use Rattle.souper_graph.proofs.Judging.Needed.{well_formed_inside}
use Rattle.souper_graph.proofs.Judging.Closed.{All-first, All-second}
use Rattle.souper_widths.specs.declared.rows.Row.{Row}
use Rattle.souper_widths.specs.declared.rows.Row.TheVariants.{Input, Block, Phi, Same, Bit, Resized, Select, Pair, Number as number_row, Overflow, BadPart, Condition}
use Rattle.souper_widths.specs.declared.ties.Side.{Side}
use Rattle.souper_widths.specs.declared.ties.Tie.{Tie}
use Rattle.souper_widths.specs.Maps.{WidthMap}
use Rattle.souper_widths.specs.Equations.{Equation, equal, at_least_one, width_by, left_side, right_side, Holds, result_of, type_equations, operand_equations}
use Rattle.souper_widths.specs.Table.{row_of, operands_in, written_type, row_equations, row_operands, statement_equations}
use Rattle.souper_widths.specs.Places.{IsPlace, equations_at, SolvesAt, SolvesBefore}
use Rattle.souper_widths.specs.Shape.{IsPairRow, HasShape}
use Rattle.souper_widths.specs.Flaws.{HasFailing, HasOneBit, IsNarrowPairStatement, IsNarrowPair, IsFirstConflict}
use Rattle.souper_widths.specs.Forest.{side_width, AreClasses, Solves, filled, TellsWidths}
use Rattle.souper_widths.specs.Ties.{is_zero, more_of, side_of, ties_of, AreTied, Clashes}
use Rattle.souper_widths.specs.Nodes.{ShowsNodes, HasRowOperands, map_of, nodes_of, place_row, place_count, ties_at, ClassesOf}
use Rattle.souper_widths.proofs.OwnRows.{statement-row_operands}
use Rattle.souper_widths.proofs.ToldWidths.{told-widths}
use Rattle.souper_widths.proofs.NodeWidths.{follows-map, shows-map}
use Rattle.souper_widths.proofs.EachEquation.{FollowsEquation, TellsEquation, follows-tied}
use Rattle.souper_widths.proofs.PlaceEquations.{place-follows, place-tells, all-tied, all-hold, place-tied, place-solved}
use Rattle.souper_widths.proofs.Splits.{SplitAt, split-at}

positive : (d x : ℕ) → 0 < d → 0 < cond (x == 0) d x
positive d x h = elim (eqb_tells x 0) [
  | inl e ↦ subst (λ (b : Bool). 0 < cond b d x) (sym e.0) h
  | inr e ↦ subst (λ (b : Bool). 0 < cond b d x) (sym e.0) (omega (arith, e.1))
]

pub filled-positive : (d : ℕ) (ws : List ℕ) (x : ℕ) → 0 < d → 0 < filled d ws x
filled-positive d ws x h = positive d (get_or ws x 0) h

-- the marks have the needed positions
abbrev pub AreMarked : Item → List Bool → Type 0
AreMarked a marks = (p : ℕ) → NeededIn a p → get_or marks p false ≡ true

pub shows-marked : (a : Item) (marks : List Bool) (u : ℕ → ℕ) → WellFormed a → AreMarked a marks → ShowsNodes a (map_of a.statements marks u) u
shows-marked a marks u w marked = shows-map a marks u marked (well_formed_inside a w)

-- widths that solve the classes give a map that solves the equations of the places so far
pub classes-solved : (a : Item) (marks : List Bool) (Done : FlawLocation → Type 0) (ps ns : List ℕ) (u : ℕ → ℕ) → WellFormed a → HasShape a → AreMarked a marks → ClassesOf a Done ps ns → ((x : ℕ) → 0 < u x) → Solves u ps ns
    → (k : FlawLocation) → Done k → IsPlace a k → SolvesAt a (map_of a.statements marks u) k
classes-solved a marks Done ps ns u w h marked c above s k d n =
    place-solved a (map_of a.statements marks u) u k w h (shows-marked a marks u w marked) above n (c.wide k d n) (c.back u s k d n)

-- and a map that does gives widths that solve them
pub solves-classes : (a : Item) (Done : FlawLocation → Type 0) (ps ns : List ℕ) (m : WidthMap) → WellFormed a → HasShape a → ClassesOf a Done ps ns → ((k : FlawLocation) → Done k → IsPlace a k → SolvesAt a m k) → Solves (nodes_of a m) ps ns
solves-classes a Done ps ns m w h c s = c.to (nodes_of a m) (λ k d n. place-tied a m (nodes_of a m) k w h (follows-map a m) n (s k d n))

pub some-solution : (a : Item) (marks : List Bool) (l : FlawLocation) (ps ns : List ℕ) → WellFormed a → HasShape a → AreMarked a marks → AreClasses ps ns → ClassesOf a (λ k. IsBefore k l) ps ns → (m : WidthMap) × SolvesBefore a m l
some-solution a marks l ps ns w h marked classes c =
    let told = told-widths ps ns classes in
    let u : ℕ → ℕ = filled 1 told.0 in
    (map_of a.statements marks u, (λ k n d. classes-solved a marks (λ z. IsBefore z l) ps ns u w h marked c (λ x. filled-positive 1 told.0 x (omega arith)) (told.1.free 1 (omega arith)) k d n))

-- the widths of both sides of a tie above 0, by an equation that follows the map
tells-unless : (b : Bool) (u : ℕ → ℕ) (l r : Side) (k x y : ℕ) (t : Tie) → side_width u l ≡ x - k → side_width u r ≡ y - k → cond b [] (record { left = l; right = r; more = k } ∷ []) ≡ t ∷ []
    → 0 < side_width u t.left → 0 < side_width u t.right → (x ≡ side_width u t.left + t.more) × (y ≡ side_width u t.right + t.more)
tells-unless true u l r k x y t f g e = absurd (cc e)
tells-unless false u l r k x y t f g e =
    let same : record { left = l; right = r; more = k } ≡ t = cc e in
    subst (λ (z : Tie). 0 < side_width u z.left → 0 < side_width u z.right → (x ≡ side_width u z.left + z.more) × (y ≡ side_width u z.right + z.more)) same
    (λ p q. (omega (arith, f, p), omega (arith, g, q)))

tie-widths : (m : WidthMap) (u : ℕ → ℕ) (c : ℕ) (r : Row) (e : Equation) (t : Tie) → FollowsEquation m u c r e → ties_of c r e ≡ t ∷ []
    → 0 < side_width u t.left → 0 < side_width u t.right → (width_by m (left_side e) ≡ side_width u t.left + t.more) × (width_by m (right_side e) ≡ side_width u t.right + t.more)
tie-widths m u c r (equal x y) t f e = tells-unless (is_zero (side_of c (more_of r x y) x) || is_zero (side_of c (more_of r x y) y)) u (side_of c (more_of r x y) x) (side_of c (more_of r x y) y) (more_of r x y) (width_by m x) (width_by m y) t f.0 f.1 e
tie-widths m u c r (at_least_one x) t f e = absurd (cc e)

-- the equation of the first tie that fails is the first one that fails
pub has-failing : (a : Item) (marks : List Bool) (l : FlawLocation) (ps ns : List ℕ) (left right : ℕ) → WellFormed a → HasShape a → AreMarked a marks → ClassesOf a (λ k. IsBefore k l) ps ns → IsPlace a l → ¬ IsNarrowPair a l
    → Clashes ps ns (ties_at a l) left right → HasFailing a l left right
has-failing a marks l ps ns left right w h marked c n wide clash = record {
  front = s.before;
  failing = s.at;
  back = s.after;
  here = s.here;
  solved = (m, before, holds);
  fails = fails;
}
  where
    count : ℕ
    count = place_count a l

    row : Row
    row = place_row a l

    s : SplitAt count row (equations_at a l) clash.front clash.failing
    s = split-at count row (equations_at a l) clash.failing clash.back clash.front clash.here

    told : (ws : List ℕ) × TellsWidths clash.parents' clash.numbers' ws
    told = told-widths clash.parents' clash.numbers' clash.classes

    u : ℕ → ℕ
    u = filled 1 told.0

    above : (x : ℕ) → 0 < u x
    above x = filled-positive 1 told.0 x (omega arith)

    m : WidthMap
    m = map_of a.statements marks u

    before : SolvesBefore a m l
    before k p d = classes-solved a marks (λ z. IsBefore z l) ps ns u w h marked c above (clash.added.back u (told.1.free 1 (omega arith))) k d p

    tells : AllByRecursion (TellsEquation m u count row) (s.before ++ s.at ∷ s.after)
    tells = subst (AllByRecursion (TellsEquation m u count row)) s.here (place-tells a m u l w h (shows-marked a marks u w marked) above n wide)

    holds : AllByRecursion (Holds m) s.before
    holds = all-hold m u count row s.before (All-first (TellsEquation m u count row) s.before (s.at ∷ s.after) tells)
        (subst (AreTied u) (sym s.ties) (clash.added.tied u (told.1.free 1 (omega arith))))

    fails : (o : WidthMap) → SolvesBefore a o l → AllByRecursion (Holds o) s.before → ¬ Holds o s.at × (width_by o (left_side s.at) ≡ left) × (width_by o (right_side s.at) ≡ right)
    fails o sb hs = (
      (λ q. clash.refused.differ (sym sides.0 ∙ (subst (AreTied v) s.tie (follows-tied o v count row s.at at-follows q)).0 ∙ sides.1)),
      widths.0 ∙ ap (λ (z : ℕ). z + clash.failing.more) sides.0 ∙ sym clash.left_is,
      widths.1 ∙ ap (λ (z : ℕ). z + clash.failing.more) sides.1 ∙ sym clash.right_is,
    )
      where
        v : ℕ → ℕ
        v = nodes_of a o

        follows : AllByRecursion (FollowsEquation o v count row) (s.before ++ s.at ∷ s.after)
        follows = subst (AllByRecursion (FollowsEquation o v count row)) s.here (place-follows a o v l w h (follows-map a o) n)

        at-follows : FollowsEquation o v count row s.at
        at-follows = (All-second (FollowsEquation o v count row) s.before (s.at ∷ s.after) follows).0

        solves : Solves v clash.parents' clash.numbers'
        solves = clash.added.to v (solves-classes a (λ z. IsBefore z l) ps ns o w h c (λ k d p. sb k p d))
            (subst (AreTied v) s.ties (all-tied o v count row s.before (All-first (FollowsEquation o v count row) s.before (s.at ∷ s.after) follows) hs))

        sides : (side_width v clash.failing.left ≡ clash.x) × (side_width v clash.failing.right ≡ clash.y)
        sides = clash.refused.sides v solves

        widths : (width_by o (left_side s.at) ≡ side_width v clash.failing.left + clash.failing.more) × (width_by o (right_side s.at) ≡ side_width v clash.failing.right + clash.failing.more)
        widths = tie-widths o v count row s.at clash.failing at-follows s.tie (omega (arith, sides.0, clash.refused.left_positive)) (omega (arith, sides.1, clash.refused.right_positive))

pub first-conflict : (a : Item) (marks : List Bool) (l : FlawLocation) (ps ns : List ℕ) (left right : ℕ) → WellFormed a → HasShape a → AreMarked a marks → AreClasses ps ns → ClassesOf a (λ k. IsBefore k l) ps ns → IsPlace a l → ¬ IsNarrowPair a l
    → Clashes ps ns (ties_at a l) left right → IsFirstConflict a l left right
first-conflict a marks l ps ns left right w h marked classes c n wide clash = record {
  place = n;
  solved = some-solution a marks l ps ns w h marked classes c;
  unsolved = unsolved;
  widths = inr (wide, f);
}
  where
    f : HasFailing a l left right
    f = has-failing a marks l ps ns left right w h marked c n wide clash

    unsolved : (m : WidthMap) → SolvesBefore a m l → ¬ SolvesAt a m l
    unsolved m sb s =
        let all = subst (AllByRecursion (Holds m)) f.here s in
        (f.fails m sb (All-first (Holds m) f.front (f.failing ∷ f.back) all)).0 (All-second (Holds m) f.front (f.failing ∷ f.back) all).0

pair-is : (r : Row) → IsPairRow r → r ≡ Pair
pair-is Input h = absurd h
pair-is Block h = absurd h
pair-is Phi h = absurd h
pair-is Same h = absurd h
pair-is Bit h = absurd h
pair-is Resized h = absurd h
pair-is Select h = absurd h
pair-is Pair h = refl
pair-is number_row h = absurd h
pair-is Overflow h = absurd h
pair-is BadPart h = absurd h
pair-is Condition h = absurd h

-- no map solves the equations of a pair of one bit
narrow-fails : (m : WidthMap) (p : ℕ) (t : Option Ty) (xs : List Operand) → HasOneBit t → xs ≢ []
    → AllByRecursion (Holds m) (type_equations t (result_of p) ++ (row_equations p Pair ++ flat_map operand_equations (row_operands p Pair xs))) → ⊥
narrow-fails m p None xs o e h = o
narrow-fails m p (Some t) [] o e h = e refl
narrow-fails m p (Some t) (Value i ∷ xs) o e h = omega (arith, o, h.0, h.1.0, h.1.1.0)
narrow-fails m p (Some t) (Constant k ∷ xs) o e h = omega (arith, o, h.0, h.1.0, h.1.1.0)

narrow-row : (m : WidthMap) (p : ℕ) (r : Row) (t : Option Ty) (xs : List Operand) → r ≡ Pair → HasOneBit t → HasRowOperands r xs
    → AllByRecursion (Holds m) (type_equations t (result_of p) ++ (row_equations p r ++ flat_map operand_equations (row_operands p r xs))) → ⊥
narrow-row m p r t xs e o n = subst (λ (z : Row). HasRowOperands z xs → AllByRecursion (Holds m) (type_equations t (result_of p) ++ (row_equations p z ++ flat_map operand_equations (row_operands p z xs))) → ⊥) (sym e)
    (λ k h. narrow-fails m p t xs o k h) n

narrow-unsolved : (m : WidthMap) (p : ℕ) (o : Option PlainStatement) → IsNarrowPairStatement o → AllByRecursion (Holds m) (statement_equations p o) → ⊥
narrow-unsolved m p None n h = n
narrow-unsolved m p (Some s) n h = narrow-row m p (row_of s) (written_type s) (operands_in s) (pair-is (row_of s) n.0) n.1 (statement-row_operands s) h

pub narrow-conflict : (a : Item) (marks : List Bool) (p : ℕ) (ps ns : List ℕ) → WellFormed a → HasShape a → AreMarked a marks → AreClasses ps ns → ClassesOf a (λ k. IsBefore k (Statement p)) ps ns → NeededIn a p → IsNarrowPair a (Statement p)
    → IsFirstConflict a (Statement p) 0 1
narrow-conflict a marks p ps ns w h marked classes c n narrow = record {
  place = n;
  solved = some-solution a marks (Statement p) ps ns w h marked classes c;
  unsolved = λ m sb s. narrow-unsolved m p (slice_get a.statements p) narrow s;
  widths = inl (narrow, refl, refl);
}

all-true : (n p : ℕ) → p < n → get_or (replicate n true) p false ≡ true
all-true zero p l = absurd (omega arith)
all-true (suc n) zero l = refl
all-true (suc n) (suc p) l = all-true n p (omega arith)

-- marks on all statements
pub each-marked : (a : Item) → WellFormed a → AreMarked a (replicate (length a.statements) true)
each-marked a w p n = all-true (length a.statements) p (well_formed_inside a w p n)
