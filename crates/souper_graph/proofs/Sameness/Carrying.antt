-- Nodes with a map applied to their positions: their uses, their kinds, and their validity.
use Rattle.std.proofs.Common.{◌≡◌, ℕ, ◌<◌, ◌++◌, inl, inr, map, List, [], ◌∷◌, Some, refl, sym, ap, ◌∙◌, subst}
use Rattle.std.specs.List.{AllByRecursion}
use Rattle.std.proofs.lemmas.List.{map-append, length-map}
use Rattle.souper_graph.specs.declared.ast.operands.Operand.{Operand}
use Rattle.souper_graph.specs.declared.ast.operands.Operand.TheVariants.{Value, Constant}
use Rattle.souper_graph.specs.Values.{PlainRhs, var, block, phi, reserved_inst, reserved_const, instruction, PlainAssignment, PlainStatement, assigned, condition, block_condition, Ending, inferred, resulting, replaced, candidate}
use Rattle.souper_graph.specs.Instructions.{operands_of}
use Rattle.souper_graph.specs.Uses.{Has, Use, value_use, block_use, position_of, uses_of_operand, uses_of_operands, uses_of_rhs, uses_of, is_condition, first_roots, last_roots, roots_of}
use Rattle.souper_graph.specs.WellFormed.{FitsOperand, FitsRhs, FitsStatement, FitsEnding, predecessors_of, predecessors_at, AgreesRhs, AgreesWithBlock, IsAssigned, IsBlock}
use Rattle.souper_graph.specs.Sameness.{carried_operand, carried_rhs, carried, carried_ending}
use Rattle.souper_graph.proofs.Lists.{Has-left, Has-right, Has-none, Has-here, Has-later, Has-head}
use Rattle.souper_graph.proofs.Sameness.InstructionMaps.{operands-map, instruction-twice, instruction-itself, instruction-same}

-- `map`

pub map-same : {A B : Type 0} (f h : A → B) (xs : List A) → ((x : A) → Has xs x → f x ≡ h x) → map f xs ≡ map h xs
map-same f h [] e = refl
map-same f h (x ∷ xs) e = ap (λ y. y ∷ map f xs) (e x (Has-here x xs)) ∙ ap (λ y. h x ∷ y) (map-same f h xs (λ i a. e i (Has-later x i xs a)))

pub map-map : {A B C : Type 0} (f : A → B) (h : B → C) (xs : List A) → map h (map f xs) ≡ map (λ i. h (f i)) xs
map-map f h [] = refl
map-map f h (x ∷ xs) = ap (λ y. h (f x) ∷ y) (map-map f h xs)

map-itself : {A : Type 0} (f : A → A) (xs : List A) → ((x : A) → Has xs x → f x ≡ x) → map f xs ≡ xs
map-itself f [] e = refl
map-itself f (x ∷ xs) e = ap (λ y. y ∷ map f xs) (e x (Has-here x xs)) ∙ ap (λ y. x ∷ y) (map-itself f xs (λ i a. e i (Has-later x i xs a)))

-- uses

abbrev pub carried_use : (ℕ → ℕ) → Use → Use
carried_use f (value_use i) = value_use (f i)
carried_use f (block_use i) = block_use (f i)

position-carried : (f : ℕ → ℕ) (u : Use) → position_of (carried_use f u) ≡ f (position_of u)
position-carried f (value_use i) = refl
position-carried f (block_use i) = refl

pub positions-carried : (f : ℕ → ℕ) (us : List Use) → map position_of (map (carried_use f) us) ≡ map f (map position_of us)
positions-carried f [] = refl
positions-carried f (u ∷ us) =
    ap (λ z. z ∷ map position_of (map (carried_use f) us)) (position-carried f u) ∙ ap (λ z. f (position_of u) ∷ z) (positions-carried f us)

operand-uses : (f : ℕ → ℕ) (o : Operand) → uses_of_operand (carried_operand f o) ≡ map (carried_use f) (uses_of_operand o)
operand-uses f (Value i) = refl
operand-uses f (Constant c) = refl

operands-uses : (f : ℕ → ℕ) (os : List Operand) → uses_of_operands (map (carried_operand f) os) ≡ map (carried_use f) (uses_of_operands os)
operands-uses f [] = refl
operands-uses f (o ∷ os) =
    ap (λ z. z ++ uses_of_operands (map (carried_operand f) os)) (operand-uses f o)
    ∙ ap (λ z. map (carried_use f) (uses_of_operand o) ++ z) (operands-uses f os)
    ∙ sym (map-append (carried_use f) (uses_of_operand o) (uses_of_operands os))

pair-uses : (f : ℕ → ℕ) (x y : Operand) →
    uses_of_operand (carried_operand f x) ++ uses_of_operand (carried_operand f y) ≡ map (carried_use f) (uses_of_operand x ++ uses_of_operand y)
pair-uses f x y =
    ap (λ z. z ++ uses_of_operand (carried_operand f y)) (operand-uses f x)
    ∙ ap (λ z. map (carried_use f) (uses_of_operand x) ++ z) (operand-uses f y)
    ∙ sym (map-append (carried_use f) (uses_of_operand x) (uses_of_operand y))

rhs-uses : (f : ℕ → ℕ) (r : PlainRhs) → uses_of_rhs (carried_rhs f r) ≡ map (carried_use f) (uses_of_rhs r)
rhs-uses f var = refl
rhs-uses f (block b) = refl
rhs-uses f (phi p) = ap (λ z. block_use (f p.block) ∷ z) (operands-uses f p.values)
rhs-uses f reserved_inst = refl
rhs-uses f reserved_const = refl
rhs-uses f (instruction i) = ap uses_of_operands (operands-map (carried_operand f) i) ∙ operands-uses f (operands_of i)

pub uses-carried : (f : ℕ → ℕ) (s : PlainStatement) → uses_of (carried f s) ≡ map (carried_use f) (uses_of s)
uses-carried f (assigned a) = rhs-uses f a.value
uses-carried f (condition p) = pair-uses f p.x p.y
uses-carried f (block_condition p) = ap (λ z. block_use (f p.block) ∷ z) (pair-uses f p.x p.y)

pub first-carried : (f : ℕ → ℕ) (e : Ending) → first_roots (carried_ending f e) ≡ map (carried_use f) (first_roots e)
first-carried f (inferred i) = refl
first-carried f (resulting r) = operand-uses f r
first-carried f (replaced i r) = refl
first-carried f (candidate c) = pair-uses f c.lhs c.rhs

pub last-carried : (f : ℕ → ℕ) (e : Ending) → last_roots (carried_ending f e) ≡ map (carried_use f) (last_roots e)
last-carried f (inferred i) = refl
last-carried f (resulting r) = refl
last-carried f (replaced i r) = operand-uses f r
last-carried f (candidate c) = refl

pub roots-carried : (f : ℕ → ℕ) (e : Ending) → roots_of (carried_ending f e) ≡ map (carried_use f) (roots_of e)
roots-carried f e =
    ap (λ z. z ++ last_roots (carried_ending f e)) (first-carried f e)
    ∙ ap (λ z. map (carried_use f) (first_roots e) ++ z) (last-carried f e)
    ∙ sym (map-append (carried_use f) (first_roots e) (last_roots e))

-- two maps that agree on the used positions carry alike

abbrev pub AgreeAt : (ℕ → ℕ) → (ℕ → ℕ) → List Use → Type 0
AgreeAt f h us = (u : Use) → Has us u → f (position_of u) ≡ h (position_of u)

agree_left : (f h : ℕ → ℕ) (us vs : List Use) → AgreeAt f h (us ++ vs) → AgreeAt f h us
agree_left f h us vs e u q = e u (Has-left us vs u q)

agree_right : (f h : ℕ → ℕ) (us vs : List Use) → AgreeAt f h (us ++ vs) → AgreeAt f h vs
agree_right f h us vs e u q = e u (Has-right us vs u q)

operand-same : (f h : ℕ → ℕ) (o : Operand) → AgreeAt f h (uses_of_operand o) → carried_operand f o ≡ carried_operand h o
operand-same f h (Value i) e = ap (λ z. Value z) (e (value_use i) (Has-here (value_use i) []))
operand-same f h (Constant c) e = refl

operands-same : (f h : ℕ → ℕ) (os : List Operand) → AgreeAt f h (uses_of_operands os) → (x : Operand) → Has os x → carried_operand f x ≡ carried_operand h x
operands-same f h [] e x q = absurd (Has-none x q)
operands-same f h (o ∷ os) e x q = elim (Has-head o x os q) [
  | inl d ↦ subst (λ (z : Operand). carried_operand f z ≡ carried_operand h z) d
      (operand-same f h o (agree_left f h (uses_of_operand o) (uses_of_operands os) e))
  | inr r ↦ operands-same f h os (agree_right f h (uses_of_operand o) (uses_of_operands os) e) x r
]

rhs-same : (f h : ℕ → ℕ) (r : PlainRhs) → AgreeAt f h (uses_of_rhs r) → carried_rhs f r ≡ carried_rhs h r
rhs-same f h var e = refl
rhs-same f h (block b) e = refl
rhs-same f h (phi p) e =
    let us = uses_of_operands p.values in
    rw (
      e (block_use p.block) (Has-here (block_use p.block) us),
      map-same (carried_operand f) (carried_operand h) p.values (operands-same f h p.values (λ u q. e u (Has-later (block_use p.block) u us q))),
    ) refl
rhs-same f h reserved_inst e = refl
rhs-same f h reserved_const e = refl
rhs-same f h (instruction i) e =
    ap (λ z. instruction z) (instruction-same (carried_operand f) (carried_operand h) i (operands-same f h (operands_of i) e))

-- both operands of a pair
left-same : (f h : ℕ → ℕ) (x y : Operand) → AgreeAt f h (uses_of_operand x ++ uses_of_operand y) → carried_operand f x ≡ carried_operand h x
left-same f h x y e = operand-same f h x (agree_left f h (uses_of_operand x) (uses_of_operand y) e)

right-same : (f h : ℕ → ℕ) (x y : Operand) → AgreeAt f h (uses_of_operand x ++ uses_of_operand y) → carried_operand f y ≡ carried_operand h y
right-same f h x y e = operand-same f h y (agree_right f h (uses_of_operand x) (uses_of_operand y) e)

pub carried-same : (f h : ℕ → ℕ) (s : PlainStatement) → AgreeAt f h (uses_of s) → carried f s ≡ carried h s
carried-same f h (assigned a) e = rw (rhs-same f h a.value e) refl
carried-same f h (condition p) e = rw (left-same f h p.x p.y e, right-same f h p.x p.y e) refl
carried-same f h (block_condition p) e =
    let us = uses_of_operand p.x ++ uses_of_operand p.y in
    let k : AgreeAt f h us = λ u q. e u (Has-later (block_use p.block) u us q) in
    rw (e (block_use p.block) (Has-here (block_use p.block) us), left-same f h p.x p.y k, right-same f h p.x p.y k) refl

pub ending-same : (f h : ℕ → ℕ) (d : Ending) → AgreeAt f h (roots_of d) → carried_ending f d ≡ carried_ending h d
ending-same f h (inferred i) e = rw (e (value_use i.value) (Has-here (value_use i.value) [])) refl
ending-same f h (resulting r) e = rw (operand-same f h r (agree_left f h (uses_of_operand r) [] e)) refl
ending-same f h (replaced i r) e =
    let us : List Use = uses_of_operand r in
    rw (e (value_use i.value) (Has-here (value_use i.value) us), operand-same f h r (λ u q. e u (Has-later (value_use i.value) u us q))) refl
ending-same f h (candidate c) e =
    let k = agree_left f h (uses_of_operand c.lhs ++ uses_of_operand c.rhs) [] e in
    rw (left-same f h c.lhs c.rhs k, right-same f h c.lhs c.rhs k) refl

-- carried by one map and then by another

operand-twice : (f h : ℕ → ℕ) (o : Operand) → carried_operand h (carried_operand f o) ≡ carried_operand (λ i. h (f i)) o
operand-twice f h (Value i) = refl
operand-twice f h (Constant c) = refl

operands-twice : (f h : ℕ → ℕ) (os : List Operand) → map (carried_operand h) (map (carried_operand f) os) ≡ map (carried_operand (λ i. h (f i))) os
operands-twice f h os =
    map-map (carried_operand f) (carried_operand h) os
    ∙ map-same (λ o. carried_operand h (carried_operand f o)) (carried_operand (λ i. h (f i))) os (λ o q. operand-twice f h o)

rhs-twice : (f h : ℕ → ℕ) (r : PlainRhs) → carried_rhs h (carried_rhs f r) ≡ carried_rhs (λ i. h (f i)) r
rhs-twice f h var = refl
rhs-twice f h (block b) = refl
rhs-twice f h (phi p) = rw (operands-twice f h p.values) refl
rhs-twice f h reserved_inst = refl
rhs-twice f h reserved_const = refl
rhs-twice f h (instruction i) =
    ap (λ z. instruction z) (
    instruction-twice (carried_operand h) (carried_operand f) i
    ∙ instruction-same (λ o. carried_operand h (carried_operand f o)) (carried_operand (λ j. h (f j))) i (λ o q. operand-twice f h o))

pub carried-twice : (f h : ℕ → ℕ) (s : PlainStatement) → carried h (carried f s) ≡ carried (λ i. h (f i)) s
carried-twice f h (assigned a) = rw (rhs-twice f h a.value) refl
carried-twice f h (condition p) = rw (operand-twice f h p.x, operand-twice f h p.y) refl
carried-twice f h (block_condition p) = rw (operand-twice f h p.x, operand-twice f h p.y) refl

pub ending-twice : (f h : ℕ → ℕ) (d : Ending) → carried_ending h (carried_ending f d) ≡ carried_ending (λ i. h (f i)) d
ending-twice f h (inferred i) = refl
ending-twice f h (resulting r) = rw (operand-twice f h r) refl
ending-twice f h (replaced i r) = rw (operand-twice f h r) refl
ending-twice f h (candidate c) = rw (operand-twice f h c.lhs, operand-twice f h c.rhs) refl

-- carried by a map that moves no used position

operand-still : (o : Operand) → carried_operand (λ i. i) o ≡ o
operand-still (Value i) = refl
operand-still (Constant c) = refl

rhs-still : (r : PlainRhs) → carried_rhs (λ i. i) r ≡ r
rhs-still var = refl
rhs-still (block b) = refl
rhs-still (phi p) = rw (map-itself (carried_operand (λ i. i)) p.values (λ o q. operand-still o)) refl
rhs-still reserved_inst = refl
rhs-still reserved_const = refl
rhs-still (instruction i) =
    ap (λ z. instruction z) (
    instruction-same (carried_operand (λ j. j)) (λ o. o) i (λ o q. operand-still o) ∙ instruction-itself i)

pub carried-still : (s : PlainStatement) → carried (λ i. i) s ≡ s
carried-still (assigned a) = rw (rhs-still a.value) refl
carried-still (condition p) = rw (operand-still p.x, operand-still p.y) refl
carried-still (block_condition p) = rw (operand-still p.x, operand-still p.y) refl

pub ending-still : (d : Ending) → carried_ending (λ i. i) d ≡ d
ending-still (inferred i) = refl
ending-still (resulting r) = rw (operand-still r) refl
ending-still (replaced i r) = rw (operand-still r) refl
ending-still (candidate c) = rw (operand-still c.lhs, operand-still c.rhs) refl

pub carried-itself : (f : ℕ → ℕ) (s : PlainStatement) → AgreeAt f (λ i. i) (uses_of s) → carried f s ≡ s
carried-itself f s e = carried-same f (λ i. i) s e ∙ carried-still s

pub ending-itself : (f : ℕ → ℕ) (d : Ending) → AgreeAt f (λ i. i) (roots_of d) → carried_ending f d ≡ d
ending-itself f d e = ending-same f (λ i. i) d e ∙ ending-still d

-- kinds

pub condition-carried : (f : ℕ → ℕ) (s : PlainStatement) → is_condition (carried f s) ≡ is_condition s
condition-carried f (assigned a) = refl
condition-carried f (condition p) = refl
condition-carried f (block_condition p) = refl

pub is_assigned-carried : (f : ℕ → ℕ) (s : PlainStatement) → IsAssigned (Some s) → IsAssigned (Some (carried f s))
is_assigned-carried f (assigned a) h = tt
is_assigned-carried f (condition p) h = absurd h
is_assigned-carried f (block_condition p) h = absurd h

is_block-under : (f : ℕ → ℕ) (a : PlainAssignment) (r : PlainRhs) → IsBlock (Some (assigned (record a { value = r }))) → IsBlock (Some (assigned (record a { value = carried_rhs f r })))
is_block-under f a var h = absurd h
is_block-under f a (block b) h = tt
is_block-under f a (phi p) h = absurd h
is_block-under f a reserved_inst h = absurd h
is_block-under f a reserved_const h = absurd h
is_block-under f a (instruction i) h = absurd h

pub is_block-carried : (f : ℕ → ℕ) (s : PlainStatement) → IsBlock (Some s) → IsBlock (Some (carried f s))
is_block-carried f (assigned a) h = is_block-under f a a.value h
is_block-carried f (condition p) h = absurd h
is_block-carried f (block_condition p) h = absurd h

predecessors-under : (f : ℕ → ℕ) (a : PlainAssignment) (r : PlainRhs) →
    predecessors_of (Some (assigned (record a { value = carried_rhs f r }))) ≡ predecessors_of (Some (assigned (record a { value = r })))
predecessors-under f a var = refl
predecessors-under f a (block b) = refl
predecessors-under f a (phi p) = refl
predecessors-under f a reserved_inst = refl
predecessors-under f a reserved_const = refl
predecessors-under f a (instruction i) = refl

pub predecessors-carried : (f : ℕ → ℕ) (s : PlainStatement) → predecessors_of (Some (carried f s)) ≡ predecessors_of (Some s)
predecessors-carried f (assigned a) = predecessors-under f a a.value
predecessors-carried f (condition p) = refl
predecessors-carried f (block_condition p) = refl

-- an assignment is carried to an assignment of that name, and nothing else is
pub named-carried : (f : ℕ → ℕ) (s : PlainStatement) (v : PlainAssignment) → carried f s ≡ assigned v → (w : PlainAssignment) × (s ≡ assigned w) × (w.name ≡ v.name)
named-carried f (assigned a) v e = (a, refl, ap name_of e)
  where
    name_of : PlainStatement → List ℕ
    name_of (assigned x) = x.name
    name_of (condition p) = []
    name_of (block_condition p) = []
named-carried f (condition p) v e = absurd (cc)
named-carried f (block_condition p) v e = absurd (cc)

-- validity of nodes

fits-operand : (f : ℕ → ℕ) (o : Operand) → FitsOperand o → FitsOperand (carried_operand f o)
fits-operand f (Value i) h = tt
fits-operand f (Constant c) h = h

fits-operands : (f : ℕ → ℕ) (os : List Operand) → AllByRecursion FitsOperand os → AllByRecursion FitsOperand (map (carried_operand f) os)
fits-operands f [] h = tt
fits-operands f (o ∷ os) h = (fits-operand f o h.0, fits-operands f os h.1)

fits-rhs : (f : ℕ → ℕ) (r : PlainRhs) → FitsRhs r → FitsRhs (carried_rhs f r)
fits-rhs f var h = tt
fits-rhs f (block b) h = h
fits-rhs f (phi p) h = fits-operands f p.values h
fits-rhs f reserved_inst h = tt
fits-rhs f reserved_const h = tt
fits-rhs f (instruction i) h =
    subst (λ (z : List Operand). AllByRecursion FitsOperand z) (sym (operands-map (carried_operand f) i)) (fits-operands f (operands_of i) h)

pub fits-carried : (f : ℕ → ℕ) (s : PlainStatement) → FitsStatement s → FitsStatement (carried f s)
fits-carried f (assigned a) h =
    record { name_fits = h.name_fits; type_fits = h.type_fits; value_fits = fits-rhs f a.value h.value_fits; attributes_fit = h.attributes_fit }
fits-carried f (condition p) h = (fits-operand f p.x h.0, fits-operand f p.y h.1)
fits-carried f (block_condition p) h = (h.0, fits-operand f p.x h.1, fits-operand f p.y h.2)

pub fits_ending-carried : (f : ℕ → ℕ) (d : Ending) → FitsEnding d → FitsEnding (carried_ending f d)
fits_ending-carried f (inferred i) h = h
fits_ending-carried f (resulting r) h = fits-operand f r h
fits_ending-carried f (replaced i r) h = (h.0, fits-operand f r h.1)
fits_ending-carried f (candidate c) h = (fits-operand f c.lhs h.0, fits-operand f c.rhs h.1, h.2)

-- each use is carried to a position with as many predecessors
abbrev pub SameWays : (ℕ → ℕ) → List PlainStatement → List PlainStatement → List Use → Type 0
SameWays f ss ts us = (u : Use) → Has us u → predecessors_at ts (f (position_of u)) ≡ predecessors_at ss (position_of u)

agrees-rhs : (f : ℕ → ℕ) (ss ts : List PlainStatement) (r : PlainRhs) → SameWays f ss ts (uses_of_rhs r) → AgreesRhs ss r → AgreesRhs ts (carried_rhs f r)
agrees-rhs f ss ts var e h = tt
agrees-rhs f ss ts (block b) e h = tt
agrees-rhs f ss ts (phi p) e h =
    length-map p.values (carried_operand f) ∙ h ∙ sym (e (block_use p.block) (Has-here (block_use p.block) (uses_of_operands p.values)))
agrees-rhs f ss ts reserved_inst e h = tt
agrees-rhs f ss ts reserved_const e h = tt
agrees-rhs f ss ts (instruction i) e h = tt

pub agrees-carried : (f : ℕ → ℕ) (ss ts : List PlainStatement) (s : PlainStatement) → SameWays f ss ts (uses_of s) → AgreesWithBlock ss s → AgreesWithBlock ts (carried f s)
agrees-carried f ss ts (assigned a) e h = agrees-rhs f ss ts a.value e h
agrees-carried f ss ts (condition p) e h = tt
agrees-carried f ss ts (block_condition p) e h =
    subst (λ (z : ℕ). p.predecessor < z) (sym (e (block_use p.block) (Has-here (block_use p.block) (uses_of_operand p.x ++ uses_of_operand p.y)))) h
