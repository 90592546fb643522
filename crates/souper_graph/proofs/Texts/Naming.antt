-- Uses that resolve, faults among uses, and texts that grow part by part.
use Rattle.std.proofs.Common.{◌≡◌, ℕ, zero, suc, ◌+◌, ◌<◌, inl, inr, List, [], ◌∷◌, ◌++◌, length, get_or, take, refl, sym, ap, subst, ◌∙◌, arith, append_assoc}
use Rattle.std.specs.Prelude.{flat_map, Result, Ok, Err, IfErr, ◌↔◌}
use Rattle.std.proofs.lemmas.Grind.{flat_map-append}
use Rattle.std.proofs.lemmas.List.{take_more, flat_map_more}
use Rattle.souper_graph.specs.declared.stringify.errors.TextError.{TextError}
use Rattle.souper_graph.specs.declared.stringify.errors.TextError.TheVariants.{OutOfRange, NotAnAssignment, NotABlock, OutOfMemory}
use Rattle.souper_graph.specs.Values.{PlainStatement, Item}
use Rattle.souper_graph.specs.Uses.{Has, Use, value_use, block_use, uses_at, roots_of, NeededIn}
use Rattle.souper_graph.specs.Faults.{IsFaultAmong, NamedIn, IsFaultOf}
use Rattle.souper_graph.specs.WellFormed.{AreMet}
use Rattle.souper_graph.proofs.Lists.{Has-left, Has-right, Has-cases}

pub AreMet-append : (ss : List PlainStatement) (us vs : List Use) → AreMet ss us → AreMet ss vs → AreMet ss (us ++ vs)
AreMet-append ss us vs a b = λ u h. elim (Has-cases us vs u h) [ inl l ↦ a u l | inr r ↦ b u r ]

-- a fault among some uses is one among more
pub IsFaultAmong-more : (ss : List PlainStatement) (us vs : List Use) (e : TextError) → ((u : Use) → Has us u → Has vs u) → IsFaultAmong ss us e → IsFaultAmong ss vs e
IsFaultAmong-more ss us vs (OutOfRange i) m h = (elim h.0 [ inl a ↦ inl (m (value_use i) a) | inr b ↦ inr (m (block_use i) b) ], h.1)
IsFaultAmong-more ss us vs (NotAnAssignment i) m h = (m (value_use i) h.0, h.1, h.2)
IsFaultAmong-more ss us vs (NotABlock i) m h = (m (block_use i) h.0, h.1, h.2)
IsFaultAmong-more ss us vs OutOfMemory m h = tt

pub IsFaultAmong-left : (ss : List PlainStatement) (us vs : List Use) (e : TextError) → IsFaultAmong ss us e → IsFaultAmong ss (us ++ vs) e
IsFaultAmong-left ss us vs e h = IsFaultAmong-more ss us (us ++ vs) e (Has-left us vs) h

pub IsFaultAmong-right : (ss : List PlainStatement) (us vs : List Use) (e : TextError) → IsFaultAmong ss vs e → IsFaultAmong ss (us ++ vs) e
IsFaultAmong-right ss us vs e h = IsFaultAmong-more ss vs (us ++ vs) e (Has-right us vs) h

-- what one of the parts has
pub Has-part : {X U : Type 0} (f : X → List U) (xs : List X) (k : ℕ) (d : X) (u : U) → k < length xs → Has (f (get_or xs k d)) u → Has (flat_map f xs) u
Has-part f [] k d u l h = absurd (omega arith)
Has-part f (x ∷ xs) zero d u l h = Has-left (f x) (flat_map f xs) u h
Has-part f (x ∷ xs) (suc k) d u l h = Has-right (f x) (flat_map f xs) u (Has-part f xs k d u (omega arith) h)

-- a fault among the uses of one is one among the uses of all
pub IsFaultAmong-part : {X : Type 0} (ss : List PlainStatement) (f : X → List Use) (xs : List X) (k : ℕ) (d : X) (e : TextError) → k < length xs → d ≡ get_or xs k d → IsFaultAmong ss (f d) e → IsFaultAmong ss (flat_map f xs) e
IsFaultAmong-part ss f xs k d e l at h =
    IsFaultAmong-more ss (f (get_or xs k d)) (flat_map f xs) e (λ u. Has-part f xs k d u l) (subst (λ x. IsFaultAmong ss (f x) e) at h)

flat_map_front : {X A : Type 0} (f : X → List A) (xs : List X) (k : ℕ) (d : X) → k < length xs → d ≡ get_or xs k d → flat_map f (take k xs) ++ f d ≡ flat_map f (take (k + 1) xs)
flat_map_front f xs k d l at =
    flat_map_more f [] (take k xs) d ∙ ap (flat_map f) (ap (λ x. take k xs ++ x ∷ []) at ∙ sym (take_more xs k d l))

-- one more whose uses resolve
pub AreMet-more : {X : Type 0} (ss : List PlainStatement) (f : X → List Use) (xs : List X) (k : ℕ) (d : X) → k < length xs → d ≡ get_or xs k d → AreMet ss (flat_map f (take k xs)) → AreMet ss (f d) → AreMet ss (flat_map f (take (k + 1) xs))
AreMet-more ss f xs k d l at a b = subst (AreMet ss) (flat_map_front f xs k d l at) (AreMet-append ss (flat_map f (take k xs)) (f d) a b)

-- one more text at the end of the texts of the prefix
pub texts_more : {X : Type 0} (f : X → List ℕ) (xs : List X) (k : ℕ) (d : X) (a b t c : List ℕ) → k < length xs → d ≡ get_or xs k d → b ≡ a ++ flat_map f (take k xs) → t ≡ f d → c ≡ b ++ t → c ≡ a ++ flat_map f (take (k + 1) xs)
texts_more f xs k d a b t c l at e u g =
    g ∙ (λ j. e j ++ u j) ∙ append_assoc a (flat_map f (take k xs)) (f d) ∙ ap (λ x. a ++ x) (flat_map_front f xs k d l at)

-- a list in two parts, and roots before it
flat_map_parts : {X A : Type 0} (f : X → List A) (xs ys zs : List X) → zs ≡ xs ++ ys → flat_map f xs ++ flat_map f ys ≡ flat_map f zs
flat_map_parts f xs ys zs p = sym (ap (flat_map f) p ∙ flat_map-append f xs ys)

pub AreMet-parts : {X : Type 0} (ss : List PlainStatement) (f : X → List Use) (roots : List Use) (xs ys zs : List X) → zs ≡ xs ++ ys → AreMet ss roots → AreMet ss (flat_map f xs) → AreMet ss (flat_map f ys)
    → AreMet ss (roots ++ flat_map f zs)
AreMet-parts ss f roots xs ys zs p r a b =
    AreMet-append ss roots (flat_map f zs) r (subst (AreMet ss) (flat_map_parts f xs ys zs p) (AreMet-append ss (flat_map f xs) (flat_map f ys) a b))

pub IsFaultAmong-first : {X : Type 0} (ss : List PlainStatement) (f : X → List Use) (roots : List Use) (xs ys zs : List X) (e : TextError) → zs ≡ xs ++ ys → IsFaultAmong ss (flat_map f xs) e
    → IsFaultAmong ss (roots ++ flat_map f zs) e
IsFaultAmong-first ss f roots xs ys zs e p h =
    IsFaultAmong-right ss roots (flat_map f zs) e
    (subst (λ us. IsFaultAmong ss us e) (flat_map_parts f xs ys zs p) (IsFaultAmong-left ss (flat_map f xs) (flat_map f ys) e h))

pub IsFaultAmong-second : {X : Type 0} (ss : List PlainStatement) (f : X → List Use) (roots : List Use) (xs ys zs : List X) (e : TextError) → zs ≡ xs ++ ys → IsFaultAmong ss (flat_map f ys) e
    → IsFaultAmong ss (roots ++ flat_map f zs) e
IsFaultAmong-second ss f roots xs ys zs e p h =
    IsFaultAmong-right ss roots (flat_map f zs) e
    (subst (λ us. IsFaultAmong ss us e) (flat_map_parts f xs ys zs p) (IsFaultAmong-right ss (flat_map f xs) (flat_map f ys) e h))

-- eight parts in sequence
pub eight_parts : (t t1 t2 t3 t4 t5 t6 t7 t8 a b c d e f g h : List ℕ) → t1 ≡ t ++ a → t2 ≡ t1 ++ b → t3 ≡ t2 ++ c → t4 ≡ t3 ++ d → t5 ≡ t4 ++ e → t6 ≡ t5 ++ f → t7 ≡ t6 ++ g → t8 ≡ t7 ++ h
    → t8 ≡ t ++ (a ++ (b ++ (c ++ (d ++ (e ++ (f ++ (g ++ h)))))))
eight_parts t t1 t2 t3 t4 t5 t6 t7 t8 a b c d e f g h p1 p2 p3 p4 p5 p6 p7 p8 = rw (p8, p7, p6, p5, p4, p3, p2, p1) (simp append_assoc)

-- what the roots and the needed statements use, if ids are the needed statements
pub Has-flat_map : {X U : Type 0} (f : X → List U) (xs : List X) (u : U) → Has (flat_map f xs) u → (x : X) × Has xs x × Has (f x) u
Has-flat_map f [] u h = absurd h
Has-flat_map f (x ∷ xs) u h =
    elim (Has-cases (f x) (flat_map f xs) u h) [
      | inl a ↦ (x, inl refl, a)
      | inr b ↦ (let r = Has-flat_map f xs u b in (r.0, inr r.1, r.2))
    ]

NamedIn-among : (a : Item) (ids : List ℕ) (u : Use) → ((p : ℕ) → Has ids p → NeededIn a p) → Has (roots_of a.ending ++ flat_map (uses_at a.statements) ids) u → NamedIn a u
NamedIn-among a ids u needed h =
    elim (Has-cases (roots_of a.ending) (flat_map (uses_at a.statements) ids) u h) [
      | inl r ↦ inl r
      | inr k ↦ (let w = Has-flat_map (uses_at a.statements) ids u k in inr (w.0, needed w.0 w.1, w.2))
    ]

-- a fault of the roots and of needed statements is a fault of the item
pub IsFaultOf-among : (a : Item) (ids : List ℕ) (e : TextError) → ((p : ℕ) → Has ids p → NeededIn a p) → IsFaultAmong a.statements (roots_of a.ending ++ flat_map (uses_at a.statements) ids) e → IsFaultOf a e
IsFaultOf-among a ids (OutOfRange i) n h =
    (elim h.0 [ inl v ↦ inl (NamedIn-among a ids (value_use i) n v) | inr b ↦ inr (NamedIn-among a ids (block_use i) n b) ], h.1)
IsFaultOf-among a ids (NotAnAssignment i) n h = (NamedIn-among a ids (value_use i) n h.0, h.1, h.2)
IsFaultOf-among a ids (NotABlock i) n h = (NamedIn-among a ids (block_use i) n h.0, h.1, h.2)
IsFaultOf-among a ids OutOfMemory n h = tt

-- the same of a result
pub IsFaultOf-answered : {T : Type 0} (a : Item) (ids : List ℕ) (r : Result T TextError) → ((p : ℕ) → Has ids p ↔ NeededIn a p)
    → IfErr r (λ e. IsFaultAmong a.statements (roots_of a.ending ++ flat_map (uses_at a.statements) ids) e) → IfErr r (λ e. IsFaultOf a e)
IsFaultOf-answered a ids (Ok text) n h = tt
IsFaultOf-answered a ids (Err e) n h = IsFaultOf-among a ids e (λ p k. (n p).0 k) h
