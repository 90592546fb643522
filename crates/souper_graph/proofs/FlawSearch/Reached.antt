-- The walk that marks what can be reached, whether or not its ids are good.
use Rattle.std.proofs.Common.{◌≡◌, ℕ, zero, suc, ◌<◌, ◌≤◌, ◌⊎◌, inl, inr, ◌++◌, length, List, [], ◌∷◌, Bool, true, false, refl, sym, ap, subst, ◌∙◌, arith, get_or, get_or-set_same, get_or-set_other}
use Rattle.std.proofs.Math.ListN.{replicate, set, length-set, length-replicate}
use Rattle.std.proofs.lemmas.List.{get_or-replicate, get_or_past}
use Rattle.std.proofs.lemmas.Bool.{cases_eq, cases_lt, false≢true}
use Rattle.souper_graph.specs.Values.{PlainStatement}
use Rattle.souper_graph.specs.Uses.{Has, used_at, walked, used, Needed}
use Rattle.souper_graph.specs.FlawSearch.{AreReached}
use Rattle.souper_graph.proofs.Lists.{Has-left, Has-right, Has-cases, Has-none}

-- what is marked or on the stack is needed, and what is needed is marked, on the stack, or used by what is on the stack
pub record Walking (ss : List PlainStatement) (walks stack : List ℕ) (marks : List Bool) : Type 0 where
  pub size : length marks ≡ length ss
  pub sound : (i : ℕ) → get_or marks i false ≡ true → Needed ss walks i
  pub pending : (i : ℕ) → Has stack i → Needed ss walks i
  pub begun : (i : ℕ) → i < length ss → Has walks i → (get_or marks i false ≡ true) ⊎ Has stack i
  pub closed : (i j : ℕ) → get_or marks i false ≡ true → j < length ss → Has (used_at ss i) j → (get_or marks j false ≡ true) ⊎ Has stack j

none_marked : (n i : ℕ) → get_or (replicate n false) i false ≡ false
none_marked n i = elim (cases_lt i n) [
  | inl l ↦ get_or-replicate n i false false l
  | inr l ↦ get_or_past (replicate n false) i false (let e = length-replicate n false in omega arith)
]

pub walking_start : (ss : List PlainStatement) (walks : List ℕ) (marks : List Bool) (n : ℕ) → marks ≡ replicate n false → n ≡ length ss → Walking ss walks walks marks
walking_start ss walks marks n e l =
    let unmarked = λ (i : ℕ). ap (λ (m : List Bool). get_or m i false) e ∙ none_marked n i in
    record {
      size = ap length e ∙ length-replicate n false ∙ l;
      sound = λ i m. absurd (false≢true (sym (unmarked i) ∙ m));
      pending = λ i h. walked h;
      begun = λ i _ h. inr h;
      closed = λ i j m _ _. absurd (false≢true (sym (unmarked i) ∙ m));
    }

top_or_rest : (stack : List ℕ) (t i : ℕ) → Has (stack ++ t ∷ []) i → Has stack i ⊎ (t ≡ i)
top_or_rest stack t i h = elim (Has-cases stack (t ∷ []) i h) [
  | inl a ↦ inl a
  | inr b ↦ elim b [ inl e ↦ inr e | inr c ↦ absurd c ]
]

-- a position that is marked, or past the end, is dropped
pub walking_dropped : (ss : List PlainStatement) (walks stack stack' : List ℕ) (marks : List Bool) (t : ℕ) → Walking ss walks stack marks → stack ≡ stack' ++ t ∷ [] →
    (get_or marks t false ≡ true) ⊎ (length ss ≤ t) → Walking ss walks stack' marks
walking_dropped ss walks stack stack' marks t w e gone =
    record {
      size = w.size;
      sound = w.sound;
      pending = λ i h. w.pending i (subst (λ (s : List ℕ). Has s i) (sym e) (Has-left stack' (t ∷ []) i h));
      begun = λ i l h. left i l (w.begun i l h);
      closed = λ i j m l h. left j l (w.closed i j m l h);
    }
  where
    left : (i : ℕ) → i < length ss → (get_or marks i false ≡ true) ⊎ Has stack i → (get_or marks i false ≡ true) ⊎ Has stack' i
    left i l (inl m) = inl m
    left i l (inr s) = elim (top_or_rest stack' t i (subst (λ (z : List ℕ). Has z i) e s)) [
      | inl a ↦ inr a
      | inr b ↦ elim gone [ inl m ↦ inl (subst (λ (z : ℕ). get_or marks z false ≡ true) b m) | inr past ↦ absurd (omega arith) ]
    ]

-- another one is marked, and what it uses is put on the stack
pub walking_entered : (ss : List PlainStatement) (walks stack stack' stack'' : List ℕ) (marks marks' : List Bool) (t : ℕ) → Walking ss walks stack marks → stack ≡ stack' ++ t ∷ [] →
    t < length ss → marks' ≡ set marks t true → stack'' ≡ stack' ++ used_at ss t → Walking ss walks stack'' marks'
walking_entered ss walks stack stack' stack'' marks marks' t w e inside m' s' =
    record {
      size = ap length m' ∙ length-set marks t true ∙ w.size;
      sound = sound;
      pending = λ i h. elim (Has-cases stack' (used_at ss t) i (subst (λ (z : List ℕ). Has z i) s' h)) [
        | inl a ↦ w.pending i (subst (λ (z : List ℕ). Has z i) (sym e) (Has-left stack' (t ∷ []) i a))
        | inr b ↦ used here b
      ];
      begun = λ i l h. kept i (w.begun i l h);
      closed = closed;
    }
  where
    here : Needed ss walks t
    here = w.pending t (subst (λ (z : List ℕ). Has z t) (sym e) (Has-right stack' (t ∷ []) t (inl refl)))

    now_marked : get_or marks' t false ≡ true
    now_marked = ap (λ (m : List Bool). get_or m t false) m' ∙ get_or-set_same marks t true false (let q = w.size in omega arith)

    other : (i : ℕ) → (i ≡ t → ⊥) → get_or marks' i false ≡ get_or marks i false
    other i ne = ap (λ (m : List Bool). get_or m i false) m' ∙ get_or-set_other marks t i true false ne

    marked_still : (i : ℕ) → get_or marks i false ≡ true → get_or marks' i false ≡ true
    marked_still i m = elim (cases_eq i t) [
      | inl q ↦ subst (λ (z : ℕ). get_or marks' z false ≡ true) (sym q) now_marked
      | inr ne ↦ other i ne ∙ m
    ]

    kept : (i : ℕ) → (get_or marks i false ≡ true) ⊎ Has stack i → (get_or marks' i false ≡ true) ⊎ Has stack'' i
    kept i (inl m) = inl (marked_still i m)
    kept i (inr s) = elim (top_or_rest stack' t i (subst (λ (z : List ℕ). Has z i) e s)) [
      | inl a ↦ inr (subst (λ (z : List ℕ). Has z i) (sym s') (Has-left stack' (used_at ss t) i a))
      | inr b ↦ inl (subst (λ (z : ℕ). get_or marks' z false ≡ true) b now_marked)
    ]

    sound : (i : ℕ) → get_or marks' i false ≡ true → Needed ss walks i
    sound i m = elim (cases_eq i t) [
      | inl q ↦ subst (Needed ss walks) (sym q) here
      | inr ne ↦ w.sound i (sym (other i ne) ∙ m)
    ]

    closed : (i j : ℕ) → get_or marks' i false ≡ true → j < length ss → Has (used_at ss i) j → (get_or marks' j false ≡ true) ⊎ Has stack'' j
    closed i j m l h = elim (cases_eq i t) [
      | inl q ↦ inr (subst (λ (z : List ℕ). Has z j) (sym s') (Has-right stack' (used_at ss t) j (subst (λ (z : ℕ). Has (used_at ss z) j) q h)))
      | inr ne ↦ kept j (w.closed i j (sym (other i ne) ∙ m) l h)
    ]

used_inside : (ss : List PlainStatement) (i j : ℕ) → Has (used_at ss i) j → i < length ss
used_inside [] i j h = absurd h
used_inside (s ∷ ss) zero j h = omega arith
used_inside (s ∷ ss) (suc i) j h = let below = used_inside ss i j h in omega arith

-- the stack is empty
pub walking_over : (ss : List PlainStatement) (walks stack : List ℕ) (marks : List Bool) → Walking ss walks stack marks → stack ≡ [] → AreReached ss walks marks
walking_over ss walks stack marks w e =
    record { size = w.size; sound = w.sound; whole = λ i l d. whole i d l }
  where
    only_marked : (i : ℕ) → (get_or marks i false ≡ true) ⊎ Has stack i → get_or marks i false ≡ true
    only_marked i (inl m) = m
    only_marked i (inr s) = absurd (Has-none i (subst (λ (z : List ℕ). Has z i) e s))

    whole : (i : ℕ) → Needed ss walks i → i < length ss → get_or marks i false ≡ true
    whole i (walked h) l = only_marked i (w.begun i l h)
    whole i (used {i = p} d h) l = only_marked i (w.closed p i (whole p d (used_inside ss p i h)) l h)
