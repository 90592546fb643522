-- The worked examples: which left-hand sides a replacement answers.
use Rattle.std.proofs.Common.{◌≡◌, ℕ, zero, suc, ◌+◌, ◌<◌, ◌⊎◌, inl, inr, length, true, false, List, [], ◌∷◌, codes, Bool, Option, Some, None, refl, sym, ap, ◌∙◌, subst, arith}
use Rattle.std.specs.Prelude.{IsTrue, slice_get, pos}
use Rattle.std.proofs.lemmas.Option.{same_Some}
use Rattle.souper_graph.specs.declared.ast.operands.«Type».{«Type» as Ty}
use Rattle.souper_graph.specs.declared.ast.operands.Operand.{Operand}
use Rattle.souper_graph.specs.declared.ast.operands.Operand.TheVariants.{Value, Constant}
use Rattle.souper_graph.specs.declared.ast.operands.Constant.{Constant as ConstantNode}
use Rattle.souper_graph.specs.declared.ast.instructions.Instruction.TheVariants.{Sub}
use Rattle.souper_graph.specs.declared.ast.statements.Pc.{Pc}
use Rattle.souper_graph.specs.declared.ast.statements.BlockPc.{BlockPc}
use Rattle.souper_graph.specs.Values.{PlainAttribute, negative, non_zero, has_external_uses, var, instruction, PlainRootAttribute, demanded_bits, PlainAssignment, PlainStatement, assigned, condition, block_condition, PlainInfer, inferred, replaced, Item}
use Rattle.souper_graph.specs.Uses.{Has, is_condition, Needed, walked, used, used_at}
use Rattle.souper_graph.specs.Sameness.{carried}
use Rattle.souper_embedding.specs.Embedding.{HasFacts, StandsFor, WantsWithin, EmbedsLeft, Embeds}
use Rattle.souper_embedding.specs.Examples.{byte, merged_stored, merged_query, merged_map, paired_stored, paired_query, wide_query, holds, fails, number, stored, query, turned, joined_stored, joined_query, apart_stored, apart_query, first_map, second_map}

-- the first n of these statements, of which the first is at position k, stand for others
abbrev Stand : (ℕ → ℕ) → List PlainStatement → ℕ → ℕ → List PlainStatement → Type 0
Stand to qs k zero ss = Unit {0}
Stand to qs k (suc n) [] = Unit {0}
Stand to qs k (suc n) (assigned a ∷ ss) = ((b : PlainAssignment) × (slice_get qs (to k) ≡ Some (assigned b)) × StandsFor to a b) × Stand to qs (suc k) n ss
Stand to qs k (suc n) (condition c ∷ ss) = Has qs (carried to (condition c)) × Stand to qs (suc k) n ss
Stand to qs k (suc n) (block_condition c ∷ ss) = Has qs (carried to (block_condition c)) × Stand to qs (suc k) n ss

abbrev AtPosition : (ℕ → ℕ) → List PlainStatement → ℕ → PlainAssignment → Type 0
AtPosition to qs p a = (b : PlainAssignment) × (slice_get qs (to p) ≡ Some (assigned b)) × StandsFor to a b

next : (k p : ℕ) → suc k + p ≡ k + suc p
next k p = omega arith

stand-at : (to : ℕ → ℕ) (qs : List PlainStatement) (k n : ℕ) (ss : List PlainStatement) → Stand to qs k n ss → (p : ℕ) (a : PlainAssignment) → p < n → slice_get ss p ≡ Some (assigned a) → AtPosition to qs (k + p) a
stand-at to qs k zero ss h p a l e = absurd (omega arith)
stand-at to qs k (suc n) [] h p a l e = absurd (cc)
stand-at to qs k (suc n) (assigned b ∷ ss) h zero a l e = let s : assigned b ≡ assigned a = same_Some _ _ e in let t : b ≡ a = cc in let z : k ≡ k + 0 = omega arith in subst (λ m. AtPosition to qs m a) z (subst (λ x. AtPosition to qs k x) t h.0)
stand-at to qs k (suc n) (assigned b ∷ ss) h (suc p) a l e = subst (λ m. AtPosition to qs m a) (next k p) (stand-at to qs (suc k) n ss h.1 p a (omega arith) e)
stand-at to qs k (suc n) (condition b ∷ ss) h zero a l e = absurd (cc)
stand-at to qs k (suc n) (condition b ∷ ss) h (suc p) a l e = subst (λ m. AtPosition to qs m a) (next k p) (stand-at to qs (suc k) n ss h.1 p a (omega arith) e)
stand-at to qs k (suc n) (block_condition b ∷ ss) h zero a l e = absurd (cc)
stand-at to qs k (suc n) (block_condition b ∷ ss) h (suc p) a l e = subst (λ m. AtPosition to qs m a) (next k p) (stand-at to qs (suc k) n ss h.1 p a (omega arith) e)

met-at : (to : ℕ → ℕ) (qs : List PlainStatement) (k n : ℕ) (ss : List PlainStatement) → Stand to qs k n ss → (p : ℕ) (c : PlainStatement) → p < n → slice_get ss p ≡ Some c → IsTrue (is_condition c) → Has qs (carried to c)
met-at to qs k zero ss h p c l e t = absurd (omega arith)
met-at to qs k (suc n) [] h p c l e t = absurd (cc)
met-at to qs k (suc n) (assigned b ∷ ss) h zero c l e t = let s : assigned b ≡ c = same_Some _ _ e in let f : false ≡ true = subst (λ x. IsTrue (is_condition x)) (sym s) t in absurd (cc)
met-at to qs k (suc n) (assigned b ∷ ss) h (suc p) c l e t = met-at to qs (suc k) n ss h.1 p c (omega arith) e t
met-at to qs k (suc n) (condition b ∷ ss) h zero c l e t = subst (λ x. Has qs (carried to x)) (same_Some _ _ e) h.0
met-at to qs k (suc n) (condition b ∷ ss) h (suc p) c l e t = met-at to qs (suc k) n ss h.1 p c (omega arith) e t
met-at to qs k (suc n) (block_condition b ∷ ss) h zero c l e t = subst (λ x. Has qs (carried to x)) (same_Some _ _ e) h.0
met-at to qs k (suc n) (block_condition b ∷ ss) h (suc p) c l e t = met-at to qs (suc k) n ss h.1 p c (omega arith) e t

inside : (ss : List PlainStatement) (p : ℕ) (s : PlainStatement) → slice_get ss p ≡ Some s → p < length ss
inside [] p s e = absurd (cc)
inside (x ∷ ss) zero s e = omega arith
inside (x ∷ ss) (suc p) s e = let l = inside ss p s e in omega arith

same-facts : (facts : List PlainAttribute) → HasFacts facts facts
same-facts facts = λ f h n. h

-- where each statement of the replacement is of its left-hand side
embeds-all : (s q : Item) (i j : PlainInfer) (r : Operand) → s.ending ≡ replaced i r → q.ending ≡ inferred j → i.value ≡ j.value → WantsWithin i.attributes j.attributes
    → Stand (λ p. p) q.statements 0 (length s.statements) s.statements → Embeds s q (λ p. p)
embeds-all s q i j r es eq same wants h = record {
  infer = i;
  result = r;
  stored = es;
  root = j;
  query = eq;
  left = record {
    root = same;
    one_to_one = λ p r m n e. e;
    assignments = λ p a m e. let z : 0 + p ≡ p = omega arith in subst (λ m. AtPosition (λ p. p) q.statements m a) z (stand-at (λ p. p) q.statements 0 (length s.statements) s.statements h p a (inside s.statements p (assigned a) e) e);
    conditions = λ p c e t. met-at (λ p. p) q.statements 0 (length s.statements) s.statements h p c (inside s.statements p c e) e t;
    wanted = wants;
  };
}

-- an assignment with the same contents, and with other facts
same : (to : ℕ → ℕ) (qs : List PlainStatement) (k : ℕ) (a b : PlainAssignment) → slice_get qs (to k) ≡ Some (assigned b) → StandsFor to a b → AtPosition to qs k a
same to qs k a b e s = (b, e, s)

no-unwanted : (other : List PlainRootAttribute) → WantsWithin [] other
no-unwanted other = λ k u. absurd u.1

pub exact : Embeds (stored [] (holds 2 ∷ []) []) (query [] (holds 2 ∷ []) []) (λ p. p)
exact = embeds-all _ _ _ _ _ refl refl refl (no-unwanted []) (
  (_, refl, record { ty = refl; value = refl; facts = λ f h n. h }),
  (
    (_, refl, record { ty = refl; value = refl; facts = λ f h n. h }),
    ((_, refl, record { ty = refl; value = refl; facts = λ f h n. h }), ((_, refl, record { ty = refl; value = refl; facts = λ f h n. h }), (inr (inr (inr (inr (inl refl)))), tt))),
  ),
)

pub fewer : Embeds (stored [] (holds 2 ∷ []) []) (query [] (fails 3 ∷ holds 2 ∷ []) []) (λ p. p)
fewer = embeds-all _ _ _ _ _ refl refl refl (no-unwanted []) (
  (_, refl, record { ty = refl; value = refl; facts = λ f h n. h }),
  (
    (_, refl, record { ty = refl; value = refl; facts = λ f h n. h }),
    ((_, refl, record { ty = refl; value = refl; facts = λ f h n. h }), ((_, refl, record { ty = refl; value = refl; facts = λ f h n. h }), (inr (inr (inr (inr (inr (inl refl))))), tt))),
  ),
)

pub ordered : Embeds (stored [] (holds 2 ∷ fails 3 ∷ []) []) (query [] (fails 3 ∷ holds 2 ∷ []) []) (λ p. p)
ordered = embeds-all _ _ _ _ _ refl refl refl (no-unwanted []) (
  (_, refl, record { ty = refl; value = refl; facts = λ f h n. h }),
  (
    (_, refl, record { ty = refl; value = refl; facts = λ f h n. h }),
    (
      (_, refl, record { ty = refl; value = refl; facts = λ f h n. h }),
      (
        (_, refl, record { ty = refl; value = refl; facts = λ f h n. h }),
        (inr (inr (inr (inr (inr (inl refl))))), (inr (inr (inr (inr (inl refl)))), tt)),
      ),
    ),
  ),
)

pub repeated : Embeds (stored [] (holds 2 ∷ holds 2 ∷ []) []) (query [] (holds 2 ∷ []) []) (λ p. p)
repeated = embeds-all _ _ _ _ _ refl refl refl (no-unwanted []) (
  (_, refl, record { ty = refl; value = refl; facts = λ f h n. h }),
  (
    (_, refl, record { ty = refl; value = refl; facts = λ f h n. h }),
    (
      (_, refl, record { ty = refl; value = refl; facts = λ f h n. h }),
      (
        (_, refl, record { ty = refl; value = refl; facts = λ f h n. h }),
        (inr (inr (inr (inr (inl refl)))), (inr (inr (inr (inr (inl refl)))), tt)),
      ),
    ),
  ),
)

more-facts : HasFacts (non_zero ∷ has_external_uses ∷ []) (negative ∷ non_zero ∷ [])
more-facts f (inl e) n = inr (inl e)
more-facts f (inr (inl e)) n = absurd (n (sym e))
more-facts f (inr (inr h)) n = absurd h

pub facts : Embeds (stored (non_zero ∷ has_external_uses ∷ []) [] []) (query (negative ∷ non_zero ∷ []) [] []) (λ p. p)
facts = embeds-all _ _ _ _ _ refl refl refl (no-unwanted []) (
  (_, refl, record { ty = refl; value = refl; facts = more-facts }),
  (
    (_, refl, record { ty = refl; value = refl; facts = λ f h n. h }),
    ((_, refl, record { ty = refl; value = refl; facts = λ f h n. h }), ((_, refl, record { ty = refl; value = refl; facts = λ f h n. h }), tt)),
  ),
)

-- the bits of the one list of demanded bits
one-list : (xs ys : List Bool) → Has (demanded_bits xs ∷ []) (demanded_bits ys) → xs ≡ ys
one-list xs ys (inl e) = cc
one-list xs ys (inr h) = absurd h

wants-less : WantsWithin (demanded_bits (false ∷ true ∷ []) ∷ []) (demanded_bits (false ∷ false ∷ []) ∷ [])
wants-less zero u = (false ∷ false ∷ [], inl refl, refl)
wants-less (suc zero) u = (false ∷ false ∷ [], inl refl, refl)
wants-less (suc (suc k)) u = let e = one-list _ _ u.1 in let n = subst (λ z. slice_get z (suc (suc k)) ≡ Some false) (sym e) u.2 in absurd (cc)

pub demanded : Embeds (stored [] [] (demanded_bits (false ∷ true ∷ []) ∷ [])) (query [] [] (demanded_bits (false ∷ false ∷ []) ∷ [])) (λ p. p)
demanded = embeds-all _ _ _ _ _ refl refl refl wants-less (
  (_, refl, record { ty = refl; value = refl; facts = λ f h n. h }),
  (
    (_, refl, record { ty = refl; value = refl; facts = λ f h n. h }),
    ((_, refl, record { ty = refl; value = refl; facts = λ f h n. h }), ((_, refl, record { ty = refl; value = refl; facts = λ f h n. h }), tt)),
  ),
)

pub demanded_any : Embeds (stored [] [] []) (query [] [] (demanded_bits (false ∷ false ∷ []) ∷ [])) (λ p. p)
demanded_any = embeds-all _ _ _ _ _ refl refl refl (no-unwanted (demanded_bits (false ∷ false ∷ []) ∷ [])) (
  (_, refl, record { ty = refl; value = refl; facts = λ f h n. h }),
  (
    (_, refl, record { ty = refl; value = refl; facts = λ f h n. h }),
    ((_, refl, record { ty = refl; value = refl; facts = λ f h n. h }), ((_, refl, record { ty = refl; value = refl; facts = λ f h n. h }), tt)),
  ),
)

-- ---- what does not embed

left-of : (s q : Item) (i j : PlainInfer) (r : Operand) (to : ℕ → ℕ) → s.ending ≡ replaced i r → q.ending ≡ inferred j → Embeds s q to → EmbedsLeft s q i j to
left-of s q i j r to es eq h =
    let ei : h.infer ≡ i = let e : replaced h.infer h.result ≡ replaced i r = sym h.stored ∙ es in cc in
    let ej : h.root ≡ j = let e : inferred h.root ≡ inferred j = sym h.query ∙ eq in cc in
    subst (λ z. EmbedsLeft s q z j to) ei (subst (λ z. EmbedsLeft s q h.infer z to) ej h.left)

same-y : (a b : Pc) → condition a ≡ condition b → a.y ≡ b.y
same-y a b e = let z : a ≡ b = cc in ap (λ p. p.y) z

same-predecessor : (a b : BlockPc) → block_condition a ≡ block_condition b → a.predecessor ≡ b.predecessor
same-predecessor a b e = let z : a ≡ b = cc in ap (λ p. p.predecessor) z

same-value : (a b : ConstantNode) → Constant a ≡ Constant b → a.value ≡ b.value
same-value a b e = let z : a ≡ b = cc in ap (λ p. p.value) z

pub unmet : (to : ℕ → ℕ) → ¬ Embeds (stored [] (holds 2 ∷ []) []) (query [] (fails 3 ∷ []) []) to
unmet to h = elim (h.left.conditions 4 (holds 2) refl refl) [
  | inl e ↦ absurd (cc)
  | inr h ↦ elim h [ inl e ↦ absurd (cc) | inr h ↦ elim h [ inl e ↦ absurd (cc) | inr h ↦ elim h [ inl e ↦ absurd (cc) | inr h ↦ elim h [ inl e ↦ absurd (let z : number 0 ≡ number 1 = same-y _ _ e in let v : pos 0 ≡ pos 1 = same-value _ _ z in cc) | inr h ↦ h ] ] ] ]
]

pub predecessor : (to : ℕ → ℕ) → ¬ Embeds (joined_stored 0) (joined_query 1) to
predecessor to h = elim (h.left.conditions 2 (block_condition (record { block = 0; predecessor = 0; x = number 1; y = number 0 })) refl refl) [
  | inl e ↦ absurd (cc)
  | inr h ↦ elim h [ inl e ↦ absurd (cc) | inr h ↦ elim h [ inl e ↦ absurd (let z : 1 ≡ 0 = same-predecessor _ _ e in omega arith) | inr h ↦ h ] ]
]

no-fact : HasFacts (non_zero ∷ []) (negative ∷ []) → ⊥
no-fact h = elim (h non_zero (inl refl) (λ e. absurd (cc))) [ inl e ↦ absurd (cc) | inr n ↦ n ]

pub demanded-more : (to : ℕ → ℕ) → ¬ Embeds (stored [] [] (demanded_bits (false ∷ true ∷ []) ∷ [])) (query [] [] (demanded_bits (true ∷ false ∷ []) ∷ [])) to
demanded-more to h =
    let l = left-of (stored [] [] (demanded_bits (false ∷ true ∷ []) ∷ [])) (query [] [] (demanded_bits (true ∷ false ∷ []) ∷ [])) (record { value = 1; attributes = demanded_bits (false ∷ true ∷ []) ∷ [] }) (record { value = 1; attributes = demanded_bits (true ∷ false ∷ []) ∷ [] }) (number 0) to refl refl h in
    let u = l.wanted 0 (false ∷ true ∷ [], inl refl, refl) in
    let e = one-list (true ∷ false ∷ []) u.0 u.1 in
    let n : Some true ≡ Some false = subst (λ z. slice_get z 0 ≡ Some false) (sym e) u.2 in absurd (cc)

pub demanded-all : (to : ℕ → ℕ) → ¬ Embeds (stored [] [] (demanded_bits (false ∷ true ∷ []) ∷ [])) (query [] [] []) to
demanded-all to h =
    let l = left-of (stored [] [] (demanded_bits (false ∷ true ∷ []) ∷ [])) (query [] [] []) (record { value = 1; attributes = demanded_bits (false ∷ true ∷ []) ∷ [] }) (record { value = 1; attributes = [] }) (number 0) to refl refl h in
    (l.wanted 0 (false ∷ true ∷ [], inl refl, refl)).1

-- the assignment at the root, which is at position 1 of both
root-at : (s q : Item) (i j : PlainInfer) (to : ℕ → ℕ) (a b : PlainAssignment) → EmbedsLeft s q i j to → i.value ≡ 1 → j.value ≡ 1 → slice_get s.statements 1 ≡ Some (assigned a) → slice_get q.statements 1 ≡ Some (assigned b) → StandsFor to a b
root-at s q i j to a b l ei ej ea eb =
    let x = l.assignments 1 a (walked (inl ei)) ea in
    let at : to 1 ≡ 1 = sym (ap to ei) ∙ l.root ∙ ej in
    let y : Some (assigned x.0) ≡ Some (assigned b) = sym x.1 ∙ ap (slice_get q.statements) at ∙ eb in
    let z : x.0 ≡ b = cc in
    subst (λ k. StandsFor to a k) z x.2

pub operands : (to : ℕ → ℕ) → ¬ Embeds (stored [] [] []) turned to
operands to h =
    let l = left-of (stored [] [] []) turned (record { value = 1; attributes = [] }) (record { value = 1; attributes = [] }) (number 0) to refl refl h in
    let s = root-at (stored [] [] []) turned (record { value = 1; attributes = [] }) (record { value = 1; attributes = [] }) to _ _ l refl refl refl refl in
    let e = s.value in absurd (cc)

pub fact : (to : ℕ → ℕ) → ¬ Embeds (stored (non_zero ∷ []) [] []) (query (negative ∷ []) [] []) to
fact to h =
    let l = left-of (stored (non_zero ∷ []) [] []) (query (negative ∷ []) [] []) (record { value = 1; attributes = [] }) (record { value = 1; attributes = [] }) (number 0) to refl refl h in
    let s = root-at (stored (non_zero ∷ []) [] []) (query (negative ∷ []) [] []) (record { value = 1; attributes = [] }) (record { value = 1; attributes = [] }) to _ _ l refl refl refl refl in
    let e = s.value in
    let at : 0 ≡ to 0 = cc in
    let x = l.assignments 0 _ (used (walked (inl refl)) (inl refl)) refl in
    let b : PlainAssignment = record { name = codes "%x"; ty = byte; value = var; attributes = negative ∷ [] } in
    let y : Some (assigned x.0) ≡ Some (assigned b) = sym x.1 ∙ ap (slice_get (query (negative ∷ []) [] []).statements) (sym at) in
    let z : x.0 ≡ b = cc in
    no-fact (subst (λ k. HasFacts (non_zero ∷ []) k.attributes) z x.2.facts)

-- ---- two maps

apart-uses : (i j : ℕ) → i < 5 → Has (used_at apart_stored.statements i) j → j < 5
apart-uses zero j l h = absurd h
apart-uses (suc zero) j l (inl e) = omega arith
apart-uses (suc zero) j l (inr h) = absurd h
apart-uses (suc (suc zero)) j l (inl e) = omega arith
apart-uses (suc (suc zero)) j l (inr h) = absurd h
apart-uses (suc (suc (suc zero))) j l h = absurd h
apart-uses (suc (suc (suc (suc zero)))) j l (inl e) = omega arith
apart-uses (suc (suc (suc (suc zero)))) j l (inr h) = absurd h
apart-uses (suc (suc (suc (suc (suc i))))) j l h = absurd (omega arith)

apart-walks : (p : ℕ) → Has (4 ∷ 2 ∷ []) p → p < 5
apart-walks p (inl e) = omega arith
apart-walks p (inr (inl e)) = omega arith
apart-walks p (inr (inr h)) = absurd h

apart-needed : {p : ℕ} → Needed apart_stored.statements (4 ∷ 2 ∷ []) p → p < 5
apart-needed (walked {i = i} h) = apart-walks i h
apart-needed (used {i = i} {j = j} n h) = apart-uses i j (apart-needed n) h

apart-condition : (p : ℕ) (c : PlainStatement) → slice_get apart_stored.statements p ≡ Some c → IsTrue (is_condition c) → p < 5
apart-condition zero c e t = omega arith
apart-condition (suc zero) c e t = omega arith
apart-condition (suc (suc zero)) c e t = omega arith
apart-condition (suc (suc (suc zero))) c e t = omega arith
apart-condition (suc (suc (suc (suc zero)))) c e t = omega arith
apart-condition (suc (suc (suc (suc (suc zero))))) c e t = let f : false ≡ true = subst (λ x. IsTrue (is_condition x)) (sym (same_Some _ _ e)) t in absurd (cc)
apart-condition (suc (suc (suc (suc (suc (suc p)))))) c e t = absurd (cc)

apart-embeds : (to : ℕ → ℕ) → to 4 ≡ 4 → ((p r : ℕ) → to p ≡ to r → p ≡ r) → Stand to apart_query.statements 0 5 apart_stored.statements → Embeds apart_stored apart_query to
apart-embeds to at one h = record {
  infer = record { value = 4; attributes = [] };
  result = Value 5;
  stored = refl;
  root = record { value = 4; attributes = [] };
  query = refl;
  left = record {
    root = at;
    one_to_one = λ p r m n e. one p r e;
    assignments = λ p a m e. let z : 0 + p ≡ p = omega arith in subst (λ m. AtPosition to apart_query.statements m a) z (stand-at to apart_query.statements 0 5 apart_stored.statements h p a (apart-needed m) e);
    conditions = λ p c e t. met-at to apart_query.statements 0 5 apart_stored.statements h p c (apart-condition p c e t) e t;
    wanted = no-unwanted [];
  };
}

pub first : Embeds apart_stored apart_query first_map
first = apart-embeds first_map refl (λ p r e. e) (
  (_, refl, record { ty = refl; value = refl; facts = λ f h n. h }),
  (
    (_, refl, record { ty = refl; value = refl; facts = λ f h n. h }),
    (
      inr (inr (inl refl)),
      ((_, refl, record { ty = refl; value = refl; facts = λ f h n. h }), ((_, refl, record { ty = refl; value = refl; facts = λ f h n. h }), tt)),
    ),
  ),
)

twice : (p : ℕ) → second_map (second_map p) ≡ p
twice zero = refl
twice (suc zero) = refl
twice (suc (suc zero)) = refl
twice (suc (suc (suc zero))) = refl
twice (suc (suc (suc (suc zero)))) = refl
twice (suc (suc (suc (suc (suc zero))))) = refl
twice (suc (suc (suc (suc (suc (suc zero)))))) = refl
twice (suc (suc (suc (suc (suc (suc (suc zero))))))) = refl
twice (suc (suc (suc (suc (suc (suc (suc (suc p)))))))) = refl

pub second : Embeds apart_stored apart_query second_map
second = apart-embeds second_map refl (λ p r e. sym (twice p) ∙ ap second_map e ∙ twice r) (
  (_, refl, record { ty = refl; value = refl; facts = λ f h n. h }),
  (
    (_, refl, record { ty = refl; value = refl; facts = λ f h n. h }),
    (
      inr (inr (inr (inr (inr (inr (inr (inl refl))))))),
      ((_, refl, record { ty = refl; value = refl; facts = λ f h n. h }), ((_, refl, record { ty = refl; value = refl; facts = λ f h n. h }), tt)),
    ),
  ),
)

-- ---- one-to-one on what the root needs, and there alone

merged-uses : (i j : ℕ) → (i ≡ 3) ⊎ (i ≡ 4) → Has (used_at merged_stored.statements i) j → (j ≡ 3) ⊎ (j ≡ 4)
merged-uses i j (inl e) h = absurd (subst (λ z. Has (used_at merged_stored.statements z) j) e h)
merged-uses i j (inr e) h = elim (subst (λ z. Has (used_at merged_stored.statements z) j) e h) [ inl s ↦ inl (sym s) | inr n ↦ absurd n ]

merged-needed : {p : ℕ} → Needed merged_stored.statements (4 ∷ []) p → (p ≡ 3) ⊎ (p ≡ 4)
merged-needed (walked {i = i} (inl e)) = inr (sym e)
merged-needed (walked {i = i} (inr h)) = absurd h
merged-needed (used {i = i} {j = j} n h) = merged-uses i j (merged-needed n) h

merged-one : (p r : ℕ) → (p ≡ 3) ⊎ (p ≡ 4) → (r ≡ 3) ⊎ (r ≡ 4) → merged_map p ≡ merged_map r → p ≡ r
merged-one p r (inl a) (inl b) e = a ∙ sym b
merged-one p r (inl a) (inr b) e = absurd (let z : 0 ≡ 3 = sym (ap merged_map a) ∙ e ∙ ap merged_map b in omega arith)
merged-one p r (inr a) (inl b) e = absurd (let z : 3 ≡ 0 = sym (ap merged_map a) ∙ e ∙ ap merged_map b in omega arith)
merged-one p r (inr a) (inr b) e = a ∙ sym b

merged-stand : Stand merged_map merged_query.statements 0 5 merged_stored.statements
merged-stand = (
  (_, refl, record { ty = refl; value = refl; facts = λ f h n. h }),
  (
    (_, refl, record { ty = refl; value = refl; facts = λ f h n. h }),
    (
      inr (inr (inl refl)),
      ((_, refl, record { ty = refl; value = refl; facts = λ f h n. h }), ((_, refl, record { ty = refl; value = refl; facts = λ f h n. h }), tt)),
    ),
  ),
)

pub merged : Embeds merged_stored merged_query merged_map
merged = record {
  infer = record { value = 4; attributes = [] };
  result = number 0;
  stored = refl;
  root = record { value = 3; attributes = [] };
  query = refl;
  left = record {
    root = refl;
    one_to_one = λ p r m n e. merged-one p r (merged-needed m) (merged-needed n) e;
    assignments = λ p a m e. let z : 0 + p ≡ p = omega arith in subst (λ m. AtPosition merged_map merged_query.statements m a) z (stand-at merged_map merged_query.statements 0 5 merged_stored.statements merged-stand p a (inside merged_stored.statements p (assigned a) e) e);
    conditions = λ p c e t. met-at merged_map merged_query.statements 0 5 merged_stored.statements merged-stand p c (inside merged_stored.statements p c e) e t;
    wanted = no-unwanted [];
  };
}

differ : (a b : ℕ) → a < b → a ≡ b → ⊥
differ a b l e = omega arith

pub inputs : (to : ℕ → ℕ) → ¬ Embeds paired_stored paired_query to
inputs to h =
    let l = left-of paired_stored paired_query (record { value = 2; attributes = [] }) (record { value = 1; attributes = [] }) (number 0) to refl refl h in
    let x = l.assignments 2 _ (walked (inl refl)) refl in
    let b : PlainAssignment = record { name = codes "%1"; ty = None; value = instruction (Sub (Value 0) (Value 0)); attributes = [] } in
    let y : Some (assigned x.0) ≡ Some (assigned b) = sym x.1 ∙ ap (slice_get paired_query.statements) l.root in
    let z : x.0 ≡ b = cc in
    let v : instruction (Sub (Value 0) (Value 0)) ≡ instruction (Sub (Value (to 0)) (Value (to 1))) = subst (λ (k : PlainAssignment). k.value ≡ instruction (Sub (Value (to 0)) (Value (to 1)))) z x.2.value in
    let first : 0 ≡ to 0 = cc in
    let second : 0 ≡ to 1 = cc in
    differ 0 1 (omega arith) (l.one_to_one 0 1 (used (walked (inl refl)) (inl refl)) (used (walked (inl refl)) (inr (inl refl))) (sym first ∙ second))

width_of : Option Ty → ℕ
width_of None = 0
width_of (Some t) = t.width

pub width : (to : ℕ → ℕ) → ¬ Embeds (stored [] [] []) wide_query to
unfolding width_of
width to h =
    let l = left-of (stored [] [] []) wide_query (record { value = 1; attributes = [] }) (record { value = 1; attributes = [] }) (number 0) to refl refl h in
    let s = root-at (stored [] [] []) wide_query (record { value = 1; attributes = [] }) (record { value = 1; attributes = [] }) to _ _ l refl refl refl refl in
    let e = s.value in
    let at : 0 ≡ to 0 = cc in
    let x = l.assignments 0 _ (used (walked (inl refl)) (inl refl)) refl in
    let b : PlainAssignment = record { name = codes "%0"; ty = Some (record { width = 16 }); value = var; attributes = [] } in
    let y : Some (assigned x.0) ≡ Some (assigned b) = sym x.1 ∙ ap (slice_get wide_query.statements) (sym at) in
    let z : x.0 ≡ b = cc in
    let t : b.ty ≡ byte = subst (λ (k : PlainAssignment). k.ty ≡ byte) z x.2.ty in
    differ 8 16 (omega arith) (sym (ap width_of t))
