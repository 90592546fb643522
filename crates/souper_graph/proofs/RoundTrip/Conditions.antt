-- Lemmas. The line of each path condition is in the canonical text, in order; an item in another arena order is the
-- same graph.
use Rattle.std.proofs.Common.{◌≡◌, ℕ, suc, ◌<◌, inl, inr, Bool, true, false, cond, List, [], ◌∷◌, ◌++◌, length, map, take, drop, Option, refl, sym, ap, ◌∙◌, subst, arith, append_assoc}
use Rattle.std.specs.Prelude.{flat_map, filter, codes, slice_get}
use Rattle.std.specs.List.{AllByRecursion}
use Rattle.std.proofs.lemmas.List.{take-append-drop, map-append, length_push}
use Rattle.std.proofs.lemmas.Grind.{flat_map-append}
use Rattle.souper_graph.specs.Values.{PlainStatement, assigned, condition, block_condition, PlainInfer, Ending, inferred, resulting, replaced, candidate, Item}
use Rattle.souper_graph.specs.Uses.{Has, used_at, walks_of, walked, used, conditions_from, conditions, NeededIn}
use Rattle.souper_graph.specs.Order.{printed_order, lead_of}
use Rattle.souper_graph.specs.Text.{text_of_statement, text_of_infer, line_of, line_at, lines_of, text_in_order, text_of, text_of_assignment, text_of_pc, text_of_block_pc, name_at}
use Rattle.souper_graph.specs.Leaves.{text_of_root_attributes}
use Rattle.souper_graph.specs.WellFormed.{WellFormed}
use Rattle.souper_graph.specs.Sameness.{carried, SameGraph}
use Rattle.souper_graph.specs.CanonicalText.{IsRearranged, IsLine, IsSublist, condition_lines, HasConditionLines}
use Rattle.souper_graph.proofs.Lists.{Has-left, Has-right, Has-here, Has-later, Has-map, Has-mapped}
use Rattle.souper_graph.proofs.Judging.Needed.{stood, statement_at, stands, from-inside, well_formed_inside, well_formed_stands}
use Rattle.souper_graph.proofs.Sameness.PrintedOrder.{condition_at, condition-holds, is-condition, conditions-printed, from-increasing, same-increasing}
use Rattle.souper_graph.proofs.Sameness.Renumbered.{needs, condition-at, used-carried, walks-carried, increasing-map}
use Rattle.souper_graph.proofs.RoundTrip.Scopes.{get_middle}
use Rattle.souper_graph.proofs.RoundTrip.ReadBack.{same-graph-text}

-- ---- lines

abbrev flat : List (List ℕ) → List ℕ
flat ls = flat_map (λ (l : List ℕ). l) ls

flat-append : (xs ys : List (List ℕ)) → flat (xs ++ ys) ≡ flat xs ++ flat ys
flat-append xs ys = flat_map-append (λ (l : List ℕ). l) xs ys

lines-flat : (ss : List PlainStatement) (ids : List ℕ) → lines_of ss ids ≡ flat (map (line_at ss) ids)
lines-flat ss [] = refl
lines-flat ss (i ∷ ids) = ap (λ (l : List ℕ). line_at ss i ++ l) (lines-flat ss ids)

statement_line : (ss : List PlainStatement) (s : PlainStatement) → IsLine (text_of_statement ss s)
statement_line ss (assigned a) = (text_of_assignment ss a, refl)
statement_line ss (condition p) = (text_of_pc ss p, refl)
statement_line ss (block_condition p) = (text_of_block_pc ss p, refl)

infer_line : (ss : List PlainStatement) (i : PlainInfer) → IsLine (text_of_infer ss i)
infer_line ss i = (
  codes "infer " ++ (name_at ss i.value ++ text_of_root_attributes i.attributes),
  sym (append_assoc (codes "infer ") (name_at ss i.value ++ text_of_root_attributes i.attributes) (10 ∷ []) ∙ ap (λ (l : List ℕ). codes "infer " ++ l) (append_assoc (name_at ss i.value) (text_of_root_attributes i.attributes) (10 ∷ []))),
)

lines-each : (a : Item) → WellFormed a → (ids : List ℕ) → ((i : ℕ) → Has ids i → NeededIn a i) → AllByRecursion IsLine (map (line_at a.statements) ids)
lines-each a wa [] h = tt
lines-each a wa (i ∷ ids) h = (
  subst (λ (o : Option PlainStatement). IsLine (line_of a.statements o)) (sym (well_formed_stands a wa i (h i (Has-here i ids)))) (statement_line a.statements (statement_at a.statements i)),
  lines-each a wa ids (λ j q. h j (Has-later i j ids q)),
)

each-append : (xs ys : List (List ℕ)) → AllByRecursion IsLine xs → AllByRecursion IsLine ys → AllByRecursion IsLine (xs ++ ys)
each-append [] ys p q = q
each-append (x ∷ xs) ys p q = (p.0, each-append xs ys p.1 q)

-- ---- sublists

sublist-filter : (f : ℕ → List ℕ) (p : ℕ → Bool) (xs : List ℕ) → IsSublist (map f (filter p xs)) (map f xs)
sublist-filter f p [] = tt
sublist-filter f p (x ∷ xs) = sublist-if (p x) f x (filter p xs) (map f xs) (sublist-filter f p xs)
  where
    sublist-later : (x : List ℕ) (xs ys : List (List ℕ)) → IsSublist xs ys → IsSublist xs (x ∷ ys)
    sublist-later x [] ys h = tt
    sublist-later x (z ∷ xs) ys h = inr h

    sublist-if : (b : Bool) (f : ℕ → List ℕ) (x : ℕ) (ys : List ℕ) (zs : List (List ℕ)) → IsSublist (map f ys) zs → IsSublist (map f (cond b (x ∷ ys) ys)) (f x ∷ zs)
    sublist-if true f x ys zs h = inl (refl, h)
    sublist-if false f x ys zs h = sublist-later (f x) (map f ys) zs h

sublist-insert : (xs ys : List (List ℕ)) (z : List ℕ) (zs : List (List ℕ)) → IsSublist xs (ys ++ zs) → IsSublist xs (ys ++ z ∷ zs)
sublist-insert [] ys z zs h = tt
sublist-insert (x ∷ xs) [] z zs h = inr h
sublist-insert (x ∷ xs) (y ∷ ys) z zs (inl h) = inl (h.0, sublist-insert xs ys z zs h.1)
sublist-insert (x ∷ xs) (y ∷ ys) z zs (inr h) = inr (sublist-insert (x ∷ xs) ys z zs h)

-- ---- the lines of the path conditions

conditions-at : (ss pre us : List PlainStatement) → ss ≡ pre ++ us → map (line_at ss) (conditions_from (length pre) us) ≡ condition_lines ss us
conditions-at ss pre [] e = refl
conditions-at ss pre (u ∷ us) e =
    let next : suc (length pre) ≡ length (pre ++ u ∷ []) = (let q = length_push pre u in omega arith) in
    let rest : map (line_at ss) (conditions_from (suc (length pre)) us) ≡ condition_lines ss us =
    ap (λ (k : ℕ). map (line_at ss) (conditions_from k us)) next ∙ conditions-at ss (pre ++ u ∷ []) us (e ∙ sym (append_assoc pre (u ∷ []) us)) in
    let here : line_at ss (length pre) ≡ text_of_statement ss u = ap (λ (x : List PlainStatement). line_of ss (slice_get x (length pre))) e ∙ ap (line_of ss) (get_middle pre us u) in
    one_line ss u us (length pre) here rest
  where
    one_line : (ss : List PlainStatement) (u : PlainStatement) (us : List PlainStatement) (k : ℕ) → line_at ss k ≡ text_of_statement ss u → map (line_at ss) (conditions_from (suc k) us) ≡ condition_lines ss us
        → map (line_at ss) (conditions_from k (u ∷ us)) ≡ condition_lines ss (u ∷ us)
    one_line ss (assigned a) us k here rest = rest
    one_line ss (condition p) us k here rest = (λ j. here j ∷ rest j)
    one_line ss (block_condition p) us k here rest = (λ j. here j ∷ rest j)

-- ---- the lines of an item's text

module _ (a : Item) (wa : WellFormed a) where
  abbrev ids : List ℕ
  ids = printed_order a

  abbrev shown : List ℕ → List (List ℕ)
  shown is = map (line_at a.statements) is

  among : IsSublist (condition_lines a.statements a.statements) (shown ids)
  among =
      subst (λ (z : List (List ℕ)). IsSublist z (shown ids)) (ap (map (line_at a.statements)) (conditions-printed a wa) ∙ conditions-at a.statements [] a.statements refl)
      (sublist-filter (line_at a.statements) (condition_at a) ids)

  all-lines : AllByRecursion IsLine (shown ids)
  all-lines = lines-each a wa ids (needs a)

  -- all statements before the last line
  one_part : (last : List ℕ) → text_of a ≡ lines_of a.statements ids ++ last → HasConditionLines a
  one_part last e = record {
    lines = shown ids;
    rest = last;
    whole = e ∙ ap (λ (l : List ℕ). l ++ last) (lines-flat a.statements ids);
    each_line = all-lines;
    conditions_among = among;
  }

  -- an infer line among the statements
  two_parts : (n : ℕ) (i : PlainInfer) (last : List ℕ) → text_of a ≡ lines_of a.statements (take n ids) ++ (text_of_infer a.statements i ++ (lines_of a.statements (drop n ids) ++ last)) → HasConditionLines a
  two_parts n i last e =
      let front = shown (take n ids) in
      let back = shown (drop n ids) in
      let infer = text_of_infer a.statements i in
      let halves : shown ids ≡ front ++ back = ap shown (sym (take-append-drop n ids)) ∙ map-append (line_at a.statements) (take n ids) (drop n ids) in
      record {
        lines = front ++ infer ∷ back;
        rest = last;
        whole = e ∙ (λ j. lines-flat a.statements (take n ids) j ++ (infer ++ (lines-flat a.statements (drop n ids) j ++ last)))
            ∙ sym (append_assoc (flat front) (infer ++ flat back) last ∙ ap (λ (l : List ℕ). flat front ++ l) (append_assoc infer (flat back) last))
            ∙ ap (λ (l : List ℕ). l ++ last) (sym (flat-append front (infer ∷ back)));
        each_line = each-append front (infer ∷ back)
            (lines-each a wa (take n ids) (λ k h. needs a k (subst (λ (z : List ℕ). Has z k) (take-append-drop n ids) (Has-left (take n ids) (drop n ids) k h))))
            (infer_line a.statements i, lines-each a wa (drop n ids) (λ k h. needs a k (subst (λ (z : List ℕ). Has z k) (take-append-drop n ids) (Has-right (take n ids) (drop n ids) k h))));
        conditions_among = sublist-insert (condition_lines a.statements a.statements) front infer back (subst (IsSublist (condition_lines a.statements a.statements)) halves among);
      }

  by_ending : (e : Ending) → a.ending ≡ e → HasConditionLines a
  by_ending (inferred i) q = one_part _ (ap (λ (e : Ending). text_in_order a.statements e ids (lead_of a)) q)
  by_ending (resulting r) q = one_part _ (ap (λ (e : Ending). text_in_order a.statements e ids (lead_of a)) q)
  by_ending (replaced i r) q = two_parts (lead_of a) i _ (ap (λ (e : Ending). text_in_order a.statements e ids (lead_of a)) q)
  by_ending (candidate c) q = one_part _ (ap (λ (e : Ending). text_in_order a.statements e ids (lead_of a)) q)

  pub condition-lines : HasConditionLines a
  condition-lines = by_ending a.ending refl

-- ---- another arena order

module _ (a b : Item) (wa : WellFormed a) (m : IsRearranged a b) where
  moved : (i : ℕ) → i < length a.statements → statement_at b.statements (m.to i) ≡ carried m.to (statement_at a.statements i)
  moved i l = ap stood (m.statements_moved i (statement_at a.statements i) (stands a.statements i l))

  condition-moved : (i : ℕ) → i < length a.statements → condition_at b (m.to i) ≡ condition_at a i
  condition-moved i l = condition-at a b m.to i (m.to i) (moved i l)

  conditions-moved : conditions b ≡ map m.to (conditions a)
  conditions-moved =
      same-increasing (conditions b) (map m.to (conditions a)) (from-increasing 0 b.statements)
      (increasing-map m.to (conditions a) (from-increasing 0 a.statements) m.condition_order)
      (λ j h.
      let l : j < length b.statements = (let q = from-inside 0 b.statements j h in omega arith) in
      let e = m.from_to j l in
      let there : condition_at a (m.from j) ≡ true = sym (condition-moved (m.from j) (m.from_inside j l)) ∙ ap (condition_at b) e ∙ condition-holds b j h in
      subst (λ (z : ℕ). Has (map m.to (conditions a)) z) e (Has-map m.to (conditions a) (m.from j) (is-condition a (m.from j) there)))
      (λ j h.
      let r = Has-mapped m.to (conditions a) j h in
      let l : r.0 < length a.statements = (let q = from-inside 0 a.statements r.0 r.1 in omega arith) in
      is-condition b j (ap (condition_at b) (sym r.2) ∙ condition-moved r.0 l ∙ condition-holds a r.0 r.1))

  walks-moved : walks_of b ≡ map m.to (walks_of a)
  walks-moved = walks-carried a b m.to m.ending_moved conditions-moved

  used-moved : (i : ℕ) → NeededIn a i → used_at b.statements (m.to i) ≡ map m.to (used_at a.statements i)
  used-moved i d = used-carried a b m.to i (m.to i) (moved i (well_formed_inside a wa i d))

needed-moved : (a b : Item) (wa : WellFormed a) (m : IsRearranged a b) {i : ℕ} → NeededIn a i → NeededIn b (m.to i)
needed-moved a b wa m {i = i} (walked h) = walked (subst (λ (z : List ℕ). Has z (m.to i)) (sym (walks-moved a b wa m)) (Has-map m.to (walks_of a) i h))
needed-moved a b wa m {i = i} (used {i = v} n h) =
    used (needed-moved a b wa m n) (subst (λ (z : List ℕ). Has z (m.to i)) (sym (used-moved a b wa m v n)) (Has-map m.to (used_at a.statements v) i h))

-- what the statement at v uses is what the statement that was moved there uses
used-from : (a b : Item) (wa : WellFormed a) (m : IsRearranged a b) (i v j : ℕ) → NeededIn a i → m.to i ≡ v → Has (used_at b.statements v) j → (u : ℕ) × Has (used_at a.statements i) u × (m.to u ≡ j)
used-from a b wa m i v j d e h =
    Has-mapped m.to (used_at a.statements i) j (subst (λ (z : List ℕ). Has z j) (ap (used_at b.statements) (sym e) ∙ used-moved a b wa m i d) h)

onto-moved : (a b : Item) (wa : WellFormed a) (m : IsRearranged a b) {j : ℕ} → NeededIn b j → (i : ℕ) × NeededIn a i × (m.to i ≡ j)
onto-moved a b wa m {j = j} (walked h) =
    let r = Has-mapped m.to (walks_of a) j (subst (λ (z : List ℕ). Has z j) (walks-moved a b wa m) h) in (r.0, walked r.1, r.2)
onto-moved a b wa m {j = j} (used {i = v} n h) =
    let o = onto-moved a b wa m n in
    let r = used-from a b wa m o.0 v j o.1 o.2 h in (r.0, used o.1 r.1, r.2)

rearranged-graph : (a b : Item) → WellFormed a → IsRearranged a b → SameGraph a b
rearranged-graph a b wa m = record {
  to = m.to;
  needed = λ i d. needed-moved a b wa m d;
  onto = λ j d. onto-moved a b wa m d;
  one_to_one = λ i j di dj e. sym (m.to_from i (well_formed_inside a wa i di)) ∙ ap m.from e ∙ m.to_from j (well_formed_inside a wa j dj);
  contents = λ i s d e. m.statements_moved i s e;
  ending = m.ending_moved;
  condition_order = m.condition_order;
}

pub rearranged-text : (a b : Item) → WellFormed a → WellFormed b → IsRearranged a b → text_of b ≡ text_of a
rearranged-text a b wa wb m = sym (same-graph-text a b wa wb (rearranged-graph a b wa m))
