-- A stored replacement is its own instance for a query that has names by its printed order.
use Rattle.std.proofs.Common.{◌≡◌, ℕ, zero, suc, ◌<◌, ◌≤◌, ◌++◌, inl, inr, length, map, take, List, [], ◌∷◌, true, Some, get_or, refl, sym, ap, ◌∙◌, subst, arith}
use Rattle.std.specs.List.{slice_get}
use Rattle.std.proofs.lemmas.List.{length-map, map-append}
use Rattle.souper_graph.specs.Names.{IsName}
use Rattle.souper_graph.specs.Values.{PlainStatement, PlainAssignment, assigned, condition, block_condition, PlainInfer, Item}
use Rattle.souper_graph.specs.Uses.{Has, is_condition, walks_of, walked, NeededIn}
use Rattle.souper_graph.specs.Order.{printed_order}
use Rattle.souper_graph.specs.WellFormed.{FitsStatement, WellFormed}
use Rattle.souper_graph.specs.Text.{name_of, name_at}
use Rattle.souper_graph.specs.Sameness.{SameGraph, place}
use Rattle.souper_graph.specs.Renaming.{with_name, nameless, SameUpToNames, renamed, name_in, name_of_index}
use Rattle.souper_graph.proofs.Judging.Needed.{statement_at, well_formed_stands, in-conditions}
use Rattle.souper_graph.proofs.Sameness.Indices.{place-inside, place-left, place-at, Has-at}
use Rattle.souper_graph.proofs.Sameness.PrintedOrder.{is-condition, printed-once}
use Rattle.souper_graph.proofs.Sameness.Renumbered.{ordered, order-carried, inside, needs, unneeded-graph, unneeded-same, renumbered-same, same-renumbered}
use Rattle.souper_graph.proofs.Sameness.Renaming.{renamed-graph, renamed-there}
use Rattle.souper_graph.specs.LeftSides.{infer_of, with_infer}
use Rattle.souper_lookup.specs.Instance.{names_of_all, IsFresh, SameLeft, IsInstance}
use Rattle.souper_lookup.specs.Stored.{Storable}
use Rattle.std.proofs.lemmas.Option.{same_Some}
use Rattle.souper_graph.proofs.Lefts.{left-well, law-begins, own-left-same, own-renamed-well}
use Rattle.souper_lookup.proofs.Instances.{name-mapped, carried-name, rest-name}

-- a statement that has a name is an assignment
name-assigned : (u : PlainStatement) (n : ℕ) (ns : List ℕ) → name_of (Some u) ≡ n ∷ ns → (v : PlainAssignment) × (u ≡ assigned v) × (v.name ≡ n ∷ ns)
name-assigned (assigned v) n ns e = (v, refl, e)
name-assigned (condition p) n ns e = absurd (cc)
name-assigned (block_condition p) n ns e = absurd (cc)

fits-name : (n : List ℕ) (t : PlainStatement) → (is_condition t ≡ true → ⊥) → FitsStatement (with_name n t) → IsName n
fits-name n (assigned v) h f = f.name_fits
fits-name n (condition p) h f = absurd (h refl)
fits-name n (block_condition p) h f = absurd (h refl)

Has-taken : (xs : List (List ℕ)) (k j : ℕ) → j < k → k ≤ length xs → Has (take k xs) (name_in xs j)
Has-taken [] zero j l m = absurd (omega arith)
Has-taken [] (suc k) j l m = absurd (omega arith)
Has-taken (x ∷ xs) zero j l m = absurd (omega arith)
Has-taken (x ∷ xs) (suc k) zero l m = inl refl
Has-taken (x ∷ xs) (suc k) (suc j) l m = inr (Has-taken xs k j (omega arith) (omega arith))

taken-front : (xs ys : List (List ℕ)) (n : ℕ) → length xs ≡ n → take n (xs ++ ys) ≡ xs
taken-front [] [] zero e = refl
taken-front [] (y ∷ ys) zero e = refl
taken-front [] ys (suc n) e = absurd (omega arith)
taken-front (x ∷ xs) ys zero e = absurd (omega arith)
taken-front (x ∷ xs) ys (suc n) e = ap (λ (z : List (List ℕ)). x ∷ z) (taken-front xs ys n (omega arith))

map-same : (f g : ℕ → List ℕ) (xs : List ℕ) → ((x : ℕ) → Has xs x → f x ≡ g x) → map f xs ≡ map g xs
map-same f g [] h = refl
map-same f g (x ∷ xs) h = λ j. h x (inl refl) j ∷ map-same f g xs (λ y m. h y (inr m)) j

mapped-twice : (g : ℕ → ℕ) (f : ℕ → List ℕ) (xs : List ℕ) → map f (map g xs) ≡ map (λ x. f (g x)) xs
mapped-twice g f [] = refl
mapped-twice g f (x ∷ xs) = ap (λ (z : List (List ℕ)). f (g x) ∷ z) (mapped-twice g f xs)

module _ (q a : Item) (wq : WellFormed q) (rq : WellFormed (renamed q)) (s : Storable a) (h : SameLeft q a)
    (others : (n : ℕ) → length (printed_order (renamed q)) ≤ n → n < length (printed_order a) → Has (names_of_all (renamed q).statements) (name_of_index n) → ⊥) where
  abbrev i : PlainInfer
  i = s.infer

  abbrev l : Item
  l = with_infer a i

  abbrev P : List ℕ
  P = printed_order a

  abbrev Q : List ℕ
  Q = printed_order (renamed q)

  abbrev names : List (List ℕ)
  names = map (name_at a.statements) P

  wl : WellFormed l
  wl = left-well a i (ap infer_of s.ending) s.well_formed

  same-left : SameUpToNames q l
  same-left = subst (λ (z : PlainInfer). SameUpToNames q (with_infer a z)) (same_Some _ _ (sym h.line ∙ ap infer_of s.ending)) h.same

  graph : SameGraph (renamed q) l
  graph =
      let rl = own-renamed-well a i s.result s.ending s.well_formed s.named in
      same-renumbered (renamed q) l rq wl
      (renumbered-same (renamed q) (renamed l) rq rl (renamed-graph q l (ordered q wq) (ordered l wl) same-left)
      ∙ unneeded-same l (renamed l) wl (own-left-same a i s.result s.ending s.well_formed s.named))

  left-order : printed_order l ≡ map graph.to Q
  left-order = order-carried (renamed q) l (ordered (renamed q) rq) (ordered l wl) graph

  left-long : length (printed_order l) ≡ length Q
  left-long = ap (λ (z : List ℕ). length z) left-order ∙ length-map Q graph.to

  long : length names ≡ length P
  long = length-map P (name_at a.statements)

  lead-name : (p : ℕ) → Has Q p → name_at a.statements (graph.to p) ≡ name_at (renamed q).statements p
  lead-name p m =
      let d = needs (renamed q) p m in
      let t = statement_at (renamed q).statements p in
      let there = well_formed_stands (renamed q) rq p d in
      ap name_of (graph.contents p t d there) ∙ carried-name graph.to t ∙ sym (ap name_of there)

  first-names : take (length Q) names ≡ map (name_at (renamed q).statements) Q
  first-names =
      let begins = law-begins a i s.result s.ending in
      let f = name_at a.statements in
      ap (λ (z : List ℕ). take (length Q) (map f z)) begins.1 ∙ ap (take (length Q)) (map-append f (printed_order l) begins.0)
      ∙ taken-front (map f (printed_order l)) (map f begins.0) (length Q) (length-map (printed_order l) f ∙ left-long)
      ∙ ap (map f) left-order ∙ mapped-twice graph.to f Q ∙ map-same (λ p. f (graph.to p)) (name_at (renamed q).statements) Q lead-name

  lead : length (map (name_at (renamed q).statements) Q) ≡ length Q
  lead = length-map Q (name_at (renamed q).statements)

  -- the statement at an index
  abbrev pos : ℕ → ℕ
  pos k = get_or P k 0

  needed : (k : ℕ) → k < length P → NeededIn a (pos k)
  needed k lt = needs a (pos k) (Has-at P k 0 lt)

  name-is : (k : ℕ) → k < length P → name_in names k ≡ name_at a.statements (pos k)
  name-is k lt = name-mapped (name_at a.statements) P k lt

  -- after the left-hand side there are assignments alone
  plain : (k : ℕ) → length Q ≤ k → k < length P → is_condition (statement_at a.statements (pos k)) ≡ true → ⊥
  plain k le lt c =
      let p = pos k in
      let begins = law-begins a i s.result s.ending in
      let m : Has (printed_order l) p = inside l wl p (walked (in-conditions l p (is-condition l p c))) in
      let e = ap (λ (z : List ℕ). place z p) begins.1 ∙ place-left (printed_order l) begins.0 p m in
      let o = place-inside (printed_order l) p m in
      let n = left-long in
      let here = place-at P k 0 (printed-once a.statements (walks_of a)) lt in
      omega arith

  -- and each has its number
  numbered-there : (k : ℕ) → k < length P → slice_get a.statements (pos k) ≡ Some (with_name (name_of_index k) (statement_at a.statements (pos k)))
  numbered-there k lt =
      ap (λ (z : Item). slice_get z.statements (pos k)) (sym s.named) ∙ renamed-there a (ordered a s.well_formed) (pos k) (needed k lt)
      ∙ ap (λ (z : ℕ). Some (with_name (name_of_index z) (statement_at a.statements (pos k)))) (place-at P k 0 (printed-once a.statements (walks_of a)) lt)

  number-is : (k : ℕ) → length Q ≤ k → k < length P → name_in names k ≡ name_of_index k
  number-is k le lt = name-is k lt ∙ ap name_of (numbered-there k lt) ∙ rest-name (name_of_index k) (statement_at a.statements (pos k)) (plain k le lt)

  apart : (j k : ℕ) → j < k → length Q ≤ k → k < length P → name_in names j ≡ name_in names k → ⊥
  apart j k less le lt e =
      let lj : j < length P = omega arith in
      let n = number-is k le lt in
      let tj = well_formed_stands a s.well_formed (pos j) (needed j lj) in
      let tk = well_formed_stands a s.well_formed (pos k) (needed k lt) in
      let vj = name-assigned (statement_at a.statements (pos j)) _ _ (sym (ap name_of tj) ∙ sym (name-is j lj) ∙ e ∙ n) in
      let vk = name-assigned (statement_at a.statements (pos k)) _ _ (sym (ap name_of tk) ∙ sym (name-is k lt) ∙ n) in
      let same = s.well_formed.named_apart (pos j) (pos k) vj.0 vk.0 (needed j lj) (needed k lt) (tj ∙ ap (λ (z : PlainStatement). Some z) vj.1) (tk ∙ ap (λ (z : PlainStatement). Some z) vk.1) (vj.2 ∙ sym vk.2) in
      let pj = place-at P j 0 (printed-once a.statements (walks_of a)) lj in
      let pk = place-at P k 0 (printed-once a.statements (walks_of a)) lt in
      let place-same = ap (place P) same in
      omega arith

  fresh : (k : ℕ) → length Q ≤ k → k < length names → IsFresh (length Q) (names_of_all (renamed q).statements) names k
  fresh k le lt =
      let m = long in
      let kp : k < length P = omega arith in
      let n = number-is k le kp in
      let u = statement_at a.statements (pos k) in
      record {
        number = k;
        from = le;
        numbered = n;
        is_name = subst (λ (z : List ℕ). IsName z) (sym n) (fits-name (name_of_index k) u (plain k le kp) (s.well_formed.closed (pos k) (with_name (name_of_index k) u) (needed k kp) (numbered-there k kp)).fits);
        new = λ j jk e. apart j k jk le kp e;
        apart = λ h. others k le kp (subst (λ (z : List ℕ). Has (names_of_all (renamed q).statements) z) n h);
        least = λ j from less. inr (subst (λ (z : List ℕ). Has (take k names) z) (number-is j from (omega arith)) (Has-taken names k j less (omega arith)));
      }

  pub own-instance : IsInstance (renamed q) a a
  own-instance = record {
    infer = i;
    line = ap infer_of s.ending;
    left = graph;
    same = unneeded-graph (nameless a) (nameless a) (record { same_ending = refl; same_conditions = refl; same_statements = λ p d. refl });
    ending = refl;
    names = record { first = ap (λ (z : ℕ). take z names) lead ∙ first-names; long = long; fresh = λ k le lt. let m = lead in subst (λ (z : ℕ). IsFresh z (names_of_all (renamed q).statements) names k) (sym lead) (fresh k (omega arith) lt) };
    well_formed = s.well_formed;
  }
