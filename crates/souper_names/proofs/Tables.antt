-- A table of names: what the chain of a slot leads to, and one more name.
use Rattle.std.proofs.Common.{◌≡◌, ◌⊎◌, inl, inr, ℕ, zero, suc, ◌+◌, ◌-◌, ◌<◌, ◌≤◌, Bool, true, false, List, [], ◌∷◌, ◌++◌, length, map, take, drop, Option, Some, None, refl, sym, ◌∙◌, ap, subst, arith, nat_eq, eqb-true}
use Rattle.std.specs.Prelude.{bytes_eq, get_or, slice_get, slice_index, slice_set, if◌then◌else◌}
use Rattle.std.proofs.Math.ListN.{replicate}
use Rattle.std.proofs.Math.Seq.{take-suc, take-length, take-append_seam}
use Rattle.std.proofs.lemmas.List.{map-append, take-take, take-append-le, length-take-le, length-append, length-set, get_or-set_same, get_or-set_other}
use Rattle.std.proofs.lemmas.Option.{slice_get_within, get_or_from_slice_get, slice_get_read}
use Rattle.std.proofs.lemmas.Bool.{eq-eqb}
use Rattle.std.proofs.lemmas.Slice.Eq.{bytes_eq-Decides}
use Rattle.souper_names.specs.declared.table.Known.{Known}
use Rattle.souper_names.specs.declared.table.NameTable.TheInside.{Inside}
use Rattle.souper_names.specs.HashView.{name_hash, slot}
use Rattle.souper_names.specs.TableView.{NameEntry, or_else, last_entry, plain, Leads, IsTable}

-- ---- the last entry of a name

or_if : (b : Bool) (e : NameEntry) (o p : Option NameEntry) → or_else (if b then Some e else o) p ≡ (if b then Some e else or_else o p)
or_if true e o p = refl
or_if false e o p = refl

pub last_push : (xs : List (List ℕ × NameEntry)) (x : List ℕ × NameEntry) (n : List ℕ) → last_entry (xs ++ x ∷ []) n ≡ (if bytes_eq x.0 n then Some x.1 else last_entry xs n)
last_push [] x n = refl
last_push (y ∷ xs) x n =
    ap (λ (o : Option NameEntry). or_else o (if bytes_eq y.0 n then Some y.1 else None)) (last_push xs x n)
    ∙ or_if (bytes_eq x.0 n) x.1 (last_entry xs n) (if bytes_eq y.0 n then Some y.1 else None)

or_assoc : (o p q : Option NameEntry) → or_else (or_else o p) q ≡ or_else o (or_else p q)
or_assoc None p q = refl
or_assoc (Some e) p q = refl

-- the entries in a table and a map, after one more name in the table
pub adds : (few : List (List ℕ × NameEntry)) (x : List ℕ × NameEntry) (in_map : Option NameEntry) (n : List ℕ)
    → or_else (last_entry (few ++ x ∷ []) n) in_map ≡ (if bytes_eq x.0 n then Some x.1 else or_else (last_entry few n) in_map)
adds few x in_map n = ap (λ (o : Option NameEntry). or_else o in_map) (last_push few x n) ∙ or_if (bytes_eq x.0 n) x.1 (last_entry few n) in_map

drop_at : (few : List (List ℕ × NameEntry)) (i : ℕ) (x : List ℕ × NameEntry) → slice_get few i ≡ Some x → drop i few ≡ x ∷ drop (suc i) few
drop_at [] i x h = absurd cc
drop_at (y ∷ few) zero x h = ap (λ (z : List ℕ × NameEntry). z ∷ few) (let same : y ≡ x = cc in same)
drop_at (y ∷ few) (suc i) x h = drop_at few i x h

-- one more name is put into a larger table
take_next : (few : List (List ℕ × NameEntry)) (i : ℕ) (x : List ℕ × NameEntry) → slice_get few i ≡ Some x → take (suc i) few ≡ take i few ++ x ∷ []
take_next [] i x h = absurd cc
take_next (y ∷ few) zero x h = ap (λ (z : List ℕ × NameEntry). z ∷ []) (let same : y ≡ x = cc in same)
take_next (y ∷ few) (suc i) x h = ap (λ (zs : List (List ℕ × NameEntry)). y ∷ zs) (take_next few i x h)

pub take_at : (few : List (List ℕ × NameEntry)) (i : ℕ) (x : List ℕ × NameEntry) → slice_get few i ≡ Some x → take (i + 1) few ≡ take i few ++ x ∷ []
take_at few i x h = ap (λ (j : ℕ). take j few) (let e : i + 1 ≡ suc i = omega arith in e) ∙ take_next few i x h

-- a name leaves the table for a map, which has the entry `old` of a name before, and `new` then
pub moves : (few : List (List ℕ × NameEntry)) (i : ℕ) (x : List ℕ × NameEntry) (n : List ℕ) (old new : Option NameEntry) → slice_get few i ≡ Some x → new ≡ (if bytes_eq x.0 n then Some x.1 else old)
    → or_else (last_entry (drop (i + 1) few) n) new ≡ or_else (last_entry (drop i few) n) old
moves few i x n old new h is =
    ap (λ (j : ℕ). or_else (last_entry (drop j few) n) new) (let e : i + 1 ≡ suc i = omega arith in e)
    ∙ ap (λ (o : Option NameEntry). or_else (last_entry (drop (suc i) few) n) o) (is ∙ sym (or_if (bytes_eq x.0 n) x.1 None old))
    ∙ sym (ap (λ (xs : List (List ℕ × NameEntry)). or_else (last_entry xs n) old) (drop_at few i x h)
    ∙ or_assoc (last_entry (drop (suc i) few) n) (if bytes_eq x.0 n then Some x.1 else None) old)

abbrev last_of : List Known → List ℕ → Option NameEntry
last_of ks n = last_entry (map plain ks) n

last_known : (ks : List Known) (k : Known) (n : List ℕ) → last_of (ks ++ k ∷ []) n ≡ (if bytes_eq k.name.now n then Some k.entry else last_of ks n)
last_known ks k n = ap (λ (xs : List (List ℕ × NameEntry)). last_entry xs n) (map-append plain ks (k ∷ [])) ∙ last_push (map plain ks) (plain k) n

-- the name at a position, and the ones before it
last_at : (ks : List Known) (i : ℕ) (k : Known) (n : List ℕ) → slice_get ks i ≡ Some k → last_of (take (suc i) ks) n ≡ (if bytes_eq k.name.now n then Some k.entry else last_of (take i ks) n)
last_at ks i k n h =
    ap (λ (xs : List Known). last_of xs n) (take-suc ks i k (slice_get_within ks i k h) ∙ ap (λ (x : Known). take i ks ++ x ∷ []) (get_or_from_slice_get ks i k k h))
    ∙ last_known (take i ks) k n

-- ---- a chain

pub leads_nowhere : (w : ℕ) (n : List ℕ) → Leads w [] n 0
leads_nowhere w n = record { within = omega arith; entry = refl; same = λ i k e h. absurd cc }

get_take : (ks : List Known) (i j : ℕ) → j < i → slice_get (take i ks) j ≡ slice_get ks j
get_take ks zero j l = absurd (omega arith)
get_take [] (suc i) j l = refl
get_take (k ∷ ks) (suc i) zero l = refl
get_take (k ∷ ks) (suc i) (suc j) l = get_take ks i j (omega arith)

abbrev AreBefore : ℕ → List Known → Type 0
AreBefore w ks = (i : ℕ) (x : Known) → slice_get ks i ≡ Some x → (n : List ℕ) → slot (name_hash n) w ≡ slot (name_hash x.name.now) w → Leads w (take i ks) n x.before

get_end : (ks : List Known) (count : ℕ) (k : Known) → 0 < count → count ≤ length ks → k ≡ get_or ks (count - 1) k → slice_get ks (count - 1) ≡ Some k
get_end ks count k some within at = slice_get_read ks (length ks) (count - 1) k refl (omega arith) at

last_first : (ks : List Known) (count : ℕ) (k : Known) (n : List ℕ) → 0 < count → count ≤ length ks → k ≡ get_or ks (count - 1) k → last_of (take count ks) n ≡ (if bytes_eq k.name.now n then Some k.entry else last_of (take (count - 1) ks) n)
last_first ks count k n some within at =
    ap (λ (c : ℕ). last_of (take c ks) n) (let e : count ≡ suc (count - 1) = omega arith in e) ∙ last_at ks (count - 1) k n (get_end ks count k some within at)

-- the last name of the chain is the one
pub here : (w : ℕ) (ks : List Known) (count : ℕ) (k : Known) (n : List ℕ) → 0 < count → Leads w ks n count → k ≡ get_or ks (count - 1) k → bytes_eq k.name.now n ≡ true → Some k.entry ≡ last_entry (map plain ks) n
here w ks count k n some leads at is =
    sym (last_first ks count k n some leads.within at ∙ ap (λ (b : Bool). if b then Some k.entry else last_of (take (count - 1) ks) n) is) ∙ leads.entry

pub shorter : (w : ℕ) (ks : List Known) (count : ℕ) (k : Known) → 0 < count → count ≤ length ks → k ≡ get_or ks (count - 1) k → AreBefore w ks → k.before < count
shorter w ks count k some within at before =
    let l = (before (count - 1) k (get_end ks count k some within at) k.name.now refl).within in
    let m : length (take (count - 1) ks) ≡ count - 1 = length-take-le (count - 1) ks (omega arith) in
    omega arith

-- it is another name: the chain continues before it
pub further : (w : ℕ) (ks : List Known) (count : ℕ) (k : Known) (n : List ℕ) → 0 < count → Leads w ks n count → k ≡ get_or ks (count - 1) k → bytes_eq k.name.now n ≡ false → AreBefore w ks → Leads w ks n k.before
further w ks count k n some leads at other before =
    let g = get_end ks count k some leads.within at in
    let b = before (count - 1) k g n (sym (leads.same (count - 1) k (let e : count ≡ suc (count - 1) = omega arith in e) g)) in
    let less = shorter w ks count k some leads.within at before in
    let within : k.before ≤ count - 1 = omega arith in
    record {
      within = (let l = leads.within in omega arith);
      entry = ap (λ (xs : List Known). last_of xs n) (sym (take-take k.before (count - 1) ks within)) ∙ b.entry
          ∙ sym (last_first ks count k n some leads.within at ∙ ap (λ (c : Bool). if c then Some k.entry else last_of (take (count - 1) ks) n) other) ∙ leads.entry;
      same = λ j x e h. b.same j x e (get_take ks (count - 1) j (omega arith) ∙ h);
    }

-- ---- one more name

pub get_push : {A : Type 0} (ss : List A) (s t : A) (p : ℕ) → slice_get (ss ++ s ∷ []) p ≡ Some t → (slice_get ss p ≡ Some t) ⊎ ((p ≡ length ss) × (s ≡ t))
get_push [] s t zero e = inr (refl, cc)
get_push [] s t (suc p) e = absurd cc
get_push (x ∷ ss) s t zero e = inl e
get_push (x ∷ ss) s t (suc p) e = deeper (get_push ss s t p e)
  where
    deeper : (slice_get ss p ≡ Some t) ⊎ ((p ≡ length ss) × (s ≡ t)) → (slice_get (x ∷ ss) (suc p) ≡ Some t) ⊎ ((suc p ≡ length (x ∷ ss)) × (s ≡ t))
    deeper (inl h) = inl h
    deeper (inr h) = inr (ap suc h.0, h.1)

-- all names lead to one that has the slot of the last
leads_all : (w : ℕ) (ks : List Known) (k : Known) (n : List ℕ) → slot (name_hash k.name.now) w ≡ slot (name_hash n) w → Leads w (ks ++ k ∷ []) n (length (ks ++ k ∷ []))
leads_all w ks k n is = record {
  within = omega arith;
  entry = ap (λ (xs : List Known). last_of xs n) (take-length (ks ++ k ∷ []));
  same = λ i x e g. by_place i x e (get_push ks k x i g);
}
  where
    by_place : (i : ℕ) (x : Known) → length (ks ++ k ∷ []) ≡ suc i → (slice_get ks i ≡ Some x) ⊎ ((i ≡ length ks) × (k ≡ x)) → slot (name_hash x.name.now) w ≡ slot (name_hash n) w
    by_place i x e (inl g) = absurd (let l = slice_get_within ks i x g in let m = length-append ks (k ∷ []) in omega arith)
    by_place i x e (inr g) = subst (λ (y : Known). slot (name_hash y.name.now) w ≡ slot (name_hash n) w) g.1 is

-- a name of another slot
leads_kept : (w : ℕ) (ks : List Known) (k : Known) (n : List ℕ) (count : ℕ) → (slot (name_hash k.name.now) w ≡ slot (name_hash n) w → ⊥) → Leads w ks n count → Leads w (ks ++ k ∷ []) n count
leads_kept w ks k n count other leads = record {
  within = (let l = leads.within in let m = length-append ks (k ∷ []) in omega arith);
  entry = ap (λ (xs : List Known). last_of xs n) (take-append-le count ks (k ∷ []) leads.within) ∙ leads.entry
      ∙ sym (last_known ks k n ∙ ap (λ (b : Bool). if b then Some k.entry else last_of ks n) (unlike (bytes_eq k.name.now n) refl));
  same = λ i x e g. by_place i x e (get_push ks k x i g);
}
  where
    unlike : (b : Bool) → bytes_eq k.name.now n ≡ b → b ≡ false
    unlike false e = refl
    unlike true e = absurd (other (ap (λ (m : List ℕ). slot (name_hash m) w) ((bytes_eq-Decides k.name.now n).0 e)))

    by_place : (i : ℕ) (x : Known) → count ≡ suc i → (slice_get ks i ≡ Some x) ⊎ ((i ≡ length ks) × (k ≡ x)) → slot (name_hash x.name.now) w ≡ slot (name_hash n) w
    by_place i x e (inl g) = leads.same i x e g
    by_place i x e (inr g) = absurd (let l = leads.within in let m = g.0 in omega arith)

pub heads_put : (w : ℕ) (ks : List Known) (heads : List ℕ) (k : Known) → slot (name_hash k.name.now) w < length heads → ((n : List ℕ) → Leads w ks n (slice_index heads (slot (name_hash n) w)))
    → (n : List ℕ) → Leads w (ks ++ k ∷ []) n (slice_index (slice_set heads (slot (name_hash k.name.now) w) (length (ks ++ k ∷ []))) (slot (name_hash n) w))
heads_put w ks heads k within leads n = by_slot (nat_eq (slot (name_hash k.name.now) w) (slot (name_hash n) w)) refl
  where
    by_slot : (b : Bool) → nat_eq (slot (name_hash k.name.now) w) (slot (name_hash n) w) ≡ b → Leads w (ks ++ k ∷ []) n (slice_index (slice_set heads (slot (name_hash k.name.now) w) (length (ks ++ k ∷ []))) (slot (name_hash n) w))
    by_slot true e =
        let is : slot (name_hash k.name.now) w ≡ slot (name_hash n) w = eqb-true (slot (name_hash k.name.now) w) (slot (name_hash n) w) e in
        subst (λ (c : ℕ). Leads w (ks ++ k ∷ []) n c) (sym (ap (λ (s : ℕ). slice_index (slice_set heads (slot (name_hash k.name.now) w) (length (ks ++ k ∷ []))) s) (sym is) ∙ get_or-set_same heads (slot (name_hash k.name.now) w) (length (ks ++ k ∷ [])) 0 within)) (leads_all w ks k n is)
    by_slot false e =
        let other : slot (name_hash k.name.now) w ≡ slot (name_hash n) w → ⊥ = (λ is. (let yes : nat_eq (slot (name_hash k.name.now) w) (slot (name_hash n) w) ≡ true = eq-eqb (slot (name_hash k.name.now) w) (slot (name_hash n) w) is in let clash : true ≡ false = sym yes ∙ e in absurd cc)) in
        subst (λ (c : ℕ). Leads w (ks ++ k ∷ []) n c) (sym (get_or-set_other heads (slot (name_hash k.name.now) w) (slot (name_hash n) w) (length (ks ++ k ∷ [])) 0 (λ is. other (sym is)))) (leads_kept w ks k n (slice_index heads (slot (name_hash n) w)) other (leads n))

pub before_put : (w : ℕ) (ks : List Known) (heads : List ℕ) (k : Known) → k.before ≡ slice_index heads (slot (name_hash k.name.now) w) → ((n : List ℕ) → Leads w ks n (slice_index heads (slot (name_hash n) w)))
    → AreBefore w ks → AreBefore w (ks ++ k ∷ [])
before_put w ks heads k is leads before i x g n same = by_place (get_push ks k x i g)
  where
    by_place : (slice_get ks i ≡ Some x) ⊎ ((i ≡ length ks) × (k ≡ x)) → Leads w (take i (ks ++ k ∷ [])) n x.before
    by_place (inl h) =
        let l = slice_get_within ks i x h in
        subst (λ (xs : List Known). Leads w xs n x.before) (sym (take-append-le i ks (k ∷ []) (omega arith))) (before i x h n same)
    by_place (inr h) =
        let as_head : Leads w ks n k.before = subst (λ (c : ℕ). Leads w ks n c) (ap (λ (s : ℕ). slice_index heads s) (same ∙ ap (λ (y : Known). slot (name_hash y.name.now) w) (sym h.1)) ∙ sym is) (leads n) in
        subst (λ (xs : List Known). Leads w xs n x.before) (sym (ap (λ (j : ℕ). take j (ks ++ k ∷ [])) h.0 ∙ take-append_seam ks (k ∷ []))) (subst (λ (y : Known). Leads w ks n y.before) h.1 as_head)

-- ---- tables

zeros : (w i : ℕ) → slice_index (replicate w 0) i ≡ 0
zeros zero i = refl
zeros (suc w) zero = refl
zeros (suc w) (suc i) = zeros w i

pub empty_table : (t : Inside) (w : ℕ) → t.known.items ≡ [] → t.heads ≡ replicate w 0 → IsTable t
empty_table t w none empty = record {
  heads = λ n. (let heads : List ℕ = replicate w 0 in rw (none, empty, zeros w (slot (name_hash n) (length heads))) (leads_nowhere (length heads) n));
  before = λ i k g. absurd (let no : slice_get [] i ≡ Some k = rw none at g in cc);
}

pub same_table : (t u : Inside) → u.known.items ≡ t.known.items → u.heads ≡ t.heads → IsTable t → IsTable u
same_table t u items heads is = record { heads = rw (items, heads) is.heads; before = rw (items, heads) is.before }

pub table_put : (t u : Inside) (k : Known) (count : ℕ) → IsTable t → u.known.items ≡ t.known.items ++ k ∷ [] → count ≡ length u.known.items
    → u.heads ≡ slice_set t.heads (slot (name_hash k.name.now) (length t.heads)) count → slot (name_hash k.name.now) (length t.heads) < length t.heads
    → k.before ≡ slice_index t.heads (slot (name_hash k.name.now) (length t.heads)) → IsTable u
table_put t u k count is items all heads within before = record {
  heads = rw (heads, len, all, items) (heads_put (length t.heads) t.known.items t.heads k within is.heads);
  before = rw (heads, len, items) (before_put (length t.heads) t.known.items t.heads k before is.heads is.before);
}
  where
    len : length (slice_set t.heads (slot (name_hash k.name.now) (length t.heads)) count) ≡ length t.heads
    len = length-set t.heads (slot (name_hash k.name.now) (length t.heads)) count
