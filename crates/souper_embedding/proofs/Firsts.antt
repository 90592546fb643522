-- The first embedding of a stored replacement: from lists of statements to items.
use Rattle.std.proofs.Common.{◌≡◌, ◌↔◌, ℕ, zero, suc, ◌≤◌, ◌⊎◌, inl, inr, arith, length, take, List, [], ◌∷◌, Option, Some, None, Bool, true, false, refl, sym, ap, ◌∙◌, subst}
use Rattle.std.specs.Prelude.{slice_get, IsTrue, Result, Ok, Err, IfOk, IfSome, IsSomeAnd, MatchOption}
use Rattle.std.proofs.lemmas.Option.{same_Some, slice_get_within}
use Rattle.souper_graph.specs.declared.ast.operands.Operand.{Operand}
use Rattle.souper_graph.specs.Values.{PlainStatement, assigned, PlainInfer, inferred, replaced, Item}
use Rattle.souper_graph.specs.Uses.{Has, is_condition, Needed, NeededIn}
use Rattle.souper_graph.specs.WellFormed.{WellFormed, IsAssigned}
use Rattle.souper_graph.specs.Sameness.{carried}
use Rattle.souper_graph.specs.LeftSides.{infer_of, with_infer}
use Rattle.souper_graph.proofs.Lefts.{left-well}
use Rattle.souper_graph.proofs.Sameness.Carrying.{condition-carried}
use Rattle.souper_embedding.specs.declared.search.Embedding.{Embedding}
use Rattle.souper_embedding.specs.Embedding.{WantsWithin, EmbedsLeft, Embeds}
use Rattle.souper_embedding.specs.Given.{AreGiven}
use Rattle.souper_embedding.specs.Images.{GoThere, AreFirstOfEqual, IsFirstOfEqual, IsEmbedding, IsLater, IsFirst}
use Rattle.souper_embedding.specs.Listing.{AreOrdered, IsAmong, AreFirst}
use Rattle.souper_embedding.specs.Maps.{GoesTo, Follows}
use Rattle.souper_embedding.specs.Search.{conditions_in, walks_with, left_item, IsReached}
use Rattle.souper_embedding.specs.declared.search.Embeddings.{Embeddings}
use Rattle.souper_embedding.specs.declared.search.Search.{Search}
use Rattle.souper_embedding.specs.States.{stored_of, query_of, IsSearch, IsState, IsTarget, IsFirstFrom, IsStart, AllFollow, NoneEmbeds, IsFirstFor, AreFirstFor}
use Rattle.souper_embedding.proofs.ConditionLists.{condition-in}
use Rattle.souper_embedding.proofs.Searching.{all_walks, left-cases, needed-left, assigned-needed, known-needed, all-taken, reached-embeds, met-at}

-- ---- the images of a function that embeds

abbrev pub ThereFor : List PlainStatement → List PlainStatement → (ℕ → ℕ) → List ℕ → List ℕ → Type 0
ThereFor ss qs f cs ds = (n c d : ℕ) (p : PlainStatement) → slice_get cs n ≡ Some c → slice_get ds n ≡ Some d → slice_get ss c ≡ Some p → slice_get qs d ≡ Some (carried f p)

there-one : (ss qs : List PlainStatement) (f : ℕ → ℕ) (c d : ℕ) (cs ds : List ℕ) → ((p : PlainStatement) → slice_get ss c ≡ Some p → slice_get qs d ≡ Some (carried f p)) → ThereFor ss qs f cs ds → ThereFor ss qs f (c ∷ cs) (d ∷ ds)
there-one ss qs f c d cs ds h rest zero b e p eb ee ep =
    let sb : c ≡ b = same_Some c b eb in
    let sd : d ≡ e = same_Some d e ee in
    subst (λ z. slice_get qs z ≡ Some (carried f p)) sd (h p (subst (λ z. slice_get ss z ≡ Some p) (sym sb) ep))
there-one ss qs f c d cs ds h rest (suc n) b e p eb ee ep = rest n b e p eb ee ep

pub record ImagesFor (ss qs : List PlainStatement) (f : ℕ → ℕ) (cs : List ℕ) : Type 0 where
  pub images : List ℕ
  pub long : length images ≡ length cs
  pub there : ThereFor ss qs f cs images
  pub first : AreFirstOfEqual qs images

first-one : (qs : List PlainStatement) (d : ℕ) (ds : List ℕ) → IsFirstOfEqual qs d → AreFirstOfEqual qs ds → AreFirstOfEqual qs (d ∷ ds)
first-one qs d ds h rest zero e at = subst (λ z. IsFirstOfEqual qs z) (same_Some d e at) h
first-one qs d ds h rest (suc n) e at = rest n e at

images-for : (s q : Item) (i j : PlainInfer) (f : ℕ → ℕ) (given : List ℕ) → AreGiven q.statements given → EmbedsLeft s q i j f → (cs : List ℕ) → ((c : ℕ) → Has cs c → Has (conditions_in s.statements) c) → ImagesFor s.statements q.statements f cs
images-for s q i j f given eg h [] inside = record { images = []; long = refl; there = λ n c d p e. absurd (cc); first = λ n d e. absurd (cc) }
images-for s q i j f given eg h (c ∷ cs) inside =
    let m = met-at s q i j f c h (inside c (inl refl)) in
    let is : IsTrue (is_condition (carried f m.statement)) = subst (λ z. IsTrue z) (sym (condition-carried f m.statement)) m.is in
    let g = eg.covers m.image (carried f m.statement) (slice_get_within q.statements m.image (carried f m.statement) m.at) m.at is in
    let r = images-for s q i j f given eg h cs (λ b x. inside b (inr x)) in
    record {
      images = g.0 ∷ r.images;
      long = ap (λ z. suc z) r.long;
      there = there-one s.statements q.statements f c g.0 cs r.images (λ p e. (let same : m.statement ≡ p = same_Some m.statement p (sym m.there ∙ e) in subst (λ z. slice_get q.statements g.0 ≡ Some (carried f z)) same g.2)) r.there;
      first = first-one q.statements g.0 r.images (eg.first g.0 g.1).first r.first;
    }

pub images-of : (ss qs : List PlainStatement) (i j : PlainInfer) (f : ℕ → ℕ) (given : List ℕ) → AreGiven qs given → EmbedsLeft (left_item ss i) (left_item qs j) i j f → ImagesFor ss qs f (conditions_in ss)
images-of ss qs i j f given eg h = images-for (left_item ss i) (left_item qs j) i j f given eg h (conditions_in ss) (λ c x. x)

-- it is searched for, if it follows the map
pub target-of : (ss qs : List PlainStatement) (i j : PlainInfer) (m : List (Option ℕ)) (f : ℕ → ℕ) → EmbedsLeft (left_item ss i) (left_item qs j) i j f → Follows m f → (h : ImagesFor ss qs f (conditions_in ss)) → IsTarget ss qs i j m f h.images
target-of ss qs i j m f embeds follows h = record { embeds = embeds; follows = follows; long = h.long; there = h.there; first = h.first }

-- ---- from the start to all

-- each function that embeds is searched for from the start
pub first-for : (ss qs : List PlainStatement) (i j : PlainInfer) (start x : Embedding) (given : List ℕ) → AreGiven qs given → WantsWithin i.attributes j.attributes → IsFirstFrom ss qs i j start x
    → ((f : ℕ → ℕ) → EmbedsLeft (left_item ss i) (left_item qs j) i j f → Follows start.map.items f) → IsFirstFor ss qs i j x
first-for ss qs i j start x given eg wants h follows = record {
  state = h.state;
  whole = h.whole;
  wanted = wants;
  first = λ f embeds. (
      let m = images-of ss qs i j f given eg embeds in
      elim (h.first f m.images (target-of ss qs i j start.map.items f embeds (follows f embeds) m)) [ inl a ↦ inl a | inr b ↦ inr (m.images, m.long, m.there, m.first, b) ]);
}

-- ---- items

item-embeds : (s q : Item) (i j : PlainInfer) (r : Operand) (f : ℕ → ℕ) → s.ending ≡ replaced i r → q.ending ≡ inferred j → EmbedsLeft (left_item s.statements i) (left_item q.statements j) i j f → Embeds s q f
item-embeds s q i j r f es eq h = record {
  infer = i;
  result = r;
  stored = es;
  root = j;
  query = eq;
  left = record { root = h.root; one_to_one = h.one_to_one; assignments = h.assignments; conditions = h.conditions; wanted = h.wanted };
}

pub left-embeds : (s q : Item) (i j : PlainInfer) (r : Operand) (f : ℕ → ℕ) → s.ending ≡ replaced i r → q.ending ≡ inferred j → Embeds s q f → EmbedsLeft (left_item s.statements i) (left_item q.statements j) i j f
left-embeds s q i j r f es eq h =
    let ei : h.infer ≡ i = (let e : replaced h.infer h.result ≡ replaced i r = sym h.stored ∙ es in cc) in
    let ej : h.root ≡ j = (let e : inferred h.root ≡ inferred j = sym h.query ∙ eq in cc) in
    let l : EmbedsLeft s q i j f = subst (λ z. EmbedsLeft s q z j f) ei (subst (λ z. EmbedsLeft s q h.infer z f) ej h.left) in
    record { root = l.root; one_to_one = l.one_to_one; assignments = l.assignments; conditions = l.conditions; wanted = l.wanted }

-- an item that has no result line embeds nowhere
pub other-embeds : (s q : Item) (f : ℕ → ℕ) → ((i : PlainInfer) (r : Operand) → s.ending ≡ replaced i r → ⊥) → Embeds s q f → ⊥
other-embeds s q f never h = never h.infer h.result h.stored

not-condition : (ss : List PlainStatement) (p : ℕ) → Has (conditions_in ss) p → IsAssigned (slice_get ss p) → ⊥
not-condition ss p c a =
    let x = condition-in ss p c in
    under x.statement (subst (λ o. IsAssigned o) x.there a) x.is
  where
    under : (s : PlainStatement) → IsAssigned (Some s) → IsTrue (is_condition s) → ⊥
    under (assigned a) h t = absurd (let f : false ≡ true = t in cc)
    under s h t = h

known-left : (s : Item) (qs : List PlainStatement) (i j : PlainInfer) (m : List (Option ℕ)) (k : ℕ) → WellFormed (with_infer s i) → k ≡ length (conditions_in s.statements) → IsReached s.statements qs i j m k
    → (p : ℕ) → ((q : ℕ) × GoesTo m p q) ↔ (NeededIn (with_infer s i) p × IsAssigned (slice_get s.statements p))
known-left s qs i j m k wl e h p = (
  (λ g. (
      let n : Needed s.statements (all_walks s.statements i) p = subst (λ z. Needed s.statements z p) walks (h.needed p g.0 g.1) in
      let a = assigned-needed s.statements i wl p n in
      (needed-left s.statements i p n, subst (λ o. IsAssigned o) (sym a.there) tt))),
  (λ x. elim (left-cases s.statements i p x.0) [
    | inl c ↦ absurd (not-condition s.statements p c x.1)
    | inr d ↦ known-needed s.statements qs (walks_with s.statements i (take k (conditions_in s.statements))) m h.closed h.known p (subst (λ z. Needed s.statements z p) (sym walks) d)
  ]),
)
  where
    walks : walks_with s.statements i (take k (conditions_in s.statements)) ≡ all_walks s.statements i
    walks = ap (walks_with s.statements i) (ap (λ n. take n (conditions_in s.statements)) e ∙ all-taken (conditions_in s.statements))

same-infer : (s : Item) (i j : PlainInfer) (r : Operand) → s.ending ≡ replaced i r → infer_of s.ending ≡ Some j → i ≡ j
same-infer s i j r es e = same_Some i j (sym (ap infer_of es) ∙ e)

state-embedding : (s q : Item) (i j : PlainInfer) (r : Operand) (x : Embedding) → s.ending ≡ replaced i r → q.ending ≡ inferred j → WellFormed s → IsState s.statements q.statements i j x → length x.images.items ≡ length (conditions_in s.statements)
    → WantsWithin i.attributes j.attributes → IsEmbedding s q x.map.items x.images.items
state-embedding s q i j r x es eq ws h whole wants = record {
  long = h.reached.long;
  known = λ z e p. (
      let same = same-infer s i z r es e in
      subst (λ y. ((k : ℕ) × GoesTo x.map.items p k) ↔ (NeededIn (with_infer s y) p × IsAssigned (slice_get s.statements p))) same (known-left s q.statements i j x.map.items (length x.images.items) wl whole h.reached p));
  embeds = λ f w. item-embeds s q i j r f es eq (reached-embeds (left_item s.statements i) (left_item q.statements j) i j x.map.items (length x.images.items) wl whole h.reached wants f w);
  taken = λ f w. record { long = whole; there = h.images f w; first = h.first };
}
  where
    wl : WellFormed (with_infer s i)
    wl = left-well s i (ap infer_of es) ws

pub first-embedding : (s q : Item) (i j : PlainInfer) (r : Operand) (x : Embedding) → s.ending ≡ replaced i r → q.ending ≡ inferred j → WellFormed s → IsFirstFor s.statements q.statements i j x → IsFirst s q x.map.items x.images.items
first-embedding s q i j r x es eq ws h = record {
  is = state-embedding s q i j r x es eq ws h.state h.whole h.wanted;
  first = first;
}
  where
    first : (f : ℕ → ℕ) → Embeds s q f → Follows x.map.items f ⊎ IsLater s q x.images.items f
    first f embeds =
        let l = left-embeds s q i j r f es eq embeds in
        elim (h.first f l) [ inl a ↦ inl a | inr b ↦ inr (b.0, record { long = b.1; there = b.2; first = b.3 }, b.4) ]

pub left-formed : (s : Item) (i : PlainInfer) (r : Operand) → s.ending ≡ replaced i r → WellFormed s → WellFormed (left_item s.statements i)
left-formed s i r es ws = left-well s i (ap infer_of es) ws

-- ---- what calls return

pub start-state : (ss qs : List PlainStatement) (i j : PlainInfer) (x : Embedding) → WantsWithin i.attributes j.attributes → x.images.items ≡ [] → IsReached ss qs i j x.map.items 0 → IsStart ss qs i j x
start-state ss qs i j x wants none h = record {
  state = record {
    reached = subst (λ n. IsReached ss qs i j x.map.items n) (sym long) h;
    within = subst (λ n. n ≤ length (conditions_in ss)) (sym long) (omega arith);
    images = λ f w. subst (λ z. GoThere ss qs f z) (sym none) (λ n c d p e k. absurd (cc));
    first = subst (λ z. AreFirstOfEqual qs z) (sym none) (λ n d e. absurd (cc));
  };
  none = none;
  wanted = wants;
}
  where
    long : length x.images.items ≡ 0
    long = ap length none

pub started : {E : Type 0} (r : Result (Option Embedding) E) (ss qs : List PlainStatement) (i j : PlainInfer) → WantsWithin i.attributes j.attributes → IfOk r (λ o. IfSome o (λ x. x.images.items ≡ []))
    → IfOk r (λ o. IfSome o (λ x. (a b : PlainInfer) → a.value ≡ i.value → b.value ≡ j.value → WellFormed (left_item ss a) → IsReached ss qs a b x.map.items 0))
    → IfOk r (λ o. IfSome o (λ x. WellFormed (left_item ss i) → IsStart ss qs i j x))
started (Ok None) ss qs i j wants none h = none
started (Ok (Some x)) ss qs i j wants none h = λ wl. start-state ss qs i j x wants none (h i j refl refl wl)
started (Err e) ss qs i j wants none h = none

pub forced-on : {E : Type 0} (r : Result (Option Embedding) E) (ss qs : List PlainStatement) (i j : PlainInfer)
    → IfOk r (λ o. (a b : PlainInfer) (f : ℕ → ℕ) → a.value ≡ i.value → b.value ≡ j.value → WellFormed (left_item ss a) → EmbedsLeft (left_item ss a) (left_item qs b) a b f → IsSomeAnd o (λ x. Follows x.map.items f))
    → IfOk r (λ o. WellFormed (left_item ss i) → (f : ℕ → ℕ) → EmbedsLeft (left_item ss i) (left_item qs j) i j f → IsSomeAnd o (λ x. Follows x.map.items f))
forced-on (Ok o) ss qs i j h = λ wl f embeds. h i j f refl refl wl embeds
forced-on (Err e) ss qs i j h = h

pub first-after : {E : Type 0} (r : Result (Option Embedding) E) (s : Search) (start : Embedding)
    → IfOk r (λ o. (i j : PlainInfer) → IsSearch s → WellFormed (left_item (stored_of s) i) → IsState (stored_of s) (query_of s) i j start → start.images.items ≡ [] → IfSome o (λ x. IsFirstFrom (stored_of s) (query_of s) i j start x))
    → IfOk r (λ o. o ≡ None → (i j : PlainInfer) (f : ℕ → ℕ) (images : List ℕ) → IsSearch s → WellFormed (left_item (stored_of s) i) → IsState (stored_of s) (query_of s) i j start → start.images.items ≡ []
    → IsTarget (stored_of s) (query_of s) i j start.map.items f images → ⊥)
    → IsSearch s
    → IfOk r (λ o. (i j : PlainInfer) → WellFormed (left_item (stored_of s) i) → IsStart (stored_of s) (query_of s) i j start → AllFollow (stored_of s) (query_of s) i j start.map.items
    → MatchOption o (NoneEmbeds (stored_of s) (query_of s) i j) (λ x. IsFirstFor (stored_of s) (query_of s) i j x))
first-after (Ok None) s start first none is = λ i j wl h follows f embeds. (
    let m = images-of (stored_of s) (query_of s) i j f s.given.now is.given embeds in
    none refl i j f m.images is wl h.state h.none (target-of (stored_of s) (query_of s) i j start.map.items f embeds (follows f embeds) m))
first-after (Ok (Some x)) s start first none is = λ i j wl h follows. first-for (stored_of s) (query_of s) i j start x s.given.now is.given h.wanted (first i j is wl h.state h.none) follows
first-after (Err e) s start first none is = first

pub first-left : {E : Type 0} (r : Result (Option Embedding) E) (ss qs : List PlainStatement) (i j : PlainInfer) (start : Embedding) → (WellFormed (left_item ss i) → IsStart ss qs i j start)
    → (WellFormed (left_item ss i) → AllFollow ss qs i j start.map.items)
    → IfOk r (λ o. (a b : PlainInfer) → WellFormed (left_item ss a) → IsStart ss qs a b start → AllFollow ss qs a b start.map.items → MatchOption o (NoneEmbeds ss qs a b) (λ x. IsFirstFor ss qs a b x))
    → IfOk r (λ o. WellFormed (left_item ss i) → MatchOption o (NoneEmbeds ss qs i j) (λ x. IsFirstFor ss qs i j x))
first-left (Ok o) ss qs i j start is follows h = λ wl. h i j wl (is wl) (follows wl)
first-left (Err e) ss qs i j start is follows h = h

-- what the call answers for items
abbrev pub AnswersFirst : {E : Type 0} → Result (Option Embedding) E → Item → Item → Type 0
AnswersFirst r s q = IfOk r (λ o. MatchOption o ((f : ℕ → ℕ) → Embeds s q f → ⊥) (λ x. IsFirst s q x.map.items x.images.items))

pub first-item : {E : Type 0} (r : Result (Option Embedding) E) (s q : Item) (i j : PlainInfer) (x : Operand) → s.ending ≡ replaced i x → q.ending ≡ inferred j → WellFormed s
    → IfOk r (λ o. WellFormed (left_item s.statements i) → MatchOption o (NoneEmbeds s.statements q.statements i j) (λ y. IsFirstFor s.statements q.statements i j y)) → AnswersFirst r s q
first-item (Ok None) s q i j x es eq ws h = λ f embeds. h (left-formed s i x es ws) f (left-embeds s q i j x f es eq embeds)
first-item (Ok (Some y)) s q i j x es eq ws h = first-embedding s q i j x y es eq ws (h (left-formed s i x es ws))
first-item (Err e) s q i j x es eq ws h = h

-- ---- all of them

first-list : (s q : Item) (i j : PlainInfer) (r : Operand) (limit : ℕ) (x : Embeddings) → s.ending ≡ replaced i r → q.ending ≡ inferred j → WellFormed s → AreFirstFor s.statements q.statements i j limit x → AreFirst s q limit x.found.items x.are_all
first-list s q i j r limit x es eq ws h = record {
  each = λ y m. state-embedding s q i j r y es eq ws (h.states y m) (h.whole y m) (h.wanted y m);
  ordered = h.ordered;
  first = λ f embeds. elim (h.first f (left-embeds s q i j r f es eq embeds)) [ inl a ↦ inl a | inr b ↦ inr (b.0, record { long = b.1; there = b.2; first = b.3 }, b.4) ];
  few = h.few;
  full = h.full;
  cut = (
    (λ e. (let c = h.cut e in (c.0, item-embeds s q i j r c.0 es eq c.1, c.2))),
    (λ c. under x.are_all refl c),
  );
}
  where
    under : (b : Bool) → x.are_all ≡ b → (f : ℕ → ℕ) × Embeds s q f × (IsAmong x.found.items f → ⊥) → b ≡ false
    under false e c = refl
    under true e c = absurd (c.2 (h.all e c.0 (left-embeds s q i j r c.0 es eq c.1)))

abbrev pub AnswersAll : {E : Type 0} → Result Embeddings E → ℕ → Item → Item → Type 0
AnswersAll r limit s q = IfOk r (λ x. AreFirst s q limit x.found.items x.are_all)

pub list-item : {E : Type 0} (r : Result Embeddings E) (s q : Item) (i j : PlainInfer) (o : Operand) (limit : ℕ) → s.ending ≡ replaced i o → q.ending ≡ inferred j → WellFormed s
    → IfOk r (λ x. WellFormed (left_item s.statements i) → AreFirstFor s.statements q.statements i j limit x) → AnswersAll r limit s q
list-item (Ok x) s q i j o limit es eq ws h = first-list s q i j o limit x es eq ws (h (left-formed s i o es ws))
list-item (Err e) s q i j o limit es eq ws h = h

pub list-left : {E : Type 0} (r : Result Embeddings E) (ss qs : List PlainStatement) (i j : PlainInfer) (limit : ℕ) (start : Embedding) → (WellFormed (left_item ss i) → IsStart ss qs i j start)
    → (WellFormed (left_item ss i) → AllFollow ss qs i j start.map.items)
    → IfOk r (λ x. (a b : PlainInfer) → WellFormed (left_item ss a) → IsStart ss qs a b start → AllFollow ss qs a b start.map.items → AreFirstFor ss qs a b limit x)
    → IfOk r (λ x. WellFormed (left_item ss i) → AreFirstFor ss qs i j limit x)
list-left (Ok x) ss qs i j limit start is follows h = λ wl. h i j wl (is wl) (follows wl)
list-left (Err e) ss qs i j limit start is follows h = h

pub list-after : {E : Type 0} (r : Result Embeddings E) (s : Search) (start : Embedding) (limit : ℕ)
    → IfOk r (λ x. (i j : PlainInfer) → IsSearch s → WellFormed (left_item (stored_of s) i) → IsStart (stored_of s) (query_of s) i j start → AllFollow (stored_of s) (query_of s) i j start.map.items → AreFirstFor (stored_of s) (query_of s) i j limit x)
    → IsSearch s
    → IfOk r (λ x. (i j : PlainInfer) → WellFormed (left_item (stored_of s) i) → IsStart (stored_of s) (query_of s) i j start → AllFollow (stored_of s) (query_of s) i j start.map.items → AreFirstFor (stored_of s) (query_of s) i j limit x)
list-after (Ok x) s start limit h is = λ i j wl st follows. h i j is wl st follows
list-after (Err e) s start limit h is = h

-- an item without a result line
pub none-item : (s q : Item) (limit : ℕ) (x : Embeddings) → x.found.items ≡ [] → x.are_all ≡ true → ((f : ℕ → ℕ) → Embeds s q f → ⊥) → AreFirst s q limit x.found.items x.are_all
none-item s q limit x empty all never = record {
  each = λ y m. absurd (nothing y m);
  ordered = subst (λ (z : List Embedding). AreOrdered z) (sym empty) tt;
  first = λ f embeds. absurd (never f embeds);
  few = (let e : length x.found.items ≡ 0 = ap length empty in omega arith);
  full = λ e. absurd (let z : true ≡ false = sym all ∙ e in cc);
  cut = ((λ e. absurd (let z : true ≡ false = sym all ∙ e in cc)), (λ c. absurd (never c.0 c.1)));
}
  where
    nothing : (y : Embedding) → Has x.found.items y → ⊥
    nothing y m = subst (λ (z : List Embedding). Has z y) empty m
