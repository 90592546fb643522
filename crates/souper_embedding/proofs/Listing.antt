-- The embeddings that were found and the states that wait: one expanded, one found, and the end.
use Rattle.std.proofs.Common.{◌≡◌, ℕ, suc, ◌<◌, ◌≤◌, ◌++◌, ◌⊎◌, inl, inr, length, List, [], ◌∷◌, Some, true, false, refl, sym, ap, ◌∙◌, subst, arith}
use Rattle.std.specs.Prelude.{slice_get}
use Rattle.std.proofs.lemmas.Option.{slice_get_within}
use Rattle.souper_graph.specs.Values.{PlainStatement, PlainInfer}
use Rattle.souper_graph.specs.Uses.{Has}
use Rattle.souper_graph.specs.WellFormed.{WellFormed}
use Rattle.souper_graph.proofs.Lists.{Has-left, Has-right, Has-cases}
use Rattle.souper_embedding.specs.declared.search.Embedding.{Embedding}
use Rattle.souper_embedding.specs.Embedding.{WantsWithin, EmbedsLeft}
use Rattle.souper_embedding.specs.Given.{AreGiven}
use Rattle.souper_embedding.specs.Images.{GoThere, AreFirstOfEqual, Precedes}
use Rattle.souper_embedding.specs.Listing.{AreOrdered, IsAmong}
use Rattle.souper_embedding.specs.Maps.{Follows}
use Rattle.souper_embedding.specs.Search.{conditions_in, left_item}
use Rattle.souper_embedding.specs.declared.search.Embeddings.{Embeddings}
use Rattle.souper_embedding.specs.States.{IsState, IsTarget, AreNext, IsAwaited, AllFollow, NoneEmbeds, AreSearched, IsPastAll, AreFirstFor}
use Rattle.souper_embedding.proofs.ConditionLists.{condition-in}
use Rattle.souper_embedding.proofs.Precedence.{precedes-more, precedes-longer}
use Rattle.souper_embedding.proofs.Searching.{has-at, reached-embeds}
use Rattle.souper_embedding.proofs.Stacks.{stacked-join, stacked-front, stacked-cross, awaited-next, at-below}
use Rattle.souper_embedding.proofs.Starting.{total_of, total-follows}
use Rattle.souper_embedding.proofs.Firsts.{images-of, target-of}

pub one-longer-list : (ys : List Embedding) (x : Embedding) → length (ys ++ x ∷ []) ≡ suc (length ys)
one-longer-list [] x = refl
one-longer-list (y ∷ ys) x = ap (λ z. suc z) (one-longer-list ys x)

ordered-more : (ys : List Embedding) (x : Embedding) → AreOrdered ys → ((y : Embedding) → Has ys y → Precedes y.images.items x.images.items) → AreOrdered (ys ++ x ∷ [])
ordered-more [] x a h = ((λ y m. absurd m), tt)
ordered-more (v ∷ ys) x a h = (
  (λ y m. elim (Has-cases ys (x ∷ []) y m) [
    | inl p ↦ a.0 y p
    | inr p ↦ elim p [ inl e ↦ subst (λ (z : Embedding). Precedes v.images.items z.images.items) e (h v (inl refl)) | inr z ↦ absurd z ]
  ]),
  ordered-more ys x a.1 (λ y m. h y (inr m)),
)

pub searched-start : (ss qs : List PlainStatement) (i j : PlainInfer) (start : Embedding) → start.images.items ≡ [] → IsState ss qs i j start → AreSearched ss qs i j start [] (start ∷ [])
searched-start ss qs i j start none h = record {
  states = λ y m. absurd m;
  whole = λ y m. absurd m;
  ordered = tt;
  each = λ x m. elim m [ inl e ↦ subst (λ (z : Embedding). IsState ss qs i j z) e h | inr z ↦ absurd z ];
  stacked = ((λ y m. absurd m), tt);
  before = λ y x m. absurd m;
  all = λ f images t. inl (record { state = start; among = inl refl; follows = t.follows; rest = images; is = sym (ap (λ z. z ++ images) none) });
}

pub searched-next : (ss qs : List PlainStatement) (i j : PlainInfer) (start x : Embedding) (given : List ℕ) (found ws ys : List Embedding) → AreGiven qs given → length x.images.items < length (conditions_in ss)
    → AreSearched ss qs i j start found (ws ++ x ∷ []) → AreNext ss qs i j given x 0 ys → AreSearched ss qs i j start found (ws ++ ys)
searched-next ss qs i j start x given found ws ys eg l h n = record {
  states = h.states;
  whole = h.whole;
  ordered = h.ordered;
  each = λ y m. elim (Has-cases ws ys y m) [ inl a ↦ h.each y (Has-left ws (x ∷ []) y a) | inr b ↦ (n.each y b).4.state ];
  stacked = stacked-join ws ys (stacked-front ws (x ∷ []) h.stacked) n.stacked cross;
  before = before;
  all = λ f images t. elim (h.all f images t) [ inl a ↦ inl (awaited-next ss qs i j start x given ws ys f images eg l n t a) | inr b ↦ inr b ];
}
  where
    cross : (w y : Embedding) → Has ws w → Has ys y → Precedes y.images.items w.images.items
    cross w y a b =
        let e = n.each y b in
        subst (λ z. Precedes z w.images.items) (sym e.4.images) (precedes-more x.images.items w.images.items (e.1 ∷ []) (stacked-cross ws (x ∷ []) h.stacked w x a (inl refl)))

    before : (y z : Embedding) → Has found y → Has (ws ++ ys) z → Precedes y.images.items z.images.items
    before y z a b = elim (Has-cases ws ys z b) [
      | inl m ↦ h.before y z a (Has-left ws (x ∷ []) z m)
      | inr m ↦ (let e = n.each z m in subst (λ v. Precedes y.images.items v) (sym e.4.images) (precedes-longer y.images.items x.images.items (e.1 ∷ []) (h.before y x a (Has-right ws (x ∷ []) x (inl refl)))))
    ]

pub searched-found : (ss qs : List PlainStatement) (i j : PlainInfer) (start x : Embedding) (found ws : List Embedding) → length (conditions_in ss) ≤ length x.images.items → AreSearched ss qs i j start found (ws ++ x ∷ [])
    → AreSearched ss qs i j start (found ++ x ∷ []) ws
searched-found ss qs i j start x found ws l h = record {
  states = λ y m. elim (Has-cases found (x ∷ []) y m) [ inl a ↦ h.states y a | inr b ↦ elim b [ inl e ↦ subst (λ (z : Embedding). IsState ss qs i j z) e here | inr z ↦ absurd z ] ];
  whole = λ y m. elim (Has-cases found (x ∷ []) y m) [ inl a ↦ h.whole y a | inr b ↦ elim b [ inl e ↦ subst (λ (z : Embedding). length z.images.items ≡ length (conditions_in ss)) e long | inr z ↦ absurd z ] ];
  ordered = ordered-more found x h.ordered (λ y m. h.before y x m (Has-right ws (x ∷ []) x (inl refl)));
  each = λ y m. h.each y (Has-left ws (x ∷ []) y m);
  stacked = stacked-front ws (x ∷ []) h.stacked;
  before = before;
  all = all;
}
  where
    here : IsState ss qs i j x
    here = h.each x (Has-right ws (x ∷ []) x (inl refl))

    long : length x.images.items ≡ length (conditions_in ss)
    long = let w = here.within in let a = l in omega arith

    before : (y z : Embedding) → Has (found ++ x ∷ []) y → Has ws z → Precedes y.images.items z.images.items
    before y z a b = elim (Has-cases found (x ∷ []) y a) [
      | inl m ↦ h.before y z m (Has-left ws (x ∷ []) z b)
      | inr m ↦ elim m [ inl e ↦ subst (λ (v : Embedding). Precedes v.images.items z.images.items) e (stacked-cross ws (x ∷ []) h.stacked z x b (inl refl)) | inr n ↦ absurd n ]
    ]

    all : (f : ℕ → ℕ) (images : List ℕ) → IsTarget ss qs i j start.map.items f images → IsAwaited ws f images ⊎ IsAmong (found ++ x ∷ []) f
    all f images t = elim (h.all f images t) [
      | inl a ↦ elim (Has-cases ws (x ∷ []) a.state a.among) [
        | inl m ↦ inl (record { state = a.state; among = m; follows = a.follows; rest = a.rest; is = a.is })
        | inr m ↦ elim m [ inl e ↦ inr (x, Has-right found (x ∷ []) x (inl refl), subst (λ (z : Embedding). Follows z.map.items f) (sym e) a.follows) | inr z ↦ absurd z ]
      ]
      | inr b ↦ inr (b.0, Has-left found (x ∷ []) b.0 b.1, b.2)
    ]

-- nothing waits
pub searched-all : (ss qs : List PlainStatement) (i j : PlainInfer) (start : Embedding) (found : List Embedding) → AreSearched ss qs i j start found [] → (f : ℕ → ℕ) (images : List ℕ) → IsTarget ss qs i j start.map.items f images → IsAmong found f
searched-all ss qs i j start found h f images t = elim (h.all f images t) [ inl a ↦ absurd a.among | inr b ↦ b ]

-- it follows one that was found, or goes past all
pub searched-past : (ss qs : List PlainStatement) (i j : PlainInfer) (start : Embedding) (found ws : List Embedding) → AreSearched ss qs i j start found ws → (f : ℕ → ℕ) (images : List ℕ) → IsTarget ss qs i j start.map.items f images
    → IsAmong found f ⊎ IsPastAll ss qs found f
searched-past ss qs i j start found ws h f images t = elim (h.all f images t) [
  | inl a ↦ inr (images, t.long, t.there, t.first, (λ x m. subst (λ z. Precedes x.images.items z) (sym a.is) (precedes-longer x.images.items a.state.images.items a.rest (h.before x a.state m a.among))))
  | inr b ↦ inl b
]

-- ---- a function has one list of images

-- where one list precedes another they differ
pub record DifferAt (ds es : List ℕ) : Type 0 where
  pub index : ℕ
  pub first : ℕ
  pub second : ℕ
  pub there : slice_get ds index ≡ Some first
  pub other : slice_get es index ≡ Some second
  pub less : first < second

differ-at : (ds es : List ℕ) → Precedes ds es → DifferAt ds es
differ-at [] es h = absurd h
differ-at (d ∷ ds) [] h = absurd h
differ-at (d ∷ ds) (e ∷ es) (inl l) = record { index = 0; first = d; second = e; there = refl; other = refl; less = l }
differ-at (d ∷ ds) (e ∷ es) (inr h) = let r = differ-at ds es h.1 in record { index = suc r.index; first = r.first; second = r.second; there = r.there; other = r.other; less = r.less }

pub one-list : (ss qs : List PlainStatement) (f : ℕ → ℕ) (ds es : List ℕ) → length ds ≡ length (conditions_in ss) → GoThere ss qs f ds → AreFirstOfEqual qs ds → GoThere ss qs f es → AreFirstOfEqual qs es → Precedes ds es → ⊥
one-list ss qs f ds es long there first other second h =
    let r = differ-at ds es h in
    let l : r.index < length (conditions_in ss) = (let w = slice_get_within ds r.index r.first r.there in omega arith) in
    let c = at-below (conditions_in ss) r.index l in
    let x = condition-in ss c.0 (has-at (conditions_in ss) r.index c.0 c.1) in
    let a = there r.index c.0 r.first x.statement c.1 r.there x.there in
    let b = other r.index c.0 r.second x.statement c.1 r.other x.there in
    let m : r.second ≤ r.first = second r.index r.second r.other r.first (a ∙ sym b) in
    let n = r.less in omega arith

-- the last state that waits has all path conditions, and is none of those that were found
pub searched-other : (ss qs : List PlainStatement) (i j : PlainInfer) (start x : Embedding) (found ws : List Embedding) → WellFormed (left_item ss i) → WantsWithin i.attributes j.attributes → length (conditions_in ss) ≤ length x.images.items
    → AreSearched ss qs i j start found (ws ++ x ∷ []) → (f : ℕ → ℕ) × EmbedsLeft (left_item ss i) (left_item qs j) i j f × (IsAmong found f → ⊥)
searched-other ss qs i j start x found ws wl wants l h = (
  total_of x.map.items,
  reached-embeds (left_item ss i) (left_item qs j) i j x.map.items (length x.images.items) wl long here.reached wants (total_of x.map.items) (total-follows x.map.items),
  (λ a. one-list ss qs (total_of x.map.items) a.0.images.items x.images.items (h.whole a.0 a.1) ((h.states a.0 a.1).images (total_of x.map.items) a.2) (h.states a.0 a.1).first (here.images (total_of x.map.items) (total-follows x.map.items)) here.first
      (h.before a.0 x a.1 (Has-right ws (x ∷ []) x (inl refl)))),
)
  where
    here : IsState ss qs i j x
    here = h.each x (Has-right ws (x ∷ []) x (inl refl))

    long : length x.images.items ≡ length (conditions_in ss)
    long = let w = here.within in let a = l in omega arith

-- ---- what was found

-- nothing waits: these are all
pub all-found : (ss qs : List PlainStatement) (i j : PlainInfer) (start : Embedding) (given : List ℕ) (limit : ℕ) (x : Embeddings) → AreGiven qs given → WantsWithin i.attributes j.attributes → AllFollow ss qs i j start.map.items
    → length x.found.items ≤ limit → x.are_all ≡ true → AreSearched ss qs i j start x.found.items [] → AreFirstFor ss qs i j limit x
all-found ss qs i j start given limit x eg wants follows few all h = record {
  states = h.states;
  whole = h.whole;
  wanted = λ y m. wants;
  ordered = h.ordered;
  first = λ f embeds. inl (among f embeds);
  few = few;
  full = λ e. absurd (let z : true ≡ false = sym all ∙ e in cc);
  all = λ e. among;
  cut = λ e. absurd (let z : true ≡ false = sym all ∙ e in cc);
}
  where
    among : (f : ℕ → ℕ) → EmbedsLeft (left_item ss i) (left_item qs j) i j f → IsAmong x.found.items f
    among f embeds = let m = images-of ss qs i j f given eg embeds in searched-all ss qs i j start x.found.items h f m.images (target-of ss qs i j start.map.items f embeds (follows f embeds) m)

-- one more waits than the limit allows
pub cut-found : (ss qs : List PlainStatement) (i j : PlainInfer) (start state : Embedding) (given : List ℕ) (limit : ℕ) (x : Embeddings) (ws : List Embedding) → WellFormed (left_item ss i) → AreGiven qs given → WantsWithin i.attributes j.attributes
    → AllFollow ss qs i j start.map.items → length x.found.items ≤ limit → limit ≤ length x.found.items → length (conditions_in ss) ≤ length state.images.items → x.are_all ≡ false → AreSearched ss qs i j start x.found.items (ws ++ state ∷ [])
    → AreFirstFor ss qs i j limit x
cut-found ss qs i j start state given limit x ws wl eg wants follows few most long cut h = record {
  states = h.states;
  whole = h.whole;
  wanted = λ y m. wants;
  ordered = h.ordered;
  first = λ f embeds. (let m = images-of ss qs i j f given eg embeds in searched-past ss qs i j start x.found.items (ws ++ state ∷ []) h f m.images (target-of ss qs i j start.map.items f embeds (follows f embeds) m));
  few = few;
  full = λ e. (let a = few in let b = most in omega arith);
  all = λ e. absurd (let z : false ≡ true = sym cut ∙ e in cc);
  cut = λ e. searched-other ss qs i j start state x.found.items ws wl wants long h;
}

-- nothing embeds
pub none-found : (ss qs : List PlainStatement) (i j : PlainInfer) (limit : ℕ) (x : Embeddings) → x.found.items ≡ [] → x.are_all ≡ true → NoneEmbeds ss qs i j → AreFirstFor ss qs i j limit x
none-found ss qs i j limit x empty all never = record {
  states = λ y m. absurd (nothing y m);
  whole = λ y m. absurd (nothing y m);
  wanted = λ y m. absurd (nothing y m);
  ordered = subst (λ (z : List Embedding). AreOrdered z) (sym empty) tt;
  first = λ f embeds. absurd (never f embeds);
  few = (let e : length x.found.items ≡ 0 = ap length empty in omega arith);
  full = λ e. absurd (let z : true ≡ false = sym all ∙ e in cc);
  all = λ e f embeds. absurd (never f embeds);
  cut = λ e. absurd (let z : true ≡ false = sym all ∙ e in cc);
}
  where
    nothing : (y : Embedding) → Has x.found.items y → ⊥
    nothing y m = subst (λ (z : List Embedding). Has z y) empty m
