-- Lemmas. The rules of what forms are made of: what reads a form, from what reads its parts.
use Rattle.std.proofs.Common.{◌≡◌, ℕ, Bool, true, false, List, [], ◌∷◌, ◌++◌, Option, Some, None, Result, Ok, Err, refl, sym, ◌∙◌, ap, subst, append_assoc, inl, inr}
use Rattle.std.proofs.lemmas.List.{append-nil}
use Rattle.std.specs.Prelude.{is_some}
use Rattle.souper_graph.specs.Syntax.Tokens.{Lexeme, ident, val_name, int}
use Rattle.souper_graph.specs.Syntax.Spelling.{kinds, Scope, Form, ◌·◌, nothing, token, word, one, perhaps, optional}
use Rattle.souper_ir.specs.Parsing.{Parsing}
use Rattle.souper_ir.specs.Reading.{Reads, ◌>>=◌, looked_up}
use Rattle.souper_ir.specs.Grammar.{Free, NextStops, Starts, peek_at}
use Rattle.souper_ir.specs.NodeReadings.{accept, as_name, as_mark, as_word, int_by, ident_by}
use Rattle.souper_ir.specs.Laws.Unique.{never, Free-weaker, NextStops-weaker, Free-from_NextStops}
use Rattle.souper_ir.specs.Laws.Peeks.{ok_is, Answers, peeked}
use Rattle.souper_ir.specs.Laws.Steps.{TakesTokens, Takes-then, Takes-none, state_then, taken_ahead, At, bind_ok, up_ok}
use Rattle.souper_ir.specs.Laws.Tokens.{name_means, mark_means, word_means, word_of_is, int_means, ident_means}
use Rattle.souper_ir.specs.Laws.Next.{accepted, accepts, sees, sees_none, starts_longer, Shows, shows}

-- ---- rules

abbrev pub ReadingOf : Type 0 → Type 0
ReadingOf V = Parsing → Reads V

-- the value is read, and these tokens remain
pub record ReadsValue {V : Type 0} (read : ReadingOf V) (v : V) (p : Parsing) (rest : List Lexeme) : Type 0 where
  pub next : Parsing
  pub is_read : read p ≡ Ok (v, next)
  pub ahead : At next rest
  pub state : next ≡ record p { tokens = next.tokens }

-- the form of each value, in a scope
abbrev pub FormOf : Type 0 → Type 1
FormOf V = Scope → V → Form

-- the tokens taken have the value's form, those after them do not continue it, and the value is one of those that are meant
pub record Took {V : Type 0} (Is : V → Type 0) (F : FormOf V) (continues : V → Lexeme → Type 0) (p q : Parsing) (v : V) : Type 0 where
  pub used : List Lexeme
  pub taken : TakesTokens p q used
  pub is : Is v
  pub formed : F p.scope v used
  pub free : Free (continues v) (kinds q.tokens)

-- of the values that are meant, one is read if and only if the tokens have its form
pub record Rule {V : Type 0} (Is : V → Type 0) (F : FormOf V) (continues : V → Lexeme → Type 0) (read : ReadingOf V) : Type 0 where
  pub sound : (p q : Parsing) (v : V) → p.failed ≡ None → read p ≡ Ok (v, q) → Took Is F continues p q v
  pub complete : (p : Parsing) (v : V) (front rest : List Lexeme) → At p (front ++ rest) → Is v → F p.scope v front → NextStops (continues v) p.faulty rest → ReadsValue read v p rest

-- any value
abbrev pub Any : {V : Type 0} → V → Type 0
Any v = Unit {0}

-- nothing continues the value
abbrev pub Never : {V : Type 0} → V → Lexeme → Type 0
Never v t = ⊥

-- another way to state the reading
pub reread : {V : Type 0} {Is : V → Type 0} {F : FormOf V} {c : V → Lexeme → Type 0} {r : ReadingOf V} (f : ReadingOf V) → ((p : Parsing) → f p ≡ r p) → Rule Is F c r → Rule Is F c f
reread f same m = record {
  sound = λ p q v live e. m.sound p q v live (sym (same p) ∙ e);
  complete = λ p v front rest at i h st. let k = m.complete p v front rest at i h st in record { next = k.next; is_read = same p ∙ k.is_read; ahead = k.ahead; state = k.state };
}

-- another way to say which values are meant, and what their form is
pub reformed : {V : Type 0} {Is Are : V → Type 0} {F G : FormOf V} {c : V → Lexeme → Type 0} {r : ReadingOf V} → ((s : Scope) (v : V) (ts : List Lexeme) → Is v → F s v ts → Are v × G s v ts)
    → ((s : Scope) (v : V) (ts : List Lexeme) → Are v → G s v ts → Is v × F s v ts) → Rule Is F c r → Rule Are G c r
reformed to from m = record {
  sound = λ p q v live e.
      let k = m.sound p q v live e in
      let h = to p.scope v k.used k.is k.formed in
      record { used = k.used; taken = k.taken; is = h.0; formed = h.1; free = k.free };
  complete = λ p v front rest at i h st. let k = from p.scope v front i h in m.complete p v front rest at k.0 k.1 st;
}

-- what does not come from the tokens, if it is known of the values that are meant
pub given : {A V : Type 0} {Is : V → Type 0} {F : FormOf V} {c : V → Lexeme → Type 0} {f : A → ReadingOf V} (o : Option A) → ((v : V) → Is v → (a : A) × (o ≡ Some a)) → ((a : A) → o ≡ Some a → Rule Is F c (f a)) → Rule Is F c (λ p. looked_up o >>= λ x. f x p)
given {f = f} o known n = record {
  sound = λ p q v live e. let x = up_ok o (λ x. f x p) (v, q) e in (n x.0 x.1).sound p q v live x.2;
  complete = λ p v front rest at i h st.
      let x = known v i in
      let k = (n x.0 x.1).complete p v front rest at i h st in
      record { next = k.next; is_read = rw (x.1, k.is_read) refl; ahead = k.ahead; state = k.state };
}

-- steps in sequence, the first two of them as one
pub regrouped : {A B C : Type 0} (m : Result A Bool) (f : A → Result B Bool) (g : B → Result C Bool) → (m >>= λ x. (f x >>= g)) ≡ ((m >>= f) >>= g)
regrouped (Ok x) f g = refl
regrouped (Err b) f g = refl

-- what is read next, another way
pub read_next : {A B : Type 0} (m : Result A Bool) (f g : A → Result B Bool) → ((x : A) → f x ≡ g x) → (m >>= f) ≡ (m >>= g)
read_next (Ok x) f g h = h x
read_next (Err b) f g h = refl

-- ---- nothing

-- a form alone, and nothing after it
pub with_nothing : (F : Form) (ts : List Lexeme) → F ts → (F · nothing) ts
with_nothing F ts h = record { prefix = ts; suffix = []; whole = sym (append-nil ts); first = h; second = refl }

pub without_nothing : (F : Form) (ts : List Lexeme) → (F · nothing) ts → F ts
without_nothing F ts h = subst F (sym (h.whole ∙ ap (λ (x : List Lexeme). h.prefix ++ x) h.second ∙ append-nil h.prefix)) h.first

-- one value, whose form is empty, and which nothing continues
pub done : {V : Type 0} {Is : V → Type 0} {F : FormOf V} {c : V → Lexeme → Type 0} (w : V) → Is w → ((v : V) → Is v → v ≡ w) → ((s : Scope) (ts : List Lexeme) → F s w ts → ts ≡ []) → ((s : Scope) → F s w []) → ((t : Lexeme) → ¬ c w t) → Rule Is F c (λ p. Ok (w, p))
done {V} {Is} {F} {c} w is only empty none stops = record {
  sound = λ p q v live e. let same : ◌≡◌ {A = V × Parsing} (w, p) (v, q) = ok_is e in
      subst (λ (x : V × Parsing). Took Is F c p x.1 x.0) same (record { used = []; taken = Takes-none p; is = is; formed = none p.scope; free = Free-weaker (λ t. ⊥) (c w) (kinds p.tokens) stops (never (kinds p.tokens)) });
  complete = λ p v front rest at i h st.
      let k = empty p.scope front (subst (λ (x : V). F p.scope x front) (only v i) h) in
      record { next = p; is_read = ap (λ (x : V). Ok (x, p)) (sym (only v i)); ahead = subst (λ (x : List Lexeme). At p (x ++ rest)) k at; state = refl };
}

-- ---- one token

meant : {A : Type 0} (meaning : Lexeme → Option A) (F : A → Form) → ((t : Lexeme) (a : A) → meaning t ≡ Some a → F a (t ∷ [])) → ((ts : List Lexeme) (a : A) → F a ts → (t : Lexeme) × (ts ≡ t ∷ []) × (meaning t ≡ Some a))
    → Rule Any (λ s. F) Never (accept meaning)
meant meaning F to from = record {
  sound = λ p q a live e. let k = accepted meaning p q a e in record { used = k.0 ∷ []; taken = k.2; is = tt; formed = to k.0 a k.1; free = never (kinds q.tokens) };
  complete = λ p a front rest at i h st.
      let t = from front a h in
      let k = accepts meaning p t.0 a rest (subst (λ (x : List Lexeme). At p (x ++ rest)) t.1 at) t.2 in
      record { next = k.0; is_read = k.1; ahead = k.2; state = k.3 };
}

pub mark : (m : Lexeme) → as_mark m m ≡ Some tt → Rule Any (λ s u. token m) Never (accept (as_mark m))
mark m is = meant (as_mark m) (λ u. token m) (λ t u e. ap (λ (x : Lexeme). x ∷ []) (mark_means m t e)) (λ ts u h. (m, h, is))

pub keyword : (w : List ℕ) → Rule Any (λ s u. word w) Never (accept (as_word w))
keyword w = meant (as_word w) (λ u. word w) (λ t u e. ap (λ (x : Lexeme). x ∷ []) (word_means w t e)) (λ ts u h. (ident w, h, word_of_is w))

pub int_read : {A : Type 0} (read : List ℕ → Option A) → Rule Any (λ s. one int read) Never (accept (int_by read))
int_read read = meant (int_by read) (one int read) (λ t a e. let w = int_means read t a e in (w.0, ap (λ (x : Lexeme). x ∷ []) w.1, w.2)) (λ ts a h. (int h.0, h.1, h.2))

pub ident_read : {A : Type 0} (read : List ℕ → Option A) → Rule Any (λ s. one ident read) Never (accept (ident_by read))
ident_read read = meant (ident_by read) (one ident read) (λ t a e. let w = ident_means read t a e in (w.0, ap (λ (x : Lexeme). x ∷ []) w.1, w.2)) (λ ts a h. (ident h.0, h.1, h.2))

abbrev pub found_at : {A : Type 0} → Option A → ReadingOf A
found_at o p = looked_up o >>= λ a. Ok (a, p)

-- a name that the scope gives a meaning
abbrev pub name_at : {A : Type 0} → (Scope → List ℕ → Option A) → ReadingOf A
name_at read p = do
  n ← accept as_name p
  found_at (read n.1.scope n.0) n.1

pub name_read : {A : Type 0} (read : Scope → List ℕ → Option A) → Rule Any (λ s. one val_name (read s)) Never (name_at read)
name_read {A} read = record {
  sound = λ p q a live e.
      let n = bind_ok (accept as_name p) (λ n. looked_up (read n.1.scope n.0) >>= λ a. Ok (a, n.1)) (a, q) e in
      let k = accepted as_name p n.0.1 n.0.0 n.1 in
      let m = up_ok (read n.0.1.scope n.0.0) (λ x. Ok (x, n.0.1)) (a, q) n.2 in
      let same : ◌≡◌ {A = A × Parsing} (m.0, n.0.1) (a, q) = ok_is m.2 in
      subst (λ (x : A × Parsing). Took Any (λ s. one val_name (read s)) Never p x.1 x.0) same (record {
        used = k.0 ∷ [];
        taken = k.2;
        is = tt;
        formed = (n.0.0, ap (λ (x : Lexeme). x ∷ []) (name_means k.0 n.0.0 k.1), subst (λ (x : Parsing). read x.scope n.0.0 ≡ Some m.0) k.2.state m.1);
        free = never (kinds n.0.1.tokens);
      });
  complete = λ p a front rest at i h st.
      let k = accepts as_name p (val_name h.0) h.0 rest (subst (λ (x : List Lexeme). At p (x ++ rest)) h.1 at) refl in
      let found : read k.0.scope h.0 ≡ Some a = subst (λ (x : Parsing). read x.scope h.0 ≡ Some a) (sym k.3) h.2 in
      record { next = k.0; is_read = rw (k.1, found) refl; ahead = k.2; state = k.3 };
}

-- readings in sequence, grouped otherwise
pub by_name : {A V : Type 0} (read : Scope → List ℕ → Option A) (k : A → ReadingOf V) (p : Parsing) → (accept as_name p >>= λ n. looked_up (read n.1.scope n.0) >>= λ a. k a n.1) ≡ (name_at read p >>= λ x. k x.0 x.1)
by_name read k p = read_next (accept as_name p) _ _ (λ n. regrouped (looked_up (read n.1.scope n.0)) (λ a. Ok (a, n.1)) (λ x. k x.0 x.1)) ∙ regrouped (accept as_name p) (λ n. found_at (read n.1.scope n.0) n.1) (λ x. k x.0 x.1)

-- ---- F, and then G

-- a value of which this holds
abbrev pub some : {A : Type 0} → (A → Type 0) → (A → Form) → Form
some {A} Is F = λ ts. (a : A) × Is a × F a ts

-- a first part, which the value has, and then what may depend on it
module _ {A V : Type 0} (Has : V → A → Type 0) (G : FormOf V) (c : A → Lexeme → Type 0) (d e : V → Lexeme → Type 0) where
  -- what follows the first part does not continue it, if it does not continue the whole
  abbrev pub Over : Type 0
  Over = (faulty : Bool) (s : Scope) (v : V) (a : A) (b rest : List Lexeme) → Has v a → G s v b → NextStops (e v) faulty rest → NextStops (c a) faulty (b ++ rest)

  -- what continues the second part continues the whole, and nothing else does but what continues the first, if the second is empty
  abbrev pub Ends : Type 0
  Ends = ((v : V) (t : Lexeme) → d v t → e v t) × ((s : Scope) (v : V) (a : A) (b rest : List Lexeme) → Has v a → G s v b → Free (c a) (b ++ rest) → Free (d v) rest → Free (e v) rest)

  pub parts : {Of : A → Type 0} {Is : V → Type 0} {F : FormOf A} {r : ReadingOf A} {f : A → ReadingOf V} → Over → Ends → ((v : V) (a : A) → Is v → Has v a → Of a)
      → Rule Of F c r → ((a : A) → Of a → Rule (λ v. Is v × Has v a) G d (f a)) → Rule Is (λ s v. some (Has v) (F s) · G s v) e (λ p. r p >>= λ x. f x.0 x.1)
  parts {Of} {Is} {F} {r} {f} over ends fits m n = record {
    sound = λ p q v live y.
        let x = bind_ok (r p) (λ x. f x.0 x.1) (v, q) y in
        let j = m.sound p x.0.1 x.0.0 live x.1 in
        let k = (n x.0.0 j.is).sound x.0.1 q v (ap (λ (z : Parsing). z.failed) j.taken.state ∙ live) x.2 in
        let second : G p.scope v k.used = subst (λ (z : Parsing). G z.scope v k.used) j.taken.state k.formed in
        record {
          used = j.used ++ k.used;
          taken = Takes-then p x.0.1 q j.used k.used j.taken k.taken;
          is = k.is.0;
          formed = record { prefix = j.used; suffix = k.used; whole = refl; first = (x.0.0, k.is.1, j.formed); second = second };
          free = ends.1 p.scope v x.0.0 k.used (kinds q.tokens) k.is.1 second (subst (Free (c x.0.0)) (taken_ahead x.0.1 q k.used k.taken) j.free) k.free;
        };
    complete = λ p v front rest at i h st.
        let a = h.first.0 in
        let ahead : At p (h.prefix ++ (h.suffix ++ rest)) = subst (At p) (ap (λ (x : List Lexeme). x ++ rest) h.whole ∙ append_assoc h.prefix h.suffix rest) at in
        let fit : Of a = fits v a i h.first.1 in
        let j = m.complete p a h.prefix (h.suffix ++ rest) ahead fit h.first.2 (over p.faulty p.scope v a h.suffix rest h.first.1 h.second st) in
        let k = (n a fit).complete j.next v h.suffix rest j.ahead (i, h.first.1) (subst (λ (x : Parsing). G x.scope v h.suffix) (sym j.state) h.second)
        (subst (λ (x : Parsing). NextStops (d v) x.faulty rest) (sym j.state) (NextStops-weaker (e v) (d v) p.faulty rest (ends.0 v) st)) in
        record { next = k.next; is_read = rw (j.is_read, k.is_read) (refl {a = Ok (v, k.next)}); ahead = k.ahead; state = state_then p j.next k.next j.state k.state };
  }

-- nothing continues the first part
pub quiet : {A V : Type 0} (Has : V → A → Type 0) (G : FormOf V) (d : V → Lexeme → Type 0) → Over Has G Never d d
quiet Has G d faulty s v a [] [] i h st = st
quiet Has G d faulty s v a _ _ i h st = λ x. x

-- the second part ends the whole
pub second_ends : {A V : Type 0} (Has : V → A → Type 0) (G : FormOf V) (c : A → Lexeme → Type 0) (d : V → Lexeme → Type 0) → Ends Has G c d d
second_ends Has G c d = ((λ v t h. h), (λ s v a b rest i h f g. g))

-- after something of which the value does not say all
pub joined_some : {A V : Type 0} {Is : V → Type 0} {F : FormOf A} {G : FormOf V} {d : V → Lexeme → Type 0} {r : ReadingOf A} {f : A → ReadingOf V} (Has : V → A → Type 0)
    → Rule Any F Never r → ((a : A) → Rule (λ v. Is v × Has v a) G d (f a)) → Rule Is (λ s v. some (Has v) (F s) · G s v) d (λ p. r p >>= λ x. f x.0 x.1)
joined_some {G = G} {d = d} Has m n = parts Has G Never d d (quiet Has G d) (second_ends Has G Never d) (λ v a i h. tt) m (λ a o. n a)

-- the value has the first part
pub joined_to : {A V : Type 0} {Of : A → Type 0} {Is : V → Type 0} {F : FormOf A} {G : FormOf V} {c : A → Lexeme → Type 0} {d e : V → Lexeme → Type 0} {r : ReadingOf A} {f : A → ReadingOf V} (a_of : V → A)
    → Over (λ v a. a_of v ≡ a) G c d e → Ends (λ v a. a_of v ≡ a) G c d e → ((v : V) (a : A) → Is v → a_of v ≡ a → Of a)
    → Rule Of F c r → ((a : A) → Rule (λ v. Is v × (a_of v ≡ a)) G d (f a)) → Rule Is (λ s v. F s (a_of v) · G s v) e (λ p. r p >>= λ x. f x.0 x.1)
joined_to {F = F} {G = G} {c = c} {d = d} {e = e} a_of over ends fits m n = reformed
    (λ s v ts i h. (i, record { prefix = h.prefix; suffix = h.suffix; whole = h.whole; first = subst (λ a. F s a h.prefix) (sym h.first.1) h.first.2; second = h.second }))
    (λ s v ts i h. (i, record { prefix = h.prefix; suffix = h.suffix; whole = h.whole; first = (a_of v, refl, h.first); second = h.second }))
    (parts (λ v a. a_of v ≡ a) G c d e over ends fits m (λ a o. n a))

pub joined : {A V : Type 0} {Is : V → Type 0} {F : FormOf A} {G : FormOf V} {c : A → Lexeme → Type 0} {d : V → Lexeme → Type 0} {r : ReadingOf A} {f : A → ReadingOf V} (a_of : V → A)
    → Over (λ v a. a_of v ≡ a) G c d d → Rule Any F c r → ((a : A) → Rule (λ v. Is v × (a_of v ≡ a)) G d (f a)) → Rule Is (λ s v. F s (a_of v) · G s v) d (λ p. r p >>= λ x. f x.0 x.1)
joined {G = G} {c = c} {d = d} a_of over m n = joined_to a_of over (second_ends (λ v a. a_of v ≡ a) G c d) (λ v a i h. tt) m n

-- after a token
pub after : {V : Type 0} {Is : V → Type 0} {T : Form} {G : FormOf V} {d : V → Lexeme → Type 0} {m : ReadingOf (Unit {0})} {r : ReadingOf V} → Rule Any (λ s u. T) Never m → Rule Is G d r → Rule Is (λ s v. T · G s v) d (λ p. m p >>= λ x. r x.1)
after {V = V} {G = G} {d = d} m n =
    let none : V → Unit {0} = λ v. tt in
    joined none (quiet (λ v u. none v ≡ u) G d) m (λ u. reformed (λ s v ts i h. ((i, refl), h)) (λ s v ts i h. (i.0, h)) n)

-- after what nothing continues
pub first : {A V : Type 0} {Is : V → Type 0} {F : FormOf A} {G : FormOf V} {d : V → Lexeme → Type 0} {r : ReadingOf A} {f : A → ReadingOf V} (a_of : V → A)
    → Rule Any F Never r → ((a : A) → Rule (λ v. Is v × (a_of v ≡ a)) G d (f a)) → Rule Is (λ s v. F s (a_of v) · G s v) d (λ p. r p >>= λ x. f x.0 x.1)
first {G = G} {d = d} a_of m n = joined a_of (quiet (λ v a. a_of v ≡ a) G d) m n

-- the last part, of which the value is made
pub last : {A V : Type 0} {Of : A → Type 0} {Is : V → Type 0} {G : FormOf V} {d : V → Lexeme → Type 0} {r : ReadingOf A} (make : A → V)
    → ((a : A) → Of a → Is (make a)) → ((v : V) → Is v → (a : A) × Of a × (v ≡ make a)) → Rule Of (λ s a. G s (make a)) (λ a. d (make a)) r → Rule Is G d (λ p. r p >>= λ x. Ok (make x.0, x.1))
last {V = V} {Is = Is} {G = G} {d = d} {r = r} make makes made m = record {
  sound = λ p q v live e.
      let x = bind_ok (r p) (λ x. Ok (make x.0, x.1)) (v, q) e in
      let j = m.sound p x.0.1 x.0.0 live x.1 in
      let same : ◌≡◌ {A = V × Parsing} (make x.0.0, x.0.1) (v, q) = ok_is x.2 in
      subst (λ (y : V × Parsing). Took Is G d p y.1 y.0) same (record { used = j.used; taken = j.taken; is = makes x.0.0 j.is; formed = j.formed; free = j.free });
  complete = λ p v front rest at i h st.
      let w = made v i in
      let j = m.complete p w.0 front rest at w.1 (subst (λ (y : V). G p.scope y front) w.2 h) (subst (λ (y : V). NextStops (d y) p.faulty rest) w.2 st) in
      record { next = j.next; is_read = rw j.is_read (ap (λ (x : V). Ok (x, j.next)) (sym w.2)); ahead = j.ahead; state = j.state };
}

-- a word of a table, and then what the word says
pub worded : {K V : Type 0} {Is : V → Type 0} {B : FormOf V} {d : V → Lexeme → Type 0} {r : ReadingOf K} {f : K → ReadingOf V} (kind_of : List ℕ → Option K) (wording : V → List ℕ) (kind : V → K)
    → ((v : V) → kind_of (wording v) ≡ Some (kind v)) → ((w : List ℕ) (v : V) → kind_of w ≡ Some (kind v) → w ≡ wording v) → Rule Any (λ s. one ident kind_of) Never r
    → ((k : K) → Rule (λ v. Is v × (kind v ≡ k)) B d (f k)) → Rule Is (λ s v. word (wording v) · B s v) d (λ p. r p >>= λ k. f k.0 k.1)
worded kind_of wording kind is means m n = reformed
    (λ s v ts i h. let w = h.first in (i, record { prefix = h.prefix; suffix = h.suffix; whole = h.whole; first = w.1 ∙ ap (λ (x : List ℕ). ident x ∷ []) (means w.0 v w.2); second = h.second }))
    (λ s v ts i h. (i, record { prefix = h.prefix; suffix = h.suffix; whole = h.whole; first = (wording v, h.first, is v); second = h.second }))
    (first kind m n)

-- ---- choices by the next token

-- a value or none: the next token starts one, or it continues None
module _ {A : Type 0} {F : FormOf A} (f : Bool → ReadingOf (Option A)) (starts : Lexeme → Bool) (d : Option A → Lexeme → Type 0) (stops : (t : Lexeme) → starts t ≡ true → d None t) (goes : (t : Lexeme) → d None t → starts t ≡ true)
    (begins : (s : Scope) (a : A) (ts : List Lexeme) → F s a ts → Starts starts ts) (without : (p : Parsing) → f false p ≡ Ok (None, p)) (m : Rule (λ o. is_some o ≡ true) (λ s. optional (F s)) d (f true)) where
  abbrev Chosen : Parsing → Parsing → Option A → Type 0
  Chosen p q o = Took Any (λ s. optional (F s)) d p q o

  chosen : (b : Bool) (p q : Parsing) (o : Option A) → p.failed ≡ None → Answers starts b p.faulty (kinds p.tokens) → f b p ≡ Ok (o, q) → Chosen p q o
  chosen false p q o live seen e =
      let same : ◌≡◌ {A = Option A × Parsing} (None, p) (o, q) = ok_is (sym (without p) ∙ e) in
      let free : Free (d None) (kinds p.tokens) = Free-weaker (λ t. starts t ≡ true) (d None) (kinds p.tokens) goes (Free-from_NextStops _ p.faulty (kinds p.tokens) seen) in
      subst (λ (x : Option A × Parsing). Chosen p x.1 x.0) same (record { used = []; taken = Takes-none p; is = tt; formed = refl; free = free })
  chosen true p q o live seen e =
      let k = m.sound p q o live e in
      record { used = k.used; taken = k.taken; is = tt; formed = k.formed; free = k.free }

  choose : (p : Parsing) (o : Option A) (front rest : List Lexeme) → At p (front ++ rest) → optional (F p.scope) o front → NextStops (d o) p.faulty rest → ReadsValue (λ p. peek_at starts p >>= λ b. f b.0 b.1) o p rest
  choose p None front rest at h st =
      let here : At p rest = subst (λ (x : List Lexeme). At p (x ++ rest)) h at in
      record { next = p; is_read = rw (sees_none starts p rest here (NextStops-weaker (d None) (λ t. starts t ≡ true) p.faulty rest stops st)) (without p); ahead = here; state = refl }
  choose p (Some a) front rest at h st =
      let k = m.complete p (Some a) front rest at refl h st in
      record { next = k.next; is_read = rw (sees starts p (front ++ rest) at (starts_longer starts front rest (begins p.scope a front h)), k.is_read) refl; ahead = k.ahead; state = k.state }

  pub optional_rule : Rule Any (λ s. optional (F s)) d (λ p. peek_at starts p >>= λ b. f b.0 b.1)
  optional_rule = record {
    sound = λ p q o live e.
        let b = bind_ok (peek_at starts p) (λ b. f b.0 b.1) (o, q) e in
        let look = peeked starts p b.0.1 b.0.0 b.1 in
        chosen b.0.0 p q o live look.2 (subst (λ (x : Parsing). f b.0.0 x ≡ Ok (o, q)) look.0 b.2);
    complete = λ p o front rest at i h st. choose p o front rest at h st;
  }

-- T if a token starts it, and then G
module _ {V : Type 0} {Is : V → Type 0} {T : Form} {G : FormOf V} {d : V → Lexeme → Type 0} (f : Bool → ReadingOf (Unit {0})) (k : ReadingOf V) (starts : Lexeme → Bool) (begins : (ts : List Lexeme) → T ts → Starts starts ts) (without : (p : Parsing) → f false p ≡ Ok (tt, p))
    (over : (faulty : Bool) (s : Scope) (v : V) (b rest : List Lexeme) → G s v b → NextStops (λ t. starts t ≡ true) faulty (b ++ rest)) (m : Rule Any (λ s u. T) Never (f true)) (n : Rule Is G d k) where
  abbrev Side : Bool → FormOf V
  Side true s v = T · G s v
  Side false s v = G s v

  side_rule : (b : Bool) → Rule Is (Side b) d (λ p. f b p >>= λ u. k u.1)
  side_rule true = after m n
  side_rule false = reread (λ p. f false p >>= λ u. k u.1) (λ p. ap (λ (r : Reads (Unit {0})). r >>= λ u. k u.1) (without p)) n

  side_to : (b : Bool) (s : Scope) (v : V) (ts : List Lexeme) → Side b s v ts → (perhaps T · G s v) ts
  side_to true s v ts h = record { prefix = h.prefix; suffix = h.suffix; whole = h.whole; first = inr h.first; second = h.second }
  side_to false s v ts h = record { prefix = []; suffix = ts; whole = refl; first = inl refl; second = h }

  side_of : (p : Parsing) (v : V) (front rest : List Lexeme) → At p (front ++ rest) → (h : (perhaps T · G p.scope v) front) → perhaps T h.prefix → (b : Bool) × (peek_at starts p ≡ Ok (b, p)) × Side b p.scope v front
  side_of p v front rest at h (inl e) =
      let whole : front ≡ h.suffix = h.whole ∙ ap (λ (x : List Lexeme). x ++ h.suffix) e in
      let g : G p.scope v front = subst (G p.scope v) (sym whole) h.second in
      (false, sees_none starts p (front ++ rest) at (over p.faulty p.scope v front rest g), g)
  side_of p v front rest at h (inr t) =
      let seen : Starts starts front = subst (Starts starts) (sym h.whole) (starts_longer starts h.prefix h.suffix (begins h.prefix t)) in
      (true, sees starts p (front ++ rest) at (starts_longer starts front rest seen), record { prefix = h.prefix; suffix = h.suffix; whole = h.whole; first = t; second = h.second })

  pub perhaps_rule : Rule Is (λ s v. perhaps T · G s v) d (λ p. (peek_at starts p >>= λ b. f b.0 b.1) >>= λ u. k u.1)
  perhaps_rule = reread (λ p. (peek_at starts p >>= λ b. f b.0 b.1) >>= λ u. k u.1) (λ p. sym (regrouped (peek_at starts p) (λ b. f b.0 b.1) (λ u. k u.1))) (record {
    sound = λ p q v live e.
        let b = bind_ok (peek_at starts p) (λ b. f b.0 b.1 >>= λ u. k u.1) (v, q) e in
        let look = peeked starts p b.0.1 b.0.0 b.1 in
        let r = (side_rule b.0.0).sound p q v live (subst (λ (x : Parsing). (f b.0.0 x >>= λ u. k u.1) ≡ Ok (v, q)) look.0 b.2) in
        record { used = r.used; taken = r.taken; is = r.is; formed = side_to b.0.0 p.scope v r.used r.formed; free = r.free };
    complete = λ p v front rest at i h st.
        let (b, seen, g) = side_of p v front rest at h h.first in
        let r = (side_rule b).complete p v front rest at i g st in
        record { next = r.next; is_read = rw (seen, r.is_read) refl; ahead = r.ahead; state = r.state };
  })

-- one of two, which begin differently
module _ {V : Type 0} {F : FormOf V} {c : V → Lexeme → Type 0} {f : Bool → ReadingOf V} (starts : Lexeme → Bool) (side : V → Bool)
    (begins : (s : Scope) (v : V) (ts : List Lexeme) → F s v ts → Shows starts (side v) ts) (n : (b : Bool) → Rule (λ v. side v ≡ b) F c (f b)) where
  pub either_rule : Rule Any F c (λ p. peek_at starts p >>= λ b. f b.0 b.1)
  either_rule = record {
    sound = λ p q v live e.
        let b = bind_ok (peek_at starts p) (λ b. f b.0 b.1) (v, q) e in
        let look = peeked starts p b.0.1 b.0.0 b.1 in
        let k = (n b.0.0).sound p q v live (subst (λ (x : Parsing). f b.0.0 x ≡ Ok (v, q)) look.0 b.2) in
        record { used = k.used; taken = k.taken; is = tt; formed = k.formed; free = k.free };
    complete = λ p v front rest at i h st.
        let k = (n (side v)).complete p v front rest at refl h st in
        record { next = k.next; is_read = rw (shows starts (side v) p front rest at (begins p.scope v front h), k.is_read) refl; ahead = k.ahead; state = k.state };
  }
