-- Lemmas. The rules of attributes: a value is read if and only if the tokens have its form.
use Rattle.std.proofs.Common.{◌≡◌, ℕ, ◌^◌, Bool, List, [], ◌∷◌, ◌++◌, Option, Some, Ok, refl, sym, ◌∙◌, ap, subst, inl, inr}
use Rattle.std.specs.Prelude.{ℤ, pos, codes}
use Rattle.souper_graph.specs.Values.{PlainAttribute, known_bits as known_bits_attribute, power_of_two, negative, non_negative, non_zero, has_external_uses, sign_bits, range, PlainRootAttribute, demanded_bits, harvested_from_use}
use Rattle.souper_graph.specs.Syntax.Tokens.{Lexeme, ident, known_bits, int, comma, equals, open_paren, close_paren, open_bracket}
use Rattle.souper_graph.specs.Syntax.Numbers.{number_of, count_of, bits_of, known_bits_of}
use Rattle.souper_graph.specs.Syntax.Spelling.{Scope, Form, ◌·◌, nothing, token, word, one, each, enclosed, attribute, root_attribute}
use Rattle.souper_graph.proofs.Forms.Parts.{next}
use Rattle.souper_ir.specs.Parsing.{Parsing}
use Rattle.souper_ir.specs.Reading.{◌>>=◌}
use Rattle.souper_ir.specs.declared.parse.attributes.RootKind.{RootKind}
use Rattle.souper_ir.specs.declared.parse.attributes.RootKind.TheVariants.{DemandedBits, HarvestedFromUse}
use Rattle.souper_ir.specs.Grammar.{NextStops, Starts, Members, LastGoesOn, ListGoesOn}
use Rattle.souper_ir.specs.NodeReadings.{accept, as_mark, is_mark, int_by, ident_by, AttributeKind, plain_kind, bits_kind, sign_bits_kind, range_kind, attribute_kind_of_word, attribute_kind_of, attribute_by, attribute_at, root_kind_of_word, root_attribute_by, root_attribute_at}
use Rattle.souper_ir.specs.Laws.Unique.{never}
use Rattle.souper_ir.specs.Laws.Peeks.{some_is}
use Rattle.souper_ir.specs.Laws.Steps.{Takes-then, At, bind_ok, state_then}
use Rattle.souper_ir.specs.Laws.Tokens.{is_mark_means, by_word}
use Rattle.souper_ir.specs.Laws.Words.{named}
use Rattle.souper_ir.specs.Laws.Next.{accepted, accepts}
use Rattle.souper_ir.specs.Laws.Rules.{FormOf, ReadingOf, Rule, Any, Never, reread, regrouped, given, done, mark, int_read, first, after, last, with_nothing, without_nothing, reformed, worded, ident_read}

-- ---- between parentheses

enclosed_rule : {K V : Type 0} {F : FormOf V} (kind_of : Lexeme → Option K) (f : K → ReadingOf V) → Rule Any F Never (λ p. accept kind_of p >>= λ k. f k.0 k.1)
    → Rule Any (λ s v. enclosed (F s v)) Never (λ p. accept (as_mark open_paren) p >>= λ o. (accept kind_of o.1 >>= λ k. (f k.0 k.1 >>= λ a. (accept (as_mark close_paren) a.1 >>= λ c. Ok (a.0, c.1)))))
enclosed_rule {K} {V} {F} kind_of f m =
    after (mark open_paren refl) (
    reread (λ q. accept kind_of q >>= λ k. (f k.0 k.1 >>= λ a. (accept (as_mark close_paren) a.1 >>= λ c. Ok (a.0, c.1))))
    (λ q. regrouped (accept kind_of q) (λ k. f k.0 k.1) (λ a. accept (as_mark close_paren) a.1 >>= λ c. Ok (a.0, c.1)))
    (first (λ a. a) m (λ a. last (λ (u : Unit {0}). a) (λ u i. (tt, refl)) (λ v i. (tt, tt, i.1)) (mark close_paren refl))))

-- a token of a table, and then what it begins
abbrev Begun : {K V : Type 0} → (Lexeme → Option K) → (K → V → Type 0) → (K → V → Form) → V → Form
Begun {K} kind_of Is rest v = λ ts. (k : K) × Is k v × (t : Lexeme) × (kind_of t ≡ Some k) × (token t · rest k v) ts

tabled : {K V : Type 0} {f : K → ReadingOf V} (kind_of : Lexeme → Option K) (Is : K → V → Type 0) (rest : K → V → Form) → ((k : K) → Rule (Is k) (λ s. rest k) Never (f k)) → Rule Any (λ s. Begun kind_of Is rest) Never (λ p. accept kind_of p >>= λ k. f k.0 k.1)
tabled {K} {V} {f} kind_of Is rest n = record {
  sound = λ p q v live e.
      let x = bind_ok (accept kind_of p) (λ k. f k.0 k.1) (v, q) e in
      let t = accepted kind_of p x.0.1 x.0.0 x.1 in
      let k = (n x.0.0).sound x.0.1 q v (ap (λ (z : Parsing). z.failed) t.2.state ∙ live) x.2 in
      record {
        used = t.0 ∷ k.used;
        taken = Takes-then p x.0.1 q (t.0 ∷ []) k.used t.2 k.taken;
        is = tt;
        formed = (x.0.0, k.is, t.0, t.1, next t.0 k.used k.formed);
        free = k.free;
      };
  complete = λ p v front more at i h st.
      let (k, is, t, e, j) = h in
      let ahead : At p (t ∷ (j.suffix ++ more)) = subst (At p) (ap (λ (x : List Lexeme). x ++ more) (j.whole ∙ ap (λ (x : List Lexeme). x ++ j.suffix) j.first)) at in
      let m = accepts kind_of p t k (j.suffix ++ more) ahead e in
      let r = (n k).complete m.0 v j.suffix more m.2 is j.second (subst (λ (z : Parsing). NextStops (λ t. ⊥) z.faulty more) (sym m.3) st) in
      record { next = r.next; is_read = rw (m.1, r.is_read) (refl {a = Ok (v, r.next)}); ahead = r.ahead; state = state_then p m.0 r.next m.3 r.state };
}

-- what is between the parentheses has another form too
within : {F : Form} (G : Form) (ts : List Lexeme) (h : enclosed F ts) → G h.second.prefix → enclosed G ts
within G ts h g = record { prefix = h.prefix; suffix = h.suffix; whole = h.whole; first = h.first; second = record { prefix = h.second.prefix; suffix = h.second.suffix; whole = h.second.whole; first = g; second = h.second.second } }

-- the tokens of which there is one between the parentheses
enclosed_alone : {F : Form} (t : Lexeme) (ts : List Lexeme) (h : enclosed F ts) → h.second.prefix ≡ t ∷ [] → ts ≡ open_paren ∷ t ∷ close_paren ∷ []
enclosed_alone t ts h e = rw (h.whole, h.first, h.second.whole, e, h.second.second) refl

-- ---- attributes

-- the attribute is of the kind
abbrev OfKind : AttributeKind → PlainAttribute → Type 0
OfKind (plain_kind a) x = x ≡ a
OfKind (bits_kind w) x = (bits : List (Option Bool)) × (x ≡ known_bits_attribute bits) × (known_bits_of w ≡ Some bits)
OfKind sign_bits_kind x = (n : ℕ) × (x ≡ sign_bits n)
OfKind range_kind x = (low : ℤ) × (high : ℤ) × (x ≡ range low high)

abbrev low_in : PlainAttribute → ℤ
low_in (range low high) = low
low_in _ = pos 0

abbrev high_in : PlainAttribute → ℤ
high_in (range low high) = high
high_in _ = pos 0

-- what comes after the token of the kind
abbrev rest_of : AttributeKind → PlainAttribute → Form
rest_of sign_bits_kind (sign_bits n) = token equals · one int (count_of (2 ^ 8)) n
rest_of range_kind x = token equals · token open_bracket · one int number_of (low_in x) · token comma · one int number_of (high_in x) · token close_paren
rest_of _ x = nothing

attribute_by_rule : (k : AttributeKind) → Rule (OfKind k) (λ s. rest_of k) Never (attribute_by k)
attribute_by_rule (plain_kind a) = done a refl (λ x i. i) (λ s ts h. h) (λ s. refl) (λ t h. h)
attribute_by_rule (bits_kind w) =
    given (known_bits_of w) (λ x i. (i.0, i.2)) (λ bits e. done (known_bits_attribute bits) (bits, refl, e) (λ x i. i.1 ∙ ap known_bits_attribute (some_is (sym i.2 ∙ e))) (λ s ts h. h) (λ s. refl) (λ t h. h))
attribute_by_rule sign_bits_kind = reread _ (λ p. regrouped (accept (as_mark equals) p) (λ e. accept (int_by (count_of (2 ^ 8))) e.1) (λ n. Ok (sign_bits n.0, n.1)))
    (last sign_bits (λ n i. (n, refl)) (λ x i. (i.0, tt, i.1)) (after (mark equals refl) (int_read (count_of (2 ^ 8)))))
attribute_by_rule range_kind =
    after (mark equals refl) (after (mark open_bracket refl) (
    first low_in (int_read number_of) (λ low. after (mark comma refl) (
    first high_in (int_read number_of) (λ high.
    last (λ (u : Unit {0}). range low high) (λ u i. ((((low, high, refl), refl), refl))) (λ x i. (tt, tt, same_range x low high i.0.0 i.0.1 i.1)) (mark close_paren refl))))))
  where
    same_range : (x : PlainAttribute) (low high : ℤ) → OfKind range_kind x → low_in x ≡ low → high_in x ≡ high → x ≡ range low high
    same_range x low high i e f = i.2 ∙ ap (λ (z : ℤ). range z i.1) (sym (ap low_in i.2) ∙ e) ∙ ap (range low) (sym (ap high_in i.2) ∙ f)

-- the token begins an attribute of the kind
abbrev KindIs : AttributeKind → Lexeme → Type 0
KindIs (plain_kind a) t = attribute a (open_paren ∷ t ∷ close_paren ∷ [])
KindIs (bits_kind s) t = t ≡ known_bits s
KindIs sign_bits_kind t = t ≡ ident (codes "signBits")
KindIs range_kind t = t ≡ ident (codes "range")

-- a word alone
plain : (w : List ℕ) → enclosed (word w) (open_paren ∷ ident w ∷ close_paren ∷ [])
plain w = next open_paren (ident w ∷ close_paren ∷ []) (next (ident w) (close_paren ∷ []) refl)

word_kind_means : (w : List ℕ) (k : AttributeKind) → attribute_kind_of_word w ≡ Some k → KindIs k (ident w)
word_kind_means w k e =
    by_word (λ w k. KindIs k (ident w)) w (codes "powerOfTwo") (plain_kind power_of_two) k _ e (plain (codes "powerOfTwo")) (λ e.
    by_word (λ w k. KindIs k (ident w)) w (codes "negative") (plain_kind negative) k _ e (plain (codes "negative")) (λ e.
    by_word (λ w k. KindIs k (ident w)) w (codes "nonNegative") (plain_kind non_negative) k _ e (plain (codes "nonNegative")) (λ e.
    by_word (λ w k. KindIs k (ident w)) w (codes "nonZero") (plain_kind non_zero) k _ e (plain (codes "nonZero")) (λ e.
    by_word (λ w k. KindIs k (ident w)) w (codes "hasExternalUses") (plain_kind has_external_uses) k _ e (plain (codes "hasExternalUses")) (λ e.
    by_word (λ w k. KindIs k (ident w)) w (codes "signBits") sign_bits_kind k _ e refl (λ e.
    by_word (λ w k. KindIs k (ident w)) w (codes "range") range_kind k _ e refl (λ e. absurd cc)))))))

kind_means : (t : Lexeme) (k : AttributeKind) → attribute_kind_of t ≡ Some k → KindIs k t
kind_means (known_bits s) k e = let same : ◌≡◌ {A = AttributeKind} (bits_kind s) k = some_is e in subst (λ (x : AttributeKind). KindIs x (known_bits s)) same refl
kind_means (ident w) k e = word_kind_means w k e
kind_means _ k e = absurd cc

abbrev Inside : PlainAttribute → Form
Inside x = Begun attribute_kind_of OfKind rest_of x

begun : (k : AttributeKind) (x : PlainAttribute) (t : Lexeme) (ts : List Lexeme) (h : enclosed (Inside x) ts) → KindIs k t → OfKind k x → (token t · rest_of k x) h.second.prefix → attribute x ts
begun (plain_kind a) x t ts h is i j = rw (i, enclosed_alone t ts h (without_nothing (token t) h.second.prefix j)) is
begun (bits_kind w) x t ts h is i j = rw i.1 (within (one known_bits known_bits_of i.0) ts h (w, without_nothing (token t) h.second.prefix j ∙ ap (λ (z : Lexeme). z ∷ []) is, i.2))
begun sign_bits_kind x t ts h is i j = rw i.1 (within _ ts h (rw (is, i.1) at j))
begun range_kind x t ts h is i j = rw i.2 (within _ ts h (rw (is, i.2) at j))

apart_plain : (x : PlainAttribute) (w : List ℕ) → attribute_kind_of (ident w) ≡ Some (plain_kind x) → (ts : List Lexeme) → enclosed (word w) ts → enclosed (Inside x) ts
apart_plain x w e ts h = within (Inside x) ts h (plain_kind x, refl, ident w, e, with_nothing (word w) h.second.prefix h.second.first)

apart : (x : PlainAttribute) (ts : List Lexeme) → attribute x ts → enclosed (Inside x) ts
apart (known_bits_attribute bits) ts h = let w = h.second.first in within (Inside (known_bits_attribute bits)) ts h (bits_kind w.0, (bits, refl, w.2), known_bits w.0, refl, with_nothing (token (known_bits w.0)) h.second.prefix w.1)
apart power_of_two ts h = apart_plain power_of_two (codes "powerOfTwo") refl ts h
apart negative ts h = apart_plain negative (codes "negative") refl ts h
apart non_negative ts h = apart_plain non_negative (codes "nonNegative") refl ts h
apart non_zero ts h = apart_plain non_zero (codes "nonZero") refl ts h
apart has_external_uses ts h = apart_plain has_external_uses (codes "hasExternalUses") refl ts h
apart (sign_bits n) ts h = within (Inside (sign_bits n)) ts h (sign_bits_kind, (n, refl), ident (codes "signBits"), refl, h.second.first)
apart (range low high) ts h = within (Inside (range low high)) ts h (range_kind, (low, high, refl), ident (codes "range"), refl, h.second.first)

pub attribute_rule : Rule Any (λ s. attribute) Never attribute_at
unfolding attribute_at
attribute_rule = reformed
    (λ s x ts u h. let (k, i, t, e, j) = h.second.first in (u, begun k x t ts h (kind_means t k e) i j))
    (λ s x ts u h. (u, apart x ts h))
    (enclosed_rule attribute_kind_of attribute_by (tabled attribute_kind_of OfKind rest_of attribute_by_rule))

pub attribute_first : (s : Scope) (a : PlainAttribute) (ts : List Lexeme) → attribute a ts → Starts (is_mark open_paren) ts
attribute_first s a ts h = let k = apart a ts h in rw (k.whole, k.first) refl

-- ---- root attributes

abbrev root_kind : PlainRootAttribute → RootKind
root_kind (demanded_bits bits) = DemandedBits
root_kind harvested_from_use = HarvestedFromUse

abbrev root_word : RootKind → List ℕ
root_word DemandedBits = codes "demandedBits"
root_word HarvestedFromUse = codes "harvestedFromUse"

root_word_is : (k : RootKind) → root_kind_of_word (root_word k) ≡ Some k
root_word_is DemandedBits = refl
root_word_is HarvestedFromUse = refl

-- what comes after the word
abbrev root_rest : PlainRootAttribute → Form
root_rest (demanded_bits bits) = token equals · one int bits_of bits
root_rest harvested_from_use = nothing

bits_behind : (x : PlainRootAttribute) → Any x × (root_kind x ≡ DemandedBits) → (bits : List Bool) × Any bits × (x ≡ demanded_bits bits)
bits_behind (demanded_bits bits) i = (bits, tt, refl)
bits_behind harvested_from_use i = let e = i.1 in absurd cc

alone_behind : (x : PlainRootAttribute) → Any x × (root_kind x ≡ HarvestedFromUse) → x ≡ harvested_from_use
alone_behind harvested_from_use i = refl
alone_behind (demanded_bits bits) i = let e = i.1 in absurd cc

root_attribute_by_rule : (k : RootKind) → Rule (λ x. Any x × (root_kind x ≡ k)) (λ s. root_rest) Never (root_attribute_by k)
root_attribute_by_rule HarvestedFromUse = done harvested_from_use (tt, refl) alone_behind (λ s ts h. h) (λ s. refl) (λ t h. h)
root_attribute_by_rule DemandedBits = reread _ (λ p. regrouped (accept (as_mark equals) p) (λ e. accept (int_by bits_of) e.1) (λ bits. Ok (demanded_bits bits.0, bits.1)))
    (last demanded_bits (λ bits i. (tt, refl)) bits_behind (after (mark equals refl) (int_read bits_of)))

root_inside : (x : PlainRootAttribute) (ts : List Lexeme) → enclosed (word (root_word (root_kind x)) · root_rest x) ts → root_attribute x ts
root_inside (demanded_bits bits) ts h = h
root_inside harvested_from_use ts h = within (word (codes "harvestedFromUse")) ts h (without_nothing (word (codes "harvestedFromUse")) h.second.prefix h.second.first)

root_apart : (x : PlainRootAttribute) (ts : List Lexeme) → root_attribute x ts → enclosed (word (root_word (root_kind x)) · root_rest x) ts
root_apart (demanded_bits bits) ts h = h
root_apart harvested_from_use ts h = within (word (codes "harvestedFromUse") · nothing) ts h (with_nothing (word (codes "harvestedFromUse")) h.second.prefix h.second.first)

pub root_attribute_rule : Rule Any (λ s. root_attribute) Never root_attribute_at
unfolding root_attribute_at
root_attribute_rule = reformed (λ s x ts u h. (u, root_inside x ts h)) (λ s x ts u h. (u, root_apart x ts h)) (enclosed_rule (ident_by root_kind_of_word) root_attribute_by
    (worded root_kind_of_word (λ x. root_word (root_kind x)) root_kind (λ x. root_word_is (root_kind x)) (λ w x e. named root_word (DemandedBits ∷ HarvestedFromUse ∷ []) w (root_kind x) e) (ident_read root_kind_of_word) root_attribute_by_rule))

pub root_attribute_first : (s : Scope) (a : PlainRootAttribute) (ts : List Lexeme) → root_attribute a ts → Starts (is_mark open_paren) ts
root_attribute_first s a ts h = let k = root_apart a ts h in rw (k.whole, k.first) refl

-- ---- lists of them

-- a list whose members nothing continues is continued by one more
pub last_ends : {V : Type 0} (vs : List V) (t : Lexeme) → LastGoesOn (λ v t. ⊥) vs t → ⊥
last_ends (v ∷ (w ∷ vs)) t h = last_ends (w ∷ vs) t h
last_ends _ t h = h

pub goes_on_by_paren : {V : Type 0} (vs : List V) (t : Lexeme) → ListGoesOn (λ v t. ⊥) (is_mark open_paren) vs t → t ≡ open_paren
goes_on_by_paren vs t (inl h) = is_mark_means open_paren t h
goes_on_by_paren vs t (inr h) = absurd (last_ends vs t h)

pub more_if_open : {V : Type 0} (vs : List V) (t : Lexeme) → t ≡ open_paren → ListGoesOn (λ v t. ⊥) (is_mark open_paren) vs t
more_if_open vs t e = inl (ap (is_mark open_paren) e)

-- a form of each, in sequence, and nothing that continues one
pub each_members : {X : Type 0} (F : X → Form) (xs : List X) (ts : List Lexeme) → each F xs ts → Members F (λ x t. ⊥) xs ts
each_members F [] ts h = h
each_members F (x ∷ xs) ts h = record { prefix = h.prefix; suffix = h.suffix; whole = h.whole; first = h.first; free = never h.suffix; second = each_members F xs h.suffix h.second }

pub members_each : {X : Type 0} (F : X → Form) (xs : List X) (ts : List Lexeme) → Members F (λ x t. ⊥) xs ts → each F xs ts
members_each F [] ts h = h
members_each F (x ∷ xs) ts h = record { prefix = h.prefix; suffix = h.suffix; whole = h.whole; first = h.first; second = members_each F xs h.suffix h.second }
