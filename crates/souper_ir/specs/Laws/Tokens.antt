-- Lemmas. What a single token means, and the tokens that mean it.
use Rattle.std.proofs.Common.{◌≡◌, ℕ, Bool, true, false, List, Option, Some, None, refl, sym, ap, subst}
use Rattle.std.specs.Prelude.{bytes_eq, is_some, if◌then◌else◌}
use Rattle.std.proofs.lemmas.Slice.Eq.{bytes_eq-Decides}
use Rattle.souper_graph.specs.Syntax.Tokens.{Lexeme, ident, val_name, int, comma, colon, equals, open_paren, close_paren, open_bracket}
use Rattle.souper_graph.specs.Syntax.Spelling.{Form, ◌·◌, word}
use Rattle.souper_ir.specs.Grammar.{Starts}
use Rattle.souper_ir.specs.NodeReadings.{as_name, as_mark, is_mark, is_word, as_word, int_by, ident_by}
use Rattle.souper_ir.specs.Laws.Peeks.{some_is}

pub name_means : (t : Lexeme) (n : List ℕ) → as_name t ≡ Some n → t ≡ val_name n
name_means (val_name m) n e = ap val_name (some_is e)
name_means _ n e = absurd cc

pub mark_means : (m t : Lexeme) → as_mark m t ≡ Some tt → t ≡ m
mark_means comma comma e = refl
mark_means colon colon e = refl
mark_means equals equals e = refl
mark_means open_paren open_paren e = refl
mark_means close_paren close_paren e = refl
mark_means open_bracket open_bracket e = refl
mark_means _ _ e = absurd cc

some_unit : (o : Option (Unit {0})) → is_some o ≡ true → o ≡ Some tt
some_unit (Some u) e = refl
some_unit None e = absurd cc

pub is_mark_means : (m t : Lexeme) → is_mark m t ≡ true → t ≡ m
is_mark_means m t e = mark_means m t (some_unit (as_mark m t) e)

pub is_word_means : (k : List ℕ) (t : Lexeme) → is_word k t ≡ true → t ≡ ident k
is_word_means k (ident w) e = ap ident ((bytes_eq-Decides w k).0 e)
is_word_means k _ e = absurd cc

pub some_of_if : {A : Type 0} (b : Bool) (x y : A) → (if b then Some x else None) ≡ Some y → (b ≡ true) × (x ≡ y)
some_of_if true x y e = (refl, some_is e)
some_of_if false x y e = absurd cc

pub word_means : (k : List ℕ) (t : Lexeme) → as_word k t ≡ Some tt → t ≡ ident k
word_means k t e = is_word_means k t (some_of_if (is_word k t) tt tt e).0

pub word_is : (k : List ℕ) → is_word k (ident k) ≡ true
word_is k = (bytes_eq-Decides k k).1 refl

-- a word, and then a form
pub word_first : {F : Form} (w : List ℕ) (ts : List Lexeme) → (word w · F) ts → Starts (is_word w) ts
word_first w ts h = rw (h.whole, h.first) (word_is w)

pub word_of_is : (k : List ℕ) → as_word k (ident k) ≡ Some tt
word_of_is k = rw (word_is k) refl

by_word_if : {K : Type 0} (P : List ℕ → K → Type 0) (b : Bool) (w c : List ℕ) (x k : K) (rest : Option K) → (b ≡ true → w ≡ c) → (if b then Some x else rest) ≡ Some k → P c x → (rest ≡ Some k → P w k) → P w k
by_word_if P true w c x k rest is e h there = subst (P w) (some_is e) (subst (λ (z : List ℕ). P z x) (sym (is refl)) h)
by_word_if P false w c x k rest is e h there = there e

-- one line of a table of words
pub by_word : {K : Type 0} (P : List ℕ → K → Type 0) (w c : List ℕ) (x k : K) (rest : Option K) → (if bytes_eq w c then Some x else rest) ≡ Some k → P c x → (rest ≡ Some k → P w k) → P w k
by_word P w c x k rest = by_word_if P (bytes_eq w c) w c x k rest ((bytes_eq-Decides w c).0)

pub int_means : {A : Type 0} (f : List ℕ → Option A) (t : Lexeme) (a : A) → int_by f t ≡ Some a → (w : List ℕ) × (t ≡ int w) × (f w ≡ Some a)
int_means f (int w) a e = (w, refl, e)
int_means f _ a e = absurd cc

pub ident_means : {A : Type 0} (f : List ℕ → Option A) (t : Lexeme) (a : A) → ident_by f t ≡ Some a → (w : List ℕ) × (t ≡ ident w) × (f w ≡ Some a)
ident_means f (ident w) a e = (w, refl, e)
ident_means f _ a e = absurd cc
