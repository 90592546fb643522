-- Lemmas. What has a form, by what forms are made of.
use Rattle.std.proofs.Common.{◌≡◌, ℕ, List, [], ◌∷◌, ◌++◌, Option, Some, refl, sym, ◌∙◌, ap, subst, append_assoc}
use Rattle.souper_graph.specs.Syntax.Tokens.{Lexeme, val_name, close_paren}
use Rattle.souper_graph.specs.Syntax.Spelling.{Form, ◌·◌, token, one, Scope, entry_of, block_name}

infix 10 ◌⇒◌
-- what has the form F has the form G
abbrev pub ◌⇒◌ : Form → Form → Type 0
F ⇒ G = (ts : List Lexeme) → F ts → G ts

-- ---- one after another

pub both : {F G H K : Form} → F ⇒ H → G ⇒ K → F · G ⇒ H · K
both f g ts h = record { prefix = h.prefix; suffix = h.suffix; whole = h.whole; first = f h.prefix h.first; second = g h.suffix h.second }

pub to_left : {F G H : Form} → F · G · H ⇒ (F · G) · H
to_left ts h =
    let k = h.second in
    record {
      prefix = h.prefix ++ k.prefix;
      suffix = k.suffix;
      whole = h.whole ∙ ap (λ (x : List Lexeme). h.prefix ++ x) k.whole ∙ sym (append_assoc h.prefix k.prefix k.suffix);
      first = record { prefix = h.prefix; suffix = k.prefix; whole = refl; first = h.first; second = k.first };
      second = k.second;
    }

pub to_right : {F G H : Form} → (F · G) · H ⇒ F · G · H
to_right ts h =
    let k = h.first in
    record {
      prefix = k.prefix;
      suffix = k.suffix ++ h.suffix;
      whole = h.whole ∙ ap (λ (x : List Lexeme). x ++ h.suffix) k.whole ∙ append_assoc k.prefix k.suffix h.suffix;
      first = k.first;
      second = record { prefix = k.suffix; suffix = h.suffix; whole = refl; first = k.second; second = h.second };
    }

-- ---- a token, and then a form

pub next : {F : Form} (t : Lexeme) (rest : List Lexeme) → F rest → (token t · F) (t ∷ rest)
next t rest h = record { prefix = t ∷ []; suffix = rest; whole = refl; first = refl; second = h }

pub next_one : {A : Type 0} {F : Form} (kind : List ℕ → Lexeme) (read : List ℕ → Option A) (v : A) (w : List ℕ) (rest : List Lexeme) → read w ≡ Some v → F rest → (one kind read v · F) (kind w ∷ rest)
next_one kind read v w rest e h = record { prefix = kind w ∷ []; suffix = rest; whole = refl; first = (w, refl, e); second = h }

-- ---- the name of a block, and then a form

pub next_block : {F : Form} (s : Scope) (i : ℕ) (Is : ℕ → Type 0) (name : List ℕ) (n : ℕ) (rest : List Lexeme) → entry_of s name ≡ Some (i, Some n) → Is n → F rest → (block_name s i Is · F) (val_name name ∷ rest)
next_block s i Is name n rest e is h = record { prefix = val_name name ∷ []; suffix = rest; whole = refl; first = (n, is, (name, refl, e)); second = h }

-- the parenthesis after the body
pub closed : {F : Form} (body : List Lexeme) → F body → (F · token close_paren) (body ++ close_paren ∷ [])
closed body h = record { prefix = body; suffix = close_paren ∷ []; whole = refl; first = h; second = refl }
