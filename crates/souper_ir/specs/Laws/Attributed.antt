-- Lemmas. A node with attributes after it: which tokens are its two parts, and what parsing one and then the other
-- returns.
use Rattle.std.proofs.Common.{◌≡◌, List, [], ◌∷◌, ◌++◌, sym, ◌∙◌, ap, subst, inl, inr}
use Rattle.std.proofs.Math.Logic.{⊎_elim}
use Rattle.souper_errors.specs.declared.error.ParseError.{ParseError}
use Rattle.souper_ir.specs.Parsing.{Parsing}
use Rattle.souper_graph.specs.Syntax.Tokens.{Lexeme, open_paren}
use Rattle.souper_graph.specs.Syntax.Spelling.{Scope, ◌·◌, each}
use Rattle.souper_graph.proofs.Forms.Parts.{◌⇒◌}
use Rattle.souper_ir.specs.Continuation.{attributes_continue}
use Rattle.souper_ir.specs.Grammar.{Free, Starts, Members, ListGoesOn, Took, Refusal}
use Rattle.souper_ir.specs.Laws.Unique.{Alone, clash, list_alone}
use Rattle.souper_ir.specs.NodeReadings.{is_mark}
use Rattle.souper_ir.specs.Laws.Tokens.{is_mark_means}
use Rattle.souper_ir.specs.Laws.Attributes.{goes_on_by_paren, more_if_open, each_members, members_each}
use Rattle.souper_ir.specs.Laws.Sequence.{Split, both_alone, refused_first, refused_second, both_taken, respelled_taken, respelled_refused}

-- attributes in sequence, and the token that begins one more
abbrev pub Row : {X : Type 0} → (X → List Lexeme → Type 0) → Scope → List X → List Lexeme → Type 0
Row {X} spells s xs ts = Members spells (λ (x : X) t. ⊥) xs ts

abbrev pub OneMore : {X : Type 0} → List X → Lexeme → Type 0
OneMore {X} xs t = ListGoesOn (λ (x : X) t. ⊥) (is_mark open_paren) xs t

last_open : {X : Type 0} (before : Type 0) (xs : List X) (t : Lexeme) → OneMore xs t → attributes_continue before xs t
last_open {X = X} before [] t h = inl (goes_on_by_paren {V = X} [] t h)
last_open before (x ∷ xs) t h = goes_on_by_paren (x ∷ xs) t h

module _ {X : Type 0} (spells : X → List Lexeme → Type 0) (first : (x : X) (ts : List Lexeme) → spells x ts → Starts (is_mark open_paren) ts) where
  attributes_before : (before : Type 0) (xs : List X) (t : Lexeme) → Members spells (λ x t. ⊥) xs [] → before → attributes_continue before xs t
  attributes_before before [] t m h = inr h
  attributes_before before (x ∷ xs) t m h = absurd (clash (is_mark open_paren) m.prefix [] m.suffix (first x m.prefix m.first) m.whole tt)

  open_front : (P : Lexeme → Type 0) (x : X) (a b : List Lexeme) → spells x a → ¬ P open_paren → Free P (a ++ b)
  open_front P x [] b h n = absurd (first x [] h)
  open_front P x (t ∷ a) b h n = λ y. n (subst P (is_mark_means open_paren t (first x (t ∷ a) h)) y)

  -- attributes do not continue what an opening parenthesis does not
  attributes_over : (P : Lexeme → Type 0) (xs : List X) (ts : List Lexeme) → ¬ P open_paren → Members spells (λ x t. ⊥) xs ts → Free P ts
  attributes_over P [] ts n m = subst (Free P) (sym m) tt
  attributes_over P (x ∷ xs) ts n m = subst (Free P) (sym m.whole) (open_front P x m.prefix m.suffix m.first n)

  attributes_only : (P : Lexeme → Type 0) (xs : List X) (y rest : List Lexeme) → Members spells (λ x t. ⊥) xs y → Free P (y ++ rest) → Free (OneMore xs) rest → Free (λ t. attributes_continue (P t) xs t) rest
  attributes_only P xs y [] m f g = tt
  attributes_only P [] y (t ∷ rest) m f g = ⊎_elim (λ e. g (more_if_open {V = X} [] t e)) (subst (λ (z : List Lexeme). Free P (z ++ t ∷ rest)) m f)
  attributes_only P (x ∷ xs) y (t ∷ rest) m f g = λ e. g (more_if_open (x ∷ xs) t e)

-- the laws of a node C that is a node A with attributes X after it
pub record Laws {A X C : Type 0} (spells_a : Scope → A → List Lexeme → Type 0) (goes_on_a : A → Lexeme → Type 0) (spells_x : X → List Lexeme → Type 0) (a_of : C → A) (xs_of : C → List X)
    (spells_c : Scope → C → List Lexeme → Type 0) (goes_on_c : C → Lexeme → Type 0) : Type 0 where
  pub alone : Alone spells_c goes_on_c
  pub taken : (c : C) (p q r : Parsing) → Took spells_a goes_on_a (λ s. s) (a_of c) p q → Took (Row spells_x) OneMore (λ s. s) (xs_of c) q r → Took spells_c goes_on_c (λ s. s) c p r
  pub refused_before : (e : ParseError) (p q : Parsing) → Refusal spells_a goes_on_a e p q → Refusal spells_c goes_on_c e p q
  pub refused_behind : (a : A) (e : ParseError) (p q r : Parsing) → Took spells_a goes_on_a (λ s. s) a p q → Refusal (Row spells_x) OneMore e q r → Refusal spells_c goes_on_c e p r

module _ {A X C : Type 0} (spells_a : Scope → A → List Lexeme → Type 0) (goes_on_a : A → Lexeme → Type 0) (spells_x : X → List Lexeme → Type 0) (a_of : C → A) (xs_of : C → List X)
    (alone_a : Alone spells_a goes_on_a)
    (alone_x : Alone (λ s. spells_x) (λ x t. ⊥))
    (first_x : (x : X) (ts : List Lexeme) → spells_x x ts → Starts (is_mark open_paren) ts) where
  abbrev Continues : C → Lexeme → Type 0
  Continues c t = attributes_continue (goes_on_a (a_of c) t) (xs_of c) t

  abbrev Parts : Scope → C → List Lexeme → Type 0
  Parts s c ts = Split spells_a goes_on_a (Row spells_x) s (a_of c) (xs_of c) ts

  last : (c : C) (t : Lexeme) → OneMore (xs_of c) t → Continues c t
  last c t h = last_open (goes_on_a (a_of c) t) (xs_of c) t h

  over : (s : Scope) (c : C) (t : Lexeme) → Row spells_x s (xs_of c) [] → goes_on_a (a_of c) t → Continues c t
  over s c t m h = attributes_before spells_x first_x (goes_on_a (a_of c) t) (xs_of c) t m h

  pub laws : (spells_c : Scope → C → List Lexeme → Type 0) → ((s : Scope) (c : C) → spells_c s c ⇒ spells_a s (a_of c) · each spells_x (xs_of c)) → ((s : Scope) (c : C) → spells_a s (a_of c) · each spells_x (xs_of c) ⇒ spells_c s c)
      → ((c : C) → ¬ goes_on_a (a_of c) open_paren) → (make : A → List X → C) → ((c : C) → make (a_of c) (xs_of c) ≡ c) → Laws spells_a goes_on_a spells_x a_of xs_of spells_c (λ c t. attributes_continue (goes_on_a (a_of c) t) (xs_of c) t)
  laws spells_c apart join quiet make is = record {
    alone = λ s v w a b c d e m n f g.
        let k = both_alone spells_a goes_on_a (Row spells_x) OneMore Continues a_of xs_of last over alone_a
        (λ s. list_alone spells_x (λ (x : X) t. ⊥) (is_mark open_paren) (alone_x s) first_x) s v w a b c d e (parted s v a m) (parted s w b n) f g in
        (k.0, sym (is v) ∙ ap (λ (x : A). make x (xs_of v)) k.1 ∙ ap (make (a_of w)) k.2 ∙ is w);
    taken = λ c p q r m n. respelled_taken Parts spells_c Continues (λ s. s) c p r (λ s ts. joined s c ts) (both_taken spells_a goes_on_a (Row spells_x) OneMore Continues a_of xs_of last over alone_a
        (λ s c. attributes_only spells_x first_x (goes_on_a (a_of c)) (xs_of c)) c p q r m n);
    refused_before = λ e p q h. respelled_refused Parts spells_c Continues e p q parted (refused_first spells_a goes_on_a (Row spells_x) OneMore Continues a_of xs_of last over alone_a e p q h);
    refused_behind = λ a e p q r m h. respelled_refused Parts spells_c Continues e p r parted (refused_second spells_a goes_on_a (Row spells_x) OneMore Continues a_of xs_of last over alone_a a e p q r m h);
  }
    where
      parted : (s : Scope) (c : C) (ts : List Lexeme) → spells_c s c ts → Parts s c ts
      parted s c ts h =
          let k = apart s c ts h in
          let xs = each_members spells_x (xs_of c) k.suffix k.second in
          record { prefix = k.prefix; suffix = k.suffix; whole = k.whole; first = k.first; free = attributes_over spells_x first_x (goes_on_a (a_of c)) (xs_of c) k.suffix (quiet c) xs; second = xs }

      joined : (s : Scope) (c : C) (ts : List Lexeme) → Parts s c ts → spells_c s c ts
      joined s c ts h = join s c ts (record { prefix = h.prefix; suffix = h.suffix; whole = h.whole; first = h.first; second = members_each spells_x (xs_of c) h.suffix h.second })
