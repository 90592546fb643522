-- The tokens of items: where lines begin in them and items end; what a text spells is parted at a cut point.
use Rattle.std.proofs.Common.{◌≡◌, ℕ, ◌<◌, true, false, ◌⊎◌, inl, inr, List, [], ◌∷◌, ◌++◌, length, Option, Some, None, refl, sym, ap, ◌∙◌, subst, arith, append_assoc, append-nil, length-append, codes}
use Rattle.std.specs.List.{AllByRecursion}
use Rattle.souper_stream.proofs.Prelude.{All-both, Lexeme, ident, val_name, equals, comma, IsTextOf, IsLines, moved, kinds-append, kinds_moved, Within, Beyond, parted_twice, tokens_part}
use Rattle.souper_graph.specs.declared.ast.operands.«Type».{«Type» as Ty}
use Rattle.souper_graph.specs.declared.ast.operands.Operand.{Operand}
use Rattle.souper_graph.specs.declared.ast.operands.Operand.TheVariants.{Value, Constant as constant_variant}
use Rattle.souper_graph.specs.Values.{PlainRootAttribute, demanded_bits, harvested_from_use, PlainStatement, assigned, condition, block_condition, PlainInfer, PlainCand, inferred, resulting, replaced, candidate, Item}
use Rattle.souper_graph.specs.Syntax.Spelling.{kinds, Scope, statement, cand, result, ItemType, replacement, items, TextSpells, Form, ◌·◌, token, optional, each, of_type, operand, rhs, attribute, root_attribute, statements, infer, ending_type, item}
use Rattle.souper_ir.specs.Items.{Tail, tail_lines}
use Rattle.souper_ir.specs.Laws.Items.{parted_item}
use Rattle.souper_stream.proofs.Words.{IsOther, optional_type_in, root_attributes_in, statements_in}
use Rattle.souper_stream.specs.Lines.{last_word, line_word, begins_terminator, token_begins_terminator, defines, starts_line, NoStart, LastEnds}

-- ---- words

pub end_is_line : (k : ItemType) (w : List ℕ) → begins_terminator k w ≡ true → line_word w ≡ true
end_is_line k w h = grind arith

not_last : (w : List ℕ) → line_word w ≡ false → last_word w ≡ false
not_last w h = grind arith

not_end : (k : ItemType) (w : List ℕ) → last_word w ≡ false → begins_terminator k w ≡ false
not_end k w h = grind arith

-- ---- tokens

-- no line starts at the token, whatever follows it
abbrev pub Plain : Lexeme → Type 0
Plain (ident w) = line_word w ≡ false
Plain (val_name n) = ⊥
Plain _ = Unit {0}

abbrev pub ArePlain : List Lexeme → Type 0
ArePlain ts = AllByRecursion Plain ts

-- none is the word of a line that an item of the type ends with
abbrev pub NoEnd : ItemType → List Lexeme → Type 0
NoEnd k ts = AllByRecursion (λ t. token_begins_terminator k t ≡ false) ts

pub quiet_append : (xs ys : List Lexeme) → ArePlain xs → NoStart ys → NoStart (xs ++ ys)
quiet_append [] ys p q = q
quiet_append (x ∷ xs) ys p q = (grind arith, quiet_append xs ys p.1 q)

pub plain_quiet : (xs : List Lexeme) → ArePlain xs → NoStart xs
plain_quiet xs p = subst (λ (x : List Lexeme). NoStart x) (append-nil xs) (quiet_append xs [] p tt)

quiet_no_end : (k : ItemType) (ts : List Lexeme) → NoStart ts → NoEnd k ts
quiet_no_end k [] h = tt
quiet_no_end k (t ∷ ts) h = (grind (arith, not_end k, not_last), quiet_no_end k ts h.1)

plain_no_end : (k : ItemType) (xs : List Lexeme) → ArePlain xs → NoEnd k xs
plain_no_end k xs p = quiet_no_end k xs (plain_quiet xs p)

pub no_end_ends : (k : ItemType) (before after : List Lexeme) (w : List ℕ) → NoEnd k (before ++ ident w ∷ after) → begins_terminator k w ≡ true → ⊥
no_end_ends k [] after w none h = let no = none.0 in cc
no_end_ends k (t ∷ before) after w none h = no_end_ends k before after w none.1 h

pub quiet_rest : (xs ys : List Lexeme) → NoStart (xs ++ ys) → NoStart ys
quiet_rest [] ys h = h
quiet_rest (x ∷ xs) ys h = quiet_rest xs ys h.1

defines_first : (t : Lexeme) (ts us : List Lexeme) → defines (t ∷ ts) ≡ true → defines (t ∷ us) ≡ true
defines_first t ts us h = grind arith

-- a line that starts before another, or before the end, starts without it
start_before : (xs ts : List Lexeme) → 0 < length xs → (ts ≡ []) ⊎ (starts_line ts ≡ true) → starts_line (xs ++ ts) ≡ true → starts_line xs ≡ true
start_before xs ts some t h = grind (arith, defines_first)

pub starts_longer : (ts us : List Lexeme) → starts_line ts ≡ true → starts_line (ts ++ us) ≡ true
starts_longer ts us h = grind (arith, defines_first)

quiet_starts : (xs : List Lexeme) → NoStart xs → starts_line xs ≡ true → ⊥
quiet_starts xs q h = grind arith

-- an item ends with the last tokens, if a line starts with them
pub ends_within : (k : ItemType) (xs ys : List Lexeme) → starts_line ys ≡ true → LastEnds k (xs ++ ys) → LastEnds k ys
ends_within k xs ys s h = elim (parted_twice h.before (ident h.word ∷ h.after) xs ys (sym h.whole)) [ inl w ↦ here w.left w.second | inr b ↦ later b.more b.second ]
  where
    here : (left : List Lexeme) → ident h.word ∷ h.after ≡ left ++ ys → LastEnds k ys
    here [] e = record { before = []; word = h.word; after = h.after; whole = sym e; ends = h.ends; quiet = h.quiet }
    here (t ∷ left) e = absurd (quiet_starts ys (quiet_rest left ys (let rest : h.after ≡ left ++ ys = cc in subst (λ (x : List Lexeme). NoStart x) rest h.quiet)) s)

    later : (more : List Lexeme) → ys ≡ more ++ ident h.word ∷ h.after → LastEnds k ys
    later more e = record { before = more; word = h.word; after = h.after; whole = e; ends = h.ends; quiet = h.quiet }

-- ---- the tokens of nodes

plain_other : (t : Lexeme) → IsOther t → Plain t
plain_other (ident w) h = absurd h
plain_other (val_name n) h = absurd h
plain_other _ h = tt

no_end_other : (k : ItemType) (t : Lexeme) → IsOther t → token_begins_terminator k t ≡ false
no_end_other k (ident w) h = absurd h
no_end_other k _ h = refl

optional_type_plain : (o : Option Ty) (ts : List Lexeme) → optional of_type o ts → ArePlain ts
optional_type_plain = optional_type_in Plain plain_other (λ w h. h)

root_attributes_plain : (xs : List PlainRootAttribute) (ts : List Lexeme) → each root_attribute xs ts → ArePlain ts
root_attributes_plain = root_attributes_in Plain plain_other (λ w h. h)

statements_no_end : (k : ItemType) (s : Scope) (vs : List PlainStatement) (ts : List Lexeme) → statements s vs ts → NoEnd k ts
statements_no_end k =
    statements_in (λ t. token_begins_terminator k t ≡ false) (no_end_other k) (λ w h. not_end k w (not_last w h)) (λ n. refl) (not_end k (codes "pc") refl, not_end k (codes "blockpc") refl)

-- after an operand no line starts, unless one starts in what follows
operand_quiet : (s : Scope) (x : Operand) (ts ys : List Lexeme) → operand s x ts → defines ys ≡ false → NoStart ys → NoStart (ts ++ ys)
operand_quiet s (Value i) ts ys h d q = rw h.1 (d, q)
operand_quiet s (constant_variant c) ts ys h d q = rw (h.whole, h.first.1) (refl, quiet_append h.suffix ys (optional_type_plain c.ty h.suffix h.second) q)

operand_not_define : (s : Scope) (x : Operand) (ts ys : List Lexeme) → operand s x ts → defines (ts ++ ys) ≡ false
operand_not_define s (Value i) ts ys h = rw h.1 refl
operand_not_define s (constant_variant c) ts ys h = rw (h.whole, h.first.1) refl

root_attributes_not_define : (xs : List PlainRootAttribute) (ts : List Lexeme) → each root_attribute xs ts → defines ts ≡ false
root_attributes_not_define [] ts h = rw h refl
root_attributes_not_define (demanded_bits bits ∷ xs) ts h = rw (h.whole, h.first.whole, h.first.first) refl
root_attributes_not_define (harvested_from_use ∷ xs) ts h = rw (h.whole, h.first.whole, h.first.first) refl

-- nor after a name that attributes follow
root_attributes_quiet : (xs : List PlainRootAttribute) (ts : List Lexeme) → each root_attribute xs ts → NoStart ts
root_attributes_quiet xs ts h = plain_quiet ts (root_attributes_plain xs ts h)

-- ---- last lines

-- after the word no line starts
result_quiet : (s : Scope) (r : Operand) (ts : List Lexeme) (h : result s r ts) → NoStart h.suffix
result_quiet s r ts h = subst (λ (x : List Lexeme). NoStart x) (append-nil h.suffix) (operand_quiet s r h.suffix [] h.second refl tt)

infer_quiet : (s : Scope) (i : PlainInfer) (ts : List Lexeme) (h : infer s i ts) → NoStart h.suffix
infer_quiet s i ts h =
    let x = h.second in
    rw (x.whole, x.first.1) (root_attributes_not_define i.attributes x.suffix x.second, root_attributes_quiet i.attributes x.suffix x.second)

cand_quiet : (s : Scope) (c : PlainCand) (ts : List Lexeme) (h : cand s c ts) → NoStart h.suffix
cand_quiet s c ts h =
    let x = h.second in
    let y = x.second in
    let z = y.second in
    let quiet = operand_quiet s c.rhs z.prefix z.suffix z.first (root_attributes_not_define c.attributes z.suffix z.second) (root_attributes_quiet c.attributes z.suffix z.second) in
    elim y.first [
      | inl e ↦ rw (x.whole, y.whole, e, z.whole) (operand_quiet s c.lhs x.prefix (z.prefix ++ z.suffix) x.first (operand_not_define s c.rhs z.prefix z.suffix z.first) quiet)
      | inr e ↦ rw (x.whole, y.whole, e, z.whole) (operand_quiet s c.lhs x.prefix (comma ∷ (z.prefix ++ z.suffix)) x.first refl (refl, quiet))
    ]

-- ---- items

-- the tokens end in a line that an item of the type ends with, and no other line of that kind is among them
record EndsOnce (k : ItemType) (ts : List Lexeme) : Type 0 where
  pub head : List Lexeme
  pub word : List ℕ
  pub others : List Lexeme
  pub whole : ts ≡ head ++ ident word ∷ others
  pub no_end : NoEnd k head
  pub ends : begins_terminator k word ≡ true
  pub quiet : NoStart others

-- an item of the type that ends so
lines_end : (s : Scope) (y : Tail) (ts : List Lexeme) → tail_lines s y ts → EndsOnce (ending_type y.1) ts
lines_end s (new, inferred i) ts h =
    let x = h.1 in
    record { head = []; word = codes "infer"; others = x.suffix; whole = x.whole ∙ ap (λ (z : List Lexeme). z ++ x.suffix) x.first; no_end = tt; ends = refl; quiet = infer_quiet s i ts x }
lines_end s (new, resulting r) ts h =
    let x = h.1 in
    record { head = []; word = codes "result"; others = x.suffix; whole = x.whole ∙ ap (λ (z : List Lexeme). z ++ x.suffix) x.first; no_end = tt; ends = refl; quiet = result_quiet s r ts x }
lines_end s (new, replaced i r) ts h =
    let x = h.second in
    let last = x.second in
    let line = h.first in
    let attributes = line.second in
    let line_no_end : NoEnd replacement h.prefix = rw (line.whole, line.first, attributes.whole, attributes.first.1) (refl, (refl, plain_no_end replacement attributes.suffix (root_attributes_plain i.attributes attributes.suffix attributes.second))) in
    record {
      head = h.prefix ++ x.prefix;
      word = codes "result";
      others = last.suffix;
      whole = h.whole ∙ ap (λ (z : List Lexeme). h.prefix ++ z) (x.whole ∙ ap (λ (z : List Lexeme). x.prefix ++ z) (last.whole ∙ ap (λ (z : List Lexeme). z ++ last.suffix) last.first))
          ∙ sym (append_assoc h.prefix x.prefix (ident (codes "result") ∷ last.suffix));
      no_end = All-both (λ t. token_begins_terminator replacement t ≡ false) h.prefix x.prefix line_no_end (statements_no_end replacement s new x.prefix x.first);
      ends = refl;
      quiet = result_quiet (s ++ new) r x.suffix last;
    }
lines_end s (new, candidate c) ts h =
    let x = h.1 in
    record { head = []; word = codes "cand"; others = x.suffix; whole = x.whole ∙ ap (λ (z : List Lexeme). z ++ x.suffix) x.first; no_end = tt; ends = refl; quiet = cand_quiet s c ts x }

item_ends : (k : ItemType) (a : Item) (ts : List Lexeme) → item k a ts → EndsOnce k ts
item_ends k a ts h =
    let m = parted_item k [] a ts h in
    let x = m.spelled in
    let t : EndsOnce k x.suffix = subst (λ (z : ItemType). EndsOnce z x.suffix) x.second.type_is (lines_end m.first (m.last, a.ending) x.suffix x.second.lines) in
    record {
      head = x.prefix ++ t.head;
      word = t.word;
      others = t.others;
      whole = x.whole ∙ ap (λ (z : List Lexeme). x.prefix ++ z) t.whole ∙ sym (append_assoc x.prefix t.head (ident t.word ∷ t.others));
      no_end = All-both (λ t. token_begins_terminator k t ≡ false) x.prefix t.head (statements_no_end k [] m.first x.prefix x.first) t.no_end;
      ends = t.ends;
      quiet = t.quiet;
    }

-- what comes after a word that ends the item is what comes after its last one
one_end : (k : ItemType) (head pre others more : List Lexeme) (v w : List ℕ) → NoEnd k head → NoEnd k others → begins_terminator k w ≡ true → head ++ ident v ∷ others ≡ pre ++ ident w ∷ more → more ≡ others
one_end k [] [] others more v w a b h e = cc
one_end k [] (x ∷ pre) others more v w a b h e = let rest : others ≡ pre ++ ident w ∷ more = cc in absurd (no_end_ends k pre more w (subst (λ (z : List Lexeme). NoEnd k z) rest b) h)
one_end k (y ∷ head) [] others more v w a b h e = let same : y ≡ ident w = cc in let bad : begins_terminator k w ≡ false = ap (λ (z : Lexeme). token_begins_terminator k z) (sym same) ∙ a.0 in cc
one_end k (y ∷ head) (x ∷ pre) others more v w a b h e = let tails : head ++ ident v ∷ others ≡ pre ++ ident w ∷ more = cc in one_end k head pre others more v w a.1 b h tails

-- ---- where an item begins

-- a name, and then a type or the equals sign
assigned_defines : (o : Option Ty) (F : Form) (ts ys : List Lexeme) → (optional of_type o · token equals · F) ts → defines (ts ++ ys) ≡ true
assigned_defines None F ts ys h = rw (h.whole, h.first, h.second.whole, h.second.first) refl
assigned_defines (Some t) F ts ys h = rw (h.whole, h.first.whole, h.first.first) refl

statement_starts : (s : Scope) (v : PlainStatement) (ts ys : List Lexeme) → statement s v ts → starts_line (ts ++ ys) ≡ true
statement_starts s (assigned a) ts ys h = rw (h.whole, h.first.0) (assigned_defines a.ty (rhs s a.value · each attribute a.attributes) h.suffix ys h.second)
statement_starts s (condition p) ts ys h = rw (h.whole, h.first) refl
statement_starts s (block_condition p) ts ys h = rw (h.whole, h.first) refl

tail_starts : (s : Scope) (y : Tail) (ts ys : List Lexeme) → tail_lines s y ts → starts_line (ts ++ ys) ≡ true
tail_starts s (new, inferred i) ts ys h = rw (h.1.whole, h.1.first) refl
tail_starts s (new, resulting r) ts ys h = rw (h.1.whole, h.1.first) refl
tail_starts s (new, replaced i r) ts ys h = rw (h.whole, h.first.whole, h.first.first) refl
tail_starts s (new, candidate c) ts ys h = rw (h.1.whole, h.1.first) refl

head_starts : (s : Scope) (vs : List PlainStatement) (head tail ys : List Lexeme) → statements s vs head → ((zs : List Lexeme) → starts_line (tail ++ zs) ≡ true) → starts_line ((head ++ tail) ++ ys) ≡ true
head_starts s [] head tail ys m t = rw m (t ys)
head_starts s (v ∷ vs) head tail ys m t =
    rw (m.whole, append_assoc m.prefix m.suffix tail, append_assoc m.prefix (m.suffix ++ tail) ys) (statement_starts s v m.prefix ((m.suffix ++ tail) ++ ys) m.first)

list_starts : (k : ItemType) (ws : List Item) (ts : List Lexeme) → items k ws ts → (ts ≡ []) ⊎ (starts_line ts ≡ true)
list_starts k [] ts h = inl h
list_starts k (w ∷ ws) ts h =
    let m = parted_item k [] w h.prefix h.first in
    let x = m.spelled in
    inr (rw (h.whole, x.whole) (head_starts [] m.first x.prefix x.suffix h.suffix x.first (λ zs. tail_starts m.first (m.last, w.ending) x.suffix zs x.second.lines)))

-- ---- items that are parted

abbrev Split : ItemType → List Item → List Lexeme → List Lexeme → Type 0
Split k ws us ts = (xs : List Item) × (ys : List Item) × (ws ≡ xs ++ ys) × items k xs us × items k ys ts

-- no item is parted: the end of its last line is the only one in it
split_item : (k : ItemType) (a : Item) (ws : List Item) (us ts p s : List Lexeme) → LastEnds k us → starts_line ts ≡ true → item k a p → items k ws s → ((more : List Lexeme) → LastEnds k more → items k ws (more ++ ts) → Split k ws more ts)
    → Within us ts p s ⊎ Beyond us ts p s → Split k (a ∷ ws) us ts
split_item k a ws us ts p s e t h more ih (inr b) =
    let starts : starts_line b.more ≡ true = elim (list_starts k ws s more) [ inl none ↦ absurd (omega (arith, b.some, ap length none, ap length b.second, length-append b.more ts)) | inr start ↦ start_before b.more ts b.some (inr t) (subst (λ (z : List Lexeme). starts_line z ≡ true) b.second start) ] in
    let r = ih b.more (ends_within k p b.more starts (subst (λ (z : List Lexeme). LastEnds k z) b.first e)) (subst (λ (z : List Lexeme). items k ws z) b.second more) in
    (a ∷ r.0, r.1, ap (λ (z : List Item). a ∷ z) r.2, record { prefix = p; suffix = b.more; whole = b.first; first = h; second = r.3 }, r.4)
split_item k a ws us ts p s e t h more ih (inl b) = here b.left b.first b.second
  where
    here : (left : List Lexeme) → p ≡ us ++ left → ts ≡ left ++ s → Split k (a ∷ ws) us ts
    here [] first second = (a ∷ [], ws, refl, record { prefix = p; suffix = []; whole = sym (append-nil p ∙ first ∙ append-nil us); first = h; second = refl }, subst (λ (z : List Lexeme). items k ws z) (sym second) more)
    here (y ∷ left) first second =
        let line = item_ends k a p h in
        let rest = e.after ++ y ∷ left in
        let at : line.head ++ ident line.word ∷ line.others ≡ e.before ++ ident e.word ∷ rest = sym line.whole ∙ first ∙ ap (λ (z : List Lexeme). z ++ y ∷ left) e.whole ∙ append_assoc e.before (ident e.word ∷ e.after) (y ∷ left) in
        let others : rest ≡ line.others = one_end k line.head e.before line.others rest line.word e.word line.no_end (quiet_no_end k line.others line.quiet) e.ends at in
        let quiet = quiet_rest e.after (y ∷ left) (subst (λ (z : List Lexeme). NoStart z) (sym others) line.quiet) in
        absurd (quiet_starts (y ∷ left) quiet (start_before (y ∷ left) s (omega arith) (list_starts k ws s more) (subst (λ (z : List Lexeme). starts_line z ≡ true) second t)))

-- items are parted where one ends and a line starts
items_part : (k : ItemType) (ws : List Item) (us ts : List Lexeme) → LastEnds k us → starts_line ts ≡ true → items k ws (us ++ ts) → Split k ws us ts
items_part k [] us ts e t h = absurd (omega (arith, ap length h, length-append us ts, ap length e.whole, length-append e.before (ident e.word ∷ e.after)))
items_part k (a ∷ ws) us ts e t h = split_item k a ws us ts h.prefix h.suffix e t h.first h.second (λ more f g. items_part k ws more ts f t g) (parted_twice us ts h.prefix h.suffix h.whole)

-- a text is parted after lines whose last statement or last line ends an item, where a line starts
pub part_by : (k : ItemType) (a b : List ℕ) (ws : List Item) → IsLines a → ((ts : List (ℕ × Lexeme)) → IsTextOf a ts → LastEnds k (kinds ts)) → ((vs : List (ℕ × Lexeme)) → IsTextOf b vs → starts_line (kinds vs) ≡ true) → TextSpells k (a ++ b) ws
    → (xs : List Item) × (ys : List Item) × (ws ≡ xs ++ ys) × TextSpells k a xs × TextSpells k b ys
part_by k a b ws l last starts (us, text, spelled) =
    let (ts, vs, first, second, whole) = tokens_part a b us l text in
    let parts : kinds us ≡ kinds ts ++ kinds vs = ap kinds whole ∙ kinds-append ts (moved (length a) vs) ∙ ap (λ (z : List Lexeme). kinds ts ++ z) (kinds_moved (length a) vs) in
    let r = items_part k ws (kinds ts) (kinds vs) (last ts first) (starts vs second) (subst (λ (x : List Lexeme). items k ws x) parts spelled) in
    (r.0, r.1, r.2, (ts, first, r.3), (vs, second, r.4))
