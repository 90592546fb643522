-- Lemmas. Items: what the statements' loop keeps, and that nothing is spelled if it is stuck.
use Rattle.std.proofs.Common.{◌≡◌, Bool, true, false, List, [], ◌∷◌, ◌++◌, refl, sym, ◌∙◌, ap, subst, inl, inr, append_assoc}
use Rattle.std.specs.Prelude.{codes}
use Rattle.std.proofs.lemmas.List.{append-nil, append_cancel_left}
use Rattle.souper_graph.specs.declared.ast.operands.Operand.{Operand}
use Rattle.souper_graph.specs.Values.{PlainStatement, PlainInfer, PlainCand, Ending, inferred, resulting, replaced, candidate, Item}
use Rattle.souper_graph.specs.Syntax.Tokens.{Lexeme, ident}
use Rattle.souper_graph.specs.Syntax.Spelling.{kinds, Scope, statement, infer, cand, result, statements, ItemType, Form, ◌·◌, lines, ending_type, item_after}
use Rattle.souper_graph.proofs.Forms.Parts.{both}
use Rattle.souper_ir.specs.Continuation.{statement_continues, infer_continues, result_continues, item_continues}
use Rattle.souper_ir.specs.Parsing.{Parsing}
use Rattle.souper_ir.specs.Reading.{IsRead}
use Rattle.souper_ir.specs.Grammar.{Free, NextStops, Starts, NoFront, LastGoesOn, peek_at}
use Rattle.souper_ir.specs.Laws.Unique.{Alone, Free-from_NextStops}
use Rattle.souper_ir.specs.NodeReadings.{starts_statement, is_word}
use Rattle.souper_ir.specs.Laws.Peeks.{peeked, peeked_no}
use Rattle.souper_ir.specs.Laws.Statements.{begins_line, statement_first, statement_alone, statement_ends, starts_begins, infer_first, infer_alone, infer_ends, cand_alone, result_alone}
use Rattle.souper_ir.specs.Laws.Series.{split, starts_ahead, starts_stop, free_stops, not_started, behind, Series, Further, along, further_starts, none_further, all_alone, stuck_stops, goes_on, ends_in}
use Rattle.souper_ir.specs.Items.{Opens, Tail, tail_lines, TailOf, Parted, tail_continues, Entered, Stated, AllStated, NoStatement, NoMore, StatementsEnd}

-- ---- statements

-- the first token of a statement continues no statement
pub start_ends : (v : PlainStatement) (t : Lexeme) → starts_statement t ≡ true → ¬ statement_continues v t
start_ends v t e = statement_ends v t (starts_begins t e)

-- after v come further statements, and then c
pub statement_over : (faulty : Bool) (s : Scope) (v : PlainStatement) (vs : List PlainStatement) (ts c : List Lexeme) (m : statements s (v ∷ vs) ts) → NextStops (λ t. LastGoesOn statement_continues (v ∷ vs) t) faulty c
    → NextStops (statement_continues v) faulty (m.suffix ++ c)
statement_over faulty s v [] ts c m h = subst (λ (x : List Lexeme). NextStops (statement_continues v) faulty (x ++ c)) (sym m.second) h
statement_over faulty s v (w ∷ vs) ts c m h =
    let n = m.second in
    subst (λ (x : List Lexeme). NextStops (statement_continues v) faulty (x ++ c)) (sym n.whole) (starts_stop (statement_continues v) starts_statement faulty ((n.prefix ++ n.suffix) ++ c) (start_ends v)
    (starts_ahead starts_statement (n.prefix ++ n.suffix) c (starts_ahead starts_statement n.prefix n.suffix (statement_first (s ++ v ∷ []) w n.prefix n.first))))

abbrev pub statement_series : Series PlainStatement
statement_series = record {
  one = statement;
  all = statements;
  continues = statement_continues;
  starts = starts_statement;
  leaves = λ s vs. s ++ vs;
  leaves_more = λ s v vs. append_assoc s (v ∷ []) vs;
  stays = λ s v ts. (λ h. subst (λ (x : Scope). statement x v ts) (append-nil s) h, λ h. subst (λ (x : Scope). statement x v ts) (sym (append-nil s)) h);
  alone = statement_alone;
  first = statement_first;
  none = λ s ts. (λ h. h, λ h. h);
  joined = λ s v vs ts h. h;
  join = λ s v vs ts h f. h;
  over = statement_over;
}

pub entered_after : (vs : List PlainStatement) (v : PlainStatement) (p q h r : Parsing) → Stated vs p q → IsRead (peek_at starts_statement q) true q h → Entered v h r → Stated (vs ++ v ∷ []) p r
entered_after vs v p q h r so seen took = goes_on statement_series (λ s. s ++ v ∷ []) vs v p q r (append_assoc p.scope vs (v ∷ [])) so (behind starts_statement v true q h r seen took)

pub statements_end : (vs : List PlainStatement) (p q r : Parsing) → Stated vs p q → IsRead (peek_at starts_statement q) false q r → AllStated vs p r
statements_end vs p q r so h =
    let seen = peeked starts_statement q r false h.0 in
    let here : AllStated vs p q = record { stated = so; quiet = peeked_no starts_statement q.faulty q.tokens seen.2; live = sym (ap (λ (x : Parsing). x.failed) so.state) ∙ h.1 } in
    subst (λ (x : Parsing). AllStated vs p x) (sym seen.0) here

-- ---- what is after statements

opens_over : (e d : List Lexeme) → Opens e → Opens (e ++ d)
opens_over [] d o = absurd o
opens_over (t ∷ e) d o = o

-- an opening starts no statement
opens_quiet : (faulty : Bool) (ts : List Lexeme) → Opens ts → NextStops (λ t. starts_statement t ≡ true) faulty ts
opens_quiet faulty [] o = absurd o
opens_quiet faulty (t ∷ ts) o = λ st. let no : true ≡ false = sym st ∙ o.0 in absurd cc

-- and continues none
opens_stop : (faulty : Bool) (vs : List PlainStatement) (ts : List Lexeme) → Opens ts → NextStops (λ t. LastGoesOn statement_continues vs t) faulty ts
opens_stop faulty vs [] o = absurd o
opens_stop faulty vs (t ∷ ts) o = none vs
  where
    none : (vs : List PlainStatement) → ¬ LastGoesOn statement_continues vs t
    none [] h = h
    none (v ∷ []) h = o.1 v h
    none (v ∷ (w ∷ vs)) h = none (w ∷ vs) h

module _ {Y : Type 0} (tail : Scope → Y → List Lexeme → Type 0) (continues : Y → Lexeme → Type 0) (opens : (s : Scope) (y : Y) (ts : List Lexeme) → tail s y ts → Opens ts) where
  -- no tail is spelled at an end where there is none
  no_tail : (s : Scope) (faulty : Bool) (c e d : List Lexeme) (y : Y) → NoMore tail continues s faulty c → c ≡ e ++ d → tail s y e → NextStops (continues y) faulty d → ⊥
  no_tail s faulty c e d y (inl k) same sp st =
      stuck_stops statement_series s faulty c k (subst (λ (x : List Lexeme). NextStops (λ t. starts_statement t ≡ true) faulty x) (sym same) (opens_quiet faulty (e ++ d) (opens_over e d (opens s y e sp))))
  no_tail s faulty c e d y (inr k) same sp st = k.1 y e d same sp st

  no_further : (s : Scope) (faulty : Bool) (c : List Lexeme) → NoMore tail continues s faulty c → Further statement_series s faulty c → ⊥
  no_further s faulty c (inl k) h = none_further statement_series s faulty c k h
  no_further s faulty c (inr k) h = not_started starts_statement false c (free_stops (λ t. starts_statement t ≡ true) c k.0) (further_starts statement_series s faulty c h)

  -- no statements and their tail are spelled if the statements end stuck
  pub no_item : (s : Scope) (faulty : Bool) (ts : List Lexeme) (ws : List PlainStatement) (b e d : List Lexeme) (y : Y) → StatementsEnd (NoMore tail continues) s faulty ts → ts ≡ b ++ (e ++ d)
      → statements s ws b → tail (s ++ ws) y e → NextStops (continues y) faulty d → ⊥
  no_item s faulty ts ws b e d y k eq n sp st =
      let o = opens_over e d (opens (s ++ ws) y e sp) in
      elim (along statement_series faulty s k.members ws k.front b k.rest (e ++ d) (sym k.parts ∙ eq) k.spelled n k.free (opens_stop faulty ws (e ++ d) o)) [
        | inl h ↦
            let rest : k.rest ≡ e ++ d = append_cancel_left b k.rest (e ++ d) (ap (λ (x : List Lexeme). x ++ k.rest) (sym h.0) ∙ sym k.parts ∙ eq) in
            no_tail (s ++ k.members) faulty k.rest e d y k.stuck rest (subst (λ (x : List PlainStatement). tail (s ++ x) y e) (sym h.1) sp) st
        | inr h ↦ elim h [
          | inl j ↦ no_further (s ++ k.members) faulty k.rest k.stuck j
          | inr j ↦ not_started starts_statement false (e ++ d) (opens_quiet false (e ++ d) o) (further_starts statement_series (s ++ ws) false (e ++ d) j)
        ]
      ]

  -- tokens that are stuck by statements alone are stuck with a tail too
  pub weaker : (s : Scope) (faulty : Bool) (ts : List Lexeme) → StatementsEnd NoStatement s faulty ts → StatementsEnd (NoMore tail continues) s faulty ts
  weaker s faulty ts h = record { members = h.members; front = h.front; rest = h.rest; parts = h.parts; spelled = h.spelled; free = h.free; stuck = inl h.stuck }

  -- the tail is rejected after statements
  pub stuck_tail : (new : List PlainStatement) (p q : Parsing) → AllStated new p q → NoFront tail continues q → StatementsEnd (NoMore tail continues) p.scope p.faulty (kinds p.tokens)
  stuck_tail new p q so none =
      ends_in statement_series (NoMore tail continues) new p q so.stated (inr (Free-from_NextStops (λ t. starts_statement t ≡ true) q.faulty (kinds q.tokens) so.quiet, none))

  -- statements and their tail are alone
  after_alone : Alone tail continues → (s : Scope) (vs ws : List PlainStatement) (y z : Y) (a b c d : List Lexeme) → a ++ c ≡ b ++ d → (statements s vs · tail (s ++ vs) y) a → (statements s ws · tail (s ++ ws) z) b
      → Free (continues y) c → Free (continues z) d → (a ≡ b) × (vs ≡ ws) × (y ≡ z)
  after_alone alone s vs ws y z a b c d e m n f g =
      let whole : m.prefix ++ (m.suffix ++ c) ≡ n.prefix ++ (n.suffix ++ d) = sym (split a m.prefix m.suffix c m.whole) ∙ e ∙ split b n.prefix n.suffix d n.whole in
      let o = opens_over m.suffix c (opens (s ++ vs) y m.suffix m.second) in
      let r = opens_over n.suffix d (opens (s ++ ws) z n.suffix n.second) in
      let stated = all_alone statement_series s vs ws m.prefix n.prefix (m.suffix ++ c) (n.suffix ++ d) whole m.first n.first (opens_quiet false (m.suffix ++ c) o) (opens_quiet false (n.suffix ++ d) r) (opens_stop false vs (m.suffix ++ c) o) (opens_stop false ws (n.suffix ++ d) r) in
      let rest : m.suffix ++ c ≡ n.suffix ++ d = append_cancel_left n.prefix (m.suffix ++ c) (n.suffix ++ d) (ap (λ (x : List Lexeme). x ++ (m.suffix ++ c)) (sym stated.0) ∙ whole) in
      let last : tail (s ++ vs) z n.suffix = subst (λ (x : List PlainStatement). tail (s ++ x) z n.suffix) (sym stated.1) n.second in
      let ended = alone (s ++ vs) y z m.suffix n.suffix c d rest m.second last f g in
      (m.whole ∙ ap (λ (x : List Lexeme). x ++ m.suffix) stated.0 ∙ ap (λ (x : List Lexeme). n.prefix ++ x) ended.0 ∙ sym n.whole, stated.1, ended.1)

-- ---- last lines

-- the words that begin them end the statements
infer_opens : (s : Scope) (i : PlainInfer) (ts : List Lexeme) → infer s i ts → Opens ts
infer_opens s i ts h = rw (h.whole, h.first) (refl, λ v. statement_ends v (ident (codes "infer")) refl)

pub result_opens : (s : Scope) (r : Operand) (ts : List Lexeme) → result s r ts → Opens ts
result_opens s r ts h = rw (h.whole, h.first) (refl, λ v. statement_ends v (ident (codes "result")) refl)

pub tail_opens : (k : ItemType) (s : Scope) (y : Tail) (ts : List Lexeme) → TailOf k s y ts → Opens ts
tail_opens k s (new, inferred i) ts h = infer_opens s i ts h.lines.1
tail_opens k s (new, resulting r) ts h = result_opens s r ts h.lines.1
tail_opens k s (new, replaced i r) ts h = subst Opens (sym h.lines.whole) (opens_over h.lines.prefix h.lines.suffix (infer_opens s i h.lines.prefix h.lines.first))
tail_opens k s (new, candidate c) ts h = rw (h.lines.1.whole, h.lines.1.first) (refl, λ v. statement_ends v (ident (codes "cand")) refl)

pub starts_as : (P Q : Lexeme → Bool) (ts : List Lexeme) → ((t : Lexeme) → P t ≡ true → Q t ≡ true) → Starts P ts → Starts Q ts
starts_as P Q [] f h = absurd h
starts_as P Q (t ∷ ts) f h = f t h

-- statements, and what begins a line, begin a line
pub begun_by : (s : Scope) (vs : List PlainStatement) (front back : List Lexeme) → statements s vs front → Starts begins_line back → Starts begins_line (front ++ back)
begun_by s [] front back m h = subst (λ (x : List Lexeme). Starts begins_line (x ++ back)) (sym m) h
begun_by s (v ∷ vs) front back m h =
    subst (λ (x : List Lexeme). Starts begins_line (x ++ back)) (sym m.whole)
    (starts_ahead begins_line (m.prefix ++ m.suffix) back (starts_ahead begins_line m.prefix m.suffix (starts_as starts_statement begins_line m.prefix starts_begins (statement_first s v m.prefix m.first))))

-- neither a statement nor the result line continues an infer line
pub infer_over : (faulty : Bool) (s : Scope) (i : PlainInfer) (r : Operand) (new : List PlainStatement) (ts d : List Lexeme) → (statements s new · result (s ++ new) r) ts → NextStops (infer_continues i) faulty (ts ++ d)
infer_over faulty s i r new ts d h =
    let ended : Starts begins_line h.suffix = rw (h.second.whole, h.second.first) refl in
    starts_stop (infer_continues i) begins_line faulty (ts ++ d) (infer_ends i)
    (starts_ahead begins_line ts d (subst (λ (x : List Lexeme). Starts begins_line x) (sym h.whole) (begun_by s new h.prefix h.suffix h.first ended)))

-- an infer line and a cand line do not begin alike
pub cand_is_no_infer : (s : Scope) (c : PlainCand) (a b d : List Lexeme) → cand s c a → Starts (is_word (codes "infer")) b → b ≡ a ++ d → ⊥
cand_is_no_infer s c a b d h st e =
    let begins : a ≡ ident (codes "cand") ∷ h.suffix = h.whole ∙ ap (λ (x : List Lexeme). x ++ h.suffix) h.first in
    let no : false ≡ true = (subst (λ (x : List Lexeme). Starts (is_word (codes "infer")) x) (e ∙ ap (λ (x : List Lexeme). x ++ d) begins) st) in
    absurd cc

pub replaced_begins : (s : Scope) (new : List PlainStatement) (i : PlainInfer) (r : Operand) (ts : List Lexeme) → tail_lines s (new, replaced i r) ts → Starts (is_word (codes "infer")) ts
replaced_begins s new i r ts h =
    subst (λ (x : List Lexeme). Starts (is_word (codes "infer")) x) (sym h.whole) (starts_ahead (is_word (codes "infer")) h.prefix h.suffix (infer_first s i h.prefix h.first))

replaced_alone : (s : Scope) (new more : List PlainStatement) (i j : PlainInfer) (r q : Operand) (a b c d : List Lexeme) → a ++ c ≡ b ++ d → tail_lines s (new, replaced i r) a → tail_lines s (more, replaced j q) b
    → Free (result_continues r) c → Free (result_continues q) d → (a ≡ b) × (◌≡◌ {A = Tail} (new, replaced i r) (more, replaced j q))
replaced_alone s new more i j r q a b c d e m n f g =
    let whole : m.prefix ++ (m.suffix ++ c) ≡ n.prefix ++ (n.suffix ++ d) = sym (split a m.prefix m.suffix c m.whole) ∙ e ∙ split b n.prefix n.suffix d n.whole in
    let free_i = Free-from_NextStops (infer_continues i) false (m.suffix ++ c) (infer_over false s i r new m.suffix c m.second) in
    let free_j = Free-from_NextStops (infer_continues j) false (n.suffix ++ d) (infer_over false s j q more n.suffix d n.second) in
    let root = infer_alone s i j m.prefix n.prefix (m.suffix ++ c) (n.suffix ++ d) whole m.first n.first free_i free_j in
    let after : m.suffix ++ c ≡ n.suffix ++ d = append_cancel_left n.prefix (m.suffix ++ c) (n.suffix ++ d) (ap (λ (z : List Lexeme). z ++ (m.suffix ++ c)) (sym root.0) ∙ whole) in
    let rest = after_alone result result_continues result_opens result_alone s new more r q m.suffix n.suffix c d after m.second n.second f g in (
      m.whole ∙ ap (λ (z : List Lexeme). z ++ m.suffix) root.0 ∙ ap (λ (z : List Lexeme). n.prefix ++ z) rest.0 ∙ sym n.whole,
      let last : ◌≡◌ {A = Tail} (new, replaced i r) (more, replaced j q) = cc (root.1, rest.1, rest.2) in last,
    )

-- with no further statements the last line alone counts
same_tail : {A : Type 0} (end : A → Ending) (new more : List PlainStatement) (x y : A) → new ≡ [] → more ≡ [] → x ≡ y → ◌≡◌ {A = Tail} (new, end x) (more, end y)
same_tail end new more x y none also same = cc

pub tail_alone : (k : ItemType) → Alone (TailOf k) tail_continues
tail_alone k s (new, inferred i) (more, inferred j) a b c d e m n f g =
    let same = infer_alone s i j a b c d e m.lines.1 n.lines.1 f g in
    (same.0, same_tail inferred new more i j m.lines.0 n.lines.0 same.1)
tail_alone k s (new, resulting r) (more, resulting q) a b c d e m n f g =
    let same = result_alone s r q a b c d e m.lines.1 n.lines.1 f g in
    (same.0, same_tail resulting new more r q m.lines.0 n.lines.0 same.1)
tail_alone k s (new, candidate o) (more, candidate p) a b c d e m n f g =
    let same = cand_alone s o p a b c d e m.lines.1 n.lines.1 f g in
    (same.0, same_tail candidate new more o p m.lines.0 n.lines.0 same.1)
tail_alone k s (new, replaced i r) (more, replaced j q) a b c d e m n f g = replaced_alone s new more i j r q a b c d e m.lines n.lines f g
tail_alone k s (new, replaced i r) (more, candidate o) a b c d e m n f g = absurd (cand_is_no_infer s o b (a ++ c) d n.lines.1 (starts_ahead (is_word (codes "infer")) a c (replaced_begins s new i r a m.lines)) e)
tail_alone k s (new, candidate o) (more, replaced j q) a b c d e m n f g = absurd (cand_is_no_infer s o a (b ++ d) c m.lines.1 (starts_ahead (is_word (codes "infer")) b d (replaced_begins s more j q b n.lines)) (sym e))
tail_alone k s _ _ a b c d e m n f g = let t = m.type_is ∙ sym n.type_is in absurd cc

-- ---- items

-- all statements are before the last line
ended : (L : Scope → Form) (s : Scope) (first last : List PlainStatement) (ts : List Lexeme) → last ≡ [] → (statements s first · L (s ++ first)) ts → (statements s (first ++ last) · L (s ++ (first ++ last))) ts
ended L s first last ts e h = rw (e, append-nil) h

-- the lines of an item, from those before and after a cut behind its first statements
whole_lines : (s : Scope) (first last : List PlainStatement) (e : Ending) (ts : List Lexeme) → (statements s first · tail_lines (s ++ first) (last, e)) ts → lines s (first ++ last) e ts
whole_lines s first last (inferred i) ts h = ended (λ x. infer x i) s first last ts h.second.0 (both (λ x k. k) (λ x k. k.1) ts h)
whole_lines s first last (resulting r) ts h = ended (λ x. result x r) s first last ts h.second.0 (both (λ x k. k) (λ x k. k.1) ts h)
whole_lines s first last (replaced i r) ts h = (first, last, refl, rw (← append_assoc s first last) h)
whole_lines s first last (candidate c) ts h = ended (λ x. cand x c) s first last ts h.second.0 (both (λ x k. k) (λ x k. k.1) ts h)

-- and the other way round
cut_lines : (k : ItemType) (s : Scope) (vs : List PlainStatement) (e : Ending) (ts : List Lexeme) → ending_type e ≡ k → lines s vs e ts
    → (first : List PlainStatement) × (last : List PlainStatement) × (vs ≡ first ++ last) × (statements s first · TailOf k (s ++ first) (last, e)) ts
cut_lines k s vs (inferred i) ts t h = (vs, [], sym (append-nil vs), both (λ x k. k) (λ x k. record { type_is = t; lines = (refl, k) }) ts h)
cut_lines k s vs (resulting r) ts t h = (vs, [], sym (append-nil vs), both (λ x k. k) (λ x k. record { type_is = t; lines = (refl, k) }) ts h)
cut_lines k s vs (replaced i r) ts t h =
    let same : s ++ vs ≡ (s ++ h.0) ++ h.1 = ap (λ (z : Scope). s ++ z) h.2 ∙ sym (append_assoc s h.0 h.1) in
    (h.0, h.1, h.2, both (λ x k. k) (λ x k. record { type_is = t; lines = both (λ x k. k) (both (λ x k. k) (λ x k. subst (λ (z : Scope). result z r x) same k)) x k }) ts h.3)
cut_lines k s vs (candidate c) ts t h = (vs, [], sym (append-nil vs), both (λ x k. k) (λ x k. record { type_is = t; lines = (refl, k) }) ts h)

pub parted_item : (k : ItemType) (s : Scope) (a : Item) (ts : List Lexeme) → item_after k s a ts → Parted k s a ts
parted_item k s a ts h =
    let p = cut_lines k s h.1 a.ending ts h.0 h.3 in
    record { first = p.0; last = p.1; statements_are = h.2 ∙ ap (λ (x : List PlainStatement). s ++ x) p.2; spelled = p.3 }

pub item_parted : (k : ItemType) (s : Scope) (a : Item) (ts : List Lexeme) → Parted k s a ts → item_after k s a ts
item_parted k s a ts h =
    let x = h.spelled in (
      x.second.type_is,
      h.first ++ h.last,
      h.statements_are,
      whole_lines s h.first h.last a.ending ts (both (λ y k. k) (λ y k. k.lines) ts x),
    )

same_item : (v w : Item) → v.statements ≡ w.statements → v.ending ≡ w.ending → v ≡ w
same_item v w e f = ap (λ (x : List PlainStatement). record { statements = x; ending = v.ending }) e ∙ ap (λ (x : Ending). record { statements = w.statements; ending = x }) f

parted_alone : (k : ItemType) (s : Scope) (v w : Item) (a b c d : List Lexeme) → a ++ c ≡ b ++ d → Parted k s v a → Parted k s w b → Free (item_continues v) c → Free (item_continues w) d → (a ≡ b) × (v ≡ w)
parted_alone k s v w a b c d e m n f g =
    let h = after_alone (TailOf k) tail_continues (tail_opens k) (tail_alone k) s m.first n.first (m.last, v.ending) (n.last, w.ending) a b c d e m.spelled n.spelled f g in
    let last : m.last ≡ n.last = ap (λ (z : Tail). z.0) h.2 in
    let all : v.statements ≡ w.statements = m.statements_are ∙ ap (λ (z : List PlainStatement). s ++ (z ++ m.last)) h.1 ∙ ap (λ (z : List PlainStatement). s ++ (n.first ++ z)) last ∙ sym n.statements_are in
    (h.0, same_item v w all (ap (λ (z : Tail). z.1) h.2))

pub item_alone : (k : ItemType) → Alone (item_after k) item_continues
item_alone k s v w a b c d e m n f g = parted_alone k s v w a b c d e (parted_item k s v a m) (parted_item k s w b n) f g
