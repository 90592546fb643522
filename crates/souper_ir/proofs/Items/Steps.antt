-- What a parser took of an item, and when it rejected one.
use Rattle.std.proofs.Common.{◌≡◌, ℕ, Bool, true, false, List, [], ◌∷◌, ◌++◌, Err, refl, sym, ◌∙◌, ap, subst, append_assoc}
use Rattle.std.specs.Prelude.{codes}
use Rattle.std.proofs.lemmas.List.{append-nil, append_cancel_left}
use Rattle.souper_graph.specs.declared.ast.operands.Operand.{Operand}
use Rattle.souper_graph.specs.Values.{PlainStatement, PlainInfer, PlainCand, inferred, resulting, replaced, candidate, Item}
use Rattle.souper_errors.specs.declared.error.ParseError.{ParseError}
use Rattle.souper_graph.specs.Syntax.Tokens.{Lexeme}
use Rattle.souper_graph.specs.Syntax.Spelling.{kinds, Scope, Form, statement, infer, cand, result, statements, ItemType, left_hand_side, right_hand_side, replacement, item_after, ◌·◌}
use Rattle.souper_ir.specs.Continuation.{statement_continues, infer_continues, cand_continues, result_continues, item_continues}
use Rattle.souper_errors.specs.Errors.{at_end_of}
use Rattle.souper_ir.specs.Parsing.{Parsing}
use Rattle.souper_ir.specs.Reading.{cause_of, IfRefused, if_refused, IsRead, Fails, fails_later}
use Rattle.souper_ir.specs.Grammar.{Free, Starts, Took, NoFront, Refusal, peek_at}
use Rattle.souper_ir.specs.Laws.Unique.{Free-from_NextStops, clash}
use Rattle.souper_ir.specs.NodeReadings.{is_word}
use Rattle.souper_ir.specs.Laws.Peeks.{peeked, peeked_yes, peeked_no, none_if_unread}
use Rattle.souper_ir.specs.Laws.Steps.{kinds-append}
use Rattle.souper_ir.specs.Laws.Statements.{infer_first, infer_alone}
use Rattle.souper_ir.specs.Items.{Tail, TailOf, tail_continues, Entered, Enters, AllStated, NoMore, StatementsEnd, StatedRefusal}
use Rattle.souper_ir.specs.Laws.Series.{split, starts_ahead, behind, later}
use Rattle.souper_ir.specs.Laws.Items.{statement_series, parted_item, item_parted, cand_is_no_infer, replaced_begins, infer_over, result_opens, tail_opens, no_item, weaker, stuck_tail}

abbrev TookInfer : PlainInfer → Parsing → Parsing → Type 0
TookInfer i p q = Took infer infer_continues (λ s. s) i p q

-- the tail was taken, and its statements entered into the scope
abbrev pub TookTail : ItemType → Tail → Parsing → Parsing → Type 0
TookTail k y p q = Took (TailOf k) tail_continues (λ s. s ++ y.0) y p q

abbrev pub TailRefusal : ItemType → ParseError → Parsing → Parsing → Type 0
TailRefusal k e p q = Refusal (TailOf k) tail_continues e p q

-- ---- items

-- what a parser that took statements and a tail took
pub item_taken : (k : ItemType) (a : Item) (new last : List PlainStatement) (p q m r : Parsing) → AllStated new p q → TookTail k (last, a.ending) q m → a.statements ≡ m.scope → r ≡ record m { scope = [] }
    → Took (item_after k) item_continues (λ s. []) a p r
item_taken k a new last p q m r so took all e =
    let q_scope : q.scope ≡ p.scope ++ new = ap (λ (x : Parsing). x.scope) so.stated.state in
    let here : a.statements ≡ p.scope ++ (new ++ last) = all ∙ ap (λ (x : Parsing). x.scope) took.state ∙ ap (λ (x : Scope). x ++ last) q_scope ∙ append_assoc p.scope new last in
    let tail : TailOf k (p.scope ++ new) (last, a.ending) (kinds took.used) = subst (λ (x : Scope). TailOf k x (last, a.ending) (kinds took.used)) q_scope took.spelled in
    let whole : Took (item_after k) item_continues (λ s. []) a p (record m { scope = [] }) = record {
      used = so.stated.used ++ took.used;
      parts = so.stated.parts ∙ ap (λ (x : List (ℕ × Lexeme)). so.stated.used ++ x) took.parts ∙ sym (append_assoc so.stated.used took.used m.tokens);
      spelled = item_parted k p.scope a (kinds (so.stated.used ++ took.used)) (record {
        first = new;
        last = last;
        statements_are = here;
        spelled = record { prefix = kinds so.stated.used; suffix = kinds took.used; whole = kinds-append so.stated.used took.used; first = so.stated.spelled; second = tail };
      });
      free = took.free;
      live = so.live;
      state = ap (λ (x : Parsing). record x { tokens = m.tokens; scope = [] }) took.state ∙ ap (λ (x : Parsing). record x { tokens = m.tokens; scope = [] }) so.stated.state;
    } in
    subst (λ (x : Parsing). Took (item_after k) item_continues (λ s. []) a p x) (sym e) whole

none_if_stuck : (k : ItemType) (p : Parsing) → StatementsEnd (NoMore (TailOf k) tail_continues) p.scope p.faulty (kinds p.tokens) → NoFront (item_after k) item_continues p
none_if_stuck k p h a front rest e sp st =
    let m = parted_item k p.scope a front sp in
    let x = m.spelled in
    no_item (TailOf k) tail_continues (tail_opens k) p.scope p.faulty (kinds p.tokens) m.first x.prefix x.suffix rest (m.last, a.ending) h (e ∙ split front x.prefix x.suffix rest x.whole) x.first x.second st

pub statements_refused : (k : ItemType) (e : ParseError) (p q : Parsing) → StatedRefusal e p q → Refusal (item_after k) item_continues e p q
statements_refused k e p q h = record {
  failed = h.0;
  nothing = if_refused (cause_of e) (λ x live. none_if_stuck k p (weaker (TailOf k) tail_continues (tail_opens k) p.scope p.faulty (kinds p.tokens) (x live))) h.1;
}

pub tail_refused : (k : ItemType) (new : List PlainStatement) (e : ParseError) (p q r : Parsing) → AllStated new p q → TailRefusal k e q r → Refusal (item_after k) item_continues e p r
tail_refused k new e p q r so h = record {
  failed = later statement_series new e p q r so.stated h.failed;
  nothing = if_refused (cause_of e) (λ x live. none_if_stuck k p (stuck_tail (TailOf k) tail_continues (tail_opens k) new p q so (x (ap (λ (y : Parsing). y.failed) so.stated.state ∙ live)))) h.nothing;
}

-- ---- one last line

-- the scope is unchanged if nothing is added
nothing_added : (p q : Parsing) → q ≡ record p { tokens = q.tokens } → q ≡ record p { tokens = q.tokens; scope = p.scope ++ [] }
nothing_added p q e = e ∙ ap (λ (x : Scope). record p { tokens = q.tokens; scope = x }) (sym (append-nil p.scope))

pub infer_tail : (i : PlainInfer) (p q : Parsing) → TookInfer i p q → TookTail left_hand_side ([], inferred i) p q
infer_tail i p q took = record { used = took.used; parts = took.parts; spelled = record { type_is = refl; lines = (refl, took.spelled) }; free = took.free; live = took.live; state = nothing_added p q took.state }

pub infer_tail_refused : (e : ParseError) (p q : Parsing) → Refusal infer infer_continues e p q → TailRefusal left_hand_side e p q
infer_tail_refused e p q h = record { failed = h.failed; nothing = if_refused (cause_of e) (λ x live. none (x live)) h.nothing }
  where
    none : NoFront infer infer_continues p → NoFront (TailOf left_hand_side) tail_continues p
    none f (new, inferred i) front rest eq sp st = f i front rest eq sp.lines.1 st
    none f (new, _) front rest eq sp st = let no = sp.type_is in absurd cc

pub result_tail : (r : Operand) (p q : Parsing) → Took result result_continues (λ s. s) r p q → TookTail right_hand_side ([], resulting r) p q
result_tail r p q took = record { used = took.used; parts = took.parts; spelled = record { type_is = refl; lines = (refl, took.spelled) }; free = took.free; live = took.live; state = nothing_added p q took.state }

pub result_tail_refused : (e : ParseError) (p q : Parsing) → Refusal result result_continues e p q → TailRefusal right_hand_side e p q
result_tail_refused e p q h = record { failed = h.failed; nothing = if_refused (cause_of e) (λ x live. none (x live)) h.nothing }
  where
    none : NoFront result result_continues p → NoFront (TailOf right_hand_side) tail_continues p
    none f (new, resulting r) front rest eq sp st = f r front rest eq sp.lines.1 st
    none f (new, _) front rest eq sp st = let no = sp.type_is in absurd cc

-- ---- a cand line

abbrev pub SeesInfer : Bool → Parsing → Parsing → Type 0
SeesInfer b p h = IsRead (peek_at (is_word (codes "infer")) p) b p h

-- a parser at a fault
pub look_refused : (e : ParseError) (p q : Parsing) → IfRefused (cause_of e) (peek_at (is_word (codes "infer")) p ≡ Err (at_end_of e)) × Fails e p q → TailRefusal replacement e p q
look_refused e p q h = record { failed = h.1; nothing = none_if_unread (TailOf replacement) tail_continues (is_word (codes "infer")) p (at_end_of e) (cause_of e) h.0 }

pub cand_tail : (c : PlainCand) (p h q : Parsing) → SeesInfer false p h → Took cand cand_continues (λ s. s) c h q → TookTail replacement ([], candidate c) p q
cand_tail c p h q seen took =
    let t = behind (is_word (codes "infer")) c false p h q seen took in
    record { used = t.used; parts = t.parts; spelled = record { type_is = refl; lines = (refl, t.spelled) }; free = t.free; live = t.live; state = nothing_added p q t.state }

pub cand_tail_refused : (e : ParseError) (p h q : Parsing) → SeesInfer false p h → Refusal cand cand_continues e h q → TailRefusal replacement e p q
cand_tail_refused e p h q seen bad =
    let look = peeked (is_word (codes "infer")) p h false seen.0 in
    let no_infer = Free-from_NextStops (λ t. is_word (codes "infer") t ≡ true) p.faulty (kinds p.tokens) (peeked_no (is_word (codes "infer")) p.faulty p.tokens look.2) in
    let here : Refusal cand cand_continues e p q = subst (λ (x : Parsing). Refusal cand cand_continues e x q) look.0 bad in
    record { failed = here.failed; nothing = if_refused (cause_of e) (λ x live. none no_infer (x live)) here.nothing }
  where
    none : Free (λ t. is_word (codes "infer") t ≡ true) (kinds p.tokens) → NoFront cand cand_continues p → NoFront (TailOf replacement) tail_continues p
    none free f (new, replaced i r) front rest eq sp st = clash (is_word (codes "infer")) front (kinds p.tokens) rest (replaced_begins p.scope new i r front sp.lines) eq free
    none free f (new, candidate c) front rest eq sp st = f c front rest eq sp.lines.1 st
    none free f (new, _) front rest eq sp st = let no = sp.type_is in absurd cc

-- ---- an infer line, further statements and a result line

pub root_refused : (e : ParseError) (p h q : Parsing) → SeesInfer true p h → Refusal infer infer_continues e h q → TailRefusal replacement e p q
root_refused e p h q seen bad =
    let look = peeked (is_word (codes "infer")) p h true seen.0 in
    let here : Refusal infer infer_continues e p q = subst (λ (x : Parsing). Refusal infer infer_continues e x q) look.0 bad in
    record { failed = here.failed; nothing = if_refused (cause_of e) (λ x live. none (peeked_yes (is_word (codes "infer")) p.faulty p.tokens look.2) (x live)) here.nothing }
  where
    none : Starts (is_word (codes "infer")) (kinds p.tokens) → NoFront infer infer_continues p → NoFront (TailOf replacement) tail_continues p
    none st f (new, replaced i r) front rest eq sp stop =
        let x = sp.lines in
        f i x.prefix (x.suffix ++ rest) (eq ∙ split front x.prefix x.suffix rest x.whole) x.first (infer_over p.faulty p.scope i r new x.suffix rest x.second)
    none st f (new, candidate c) front rest eq sp stop = cand_is_no_infer p.scope c front (kinds p.tokens) rest sp.lines.1 st eq
    none st f (new, _) front rest eq sp stop = let no = sp.type_is in absurd cc

-- nothing is spelled if what follows the infer line is stuck
none_behind : (p q : Parsing) (j : PlainInfer) → TookInfer j p q → StatementsEnd (NoMore result result_continues) q.scope q.faulty (kinds q.tokens) → NoFront (TailOf replacement) tail_continues p
none_behind p q j took stuck = none
  where
    here : StatementsEnd (NoMore result result_continues) p.scope p.faulty (kinds q.tokens)
    here = subst (λ (x : Parsing). StatementsEnd (NoMore result result_continues) x.scope x.faulty (kinds q.tokens)) took.state stuck

    parts : kinds p.tokens ≡ kinds took.used ++ kinds q.tokens
    parts = ap kinds took.parts ∙ kinds-append took.used q.tokens

    none : NoFront (TailOf replacement) tail_continues p
    none (new, replaced i r) front rest eq sp st =
        let x = sp.lines in
        let y = x.second in
        let whole : kinds took.used ++ kinds q.tokens ≡ x.prefix ++ (x.suffix ++ rest) = sym parts ∙ eq ∙ split front x.prefix x.suffix rest x.whole in
        let free = Free-from_NextStops (infer_continues i) p.faulty (x.suffix ++ rest) (infer_over p.faulty p.scope i r new x.suffix rest y) in
        let root = infer_alone p.scope j i (kinds took.used) x.prefix (kinds q.tokens) (x.suffix ++ rest) whole took.spelled x.first took.free free in
        let after : kinds q.tokens ≡ x.suffix ++ rest = append_cancel_left x.prefix (kinds q.tokens) (x.suffix ++ rest) (ap (λ (z : List Lexeme). z ++ kinds q.tokens) (sym root.0) ∙ whole) in
        no_item result result_continues result_opens p.scope p.faulty (kinds q.tokens) new y.prefix y.suffix rest r here (after ∙ split x.suffix y.prefix y.suffix rest y.whole) y.first y.second st
    none (new, candidate c) front rest eq sp st =
        let starts = starts_ahead (is_word (codes "infer")) (kinds took.used) (kinds q.tokens) (infer_first p.scope j (kinds took.used) took.spelled) in
        cand_is_no_infer p.scope c front (kinds took.used ++ kinds q.tokens) rest sp.lines.1 starts (sym parts ∙ eq)
    none (new, _) front rest eq sp st = let no = sp.type_is in absurd cc

pub middle_refused : (i : PlainInfer) (e : ParseError) (p q r : Parsing) → TookInfer i p q → StatedRefusal e q r → TailRefusal replacement e p r
middle_refused i e p q r took h = record {
  failed = fails_later e p q r (ap (λ (x : Parsing). x.failed) took.state) (ap (λ (x : Parsing). x.len) took.state) h.0;
  nothing = if_refused (cause_of e) (λ x live. none_behind p q i took (weaker result result_continues result_opens q.scope q.faulty (kinds q.tokens) (x (ap (λ (y : Parsing). y.failed) took.state ∙ live)))) h.1;
}

pub last_refused : (i : PlainInfer) (new : List PlainStatement) (e : ParseError) (p q m r : Parsing) → TookInfer i p q → AllStated new q m → Refusal result result_continues e m r → TailRefusal replacement e p r
last_refused i new e p q m r took so h =
    let state : m ≡ record p { tokens = m.tokens; scope = q.scope ++ new } = so.stated.state ∙ ap (λ (x : Parsing). record x { tokens = m.tokens; scope = q.scope ++ new }) took.state in
    let failed : m.failed ≡ p.failed = ap (λ (x : Parsing). x.failed) state in
    record {
      failed = fails_later e p m r failed (ap (λ (x : Parsing). x.len) state) h.failed;
      nothing = if_refused (cause_of e) (λ x live. none_behind p q i took (stuck_tail result result_continues result_opens new q m so (x (failed ∙ live)))) h.nothing;
    }

-- tokens of two parts
joined_kinds : {F G : Form} (a b : List (ℕ × Lexeme)) → F (kinds a) → G (kinds b) → (F · G) (kinds (a ++ b))
joined_kinds a b f g = record { prefix = kinds a; suffix = kinds b; whole = kinds-append a b; first = f; second = g }

pub replaced_tail : (i : PlainInfer) (new : List PlainStatement) (r : Operand) (p q m n : Parsing) → TookInfer i p q → AllStated new q m → Took result result_continues (λ s. s) r m n → TookTail replacement (new, replaced i r) p n
replaced_tail i new r p q m n root so last =
    let q_scope : q.scope ≡ p.scope = ap (λ (x : Parsing). x.scope) root.state in
    let m_scope : m.scope ≡ p.scope ++ new = ap (λ (x : Parsing). x.scope) so.stated.state ∙ ap (λ (x : Scope). x ++ new) q_scope in
    let a : List (ℕ × Lexeme) = root.used in
    let b : List (ℕ × Lexeme) = so.stated.used in
    let further : statements p.scope new (kinds b) = subst (λ (x : Scope). statements x new (kinds b)) q_scope so.stated.spelled in
    let ended : result (p.scope ++ new) r (kinds last.used) = subst (λ (x : Scope). result x r (kinds last.used)) m_scope last.spelled in
    record {
      used = a ++ (b ++ last.used);
      parts = root.parts ∙ ap (λ (x : List (ℕ × Lexeme)). a ++ x) (so.stated.parts ∙ ap (λ (x : List (ℕ × Lexeme)). b ++ x) last.parts ∙ sym (append_assoc b last.used n.tokens)) ∙ sym (append_assoc a (b ++ last.used) n.tokens);
      spelled = record { type_is = refl; lines = joined_kinds a (b ++ last.used) root.spelled (joined_kinds b last.used further ended) };
      free = last.free;
      live = root.live;
      state = last.state ∙ ap (λ (x : Parsing). record x { tokens = n.tokens }) so.stated.state ∙ ap (λ (x : Parsing). record x { tokens = n.tokens; scope = q.scope ++ new }) root.state
          ∙ ap (λ (x : Scope). record p { tokens = n.tokens; scope = x ++ new }) q_scope;
    }

-- ---- one statement

-- a statement was taken, and then entered
pub entered : (v : PlainStatement) (p q r : Parsing) → Took statement statement_continues (λ s. s) v p q → r ≡ record q { scope = q.scope ++ v ∷ [] } → Enters p r
entered v p q r took e =
    let whole : Entered v p (record q { scope = q.scope ++ v ∷ [] }) = record {
      used = took.used;
      parts = took.parts;
      spelled = took.spelled;
      free = took.free;
      live = took.live;
      state = ap (λ (x : Parsing). record x { scope = x.scope ++ v ∷ [] }) took.state;
    } in
    (v, subst (λ (x : Parsing). Entered v p x) (sym e) whole)
