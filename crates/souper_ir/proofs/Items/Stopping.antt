-- Where the reading of a text stops that is rejected.
use Rattle.std.proofs.Common.{◌≡◌, ℕ, Bool, true, false, List, [], ◌∷◌, None, Err, refl, sym, ◌∙◌, ap, subst, inl, inr}
use Rattle.std.specs.Prelude.{codes, Option, Some}
use Rattle.souper_graph.specs.Values.{PlainStatement, PlainInfer, Item}
use Rattle.souper_graph.specs.declared.ast.operands.«Type».{«Type» as Ty}
use Rattle.souper_graph.specs.Syntax.Tokens.{Lexeme, open_paren}
use Rattle.souper_graph.specs.Syntax.TokenLaws.{AreTokensOf}
use Rattle.souper_graph.specs.Syntax.Spelling.{infer, ItemType, attribute as attribute_form}
use Rattle.souper_lexer.specs.TokenView.{IsCut}
use Rattle.souper_errors.specs.declared.error.ParseError.{ParseError}
use Rattle.souper_ir.specs.declared.parse.item.Next.{Next}
use Rattle.souper_ir.specs.declared.parse.item.Next.TheVariants.{Assignment, Pc, BlockPc}
use Rattle.souper_ir.specs.Continuation.{infer_continues}
use Rattle.souper_errors.specs.declared.error.ParseErrorKind.TheVariants.{Parse}
use Rattle.souper_errors.specs.Errors.{kind_of, at_end_of, IsLocated}
use Rattle.souper_ir.specs.Parsing.{Cause, Parsing}
use Rattle.souper_ir.specs.Reading.{Reads, cause_of, IfRefused, if_refused, IsRead, Fails, take_at, look_in, look_at}
use Rattle.souper_ir.specs.Grammar.{Took, peek_at}
use Rattle.souper_ir.specs.NodeReadings.{accept, as_mark, is_any, is_mark, is_word, Definition, rhs_at, heading_at, definition_at, attribute_at, root_attribute_at, pc_at, block_pc_at, result_at}
use Rattle.souper_ir.specs.NextStatement.{next_at, NextIs}
use Rattle.souper_ir.specs.Items.{Stated, AllStated}
use Rattle.souper_ir.specs.ItemRuns.{ItemsTaken}
use Rattle.souper_ir.specs.Stopping.{RowStops, LineStops, StatementStops, StatementsStop, EitherStops, InferStops, CandStops, ResultStops, ReplacedStops, EndingStops, ItemStops, ItemsStop, TextStops, Stops}
use Rattle.souper_ir.specs.Laws.Peeks.{peeked, answer}
use Rattle.souper_ir.proofs.Nodes.Lists.{SoFar}
use Rattle.souper_ir.proofs.Nodes.NextStatements.{next_stays}
use Rattle.souper_ir.proofs.Items.Steps.{SeesInfer}
use Rattle.souper_ir.proofs.Items.Texts.{parse_cause, located_kind}
use Rattle.souper_ir.proofs.Nodes.Statements.{definition_read, unread_heading, unread_value}

-- ---- rows

fault_in : (starts : Lexeme → Bool) (p : Parsing) (failed : Option Cause) (faulty cut ended : Bool) (ts : List (ℕ × Lexeme)) → answer starts p (look_in failed faulty cut ts) ≡ Err ended → failed ≡ None → (ts ≡ []) × (cut ≡ ended)
fault_in starts p (Some c) faulty cut ended ts e live = absurd cc
fault_in starts p None faulty cut ended (t ∷ ts) e live = absurd cc
fault_in starts p None true cut ended [] e live = (refl, cc)
fault_in starts p None false cut ended [] e live = absurd cc

-- no token comes, but a fault
fault_comes : (starts : Lexeme → Bool) (p : Parsing) (ended : Bool) → peek_at starts p ≡ Err ended → p.failed ≡ None → (p.tokens ≡ []) × (p.cut ≡ ended)
unfolding peek_at look_at
fault_comes starts p ended e live = fault_in starts p p.failed p.faulty p.cut ended p.tokens e live

no_paren : (p : Parsing) (ended : Bool) → p.failed ≡ None → p.tokens ≡ [] → p.cut ≡ ended → accept (as_mark open_paren) p ≡ Err ended
unfolding accept take_at
no_paren p ended live none cut = rw (live, none, cut) refl

pub no_attribute : (p : Parsing) (ended : Bool) → accept (as_mark open_paren) p ≡ Err ended → attribute_at p ≡ Err ended
unfolding attribute_at
no_attribute p ended e = rw e refl

pub no_root_attribute : (p : Parsing) (ended : Bool) → accept (as_mark open_paren) p ≡ Err ended → root_attribute_at p ≡ Err ended
unfolding root_attribute_at
no_root_attribute p ended e = rw e refl

module _ {X : Type 0} (spells : X → List Lexeme → Type 0) (read : Parsing → Reads X) where
  abbrev Row : List X → Parsing → Parsing → Type 0
  Row xs p q = SoFar (λ s. spells) (λ x t. ⊥) xs p q

  row : (xs : List X) (ended : Bool) (p q : Parsing) → Row xs p q → read q ≡ Err ended → RowStops spells read ended p
  row xs ended p q so e = record { members = xs; used = so.used; rest = q.tokens; parts = so.parts; spelled = so.spelled; stops = subst (λ (x : Parsing). read x ≡ Err ended) so.state e }

  -- at a fault
  pub look_stops : ((p : Parsing) (ended : Bool) → accept (as_mark open_paren) p ≡ Err ended → read p ≡ Err ended)
      → (xs : List X) (e : ParseError) (p q r : Parsing) → Row xs p q → IfRefused (cause_of e) (peek_at (is_mark open_paren) q ≡ Err (at_end_of e)) × Fails e q r → Stops (RowStops spells read) e p
  look_stops none xs e p q r so h = if_refused (cause_of e) (λ unseen live.
      let here = ap (λ (x : Parsing). x.failed) so.state ∙ live in
      let fault = fault_comes (is_mark open_paren) q (at_end_of e) unseen here in
      row xs (at_end_of e) p q so (none q (at_end_of e) (no_paren q (at_end_of e) here fault.0 fault.1))) h.0

  -- in a member
  pub member_stops : (xs : List X) (e : ParseError) (p q m r : Parsing) → Row xs p q → IsRead (peek_at (is_mark open_paren) q) true q m → IfRefused (cause_of e) (read m ≡ Err (at_end_of e)) × Fails e m r
      → Stops (RowStops spells read) e p
  member_stops xs e p q m r so seen h =
      let same = (peeked (is_mark open_paren) q m true seen.0).0 in
      if_refused (cause_of e) (λ bad live. row xs (at_end_of e) p q so (subst (λ (x : Parsing). read x ≡ Err (at_end_of e)) same bad)) h.0

-- ---- lines

module _ {A X : Type 0} (node : Parsing → Reads A) (spells : X → List Lexeme → Type 0) (read : Parsing → Reads X) where
  pub node_stops : (e : ParseError) (p q : Parsing) → IfRefused (cause_of e) (node p ≡ Err (at_end_of e)) × Fails e p q → Stops (LineStops node spells read) e p
  node_stops e p q h = if_refused (cause_of e) (λ bad live. inl bad) h.0

  pub behind_stops : (a : A) (e : ParseError) (p q : Parsing) → IsRead (node p) a p q → Stops (RowStops spells read) e q → Stops (LineStops node spells read) e p
  behind_stops a e p q is h = if_refused (cause_of e) (λ bad live. inr (a, q, is.0, bad is.2)) h

-- ---- statements

abbrev Definitions : Bool → Parsing → Type 0
Definitions ended p = LineStops definition_at attribute_form attribute_at ended p

assigned_stops : (e : ParseError) (p : Parsing) → NextIs Assignment p → Stops Definitions e p → Stops StatementStops e p
assigned_stops e p next h = if_refused (cause_of e) (λ bad live. inl (next, bad live)) h

pub heading_stops : (e : ParseError) (p q : Parsing) → NextIs Assignment p → IfRefused (cause_of e) (heading_at p ≡ Err (at_end_of e)) × Fails e p q → Stops StatementStops e p
heading_stops e p q next h = assigned_stops e p next (if_refused (cause_of e) (λ bad live. inl (unread_heading (at_end_of e) p bad)) h.0)

pub value_stops : (e : ParseError) (x : List ℕ × Option Ty) (p k q : Parsing) → NextIs Assignment p → IsRead (heading_at p) x p k → IfRefused (cause_of e) (rhs_at k ≡ Err (at_end_of e)) × Fails e k q → Stops StatementStops e p
value_stops e x p k q next is h = assigned_stops e p next (if_refused (cause_of e) (λ bad live. inl (unread_value (at_end_of e) p k x is.0 bad)) h.0)

pub attributes_stop : (e : ParseError) (d : Definition) (p k q : Parsing) → NextIs Assignment p → IsRead (heading_at p) (d.name, d.ty) p k → IsRead (rhs_at k) d.value k q → Stops (RowStops attribute_form attribute_at) e q → Stops StatementStops e p
attributes_stop e d p k q next h v bad = assigned_stops e p next (behind_stops definition_at attribute_form attribute_at d e p q (definition_read p k q d h v) bad)

pub pc_stops : (e : ParseError) (p q : Parsing) → NextIs Pc p → IfRefused (cause_of e) (pc_at p ≡ Err (at_end_of e)) × Fails e p q → Stops StatementStops e p
pc_stops e p q next h = if_refused (cause_of e) (λ bad live. inr (inl (next, bad))) h.0

pub block_pc_stops : (e : ParseError) (p q : Parsing) → NextIs BlockPc p → IfRefused (cause_of e) (block_pc_at p ≡ Err (at_end_of e)) × Fails e p q → Stops StatementStops e p
block_pc_stops e p q next h = if_refused (cause_of e) (λ bad live. inr (inr (next, bad))) h.0

pub next_stops : (new : List PlainStatement) (e : ParseError) (p q r : Parsing) → Stated new p q → IfRefused (cause_of e) (next_at q ≡ Err (at_end_of e)) × Fails e q r → Stops StatementsStop e p
next_stops new e p q r so h = if_refused (cause_of e) (λ bad live. record { new = new; next = q; stated = so; stops = inl bad }) h.0

pub statement_stops : (n : Next) (new : List PlainStatement) (e : ParseError) (p q m : Parsing) → Stated new p q → IsRead (next_at q) n q m → Stops StatementStops e m → Stops StatementsStop e p
statement_stops n new e p q m so seen h =
    if_refused (cause_of e) (λ bad live. record { new = new; next = q; stated = so; stops = inr (bad (ap (λ (x : Parsing). x.failed) so.state ∙ live)) })
    (subst (λ (x : Parsing). Stops StatementStops e x) (sym (next_stays q m n seen.0)) h)

-- ---- items

pub first_stops : (line : Bool → Parsing → Type 0) (e : ParseError) (p : Parsing) → Stops StatementsStop e p → Stops (EitherStops line) e p
first_stops line e p h = if_refused (cause_of e) (λ bad live. inl (bad live)) h

pub last_stops : (line : Bool → Parsing → Type 0) (new : List PlainStatement) (e : ParseError) (p q : Parsing) → AllStated new p q → Stops line e q → Stops (EitherStops line) e p
last_stops line new e p q so h = if_refused (cause_of e) (λ bad live. inr (record { new = new; next = q; stated = so; stops = bad (ap (λ (x : Parsing). x.failed) so.stated.state ∙ live) })) h

pub result_stops : (e : ParseError) (p q : Parsing) → IfRefused (cause_of e) (result_at p ≡ Err (at_end_of e)) × Fails e p q → Stops ResultStops e p
result_stops e p q h = if_refused (cause_of e) (λ bad live. bad) h.0

same_seen : (b : Bool) (p q : Parsing) → SeesInfer b p q → q ≡ p
same_seen b p q h = (peeked (is_word (codes "infer")) p q b h.0).0

here_seen : (b : Bool) (p q : Parsing) → SeesInfer b p q → SeesInfer b p p
here_seen b p q h = subst (λ (x : Parsing). SeesInfer b p x) (same_seen b p q h) h

pub word_stops : (e : ParseError) (p q : Parsing) → IfRefused (cause_of e) (peek_at (is_word (codes "infer")) p ≡ Err (at_end_of e)) × Fails e p q → Stops EndingStops e p
word_stops e p q h = if_refused (cause_of e) (λ bad live. inl bad) h.0

replaced : (e : ParseError) (p q : Parsing) → SeesInfer true p q → Stops ReplacedStops e p → Stops EndingStops e p
replaced e p q seen h = if_refused (cause_of e) (λ bad live. inr (inl (here_seen true p q seen, bad live))) h

pub infer_stops : (e : ParseError) (p q : Parsing) → SeesInfer true p q → Stops InferStops e q → Stops EndingStops e p
infer_stops e p q seen h = replaced e p q seen (if_refused (cause_of e) (λ bad live. inl (bad live)) (subst (λ (x : Parsing). Stops InferStops e x) (same_seen true p q seen) h))

pub middle_stops : (i : PlainInfer) (e : ParseError) (p q r : Parsing) → SeesInfer true p q → Took infer infer_continues (λ s. s) i q r → Stops (EitherStops ResultStops) e r → Stops EndingStops e p
middle_stops i e p q r seen took h =
    let here = subst (λ (x : Parsing). Took infer infer_continues (λ s. s) i x r) (same_seen true p q seen) took in
    replaced e p q seen (if_refused (cause_of e) (λ bad live. inr (i, r, here, bad (ap (λ (x : Parsing). x.failed) here.state ∙ live))) h)

pub cand_stops : (e : ParseError) (p q : Parsing) → SeesInfer false p q → Stops CandStops e q → Stops EndingStops e p
cand_stops e p q seen h =
    if_refused (cause_of e) (λ bad live. inr (inr (here_seen false p q seen, bad live))) (subst (λ (x : Parsing). Stops CandStops e x) (same_seen false p q seen) h)

-- ---- lists of items

pub items_look : (k : ItemType) (items : List Item) (e : ParseError) (p q r : Parsing) → ItemsTaken k items p q → IfRefused (cause_of e) (peek_at is_any q ≡ Err (at_end_of e)) × Fails e q r → Stops (ItemsStop k) e p
items_look k items e p q r so h = if_refused (cause_of e) (λ bad live. record { items = items; next = q; taken = so; stops = inl bad }) h.0

pub item_stops : (k : ItemType) (items : List Item) (e : ParseError) (p q m : Parsing) → ItemsTaken k items p q → IsRead (peek_at is_any q) true q m → Stops (ItemStops k) e m → Stops (ItemsStop k) e p
item_stops k items e p q m so seen h =
    let same = (peeked is_any q m true seen.0).0 in
    let here = subst (λ (x : Parsing). IsRead (peek_at is_any q) true q x) same seen in
    if_refused (cause_of e) (λ bad live. record { items = items; next = q; taken = so; stops = inr (here, bad (ap (λ (x : Parsing). x.failed) so.state ∙ live)) })
    (subst (λ (x : Parsing). Stops (ItemStops k) e x) same h)

-- the text of a new parser
pub text_stops : (k : ItemType) (file : Option (List ℕ)) (bs : List ℕ) (e new : ParseError) (p : Parsing) → AreTokensOf bs p.tokens p.faulty → IsCut bs p.tokens p.faulty p.cut → p.scope ≡ [] → p.failed ≡ None
    → IsLocated file bs e new → (kind_of new ≡ Parse → at_end_of new ≡ at_end_of e) → Stops (ItemsStop k) e p → kind_of new ≡ Parse → TextStops k bs (at_end_of new)
text_stops k file bs e new p are cut empty live located same h kind =
    let refused = parse_cause e (located_kind file bs e new located kind) in
    let stops = (subst (λ (x : Option Cause). IfRefused x (p.failed ≡ None → ItemsStop k (at_end_of e) p)) refused.1 h) live in
    subst (TextStops k bs) (sym (same kind)) (record { parser = p; tokens = are; cut = cut; empty = empty; live = live; stops = stops })
