-- Statements, by their first token.
use Rattle.std.proofs.Common.{◌≡◌, ℕ, Bool, true, false, List, Option, Some, Ok, Err, refl, sym, ◌∙◌, subst}
use Rattle.std.specs.Prelude.{codes}
use Rattle.souper_graph.specs.declared.ast.operands.«Type».{«Type» as Ty}
use Rattle.souper_graph.specs.declared.ast.statements.Pc.{Pc}
use Rattle.souper_graph.specs.declared.ast.statements.BlockPc.{BlockPc}
use Rattle.souper_graph.specs.Values.{PlainAssignment, PlainStatement, assigned, condition, block_condition}
use Rattle.souper_errors.specs.declared.error.ParseError.{ParseError}
use Rattle.souper_errors.specs.Errors.{at_end_of}
use Rattle.souper_ir.specs.Parsing.{Parsing}
use Rattle.souper_graph.specs.Syntax.Tokens.{Lexeme, ident}
use Rattle.souper_graph.specs.Syntax.Spelling.{kinds, statement, attribute as attribute_form}
use Rattle.souper_ir.specs.Continuation.{assignment_continues, pc_continues, block_pc_continues, statement_continues}
use Rattle.souper_ir.specs.Reading.{cause_of, IfRefused, if_refused, Fails, fails_later, IsRead}
use Rattle.souper_ir.specs.Grammar.{NextStops, Starts, Took, NoFront, Refusal, peek_at}
use Rattle.souper_ir.specs.Laws.Unique.{clash_at}
use Rattle.souper_ir.specs.Laws.Peeks.{peeked, peeked_yes, peeked_no, none_if_unread}
use Rattle.souper_ir.specs.NodeReadings.{is_word, rhs_at, Definition, heading_at, definition_at, pc_at, block_pc_at}
use Rattle.souper_ir.specs.Laws.FromReadings.{is_taken, is_refused}
use Rattle.souper_ir.specs.Laws.Attributed.{Row, OneMore}
use Rattle.souper_ir.specs.Laws.Tokens.{word_first}
use Rattle.souper_ir.specs.Laws.Statements.{definition_rule, assignment_laws, pc_rule, block_pc_rule, next_by_word, kind, statement_kind}
use Rattle.souper_ir.specs.NextStatement.{next_statement_of}

abbrev pub Refuses : ParseError → Parsing → Parsing → Type 0
Refuses e p q = Refusal statement statement_continues e p q

abbrev pub Takes_it : PlainStatement → Parsing → Parsing → Type 0
Takes_it v p q = Took statement statement_continues (λ s. s) v p q

abbrev pub RefusesAssignment : ParseError → Parsing → Parsing → Type 0
RefusesAssignment e p q = Refusal (λ s a. statement s (assigned a)) assignment_continues e p q

abbrev pub TakesAssignment : PlainAssignment → Parsing → Parsing → Type 0
TakesAssignment a p q = Took (λ s a. statement s (assigned a)) assignment_continues (λ s. s) a p q

-- a parser at a fault, or that had failed
pub peek_refused : (starts : Lexeme → Bool) (e : ParseError) (p q : Parsing) → IfRefused (cause_of e) (peek_at starts p ≡ Err (at_end_of e)) × Fails e p q → Refuses e p q
peek_refused starts e p q h = record { failed = h.1; nothing = none_if_unread statement statement_continues starts p (at_end_of e) (cause_of e) h.0 }

-- ---- the word of a path condition comes

pc_none : (p : Parsing) → Starts (is_word (codes "pc")) (kinds p.tokens) → NoFront (λ s v. statement s (condition v)) pc_continues p → NoFront statement statement_continues p
pc_none p st none (condition v) front rest e s stops = none v front rest e s stops
pc_none p st none v front rest e s stops =
    let same : next_statement_of (Some (ident (codes "pc"))) ≡ kind v = sym (next_by_word (codes "pc") (kinds p.tokens) st) ∙ statement_kind p.scope v front rest (kinds p.tokens) s e in
    cc

pub pc_taken : (v : Pc) (p q r : Parsing) → IsRead (peek_at (is_word (codes "pc")) p) true p q → IsRead (pc_at q) v q r → Takes_it (condition v) p r
pc_taken v p q r h k =
    let seen = peeked (is_word (codes "pc")) p q true h.0 in
    let t = is_taken pc_rule (λ x. x) v p r (subst (λ (x : Parsing). IsRead (pc_at x) v x r) seen.0 k) in
    record { used = t.used; parts = t.parts; spelled = t.spelled; free = t.free; live = t.live; state = t.state }

pub pc_refused : (e : ParseError) (p q r : Parsing) → IsRead (peek_at (is_word (codes "pc")) p) true p q → IfRefused (cause_of e) (pc_at q ≡ Err (at_end_of e)) × Fails e q r → Refuses e p r
pc_refused e p q r h k =
    let seen = peeked (is_word (codes "pc")) p q true h.0 in
    let f = is_refused pc_rule e p r (subst (λ (x : Parsing). IfRefused (cause_of e) (pc_at x ≡ Err (at_end_of e)) × Fails e x r) seen.0 k) in
    record { failed = f.failed; nothing = if_refused (cause_of e) (λ none live. pc_none p (peeked_yes (is_word (codes "pc")) p.faulty p.tokens seen.2) (none live)) f.nothing }

-- ---- the word of a condition on a predecessor comes

block_pc_none : (p : Parsing) → Starts (is_word (codes "blockpc")) (kinds p.tokens) → NoFront (λ s v. statement s (block_condition v)) block_pc_continues p → NoFront statement statement_continues p
block_pc_none p st none (block_condition v) front rest e s stops = none v front rest e s stops
block_pc_none p st none v front rest e s stops =
    let same : next_statement_of (Some (ident (codes "blockpc"))) ≡ kind v = sym (next_by_word (codes "blockpc") (kinds p.tokens) st) ∙ statement_kind p.scope v front rest (kinds p.tokens) s e in
    cc

pub block_pc_taken : (v : BlockPc) (p q r : Parsing) → IsRead (peek_at (is_word (codes "blockpc")) p) true p q → IsRead (block_pc_at q) v q r → Takes_it (block_condition v) p r
block_pc_taken v p q r h k =
    let seen = peeked (is_word (codes "blockpc")) p q true h.0 in
    let t = is_taken block_pc_rule (λ x. x) v p r (subst (λ (x : Parsing). IsRead (block_pc_at x) v x r) seen.0 k) in
    record { used = t.used; parts = t.parts; spelled = t.spelled; free = t.free; live = t.live; state = t.state }

pub block_pc_refused : (e : ParseError) (p q r : Parsing) → IsRead (peek_at (is_word (codes "blockpc")) p) true p q → IfRefused (cause_of e) (block_pc_at q ≡ Err (at_end_of e)) × Fails e q r → Refuses e p r
block_pc_refused e p q r h k =
    let seen = peeked (is_word (codes "blockpc")) p q true h.0 in
    let f = is_refused block_pc_rule e p r (subst (λ (x : Parsing). IfRefused (cause_of e) (block_pc_at x ≡ Err (at_end_of e)) × Fails e x r) seen.0 k) in
    record { failed = f.failed; nothing = if_refused (cause_of e) (λ none live. block_pc_none p (peeked_yes (is_word (codes "blockpc")) p.faulty p.tokens seen.2) (none live)) f.nothing }

-- ---- an assignment from its parts

pub definition_read : (p k q : Parsing) (d : Definition) → IsRead (heading_at p) (d.name, d.ty) p k → IsRead (rhs_at k) d.value k q → IsRead (definition_at p) d p q
unfolding definition_at
definition_read p k q d h v = (rw (h.0, v.0) refl, h.1, v.2, v.3 ∙ h.3)

pub unread_heading : (b : Bool) (p : Parsing) → heading_at p ≡ Err b → definition_at p ≡ Err b
unfolding definition_at
unread_heading b p e = rw e refl

pub unread_value : (b : Bool) (p k : Parsing) (h : List ℕ × Option Ty) → heading_at p ≡ Ok (h, k) → rhs_at k ≡ Err b → definition_at p ≡ Err b
unfolding definition_at
unread_value b p k h e f = rw (e, f) refl

pub parts_taken : (a : PlainAssignment) (p k q r : Parsing) → IsRead (heading_at p) (a.name, a.ty) p k → IsRead (rhs_at k) a.value k q → Took (Row attribute_form) OneMore (λ s. s) a.attributes q r
    → TakesAssignment a p r
parts_taken a p k q r h v xs =
    let d : Definition = record { name = a.name; ty = a.ty; value = a.value } in
    assignment_laws.taken a p q r (is_taken definition_rule (λ (x : Definition). x) d p q (definition_read p k q d h v)) xs

refused_definition : (e : ParseError) (p q : Parsing) → IfRefused (cause_of e) (definition_at p ≡ Err (at_end_of e)) → Fails e p q → RefusesAssignment e p q
refused_definition e p q h f = assignment_laws.refused_before e p q (is_refused definition_rule e p q (h, f))

pub heading_refused : (e : ParseError) (p q : Parsing) → IfRefused (cause_of e) (heading_at p ≡ Err (at_end_of e)) × Fails e p q → RefusesAssignment e p q
heading_refused e p q h = refused_definition e p q (if_refused (cause_of e) (unread_heading (at_end_of e) p) h.0) h.1

pub value_refused : (e : ParseError) (x : List ℕ × Option Ty) (p k q : Parsing) → IsRead (heading_at p) x p k → IfRefused (cause_of e) (rhs_at k ≡ Err (at_end_of e)) × Fails e k q → RefusesAssignment e p q
value_refused e x p k q h f = refused_definition e p q (if_refused (cause_of e) (unread_value (at_end_of e) p k x h.0) f.0) (fails_later e p k q (h.2 ∙ sym h.1) h.3 f.1)

pub attributes_refused : (e : ParseError) (d : Definition) (p k q r : Parsing) → IsRead (heading_at p) (d.name, d.ty) p k → IsRead (rhs_at k) d.value k q → Refusal (Row attribute_form) OneMore e q r
    → RefusesAssignment e p r
attributes_refused e d p k q r h v f =
    assignment_laws.refused_behind d e p q r (is_taken definition_rule (λ (x : Definition). x) d p q (definition_read p k q d h v)) f

-- ---- neither word comes

-- what a look leaves
pub passed : (P : Parsing → Type 0) (k : List ℕ) (p q : Parsing) → IsRead (peek_at (is_word k) p) false p q → P q → P p
passed P k p q h x = subst P (peeked (is_word k) p q false h.0).0 x

other_none : (p : Parsing) → NextStops (λ t. is_word (codes "pc") t ≡ true) p.faulty (kinds p.tokens) → NextStops (λ t. is_word (codes "blockpc") t ≡ true) p.faulty (kinds p.tokens)
    → NoFront (λ s a. statement s (assigned a)) assignment_continues p → NoFront statement statement_continues p
other_none p no_pc no_block_pc none (assigned a) front rest e s stops = none a front rest e s stops
other_none p no_pc no_block_pc none (condition v) front rest e s stops = clash_at (is_word (codes "pc")) p.faulty front (kinds p.tokens) rest (word_first (codes "pc") front s) e no_pc
other_none p no_pc no_block_pc none (block_condition v) front rest e s stops = clash_at (is_word (codes "blockpc")) p.faulty front (kinds p.tokens) rest (word_first (codes "blockpc") front s) e no_block_pc

pub assignment_taken : (a : PlainAssignment) (p q r t : Parsing) → IsRead (peek_at (is_word (codes "pc")) p) false p q → IsRead (peek_at (is_word (codes "blockpc")) q) false q r
    → TakesAssignment a r t → Takes_it (assigned a) p t
assignment_taken a p q r t h k took =
    passed (λ x. Takes_it (assigned a) x t) (codes "pc") p q h (passed (λ x. Takes_it (assigned a) x t) (codes "blockpc") q r k
    (record { used = took.used; parts = took.parts; spelled = took.spelled; free = took.free; live = took.live; state = took.state }))

pub assignment_refused : (e : ParseError) (p q r t : Parsing) → IsRead (peek_at (is_word (codes "pc")) p) false p q → IsRead (peek_at (is_word (codes "blockpc")) q) false q r
    → RefusesAssignment e r t → Refuses e p t
assignment_refused e p q r t h k f =
    let one = peeked (is_word (codes "pc")) p q false h.0 in
    let here : IsRead (peek_at (is_word (codes "blockpc")) p) false p r = passed (λ x. IsRead (peek_at (is_word (codes "blockpc")) x) false x r) (codes "pc") p q h k in
    let two = peeked (is_word (codes "blockpc")) p r false here.0 in
    let g : RefusesAssignment e p t = passed (λ x. RefusesAssignment e x t) (codes "blockpc") p r here f in
    record {
      failed = g.failed;
      nothing = if_refused (cause_of e) (λ none live. other_none p (peeked_no (is_word (codes "pc")) p.faulty p.tokens one.2) (peeked_no (is_word (codes "blockpc")) p.faulty p.tokens two.2) (none live)) g.nothing;
    }
