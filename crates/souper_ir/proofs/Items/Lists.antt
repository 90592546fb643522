-- Items in sequence: at most one list of them is spelled, and none if the parser rejects.
use Rattle.std.proofs.Common.{◌≡◌, ℕ, Bool, true, false, List, [], ◌∷◌, ◌++◌, Option, None, Err, refl, sym, ◌∙◌, ap, subst, append_assoc}
use Rattle.std.proofs.lemmas.List.{append-nil}
use Rattle.std.specs.List.{AllByRecursion}
use Rattle.souper_graph.specs.WellFormed.{WellFormed}
use Rattle.souper_graph.specs.Values.{PlainStatement, Ending, inferred, resulting, replaced, candidate, Item}
use Rattle.souper_errors.specs.declared.error.ParseError.{ParseError}
use Rattle.souper_graph.specs.Syntax.Tokens.{Lexeme, IsLexeme}
use Rattle.souper_graph.specs.Syntax.Spelling.{kinds, Scope, ItemType, item_after, items, TextSpells, item}
use Rattle.souper_ir.specs.Continuation.{ending_continues, item_continues}
use Rattle.souper_errors.specs.Errors.{at_end_of}
use Rattle.souper_ir.specs.Parsing.{Cause, Parsing}
use Rattle.souper_ir.specs.Reading.{cause_of, IfRefused, if_refused, IsRead, Fails}
use Rattle.souper_ir.specs.Grammar.{NextStops, Starts, Took, NoFrontOf, LastGoesOn, Refusal, peek_at}
use Rattle.souper_ir.specs.Laws.Peeks.{Answers, peeked, peeked_yes}
use Rattle.souper_ir.specs.NodeReadings.{is_any}
use Rattle.souper_ir.specs.Laws.Statements.{begins_line, infer_ends, operand_ends, cand_ends}
use Rattle.souper_ir.specs.Laws.Series.{starts_ahead, starts_stop, behind, Series, NoMember, EndsIn, LoopRefusal, all_alone, no_list, peek_refused, member_refused}
use Rattle.souper_ir.specs.Laws.Items.{starts_as, begun_by, parted_item, item_alone}
use Rattle.souper_ir.specs.Items.{Tail, tail_lines}
use Rattle.souper_ir.specs.ItemRuns.{ItemsTaken, SpellsAll, ListRefusal}
use Rattle.souper_ir.specs.Sinks.{TakesOver}
use Rattle.souper_ir.specs.Starts.{SpellEachFrom, TakesFirst}
use Rattle.souper_lexer.proofs.TokenLaws.{one_reading}
use Rattle.souper_ir.proofs.Nodes.Failing.{refused_for}
use Rattle.souper_ir.proofs.Items.WellFormed.{taken_well}

-- what begins a line continues no item
ending_ends : (y : Ending) (t : Lexeme) → begins_line t ≡ true → ¬ ending_continues y t
ending_ends (inferred i) t b = infer_ends i t b
ending_ends (resulting r) t b = operand_ends r t b
ending_ends (replaced i r) t b = operand_ends r t b
ending_ends (candidate c) t b = cand_ends c t b

tail_begins : (s : Scope) (y : Tail) (ts : List Lexeme) → tail_lines s y ts → Starts begins_line ts
tail_begins s (new, inferred i) ts h = rw (h.1.whole, h.1.first) refl
tail_begins s (new, resulting r) ts h = rw (h.1.whole, h.1.first) refl
tail_begins s (new, replaced i r) ts h = subst (λ (x : List Lexeme). Starts begins_line x) (sym h.whole) (starts_ahead begins_line h.prefix h.suffix (rw (h.first.whole, h.first.first) refl))
tail_begins s (new, candidate c) ts h = rw (h.1.whole, h.1.first) refl

-- an item begins a line
item_begins : (k : ItemType) (a : Item) (ts : List Lexeme) → item k a ts → Starts begins_line ts
item_begins k a ts h =
    let m = parted_item k [] a ts h in
    let x = m.spelled in
    subst (λ (x : List Lexeme). Starts begins_line x) (sym x.whole) (begun_by [] m.first x.prefix x.suffix x.first (tail_begins m.first (m.last, a.ending) x.suffix x.second.lines))

-- after v come further items, and then c
pub item_over : (k : ItemType) (faulty : Bool) (v : Item) (vs : List Item) (ts c : List Lexeme) (m : items k (v ∷ vs) ts) → NextStops (λ t. LastGoesOn item_continues (v ∷ vs) t) faulty c → NextStops (item_continues v) faulty (m.suffix ++ c)
item_over k faulty v [] ts c m h = subst (λ (x : List Lexeme). NextStops (item_continues v) faulty (x ++ c)) (sym m.second) h
item_over k faulty v (w ∷ vs) ts c m h =
    let n = m.second in
    subst (λ (x : List Lexeme). NextStops (item_continues v) faulty (x ++ c)) (sym n.whole) (starts_stop (item_continues v) begins_line faulty ((n.prefix ++ n.suffix) ++ c) (ending_ends v.ending)
    (starts_ahead begins_line (n.prefix ++ n.suffix) c (starts_ahead begins_line n.prefix n.suffix (item_begins k w n.prefix n.first))))

-- an item has a token
pub item_first : (k : ItemType) (v : Item) (ts : List Lexeme) → item k v ts → Starts is_any ts
item_first k v ts h = starts_as begins_line is_any ts (λ t e. refl) (item_begins k v ts h)

abbrev pub item_series : ItemType → Series Item
item_series k = record {
  one = λ s. item k;
  all = λ s. items k;
  continues = item_continues;
  starts = is_any;
  leaves = λ s vs. [];
  leaves_more = λ s v vs. refl;
  stays = λ s v ts. (λ h. h, λ h. h);
  alone = λ s. item_alone k [];
  first = λ s. item_first k;
  none = λ s ts. (λ h. h, λ h. h);
  joined = λ s v vs ts h. h;
  join = λ s v vs ts h f. h;
  over = λ faulty s. item_over k faulty;
}

pub list_alone : (k : ItemType) (vs ws : List Item) (ts : List Lexeme) → items k vs ts → items k ws ts → vs ≡ ws
list_alone k vs ws ts m n = (all_alone (item_series k) [] vs ws ts ts [] [] refl m n refl refl refl refl).1

-- a text spells at most one list of items of a type
pub text_alone : (k : ItemType) (bs : List ℕ) (vs ws : List Item) → TextSpells k bs vs → TextSpells k bs ws → vs ≡ ws
text_alone k bs vs ws m n =
    let same : m.0 ≡ n.0 = one_reading bs m.0 n.0 m.1 n.1 in
    list_alone k vs ws (kinds m.0) m.2 (subst (λ (x : List (ℕ × Lexeme)). items k ws (kinds x)) (sym same) n.2)

-- ---- the loop

abbrev pub TookItem : ItemType → Item → Parsing → Parsing → Type 0
TookItem k v p q = Took (λ s. item k) item_continues (λ s. []) v p q

-- nothing is in scope after a look
pub still_empty : (k : ItemType) (vs : List Item) (p q m : Parsing) {b : Bool} → ItemsTaken k vs p q → IsRead (peek_at is_any q) b q m → m.scope ≡ []
still_empty k vs p q m {b} so h = ap (λ (x : Parsing). x.scope) ((peeked is_any q m b h.0).0 ∙ so.state)

-- an item was read after a look
pub read_behind : (k : ItemType) (vs : List Item) (v : Item) (p q m r : Parsing) {b : Bool} → ItemsTaken k vs p q → IsRead (peek_at is_any q) b q m → Took (item_after k) item_continues (λ s. []) v m r → TookItem k v q r
read_behind k vs v p q m r {b} so h took =
    let here = behind is_any v b q m r h took in
    let sp : item k v (kinds here.used) = subst (λ (x : List PlainStatement). item_after k x v (kinds here.used)) (ap (λ (x : Parsing). x.scope) so.state) here.spelled in
    record { used = here.used; parts = here.parts; spelled = sp; free = here.free; live = here.live; state = here.state }

-- ---- the end of the loop

all_used : (k : ItemType) (vs : List Item) (p q r : Parsing) → (so : ItemsTaken k vs p q) → IsRead (peek_at is_any q) false q r → (p.tokens ≡ so.used) × (q.faulty ≡ false)
all_used k vs p q r so h =
    let none = none_left q.faulty q.tokens (peeked is_any q r false h.0).2 in
    (so.parts ∙ ap (λ (x : List (ℕ × Lexeme)). so.used ++ x) none.0 ∙ append-nil so.used, none.1)
  where
    none_left : (faulty : Bool) (ts : List (ℕ × Lexeme)) → Answers is_any false faulty (kinds ts) → (ts ≡ []) × (faulty ≡ false)
    none_left faulty [] h = (refl, h)
    none_left faulty (t ∷ ts) h = absurd (h refl)

pub all_taken : (k : ItemType) (vs : List Item) (starts : List ℕ) (p q r : Parsing) → (so : ItemsTaken k vs p q) → SpellEachFrom k vs starts so.used → IsRead (peek_at is_any q) false q r → SpellsAll k vs p × SpellEachFrom k vs starts p.tokens
all_taken k vs starts p q r so each h =
    let all = all_used k vs p q r so h in (
      record { spelled = subst (λ (x : List (ℕ × Lexeme)). items k vs (kinds x)) (sym all.0) so.spelled; sound = sym (ap (λ (x : Parsing). x.faulty) so.state) ∙ all.1 },
      subst (λ (x : List (ℕ × Lexeme)). SpellEachFrom k vs starts x) (sym all.0) each,
    )

none_spelled : (k : ItemType) (vs : List Item) (p : Parsing) → EndsIn (item_series k) (NoMember (item_series k)) p → p.faulty ≡ false → items k vs (kinds p.tokens) → ⊥
none_spelled k vs p h sound m = no_list (item_series k) p vs (kinds p.tokens) [] h (sym (append-nil (kinds p.tokens))) m sound sound

refused : (k : ItemType) (e : ParseError) (p r : Parsing) → LoopRefusal (item_series k) e p r → ListRefusal k e p r
refused k e p r h = record { failed = h.0; nothing = if_refused (cause_of e) (λ none live vs. none_spelled k vs p (none live)) h.1 }

pub look_refused : (k : ItemType) (vs : List Item) (e : ParseError) (p q r : Parsing) → ItemsTaken k vs p q → IfRefused (cause_of e) (peek_at is_any q ≡ Err (at_end_of e)) × Fails e q r → ListRefusal k e p r
look_refused k vs e p q r so h = refused k e p r (peek_refused (item_series k) vs e p q r so h)

pub item_refused : (k : ItemType) (vs : List Item) (e : ParseError) (p q m r : Parsing) → ItemsTaken k vs p q → IsRead (peek_at is_any q) true q m → Refusal (item_after k) item_continues e m r → ListRefusal k e p r
item_refused k vs e p q m r so h bad =
    let here : IfRefused (cause_of e) (m.failed ≡ None → NoFrontOf (item k) item_continues m.faulty (kinds m.tokens)) =
    subst (λ (x : List PlainStatement). IfRefused (cause_of e) (m.failed ≡ None → NoFrontOf (λ v. item_after k x v) item_continues m.faulty (kinds m.tokens))) (still_empty k vs p q m so h) bad.nothing in
    refused k e p r (member_refused (item_series k) vs e p q m r so h (record { failed = bad.failed; nothing = here }))

-- ---- a text of gaps alone

nil_left : (a b : List (ℕ × Lexeme)) → a ++ b ≡ [] → (a ≡ []) × (b ≡ [])
nil_left [] b e = (refl, e)
nil_left (t ∷ a) b e = absurd cc

-- if there is no token, none was taken and there is no item
pub nothing_taken : (k : ItemType) (vs : List Item) (p q : Parsing) → ItemsTaken k vs p q → p.tokens ≡ [] → (q.tokens ≡ []) × (vs ≡ [])
nothing_taken k vs p q so e =
    let none = nil_left so.used q.tokens (sym so.parts ∙ e) in
    (none.1, list_alone k vs [] [] (subst (λ (x : List (ℕ × Lexeme)). items k vs (kinds x)) none.0 so.spelled) refl)

-- no token is seen there
pub nothing_seen : (k : ItemType) (vs : List Item) (p q m : Parsing) → ItemsTaken k vs p q → p.tokens ≡ [] → IsRead (peek_at is_any q) true q m → ⊥
nothing_seen k vs p q m so e h =
    subst (λ (x : List (ℕ × Lexeme)). Starts is_any (kinds x)) (nothing_taken k vs p q so e).0 (peeked_yes is_any q.faulty q.tokens (peeked is_any q m true h.0).2)

pub still_sound : (k : ItemType) (vs : List Item) (p q : Parsing) → ItemsTaken k vs p q → p.faulty ≡ false → p.failed ≡ None → (q.faulty ≡ false) × (q.failed ≡ None)
still_sound k vs p q so f l = (ap (λ (x : Parsing). x.faulty) so.state ∙ f, ap (λ (x : Parsing). x.failed) so.state ∙ l)

-- an item that was read after others is well formed
pub read_well : (k : ItemType) (vs : List Item) (v : Item) (p q m r : Parsing) {b : Bool} → AllByRecursion IsLexeme (kinds p.tokens) → ItemsTaken k vs p q → IsRead (peek_at is_any q) b q m → Took (item_after k) item_continues (λ s. []) v m r → WellFormed v
read_well k vs v p q m r {b} l so h behind =
    let took = read_behind k vs v p q m r so h behind in
    taken_well k v p q r l so.used so.parts took.used took.parts took.spelled

-- ---- what a sink holds of them

pub takes_one : {S : Type 0} (holds : S → S → List Item → Type 0) (vs : List Item) (v : Item) (a b c : S) → TakesOver holds vs a b
    → ((first : S) (xs : List Item) → holds first b xs → holds first c (xs ++ v ∷ [])) → TakesOver holds (vs ++ v ∷ []) a c
takes_one holds vs v a b c so step = λ first before held.
    subst (holds first c) (append_assoc before vs (v ∷ [])) (step first (before ++ vs) (so first before held))

-- ---- what a sink took before a parse error

pub taken_first : {S : Type 0} (holds : S → S → List Item → Type 0) (k : ItemType) (xs : List Item) (starts : List ℕ) (kept : List ℕ → Type 0) (f : Option Cause) (p q : Parsing) (old new : S) → (so : ItemsTaken k xs p q) → TakesOver holds xs old new
    → SpellEachFrom k xs starts so.used → kept starts → IfRefused f (TakesFirst holds k kept p old new)
taken_first holds k xs starts kept f p q old new so taken each has =
    refused_for f (record { items = xs; starts = starts; used = so.used; others = q.tokens; parts = so.parts; spelled = so.spelled; each = each; taken = taken; has = has })
