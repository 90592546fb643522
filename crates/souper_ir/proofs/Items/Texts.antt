-- Texts of items: the items that they spell, and the result if they spell none.
use Rattle.std.proofs.Common.{◌≡◌, ◌⊎◌, ℕ, ◌+◌, ◌≤◌, Bool, false, List, [], ◌∷◌, ◌++◌, length, Option, Some, None, refl, sym, ◌∙◌, ap, subst, inl, inr, arith}
use Rattle.std.specs.Prelude.{IfSome}
use Rattle.souper_graph.specs.Values.{Item}
use Rattle.souper_errors.specs.declared.error.ParseError.{ParseError}
use Rattle.souper_errors.specs.declared.error.ParseErrorKind.{ParseErrorKind}
use Rattle.souper_errors.specs.declared.error.ParseErrorKind.TheVariants.{Io, Parse, Memory}
use Rattle.souper_errors.specs.declared.error.Cause.{Cause as ErrorCause}
use Rattle.souper_errors.specs.declared.error.Cause.TheVariants.{Io as IoCause, Parse as ParseCause, Memory as MemoryCause}
use Rattle.souper_graph.specs.Syntax.Tokens.{Lexeme, spelling, IsLastGap, Begins, IsTextOf}
use Rattle.souper_graph.specs.Syntax.TokenLaws.{AreTokensOf}
use Rattle.souper_graph.specs.Syntax.Spelling.{kinds, ItemType, items, TextSpells, SpellsNone}
use Rattle.souper_errors.specs.Errors.{OnKind, kind_of, kind_of_cause, offset_of, offset_of_cause, HasLocation, IsRefusalAt, IsLocated}
use Rattle.souper_ir.specs.Answers.{IsStrError}
use Rattle.souper_ir.specs.Parsing.{Cause, refused, Parsing}
use Rattle.souper_ir.specs.Reading.{cause_of, IfRefused}
use Rattle.souper_ir.specs.ItemRuns.{SpellsAll, NoList, ListRefusal}
use Rattle.souper_ir.specs.Sinks.{TakesPrefix}
use Rattle.souper_ir.specs.Starts.{PrefixSpellsFrom, TakesFirst, TakesFrom}

-- the tokens of a text without a fault are those that it is a text of
pub is_text : (bs : List ℕ) (ts : List (ℕ × Lexeme)) (faulty : Bool) → AreTokensOf bs ts faulty → faulty ≡ false → IsTextOf bs ts
is_text bs ts faulty h e = (h.rest, h.front, h.ended e)

pub all_spelled : (k : ItemType) (xs : List Item) (bs : List ℕ) (p : Parsing) → AreTokensOf bs p.tokens p.faulty → SpellsAll k xs p → TextSpells k bs xs
all_spelled k xs bs p h all = (p.tokens, is_text bs p.tokens p.faulty h all.sound, all.spelled)

-- a text of gaps alone has no tokens
pub gap_text : (bs : List ℕ) → IsLastGap bs → IsTextOf bs []
gap_text bs h = (bs, refl, h)

-- ---- parse errors

offset_kind : (c : ErrorCause) (o : ℕ) → offset_of_cause c ≡ Some o → kind_of_cause c ≡ Parse
offset_kind (ParseCause r) o e = refl
offset_kind (IoCause f) o e = absurd cc
offset_kind MemoryCause o e = absurd cc

offset_cause : (e : ParseError) (o : ℕ) → offset_of e ≡ Some o → cause_of e ≡ Some (refused o)
offset_cause e o at = rw (offset_kind e.cause o at, at) refl

-- the text spells no items if the parser rejected
none_spelled : (k : ItemType) (bs : List ℕ) (e : ParseError) (p q : Parsing) (o : ℕ) → p.failed ≡ None → ((ts : List (ℕ × Lexeme)) → IsTextOf bs ts → (p.tokens ≡ ts) × (p.faulty ≡ false))
    → ListRefusal k e p q → cause_of e ≡ Some (refused o) → SpellsNone k bs
none_spelled k bs e p q o live only h cause xs spelled =
    let none = (subst (λ (x : Option Cause). IfRefused x (p.failed ≡ None → NoList k p)) cause h.nothing) live in
    let same = only spelled.0 spelled.1 in
    none xs same.1 (subst (λ (x : List (ℕ × Lexeme)). items k xs (kinds x)) (sym same.0) spelled.2)

module _ (k : ItemType) (file : Option (List ℕ)) (bs : List ℕ) (e new : ParseError) (p q : Parsing)
    (live : p.failed ≡ None) (len : p.len ≡ length bs)
    (only : (ts : List (ℕ × Lexeme)) → IsTextOf bs ts → (p.tokens ≡ ts) × (p.faulty ≡ false))
    (h : ListRefusal k e p q) (location : kind_of new ≡ Parse → HasLocation bs new) where
  memory_answer : kind_of new ≡ Memory → IsStrError k file bs new
  memory_answer m = rw m tt

  refusal_answer : (o : ℕ) → offset_of e ≡ Some o → IsRefusalAt file bs o new → IsStrError k file bs new
  refusal_answer o at r =
      let cause = offset_cause e o at in
      let bound : o ≤ length bs = (let within = h.failed.within o cause in omega (arith, within, h.failed.len, len)) in
      rw r.0 (o, r.1, bound, none_spelled k bs e p q o live only h cause, r.2, location r.0)

  by_offset : (o : Option ℕ) → offset_of e ≡ o → IfSome o (λ offset. (kind_of new ≡ Memory) ⊎ IsRefusalAt file bs offset new) → kind_of e ≡ Parse → IsStrError k file bs new
  by_offset None at r kind = absurd (h.failed.caused (rw (kind, at) refl))
  by_offset (Some o) at (inl m) kind = memory_answer m
  by_offset (Some o) at (inr r) kind = refusal_answer o at r

  by_kind : (x : ParseErrorKind) → kind_of e ≡ x → OnKind x (new ≡ e) (IfSome (offset_of e) (λ offset. (kind_of new ≡ Memory) ⊎ IsRefusalAt file bs offset new)) (new ≡ e) → IsStrError k file bs new
  by_kind Io kind l = absurd (h.failed.caused (rw kind refl))
  by_kind Parse kind l = by_offset (offset_of e) refl l kind
  by_kind Memory kind l = memory_answer (ap kind_of l ∙ kind)

  pub located_answer : IsLocated file bs e new → IsStrError k file bs new
  located_answer l = by_kind (kind_of e) refl l

-- ---- what a sink took before a parse error

begins_prefix : (ts us : List (ℕ × Lexeme)) (n : ℕ) (bs rest : List ℕ) → Begins n bs (ts ++ us) rest → (mid : List ℕ) × Begins n bs ts mid
begins_prefix [] us n bs rest h = (bs, refl)
begins_prefix (t ∷ ts) us n bs rest h =
    let r = begins_prefix ts us (t.0 + length (spelling t.1)) h.after rest h.more in
    (r.0, record { gap = h.gap; after = h.after; stands = h.stands; offset_is = h.offset_is; more = r.1 })

abbrev pub TakesBefore : {S : Type 0} → (S → S → List Item → Type 0) → ItemType → (List ℕ → Type 0) → List ℕ → S → S → Type 0
TakesBefore holds k kept bs old new = TakesPrefix holds k bs old new × TakesFrom holds (PrefixSpellsFrom k bs) kept old new

prefix_taken : {S : Type 0} (holds : S → S → List Item → Type 0) (k : ItemType) (kept : List ℕ → Type 0) (bs : List ℕ) (p : Parsing) (old new : S) → AreTokensOf bs p.tokens p.faulty → TakesFirst holds k kept p old new
    → TakesBefore holds k kept bs old new
prefix_taken holds k kept bs p old new h t =
    let b = begins_prefix t.used t.others 0 bs h.rest (subst (λ (x : List (ℕ × Lexeme)). Begins 0 bs x h.rest) t.parts h.front) in (
      (t.items, (t.used, b.0, b.1, t.spelled), t.taken),
      record { items = t.items; starts = t.starts; spelled = (t.used, b.0, b.1, t.each); taken = t.taken; has = t.has },
    )

pub parse_cause : (e : ParseError) → kind_of e ≡ Parse → (o : ℕ) × (cause_of e ≡ Some (refused o))
parse_cause e kind = under e.cause refl
  where
    under : (c : ErrorCause) → e.cause ≡ c → (o : ℕ) × (cause_of e ≡ Some (refused o))
    under (IoCause f) at = let bad : Io ≡ Parse = sym (ap kind_of_cause at) ∙ kind in absurd cc
    under (ParseCause r) at = (r.value.offset, offset_cause e r.value.offset (ap offset_of_cause at))
    under MemoryCause at = let bad : Memory ≡ Parse = sym (ap kind_of_cause at) ∙ kind in absurd cc

pub located_kind : (file : Option (List ℕ)) (bs : List ℕ) (e new : ParseError) → IsLocated file bs e new → kind_of new ≡ Parse → kind_of e ≡ Parse
located_kind file bs e new l kind = under (kind_of e) refl l
  where
    under : (x : ParseErrorKind) → kind_of e ≡ x → OnKind x (new ≡ e) (IfSome (offset_of e) (λ offset. (kind_of new ≡ Memory) ⊎ IsRefusalAt file bs offset new)) (new ≡ e) → kind_of e ≡ Parse
    under Io at same = sym (ap kind_of same) ∙ kind
    under Parse at same = at
    under Memory at same = sym (ap kind_of same) ∙ kind

pub taken_before : {S : Type 0} (holds : S → S → List Item → Type 0) (k : ItemType) (kept : List ℕ → Type 0) (file : Option (List ℕ)) (bs : List ℕ) (e new : ParseError) (p : Parsing) (old now : S)
    → AreTokensOf bs p.tokens p.faulty → IsLocated file bs e new → IfRefused (cause_of e) (TakesFirst holds k kept p old now) → kind_of new ≡ Parse → TakesBefore holds k kept bs old now
taken_before holds k kept file bs e new p old now h l first kind =
    let c = parse_cause e (located_kind file bs e new l kind) in
    prefix_taken holds k kept bs p old now h (subst (λ (x : Option Cause). IfRefused x (TakesFirst holds k kept p old now)) c.1 first)
