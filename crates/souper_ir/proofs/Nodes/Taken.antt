-- A token that the lexer took: what the readings say of the parser before and after it.
use Rattle.std.proofs.Common.{◌≡◌, ℕ, Bool, false, List, ◌∷◌, map, Option, Some, None, Ok, refl, sym, ◌∙◌, ap, subst}
use Rattle.std.specs.Prelude.{is_some, option_map}
use Rattle.souper_graph.specs.Syntax.Spelling.{Scope}
use Rattle.souper_graph.specs.View.{view_statement}
use Rattle.souper_lexer.specs.declared.Token.{Token}
use Rattle.souper_lexer.specs.TokenView.{Takes, BeginsWith}
use Rattle.souper_ir.specs.declared.parse.parser.Parser.TheInside.{Inside}
use Rattle.souper_ir.specs.declared.parse.parser.Failure.{Failure}
use Rattle.souper_ir.specs.FailureView.{cause_of_failure}
use Rattle.souper_ir.specs.ParserView.{parsing_of, with_ahead}
use Rattle.souper_graph.specs.Syntax.Tokens.{Lexeme}
use Rattle.souper_ir.specs.declared.parse.tokens.Mark.{Mark}
use Rattle.souper_ir.specs.declared.parse.tokens.Mark.TheVariants.{Comma}
use Rattle.souper_ir.specs.Parsing.{Parsing}
use Rattle.souper_ir.specs.Reading.{Reads, ◌>>=◌, looked_up, IsRead, look_at, take_at}
use Rattle.souper_ir.specs.Grammar.{Comes, peek_at}
use Rattle.souper_ir.specs.MarkView.{lexeme_of_mark}
use Rattle.souper_ir.specs.NodeReadings.{accept, as_mark}
use Rattle.souper_ir.proofs.Nodes.Options.{none_is}

pub mark_itself : (m : Mark) → as_mark (lexeme_of_mark m) (lexeme_of_mark m) ≡ Some tt
mark_itself Comma = refl
mark_itself _ = refl

module _ (o : ℕ) (t : Lexeme) (rest : List (ℕ × Lexeme)) (faulty cut : Bool) (len : ℕ) (scope : Scope) where
  abbrev before : Parsing
  before = record { tokens = (o, t) ∷ rest; faulty = faulty; cut = cut; len = len; scope = scope; failed = None }

  abbrev after : Parsing
  after = record { tokens = rest; faulty = faulty; cut = cut; len = len; scope = scope; failed = None }

  pub token_accepted : {A : Type 0} (meaning : Lexeme → Option A) (a : A) → meaning t ≡ Some a → IsRead (accept meaning before) a before after
  unfolding accept take_at
  token_accepted {A} meaning a is = (ap (λ (x : Option A). looked_up x >>= (λ y. Ok (y, after))) is, refl, refl, refl)

  pub token_taken : IsRead (take_at before) t before after
  unfolding take_at
  token_taken = (refl, refl, refl, refl)

  pub token_seen : (starts : Lexeme → Bool) (b : Bool) → starts t ≡ b → IsRead (peek_at starts before) b before before
  unfolding peek_at look_at
  token_seen starts b is = (ap (λ (x : Bool). Ok (x, before)) is, refl, refl, refl)

-- a parser that has not failed, and has looked at no token, before its lexer took a token
pub comes : (Is : Lexeme → Type 0) (p : Inside) (v : Parsing) → parsing_of p ≡ v → false ≡ is_some p.failed → false ≡ is_some p.ahead → BeginsWith Is p.lexer → Comes Is v
unfolding look_at
comes Is p v is live none h =
    let tokens : v.tokens ≡ (h.0, h.1) ∷ h.2 = sym (ap (λ (x : Parsing). x.tokens) is) ∙ ap (λ (a : Option (ℕ × Token)). with_ahead a p.lexer.tokens) (none_is p.ahead (sym none)) ∙ h.3 in
    let failed : v.failed ≡ None = sym (ap (λ (x : Parsing). x.failed) is) ∙ ap (λ (f : Option Failure). option_map cause_of_failure f) (none_is p.failed (sym live)) in
    (h.1, (rw (tokens, failed) refl, failed, failed, refl), h.4)

-- any test of a token that comes
pub tested : (starts : Lexeme → Bool) (t : Lexeme) (p : Parsing) → IsRead (look_at p) (Some t) p p → IsRead (peek_at starts p) (starts t) p p
unfolding peek_at
tested starts t p h = (rw (h.0) refl, h.1, h.2, h.3)

-- a parser that has not failed, and has looked at no token, after its lexer took a token
module _ (p q : Inside) (o : ℕ) (t : Lexeme) (v : Parsing) (is : parsing_of p ≡ v) (live : false ≡ is_some p.failed) (none : false ≡ is_some p.ahead)
    (takes : Takes p.lexer o t q.lexer) (same : (q.ahead ≡ p.ahead) × (q.failed ≡ p.failed) × (q.statements ≡ p.statements)) where
  abbrev start : Parsing
  start = before o t q.lexer.tokens q.lexer.fault q.lexer.cut q.lexer.len (map view_statement p.statements)

  abbrev end : Parsing
  end = after o t q.lexer.tokens q.lexer.fault q.lexer.cut q.lexer.len (map view_statement p.statements)

  is_before : start ≡ v
  is_before = sym (
      (λ i. record {
        tokens = with_ahead (none_is p.ahead (sym none) i) (takes.0 i);
        faulty = takes.1 i;
        cut = takes.2 i;
        len = takes.3 i;
        scope = map view_statement p.statements;
        failed = option_map cause_of_failure (none_is p.failed (sym live) i);
      })) ∙ is

  is_after : end ≡ parsing_of q
  is_after = sym (λ i. record {
    tokens = with_ahead ((same.0 ∙ none_is p.ahead (sym none)) i) q.lexer.tokens;
    faulty = q.lexer.fault;
    cut = q.lexer.cut;
    len = q.lexer.len;
    scope = map view_statement (same.2 i);
    failed = option_map cause_of_failure ((same.1 ∙ none_is p.failed (sym live)) i);
  })

  -- a reading from the one to the other
  between : {Y : Type 0} (read : Parsing → Reads Y) (y : Y) → IsRead (read start) y start end → IsRead (read v) y v (parsing_of q)
  between {Y} read y h =
      subst (λ (x : Parsing). IsRead (read x) y x (parsing_of q)) is_before
      (subst (λ (z : Parsing). IsRead (read start) y start z) is_after h)

  pub taken : {A : Type 0} (meaning : Lexeme → Option A) (a : A) → meaning t ≡ Some a → IsRead (accept meaning v) a v (parsing_of q)
  taken meaning a means = between (accept meaning) a (token_accepted o t q.lexer.tokens q.lexer.fault q.lexer.cut q.lexer.len (map view_statement p.statements) meaning a means)

  pub taken_itself : IsRead (take_at v) t v (parsing_of q)
  taken_itself = between take_at t (token_taken o t q.lexer.tokens q.lexer.fault q.lexer.cut q.lexer.len (map view_statement p.statements))

  pub seen : (starts : Lexeme → Bool) (b : Bool) → starts t ≡ b → IsRead (peek_at starts v) b v v
  seen starts b e = subst (λ (x : Parsing). IsRead (peek_at starts x) b x x) is_before
      (token_seen o t q.lexer.tokens q.lexer.fault q.lexer.cut q.lexer.len (map view_statement p.statements) starts b e)
