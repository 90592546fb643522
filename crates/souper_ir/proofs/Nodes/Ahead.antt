-- Facts about a parser whose next token comes, though it was not lexed.
use Rattle.std.proofs.Common.{◌≡◌, ℕ, Bool, true, false, List, [], ◌∷◌, None, Ok, refl, sym, ◌∙◌, ap, subst}
use Rattle.std.specs.Prelude.{Result}
use Rattle.std.proofs.Math.Logic.{⊎_elim}
use Rattle.souper_graph.specs.declared.ast.operands.Operand.{Operand}
use Rattle.souper_errors.specs.declared.error.ParseError.{ParseError}
use Rattle.souper_graph.specs.Values.{PlainAttribute}
use Rattle.souper_graph.specs.Syntax.Spelling.{kinds, attribute as attribute_form}
use Rattle.souper_graph.specs.Syntax.Tokens.{Lexeme, val_name, int, comma, colon, equals, open_paren}
use Rattle.souper_ir.specs.Grammar.{Comes, Free, Took, peek_at}
use Rattle.souper_ir.specs.Laws.Attributed.{Row, OneMore}
use Rattle.souper_ir.specs.Laws.Peeks.{Answers, decided, peeked, answered}
use Rattle.souper_ir.specs.Laws.Tokens.{is_mark_means}
use Rattle.souper_ir.specs.NodeReadings.{accept, as_mark, is_mark, is_name, optional_type_at, type_and_equals_at, operand_by, operand_at}
use Rattle.souper_ir.specs.Parsing.{Parsing}
use Rattle.souper_ir.specs.Reading.{Gives, IsRead}
use Rattle.souper_ir.proofs.Nodes.Taken.{tested}

-- ---- no type comes

no_colon : (faulty : Bool) (ts : List Lexeme) → Answers (is_mark equals) true faulty ts → Answers (is_mark colon) false faulty ts
no_colon faulty [] h = absurd h
no_colon faulty (t ∷ ts) h = decided (is_mark colon) false faulty t ts (ap (is_mark colon) (is_mark_means equals t h))

equals_for_type : (p : Parsing) → peek_at (is_mark equals) p ≡ Ok (true, p) → optional_type_at p ≡ Ok (None, p)
unfolding optional_type_at
equals_for_type p h =
    let s = peeked (is_mark equals) p p true h in
    rw (answered (is_mark colon) p false s.1 (no_colon p.faulty (kinds p.tokens) s.2)) refl

pub equals_read : (p q : Parsing) → IsRead (accept (as_mark equals) p) tt p q → IsRead (peek_at (is_mark equals) p) true p p → IsRead (type_and_equals_at p) None p q
unfolding type_and_equals_at
equals_read p q h seen = (rw (equals_for_type p seen.0, h.0) refl, h.1, h.2, h.3)

comma_for_type : (p : Parsing) → Comes (λ t. t ≡ comma) p → optional_type_at p ≡ Ok (None, p)
unfolding optional_type_at
comma_for_type p c =
    let untyped : is_mark colon c.0 ≡ false = ap (is_mark colon) c.2 in
    rw ((tested (is_mark colon) c.0 p c.1).0, untyped) refl

pub comma_read : (p q : Parsing) → q ≡ p → Comes (λ t. t ≡ comma) q → IsRead (optional_type_at p) None p q
comma_read p q same c =
    subst (λ (x : Parsing). IsRead (optional_type_at x) None x q) same
    (comma_for_type q c, c.1.1, c.1.1, refl)

-- ---- an integer comes

abbrev IsInt : Lexeme → Type 0
IsInt t = (w : List ℕ) × (t ≡ int w)

int_for_name : (p : Parsing) → Comes IsInt p → peek_at is_name p ≡ Ok (false, p)
int_for_name p c =
    let unnamed : is_name c.0 ≡ false = ap is_name c.2.1 in
    (tested is_name c.0 p c.1).0 ∙ ap (λ (b : Bool). Ok (b, p)) unnamed

pub int_operand : (r : Result Operand ParseError) (p q : Parsing) → Comes IsInt p → Gives (λ x. x) r (operand_by false p) p q → Gives (λ x. x) r (operand_at p) p q
unfolding operand_at
int_operand r p q c h = rw (int_for_name p c) h

-- ---- a name comes

abbrev IsName : Lexeme → Type 0
IsName t = (n : List ℕ) × (t ≡ val_name n)

no_paren : (faulty : Bool) (ts : List Lexeme) → Answers (is_mark open_paren) false faulty ts → Free (OneMore {X = PlainAttribute} []) ts
no_paren faulty [] h = tt
no_paren faulty (t ∷ ts) h = ⊎_elim h (λ x. x)

pub no_attributes : (xs : List PlainAttribute) (p : Parsing) → xs ≡ [] → Comes IsName p → Took (Row attribute_form) OneMore (λ s. s) xs p p
no_attributes xs p none c =
    let other : is_mark open_paren c.0 ≡ false = ap (is_mark open_paren) c.2.1 in
    let s = peeked (is_mark open_paren) p p false ((tested (is_mark open_paren) c.0 p c.1).0 ∙ ap (λ (b : Bool). Ok (b, p)) other) in
    subst (λ (ys : List PlainAttribute). Took (Row attribute_form) OneMore (λ s. s) ys p p) (sym none)
    (record { used = []; parts = refl; spelled = refl; free = no_paren p.faulty (kinds p.tokens) s.2; live = s.1; state = refl })
