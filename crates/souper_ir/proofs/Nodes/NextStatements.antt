-- Facts about the next token, by the statement that it begins.
use Rattle.std.proofs.Common.{◌≡◌, Bool, true, false, Option, Some, Ok, Err, refl, ◌∙◌, ap, subst}
use Rattle.std.specs.Prelude.{codes, if◌then◌else◌}
use Rattle.souper_graph.specs.Syntax.Tokens.{Lexeme, ident}
use Rattle.souper_ir.specs.declared.parse.item.Next.{Next}
use Rattle.souper_ir.specs.declared.parse.item.Next.TheVariants.{Assignment, Pc, BlockPc, Other}
use Rattle.souper_ir.specs.Parsing.{Parsing}
use Rattle.souper_ir.specs.Reading.{Reads, ◌>>=◌, look_in, look_at, IsRead}
use Rattle.souper_ir.specs.Grammar.{starts_next, peek_at}
use Rattle.souper_ir.specs.NodeReadings.{is_name, is_word, starts_statement}
use Rattle.souper_ir.specs.NextStatement.{next_statement_by, next_statement_of, next_at}
use Rattle.souper_ir.specs.Laws.Peeks.{ok_is}
use Rattle.souper_ir.specs.Laws.Steps.{bind_ok}

abbrev any_of : Bool → Bool → Bool → Bool
any_of a b c = if a then true else (if b then true else c)

-- what the three tests are, by the statement
abbrev Words : Next → Bool → Bool → Type 0
Words Pc a b = a ≡ true
Words BlockPc a b = b ≡ true
Words Assignment a b = (a ≡ false) × (b ≡ false)
Words Other a b = Unit {0}

abbrev is_statement : Next → Bool
is_statement Other = false
is_statement _ = true

abbrev Tests : Next → Bool → Bool → Bool → Type 0
Tests n a b c = Words n a b × (any_of a b c ≡ is_statement n)

tests : (a b c : Bool) → Tests (next_statement_by a b c) a b c
tests true b c = (refl, refl)
tests false true c = (refl, refl)
tests false false true = ((refl, refl), refl)
tests false false false = (tt, refl)

-- a statement starts with one of the three
one_of : Option Lexeme → Bool
one_of t = any_of (starts_next (is_word (codes "pc")) t) (starts_next (is_word (codes "blockpc")) t) (starts_next is_name t)

either : (a b : Bool) → (if a then true else b) ≡ any_of a b false
either false true = refl
either _ _ = refl

starts_are : (t : Option Lexeme) → starts_next starts_statement t ≡ one_of t
unfolding one_of
starts_are (Some (ident w)) = either (is_word (codes "pc") (ident w)) (is_word (codes "blockpc") (ident w))
starts_are _ = refl

told : (t : Option Lexeme) (n : Next) → next_statement_of t ≡ n → Tests n (starts_next (is_word (codes "pc")) t) (starts_next (is_word (codes "blockpc")) t) (starts_next is_name t)
told t n e = subst (λ (z : Next). Tests z (starts_next (is_word (codes "pc")) t) (starts_next (is_word (codes "blockpc")) t) (starts_next is_name t)) e (tests _ _ _)

-- what each token that begins this is, the next one is
seen : (starts : Lexeme → Bool) (b : Bool) (n : Next) (p q : Parsing) → ((t : Option Lexeme) → next_statement_of t ≡ n → starts_next starts t ≡ b) → IsRead (next_at p) n p q → IsRead (peek_at starts p) b p q
unfolding next_at peek_at
seen starts b n p q is h =
    let s = bind_ok (look_at p) (λ t. Ok (next_statement_of t.0, t.1)) (n, q) h.0 in
    let same : ◌≡◌ {A = Next × Parsing} (next_statement_of s.0.0, s.0.1) (n, q) = ok_is s.2 in
    let told : starts_next starts s.0.0 ≡ b = is s.0.0 (ap (λ (x : Next × Parsing). x.0) same) in
    let behind : s.0.1 ≡ q = ap (λ (x : Next × Parsing). x.1) same in
    (rw (s.1, told, behind) refl, h.1, h.2, h.3)

unseen_in : (starts : Lexeme → Bool) (ended : Bool) (o : Reads (Option Lexeme)) → ◌≡◌ {A = Reads Next} (o >>= λ t. Ok (next_statement_of t.0, t.1)) (Err ended) → ◌≡◌ {A = Reads Bool} (o >>= λ t. Ok (starts_next starts t.0, t.1)) (Err ended)
unseen_in starts ended (Err b) e = let same : b ≡ ended = cc in ap (λ (x : Bool). Err x) same
unseen_in starts ended (Ok t) e = absurd cc

pub unseen : (starts : Lexeme → Bool) (p : Parsing) (ended : Bool) → next_at p ≡ Err ended → peek_at starts p ≡ Err ended
unfolding next_at peek_at
unseen starts p ended e = unseen_in starts ended (look_at p) e

pub pc_seen : (p q : Parsing) → IsRead (next_at p) Pc p q → IsRead (peek_at (is_word (codes "pc")) p) true p q
pc_seen p q h = seen (is_word (codes "pc")) true Pc p q (λ t e. (told t Pc e).0) h

pub block_pc_seen : (p q : Parsing) → IsRead (next_at p) BlockPc p q → IsRead (peek_at (is_word (codes "blockpc")) p) true p q
block_pc_seen p q h = seen (is_word (codes "blockpc")) true BlockPc p q (λ t e. (told t BlockPc e).0) h

pub no_pc_seen : (p q : Parsing) → IsRead (next_at p) Assignment p q → IsRead (peek_at (is_word (codes "pc")) p) false p q
no_pc_seen p q h = seen (is_word (codes "pc")) false Assignment p q (λ t e. (told t Assignment e).0.0) h

pub no_block_pc_seen : (p q : Parsing) → IsRead (next_at p) Assignment p q → IsRead (peek_at (is_word (codes "blockpc")) p) false p q
no_block_pc_seen p q h = seen (is_word (codes "blockpc")) false Assignment p q (λ t e. (told t Assignment e).0.1) h

abbrev pub IsStatement : Next → Type 0
IsStatement Other = ⊥
IsStatement _ = Unit {0}

begun : (n : Next) (t : Option Lexeme) → IsStatement n → next_statement_of t ≡ n → starts_next starts_statement t ≡ true
unfolding one_of
begun Other t h e = absurd h
begun n t h e = starts_are t ∙ (told t n e).1

pub statement_seen : (n : Next) (p q : Parsing) → IsStatement n → IsRead (next_at p) n p q → IsRead (peek_at starts_statement p) true p q
statement_seen n p q is h = seen starts_statement true n p q (λ t e. begun n t is e) h

pub no_statement_seen : (p q : Parsing) → IsRead (next_at p) Other p q → IsRead (peek_at starts_statement p) false p q
unfolding one_of
no_statement_seen p q h = seen starts_statement false Other p q (λ t e. starts_are t ∙ (told t Other e).1) h

-- a look takes no token
pub next_stays : (p q : Parsing) (n : Next) → next_at p ≡ Ok (n, q) → p ≡ q
unfolding next_at look_at
next_stays p q n e =
    let s = bind_ok (look_in p.failed p.faulty p.cut p.tokens >>= λ t. Ok (t, p)) (λ t. Ok (next_statement_of t.0, t.1)) (n, q) e in
    let l = bind_ok (look_in p.failed p.faulty p.cut p.tokens) (λ t. Ok (t, p)) s.0 s.1 in
    let looked : ◌≡◌ {A = Option Lexeme × Parsing} (l.0, p) s.0 = ok_is l.2 in
    let same : ◌≡◌ {A = Next × Parsing} (next_statement_of s.0.0, s.0.1) (n, q) = ok_is s.2 in
    ap (λ (x : Option Lexeme × Parsing). x.1) looked ∙ ap (λ (x : Next × Parsing). x.1) same
