use Rattle.std.proofs.Common.{ap, refl, arith, rules}
use Rattle.std.proofs.lemmas.Result.{err_from_is_err_and}
use Rattle.souper_lexer.specs.TokenReading.{Lexed}
use Rattle.souper_lexer.specs.TokenView.{lexeme_of, is_end}
use Rattle.souper_lexer.proofs.TokenSteps.{yields_none, yields_fault, yields_rest, yields_token, lexed_len}
use Rattle.souper_lexer.proofs.Lexer.next_token.Goals as goal

pub returns-then-is_empty-clause-next : goal.returns-then-is_empty-clause-next
returns-then-is_empty-clause-next c = yields_none c.self.inside.offset c.self.inside.rest.now c.after_gap-text.result.now c.args.self.now c.self.view_is c.after_gap-text.ensures.rest (search rules)

pub returns-in_err-token-clause-next : goal.returns-in_err-token-clause-next
returns-in_err-token-clause-next c =
    let p = err_from_is_err_and c.from_residual.result c.from_residual.ensures.1 in
    rw (p.1, p.2) (yields_fault c.self.inside.offset c.self.inside.rest.now c.after_gap-text.result.now c.args.self.now c.self.view_is c.after_gap-text.ensures.rest (is_end c.in_err-token.field-0.0.kind) (search rules) c.in_err-token.ensures.reads)

pub returns-in_err-token-clause-offset : goal.returns-in_err-token-clause-offset
returns-in_err-token-clause-offset c =
    let p = err_from_is_err_and c.from_residual.result c.from_residual.ensures.1 in
    let l = lexed_len c.self.inside.offset c.self.inside.rest.now in
    let v = ap (λ (x : Lexed). x.len) c.self.view_is in
    let o = c.in_err-token.ensures.offset in
    rw (p.1, p.2) (omega (arith, l, v, o, c.after_gap-text.ensures.len))

pub overflow_sub-self : goal.overflow_sub-self
overflow_sub-self c =
    let h = yields_rest c.self.inside.offset c.self.inside.rest.now c.after_gap-text.result.now c.args.self.now c.self.view_is c.after_gap-text.ensures.rest (lexeme_of c.in_ok-token.token) c.in_ok-token.rest.now (search rules) c.in_ok-token.ensures.reads in
    omega arith

pub invariant_of-self : goal.invariant_of-self
invariant_of-self c =
    let h = yields_rest c.self.inside.offset c.self.inside.rest.now c.after_gap-text.result.now c.args.self.now c.self.view_is c.after_gap-text.ensures.rest (lexeme_of c.in_ok-token.token) c.in_ok-token.rest.now (search rules) c.in_ok-token.ensures.reads in
    omega (arith, c.self.invariant, c.after_gap-text.ensures.len)

pub returns-clause-next : goal.returns-clause-next
returns-clause-next c = yields_token c.self.inside.offset c.self.inside.rest.now c.after_gap-text.result.now c.args.self.now c.self.view_is c.after_gap-text.ensures.rest (lexeme_of c.in_ok-token.token) c.in_ok-token.rest.now _ _ (search rules) c.in_ok-token.ensures.reads refl refl
