use Rattle.std.proofs.Common.{◌∙◌, sym, ap, length}
use Rattle.std.proofs.lemmas.Str.{IsCharBoundary-start}
use Rattle.souper_lexer.proofs.TokenGap.{space_len_white, space_len_black, space_len_empty}
use Rattle.souper_lexer.proofs.TokenText.{char_boundary}
use Rattle.souper_lexer.proofs.space_len.Goals as goal

pub returns-in-Some-clause-len : goal.returns-in-Some-clause-len
returns-in-Some-clause-len c = space_len_white c.args.text.now c.chars.result.rest.now c.next.result c.in-Some.c c.len_utf8.result c.chars.ensures.rest c.in-Some.is c.next.ensures.steps.2 (sym c.is_whitespace.ensures ∙ c.if-is_whitespace.true) c.len_utf8.ensures.value

pub returns-in-Some-clause-boundary : goal.returns-in-Some-clause-boundary
returns-in-Some-clause-boundary c = char_boundary c.args.text.now c.next.new.self.rest.now c.in-Some.c c.len_utf8.result c.utf8.text (sym c.chars.ensures.rest ∙ c.in-Some.ensures.steps.0) c.len_utf8.ensures.value

pub returns-in_default-clause-len : goal.returns-in_default-clause-len
returns-in_default-clause-len c = space_len_black c.args.text.now c.chars.result.rest.now c.next.result c.in-Some.c c.chars.ensures.rest c.in-Some.is c.next.ensures.steps.2 (sym c.is_whitespace.ensures ∙ c.if-is_whitespace.false)

pub returns-in_default-clause-boundary : goal.returns-in_default-clause-boundary
returns-in_default-clause-boundary c = IsCharBoundary-start c.args.text.now c.utf8.text

pub returns-in_default-2-clause-len : goal.returns-in_default-2-clause-len
returns-in_default-2-clause-len c = sym (space_len_empty c.args.text.now (sym (ap length c.chars.ensures.rest) ∙ c.in_default.ensures.steps.0.0))
