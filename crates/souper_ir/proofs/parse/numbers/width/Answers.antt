use Rattle.std.proofs.Common.{◌<◌, sym, ◌∙◌, arith}
use Rattle.souper_ir.proofs.Nodes.Numerals.{are_digits-is, width_of_no_prefix, digits_behind, width_read, width_refused}
use Rattle.souper_ir.proofs.parse.numbers.width.Goals as goal

pub returns-in_err-digits : goal.returns-in_err-digits
returns-in_err-digits c = c.from_residual.ensures ∙ width_of_no_prefix c.args.word.now c.strip_prefix.result c.strip_prefix.ensures.cases c.in_err-digits.was

pub returns-in-Ok : goal.returns-in-Ok
returns-in-Ok c =
    let front = digits_behind c.args.word.now c.strip_prefix.result c.strip_prefix.ensures.cases c.in_ok-digits.digits c.in_ok-digits.was in
    let digits = sym (are_digits-is c.in_ok-digits.digits.now) ∙ sym c.are_digits.ensures ∙ c.if-not-are_digits.false in
    let positive : 0 < c.in-Ok.width = omega (arith, c.in-Ok.width-test.1) in
    width_read c.args.word.now c.in_ok-digits.digits.now c.in-Ok.width c.parse.result front digits c.parse.ensures.value.0 c.in-Ok.is positive

pub returns-in-Err : goal.returns-in-Err
returns-in-Err c =
    let front = digits_behind c.args.word.now c.strip_prefix.result c.strip_prefix.ensures.cases c.in_ok-digits.digits c.in_ok-digits.was in
    let digits = sym (are_digits-is c.in_ok-digits.digits.now) ∙ sym c.are_digits.ensures ∙ c.if-not-are_digits.false in
    width_refused c.args.word.now c.in_ok-digits.digits.now c.parse.result c.in-Err.field-0 front digits c.parse.ensures.value.0 c.in-Err.is
