use Rattle.std.proofs.Common.{◌≡◌, ◌<◌, [], length, sym, ◌∙◌, ap, rules}
use Rattle.std.proofs.lemmas.List.{nil_from_length}
use Rattle.std.specs.Str.Parse.{digits_value_after}
use Rattle.souper_graph.specs.Syntax.Numbers.{are_digits}
use Rattle.souper_ir.proofs.Nodes.Numerals.{numeral_is}
use Rattle.souper_ir.proofs.parse.numbers.short_number.Goals as goal

pub returns-clause-numeral : goal.returns-clause-numeral
returns-clause-numeral c =
    let some : 0 < length c.args.digits.now = search rules in
    let over : c.loop-byte.byte-iterator.rest.now ≡ [] = nil_from_length _ (search rules) in
    numeral_is c.args.digits.now some (sym c.loop-byte.invariant.0 ∙ ap are_digits over)

pub returns-clause-value : goal.returns-clause-value
returns-clause-value c =
    let over : c.loop-byte.byte-iterator.rest.now ≡ [] = nil_from_length _ (search rules) in
    sym c.loop-byte.invariant.1 ∙ ap (digits_value_after 10 c.loop-byte.value) over
