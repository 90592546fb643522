use Rattle.souper_ir.specs.Laws.Peeks.{peeked}
use Rattle.examples_using.proofs.Terms.{of_number, of_operation}
use Rattle.examples_using.proofs.fragments.read_term.Goals as goal
use Rattle.examples_using.proofs.fragments.read_term.Goals.{then-branch+in_ok-parse, else-branch+in_ok-parse-2}

pub returns : goal.returns
returns c =
    let same = (peeked _ c.new-parser.result c.peek.new.parser c.in_ok-peek.field-0 c.in_ok-peek.ensures.0).0 in
    elim c.if-branch.branch [
      | then-branch+in_ok-parse w ↦ of_operation c.args.source.now _ c.if-branch.term c.in_ok-numbers.numbers.items c.new-parser.result c.peek.new.parser w.parse.new.parser c.if-branch.parser c.parse-2.new.parser
          c.new-parser.ensures.tokens c.new-parser.ensures.scope same w.term-is w.in_ok-parse.ensures.ok w.parser-is c.in_ok-numbers.ensures.ok
      | else-branch+in_ok-parse-2 w ↦ of_number c.args.source.now _ c.if-branch.term c.in_ok-numbers.numbers.items c.new-parser.result c.peek.new.parser w.parse-else-branch.new.parser c.if-branch.parser c.parse-2.new.parser
          c.new-parser.ensures.tokens same w.term-is w.in_ok-parse-2.ensures.ok w.parser-is c.in_ok-numbers.ensures.ok
    ]
