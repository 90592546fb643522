use Rattle.std.proofs.Common.{[]}
use Rattle.souper_format.proofs.OneGraph.{formatted_spells, formatted_again}
use Rattle.souper_format.proofs.texts.texts_of_source.Goals as goal

pub returns-clause-formatted : goal.returns-clause-formatted
returns-clause-formatted g c =
    let taken = c.in_ok-parse_into.ensures.taken in
    (taken.0, taken.1, taken.2 c.parse_into.new.sink [] c.new.ensures.bytes)

pub returns-clause-reads_back : goal.returns-clause-reads_back
returns-clause-reads_back g c = formatted_spells g.T.Item.item_type c.args.source.now _ (returns-clause-formatted g c)

pub returns-clause-again : goal.returns-clause-again
returns-clause-again g c = formatted_again g.T.Item.item_type c.args.source.now _ (returns-clause-formatted g c)
