use Rattle.std.proofs.Common.{◌≡◌, List, length}
use Rattle.std.specs.String.{string_bytes}
use Rattle.souper_graph.specs.Values.{Item}
use Rattle.souper_code.specs.Judging.{Judged}
use Rattle.souper_code.proofs.Items.{HasRead}
use Rattle.souper_code.proofs.write.write_items.Given as goal

-- the items so far were read and judged
abbrev pub invariant-loop-reader : goal.invariant-loop-reader
invariant-loop-reader g l = (done : List Item) × record {
  read : HasRead g.T.Item.item_type l.code done l.reader.rest.now;
  count : length done ≡ l.index;
  judged : Judged done l.texts.ill_formed (string_bytes l.texts.text);
}

abbrev pub decreases-loop-reader : goal.decreases-loop-reader
decreases-loop-reader g l = length l.reader.rest.now
