use Rattle.std.proofs.Common.{length, map}
use Rattle.souper_code.proofs.Items.{HasRead}
use Rattle.souper_code.proofs.decode.decode_items.Given as goal

-- the items so far were read
abbrev pub invariant-loop-reader : goal.invariant-loop-reader
invariant-loop-reader g l = HasRead g.T.Item.item_type l.code (map g.T.Item.view l.items.items) l.reader.rest.now

abbrev pub decreases-loop-reader : goal.decreases-loop-reader
decreases-loop-reader g l = length l.reader.rest.now
