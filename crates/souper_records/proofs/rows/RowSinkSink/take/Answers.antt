use Rattle.std.proofs.lemmas.Slice.Zip.{all_zipped_more}
use Rattle.souper_records.proofs.rows.RowSinkSink.take.Goals as goal

pub returns : goal.returns
returns g c = λ first items held.
    let is = rw held.0 at c.in_ok-made.ensures in
    (held.0, rw c.in_ok-push.ensures.items (all_zipped_more (g.M.Rows.makes first.maker) items c.args.self.now.rows.items (g.T.Item.view c.args.item) c.in_ok-made.made held.1 is))
