use Rattle.souper_stream.proofs.Cutting.{no_end_uncut}
use Rattle.souper_stream.proofs.cuts.last_cut.Goals as goal

pub returns-in-None-clause-last : goal.returns-in-None-clause-last
returns-in-None-clause-last g c = λ utf8 whole ls e lines. no_end_uncut g.T.Item.item_type ls c.args.text.now e lines whole utf8 c.in-None.ensures.none
