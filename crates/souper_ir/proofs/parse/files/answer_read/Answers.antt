use Rattle.std.proofs.Common.{sym, subst}
use Rattle.souper_ir.specs.Files.{AnswersText, AnswersRead}
use Rattle.souper_ir.proofs.parse.files.answer_read.Goals as goal

pub returns-in-Ok : goal.returns-in-Ok
returns-in-Ok g c =
    let k = g.T.Item.item_type in
    let view = g.T.Item.view in
    let path = c.args.path.now in
    let answer = c.parse_items.result in
    subst (λ read. AnswersRead k view path read answer) (sym c.in-Ok.is)
    (subst (λ source. AnswersText k view path source answer) c.as_str.ensures.value
    (record {
      spelled = c.parse_items.ensures.spelled;
      well_formed = c.parse_items.ensures.well_formed;
      each_closed = c.parse_items.ensures.each_closed;
      refused = c.parse_items.ensures.refused;
      stops = c.parse_items.ensures.stops;
      gaps = c.parse_items.ensures.gaps;
    }))
