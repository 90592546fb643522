use Rattle.std.proofs.Common.{[]}
use Rattle.std.specs.Prelude.{option_copied}
use Rattle.souper_ir.proofs.Items.Texts.{all_spelled, is_text, gap_text, located_answer, taken_before}
use Rattle.souper_ir.proofs.Items.Stopping.{text_stops}
use Rattle.souper_ir.proofs.Items.WellFormed.{text_lexemes}
use Rattle.souper_ir.proofs.parse.item.whole_text.Goals as goal

pub items-requires-clause-lexemes : goal.items-requires-clause-lexemes
items-requires-clause-lexemes g c = text_lexemes c.args.source.now c.args.parser.now.tokens c.args.parser.now.faulty c.requires.tokens

pub returns-in-Ok-clause-taken : goal.returns-in-Ok-clause-taken
returns-in-Ok-clause-taken g c = (
  c.in-Ok.ensures.ok.0,
  all_spelled g.T.Item.item_type _ c.args.source.now c.args.parser.now c.requires.tokens c.in-Ok.ensures.ok.2,
  c.in-Ok.ensures.ok.4,
)

pub returns-in-Ok-clause-starts : goal.returns-in-Ok-clause-starts
returns-in-Ok-clause-starts g c = record {
  items = c.in-Ok.ensures.ok.0;
  starts = c.in-Ok.ensures.ok.1;
  spelled = (c.args.parser.now.tokens, is_text c.args.source.now c.args.parser.now.tokens c.args.parser.now.faulty c.requires.tokens c.in-Ok.ensures.ok.2.sound, c.in-Ok.ensures.ok.3);
  taken = c.in-Ok.ensures.ok.4;
  has = c.in-Ok.ensures.ok.5;
}

pub returns-in-Ok-clause-gaps : goal.returns-in-Ok-clause-gaps
returns-in-Ok-clause-gaps g c = λ h.
    let none = c.requires.only [] (gap_text c.args.source.now h) in
    c.in-Ok.ensures.ended none.0 none.1 c.requires.live

pub returns-in-Err : goal.returns-in-Err
returns-in-Err g c =
    let k = g.T.Item.item_type in
    let file = option_copied c.args.filename in
    let bs = c.args.source.now in
    let e = c.in-Err.error in
    let located = c.locate.ensures.located in
    let before = taken_before g.S.Sink.holds k _ file bs e c.locate.result c.args.parser.now c.args.sink.now c.items.new.sink c.requires.tokens located c.in-Err.ensures.first in record {
      taken = tt;
      starts = tt;
      refused = located_answer k file bs e c.locate.result c.args.parser.now c.items.new.parser c.requires.live c.requires.len c.requires.only c.in-Err.ensures.err c.locate.ensures.location located;
      stops = text_stops k file bs e c.locate.result c.args.parser.now c.requires.tokens c.requires.cut c.requires.scope c.requires.live located c.locate.ensures.at_end c.in-Err.ensures.stops;
      before = λ kind. (before kind).0;
      starts_before = λ kind. (before kind).1;
      asked = c.in-Err.ensures.asked;
      gaps = λ h. let none = c.requires.only [] (gap_text bs h) in absurd (c.in-Err.ensures.ended none.0 none.1 c.requires.live);
    }
