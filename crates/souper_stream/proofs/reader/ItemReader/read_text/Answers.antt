use Rattle.std.proofs.Common.{take, ap, ◌∙◌}
use Rattle.std.proofs.lemmas.Result.{IfErr-weaker, on_ok_weaker}
use Rattle.souper_stream.proofs.Prelude.{TextSpellsFrom, PrefixSpellsFrom}
use Rattle.souper_stream.proofs.Buffers.{items_over, within_text, prefix_ascends}
use Rattle.souper_stream.proofs.reader.ItemReader.read_text.Goals as goal

pub returns-clause-refused : goal.returns-clause-refused
returns-clause-refused g c = IfErr-weaker c.parse_with_memory.result _ _ (λ e h kind. rw (← c.unparsed.ensures, ← c.in-Ok.ensures.same) h) c.parse_with_memory.ensures.refused

pub returns-clause-over : goal.returns-clause-over
returns-clause-over g c = items_over g.S.Sink.holds g.T.Item.item_type c.in-Ok.text.now c.args.sink.now c.parse_with_memory.new.sink c.parse_with_memory.result c.parse_with_memory.ensures.refused c.parse_with_memory.ensures.before

pub returns-clause-ascend : goal.returns-clause-ascend
returns-clause-ascend g c =
    let text = c.in-Ok.text.now in
    on_ok_weaker c.parse_with_memory.result (within_text g.S.Sink.holds (TextSpellsFrom g.T.Item.item_type text) text c.args.self.now.buffer c.args.len c.args.self.now.memory c.parse_with_memory.new.memory c.args.sink.now c.parse_with_memory.new.sink c.requires (c.in-Ok.ensures.same ∙ ap (take c.args.len) c.unparsed.ensures) (λ items starts s. prefix_ascends g.T.Item.item_type text items starts (s.0, s.1.0, s.1.1, s.2)))
    c.parse_with_memory.ensures.starts

pub returns-clause-ascend_before : goal.returns-clause-ascend_before
returns-clause-ascend_before g c =
    let text = c.in-Ok.text.now in
    IfErr-weaker c.parse_with_memory.result _ _ (λ e h kind. within_text g.S.Sink.holds (PrefixSpellsFrom g.T.Item.item_type text) text c.args.self.now.buffer c.args.len c.args.self.now.memory c.parse_with_memory.new.memory c.args.sink.now c.parse_with_memory.new.sink c.requires (c.in-Ok.ensures.same ∙ ap (take c.args.len) c.unparsed.ensures) (prefix_ascends g.T.Item.item_type text) (h kind))
    c.parse_with_memory.ensures.starts_before
