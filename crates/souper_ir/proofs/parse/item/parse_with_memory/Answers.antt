use Rattle.std.proofs.Common.{◌≡◌, ◌∙◌, ap}
use Rattle.std.proofs.lemmas.Result.{on_ok_weaker, IfErr-weaker}
use Rattle.souper_errors.specs.Errors.{kind_of}
use Rattle.souper_errors.specs.declared.error.ParseErrorKind.TheVariants.{Parse}
use Rattle.souper_ir.specs.Starts.{TextSpellsFrom, PrefixSpellsFrom, TakesFrom, HasStarts, Keeps}
use Rattle.souper_ir.proofs.Items.Starts.{only_from, restarted}
use Rattle.souper_ir.proofs.parse.item.parse_with_memory.Goals as goal

pub returns-clause-starts : goal.returns-clause-starts
returns-clause-starts g c = on_ok_weaker c.whole_text-parsed.result
    (only_from g.S.Sink.holds (TextSpellsFrom g.T.Item.item_type c.args.source.now) c.args.memory.now c.into_memory.result c.restart.new.self c.whole_text-parsed.new.kept c.args.sink.now c.whole_text-parsed.new.sink (c.restart.ensures ∙ ap restarted c.replace-spare.ensures.value) c.into_memory.ensures)
    c.whole_text-parsed.ensures.starts

pub returns-clause-starts_before : goal.returns-clause-starts_before
returns-clause-starts_before g c =
    let before = PrefixSpellsFrom g.T.Item.item_type c.args.source.now in
    let old = c.args.sink.now in
    let new = c.whole_text-parsed.new.sink in
    IfErr-weaker c.whole_text-parsed.result
    (λ e. kind_of e ≡ Parse → TakesFrom g.S.Sink.holds before (Keeps c.restart.new.self c.whole_text-parsed.new.kept) old new)
    (λ e. kind_of e ≡ Parse → TakesFrom g.S.Sink.holds before (HasStarts c.args.memory.now c.into_memory.result) old new)
    (λ e h kind. only_from g.S.Sink.holds before c.args.memory.now c.into_memory.result c.restart.new.self c.whole_text-parsed.new.kept old new (c.restart.ensures ∙ ap restarted c.replace-spare.ensures.value) c.into_memory.ensures (h kind))
    c.whole_text-parsed.ensures.starts_before
