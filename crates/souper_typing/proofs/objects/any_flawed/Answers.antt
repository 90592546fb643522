use Rattle.std.proofs.Common.{◌||◌, arith, sym, ap, ◌∙◌}
use Rattle.std.proofs.lemmas.List.Folds.{list_any_more}
use Rattle.souper_typing.specs.Objects.{is_flawed_row}
use Rattle.souper_typing.proofs.objects.any_flawed.Goals as goal

pub loop-row-preserved : goal.loop-row-preserved
loop-row-preserved c =
    (λ i. c.loop-row.invariant i || (c.is_flawed-any.ensures ∙ ap is_flawed_row c.row-item.is) i) ∙ sym (list_any_more is_flawed_row c.args.rows.now c.loop-row.row-index c.row-item.result (omega arith))
