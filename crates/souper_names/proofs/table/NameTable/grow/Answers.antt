use Rattle.std.proofs.Common.{ℕ, List, [], ◌∷◌, ◌++◌, sym, ◌∙◌, ap, arith}
use Rattle.std.proofs.lemmas.List.{take_all}
use Rattle.souper_names.specs.TableView.{NameEntry}
use Rattle.souper_names.proofs.Tables.{take_at}
use Rattle.souper_names.proofs.table.NameTable.grow.Goals as goal

pub loop-index-init : goal.loop-index-init
loop-index-init c = c.in_ok-table.ensures

pub loop-index-preserved : goal.loop-index-preserved
loop-index-preserved c =
    c.in_ok-push.ensures ∙ ap (λ (xs : List (List ℕ × NameEntry)). xs ++ (c.nth.result.0.now, c.nth.result.1) ∷ []) c.loop-index.invariant
    ∙ sym (take_at c.args.self.now c.loop-index.index (c.nth.result.0.now, c.nth.result.1) c.nth.ensures)

pub returns : goal.returns
returns c =
    let end = c.len-index-end.ensures in
    let ended = c.loop-index-test.false in
    c.table-2.view_is ∙ c.loop-index.invariant ∙ take_all c.loop-index.index c.args.self.now (omega arith)
