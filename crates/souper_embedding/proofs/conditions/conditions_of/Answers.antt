use Rattle.std.proofs.Common.{ℕ, ◌<◌, ◌++◌, [], ◌∷◌, length, map, true, false, Vec, Global, sym, ap, ◌∙◌, append-nil, arith}
use Rattle.std.proofs.lemmas.List.{length-map}
use Rattle.souper_graph.specs.View.{view_statement}
use Rattle.souper_graph.proofs.Judging.Needed.{statement_at, stands}
use Rattle.souper_embedding.proofs.ConditionLists.{conditions-more}
use Rattle.souper_embedding.proofs.conditions.conditions_of.Goals as goal
use Rattle.souper_embedding.proofs.conditions.conditions_of.Goals.{then-is_condition_at+in_ok-push, else-is_condition_at}

pub loop-index-preserved : goal.loop-index-preserved
loop-index-preserved c =
    let ss = map view_statement c.args.statements.now in
    let n = c.loop-index.index in
    let l : n < length ss = (let e = length-map c.args.statements.now view_statement in let m = c.len-index-end.ensures in omega arith) in
    let at = stands ss n l in
    let test = c.is_condition_at.ensures.test (statement_at ss n) at in
    elim c.if-is_condition_at.branch [
      | then-is_condition_at+in_ok-push w ↦
          ap (λ (v : Vec ℕ Global). v.items) w.found-is ∙ w.in_ok-push.ensures.items ∙ ap (λ z. z ++ n ∷ []) c.loop-index.invariant
          ∙ sym (conditions-more ss n (statement_at ss n) true at (sym w.if-is_condition_at.true ∙ test))
      | else-is_condition_at w ↦
          ap (λ (v : Vec ℕ Global). v.items) w.found-is ∙ sym (append-nil c.loop-index.found.items) ∙ ap (λ z. z ++ []) c.loop-index.invariant
          ∙ sym (conditions-more ss n (statement_at ss n) false at (sym w.if-is_condition_at.false ∙ test))
    ]
