use Rattle.std.proofs.Common.{sym, ap, ◌∙◌, subst}
use Rattle.std.proofs.lemmas.Result.{err_from_is_err_and}
use Rattle.souper_graph.specs.Values.{Item}
use Rattle.souper_graph.specs.View.{view_left_hand_side, view_replacement}
use Rattle.souper_graph.specs.WellFormed.{WellFormed}
use Rattle.souper_graph.specs.LeftSides.{IsLeftOf}
use Rattle.souper_lookup.specs.Stored.{key_of_left}
use Rattle.souper_graph.proofs.Lefts.{left-well}
use Rattle.souper_lookup.proofs.keys.left_key.Goals as goal

pub returns-in_err-key_of_left-in-Some-clause-memory : goal.returns-in_err-key_of_left-in-Some-clause-memory
returns-in_err-key_of_left-in-Some-clause-memory c = λ w.
    let a = view_replacement c.args.replacement.now in
    let l : IsLeftOf (view_left_hand_side c.in-Some.left) a = rw c.in-Some.is at c.in_ok-left.ensures in
    let p = err_from_is_err_and c.from_residual-in_err-key_of_left-in-Some.result c.from_residual-in_err-key_of_left-in-Some.ensures.1 in
    rw (p.1, p.2) (c.in_err-key_of_left-in-Some.ensures.memory (subst (λ (x : Item). WellFormed x) (sym l.is) (left-well a l.infer l.line w)))

pub returns-in_ok-key_of_left-in-Some-clause-key : goal.returns-in_ok-key_of_left-in-Some-clause-key
returns-in_ok-key_of_left-in-Some-clause-key c = λ w.
    let a = view_replacement c.args.replacement.now in
    let l : IsLeftOf (view_left_hand_side c.in-Some.left) a = rw c.in-Some.is at c.in_ok-left.ensures in
    record {
      infer = l.infer;
      line = l.line;
      is = c.in_ok-key_of_left-in-Some.ensures.text (subst (λ (x : Item). WellFormed x) (sym l.is) (left-well a l.infer l.line w)) ∙ ap key_of_left l.is;
    }
