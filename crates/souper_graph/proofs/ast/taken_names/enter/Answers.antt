use Rattle.std.proofs.Common.{◌≡◌, List, ℕ, true, ◌⊎◌, inl, subst}
use Rattle.std.specs.BTreeSet.{contains_text}
use Rattle.souper_graph.proofs.TakenNames.{inserted-kept, inserted-only, inserted-has}
use Rattle.souper_graph.proofs.ast.taken_names.enter.Goals as goal

pub returns-in_ok-insert-clause-kept : goal.returns-in_ok-insert-clause-kept
returns-in_ok-insert-clause-kept c = inserted-kept c.args.names.now c.insert.new.self c.in_ok-name.name c.in_ok-insert.ensures.updates

pub returns-in_ok-insert-clause-only : goal.returns-in_ok-insert-clause-only
returns-in_ok-insert-clause-only c = λ t h.
    subst (λ (n : List ℕ). (contains_text c.args.names.now t ≡ true) ⊎ (t ≡ n)) c.in_ok-name.ensures.ok
    (inserted-only c.args.names.now c.insert.new.self c.in_ok-name.name c.in_ok-insert.ensures.updates t h)

pub returns-in_ok-insert-clause-entered : goal.returns-in_ok-insert-clause-entered
returns-in_ok-insert-clause-entered c =
    inl (subst (λ (n : List ℕ). contains_text c.insert.new.self n ≡ true) c.in_ok-name.ensures.ok (inserted-has c.args.names.now c.insert.new.self c.in_ok-name.name c.in_ok-insert.ensures.updates))
