use Rattle.std.proofs.Common.{ℕ, List, [], ◌∷◌, ◌++◌, sym, ◌∙◌, subst}
use Rattle.std.specs.String.{string_bytes}
use Rattle.souper_graph.specs.View.{view_left_hand_side}
use Rattle.souper_calls.specs.Answers.{AreGroups}
use Rattle.souper_calls.proofs.Groups.{groups-more}
use Rattle.souper_calls.proofs.answers.GroupsSinkLeftHandSide.take.Goals as goal

pub returns-in-Ok : goal.returns-in-Ok
returns-in-Ok c = λ first items held. (
  c.append.ensures.store ∙ held.0,
  λ entries h. (
      let q = view_left_hand_side c.args.item in
      let (group, is, more) = (rw held.0 at c.in-Ok.ensures.group) c.requires entries h in
      subst (λ (bytes : List ℕ). AreGroups entries (items ++ q ∷ []) bytes) (sym more) (groups-more entries items q (string_bytes c.args.self.now.out) group (held.1 entries h) is)),
)
