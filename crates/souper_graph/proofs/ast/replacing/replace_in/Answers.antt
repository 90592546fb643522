use Rattle.std.proofs.Common.{◌<◌, ℕ, ◌∙◌, ap, map, length, arith}
use Rattle.std.specs.Prelude.{slice_set}
use Rattle.std.specs.List.{slice_get}
use Rattle.std.proofs.lemmas.List.{length-map}
use Rattle.souper_graph.specs.View.{view_statement}
use Rattle.souper_graph.specs.Replacing.{replaced_in}
use Rattle.souper_graph.proofs.Replacing.{statement-next, statement-there}
use Rattle.souper_graph.proofs.ast.replacing.replace_in.Goals as goal
use Rattle.souper_graph.proofs.ast.replacing.replace_in.Goals.{in-Some, in_default}

pub loop-index-preserved : goal.loop-index-preserved
loop-index-preserved c =
    let xs = map view_statement c.args.statements.now in
    let ss = c.loop-index.statements in
    let i = c.loop-index.index in
    let long = length-map c.args.statements.now view_statement in
    let within : i < length xs = omega (arith, c.loop-index-test.true, c.len-index-end.ensures) in
    elim c.match-get_mut.branch [
      | in-Some w ↦
          ap (map view_statement) w.statements-is
          ∙ ap (λ (n : ℕ). map view_statement (slice_set ss n w.replace_uses.new.self)) c.at.ensures
          ∙ statement-next (replaced_in c.args.of c.args.by.now) xs ss i w.in-Some.statement.now w.replace_uses.new.self
          c.loop-index.invariant within (w.in-Some.ensures.value ∙ ap (λ (n : ℕ). slice_get ss n) c.at.ensures) w.replace_uses.ensures
      | in_default w ↦
          statement-there (replaced_in c.args.of c.args.by.now) xs ss i
          c.loop-index.invariant within (w.in_default.ensures.value ∙ ap (λ (n : ℕ). slice_get ss n) c.at.ensures)
    ]
