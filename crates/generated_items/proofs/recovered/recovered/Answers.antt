use Rattle.std.proofs.Common.{[], ◌∷◌, ◌++◌, sym}
use Rattle.generated_items.proofs.recovered.recovered.Goals as goal
use Rattle.generated_items.proofs.recovered.recovered.Goals.{in-Ok-true+in_ok-add_part-in-Ok-true, in-Err+in-Parse+in_ok-add_part-in-Parse+in_ok-add_error-in-Parse+in-Parse-1, in-Err+in-Parse+in_ok-add_part-in-Parse+in_ok-add_error-in-Parse+in-Io-1}

pub loop-turn-init : goal.loop-turn-init
loop-turn-init g c = (g.R.Read.remaining c.args.reader.now, [], c.requires g.T.Item.item_type (g.R.Read.remaining c.args.reader.now))

pub loop-turn-preserved : goal.loop-turn-preserved
loop-turn-preserved g c =
    let start = c.loop-turn.invariant.0 in
    let ps = c.loop-turn.invariant.1 in
    let had = c.loop-turn.invariant.2 in
    elim c.match-read_part.branch [
      | in-Ok-true+in_ok-add_part-in-Ok-true w ↦ (let t = w.in-Ok-true.ensures.read w.in-Ok-true.field-0-test start ps had in (start, ps ++ t.part ∷ [], t.goes_on))
      | in-Err+in-Parse+in_ok-add_part-in-Parse+in_ok-add_error-in-Parse+in-Parse-1 w ↦ (let t = w.in-Err.ensures.refused (sym w.in-Parse.ensures) start ps had in (start, ps ++ t.part ∷ [], t.goes_on))
      | in-Err+in-Parse+in_ok-add_part-in-Parse+in_ok-add_error-in-Parse+in-Io-1 w ↦ (let t = w.in-Err.ensures.refused (sym w.in-Parse.ensures) start ps had in (start, ps ++ t.part ∷ [], t.goes_on))
    ]
