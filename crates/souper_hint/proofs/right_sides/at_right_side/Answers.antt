use Rattle.souper_hint.proofs.right_sides.at_right_side.Goals as goal

pub returns : goal.returns
returns c = c.of_word.ensures c.args.scene.now.front.now
