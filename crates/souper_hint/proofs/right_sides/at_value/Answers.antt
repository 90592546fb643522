use Rattle.souper_hint.proofs.right_sides.at_value.Goals as goal

pub returns : goal.returns
returns c = c.in-Some.ensures c.args.scene.now.front.now
