use Rattle.souper_hint.proofs.spelling.number_of_base.Goals as goal

pub returns : goal.returns
returns c = c.in_decimal.ensures c.args.scene.now.front.now

pub returns-2 : goal.returns-2
returns-2 c = c.in_decimal-2.ensures c.args.scene.now.front.now
