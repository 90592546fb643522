use Rattle.std.proofs.Common.{rules}
use Rattle.souper_errors.proofs.Shown.Unstyled.{shows_styled, plainly}
use Rattle.souper_errors.proofs.unstyled.write_unstyled.Goals as goal

pub returns-clause-styled : goal.returns-clause-styled
returns-clause-styled g c =
    shows_styled g.W.Write.write_str_gives _ c.write.new.self _ c.write.result (g.D.Display.output c.args.value) (λ same. search rules) c.write.ensures.writes

pub returns-clause-writes : goal.returns-clause-writes
returns-clause-writes g c = plainly g.W.Write.write_str_gives _ _ c.write.result (g.D.Display.output c.args.value) (returns-clause-styled g c)
