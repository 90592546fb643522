use Rattle.std.proofs.Common.{rules}
use Rattle.souper_lexer.proofs.TokenTakes.{begins_int_with}
use Rattle.souper_lexer.proofs.Lexer.int_comes.Goals as goal

pub returns-in-len1-up : goal.returns-in-len1-up
returns-in-len1-up c comes = begins_int_with c.self.inside.offset c.self.inside.rest.now c.after_space.result.now c.args.self.now c.self.view_is c.after_space.ensures.rest (search rules) (search rules)
