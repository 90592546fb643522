use Rattle.std.proofs.Common.{refl, rules}
use Rattle.souper_lexer.proofs.TokenTakes.{begins_comma}
use Rattle.souper_lexer.proofs.Lexer.comma_comes.Goals as goal

pub returns-in-44 : goal.returns-in-44
returns-in-44 c comes = begins_comma c.self.inside.offset c.self.inside.rest.now c.self.inside.rest.now c.args.self.now c.self.view_is refl (search rules) (search rules)
