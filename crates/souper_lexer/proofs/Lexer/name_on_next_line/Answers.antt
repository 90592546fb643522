use Rattle.std.proofs.Common.{rules}
use Rattle.souper_lexer.proofs.TokenTakes.{begins_name}
use Rattle.souper_lexer.proofs.Lexer.name_on_next_line.Goals as goal

pub returns-in-10 : goal.returns-in-10
returns-in-10 c comes = begins_name c.self.inside.offset c.self.inside.rest.now c.args.self.now c.self.view_is (search rules) (search rules) (search rules) (search rules)
