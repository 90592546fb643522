use Rattle.std.proofs.Common.{rules}
use Rattle.souper_lexer.proofs.TokenTakes.{takes_int}
use Rattle.souper_lexer.proofs.Lexer.take_int.Goals as goal

pub returns-clause-taken : goal.returns-clause-taken
returns-clause-taken c = takes_int c.self.inside.offset c.self.inside.rest.now c.after_space-text.result.now c.args.self.now c.self.view_is c.after_space-text.ensures.rest (search rules)
    c.split_run.result.0.now c.split_run.result.1.now (search rules) c.split_run.ensures.run c.split_run.ensures.rest
