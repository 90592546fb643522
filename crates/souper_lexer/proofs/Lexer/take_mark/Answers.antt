use Rattle.std.proofs.Common.{rules}
use Rattle.souper_lexer.proofs.TokenTakes.{takes_mark}
use Rattle.souper_lexer.proofs.Lexer.take_mark.Goals as goal

pub returns-clause-taken : goal.returns-clause-taken
returns-clause-taken c t h = takes_mark c.self.inside.offset c.self.inside.rest.now c.after_space-text.result.now c.args.self.now c.self.view_is c.after_space-text.ensures.rest (search rules)
    c.args.mark (search rules) t h c.after_first-rest.result.now c.after_first-rest.ensures
