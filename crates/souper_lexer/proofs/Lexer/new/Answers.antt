use Rattle.std.proofs.Common.{◌∙◌, zero-add, length}
use Rattle.souper_lexer.proofs.TokenSteps.{lexed_len}
use Rattle.souper_lexer.proofs.TokenLaws.{tokens_law, cut_law, text_tokens}
use Rattle.souper_lexer.proofs.Lexer.new.Goals as goal

pub returns-clause-tokens : goal.returns-clause-tokens
returns-clause-tokens c = tokens_law c.args.source.now c.utf8.source

pub returns-clause-cut : goal.returns-clause-cut
returns-clause-cut c = cut_law c.args.source.now c.utf8.source

pub returns-clause-only : goal.returns-clause-only
returns-clause-only c = λ ts h. text_tokens c.args.source.now ts h

pub returns-clause-len : goal.returns-clause-len
returns-clause-len c = lexed_len 0 c.args.source.now ∙ zero-add (length c.args.source.now)
