use Rattle.std.proofs.Common.{◌∙◌, sym, ap}
use Rattle.souper_lexer.specs.TokenReading.{Lexed}
use Rattle.souper_lexer.proofs.TokenSteps.{lexed_len}
use Rattle.souper_lexer.proofs.Lexer.len.Goals as goal

pub returns : goal.returns
returns c = sym (lexed_len c.self.inside.offset c.self.inside.rest.now) ∙ ap (λ (x : Lexed). x.len) c.self.view_is
