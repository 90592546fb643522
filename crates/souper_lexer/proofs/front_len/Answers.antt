use Rattle.std.proofs.Common.{◌≡◌, arith}
use Rattle.std.proofs.lemmas.Grind.{common_steps}
use Rattle.std.specs.List.{prefix_len}
use Rattle.souper_lexer.specs.TokenView.{is_in}
use Rattle.souper_lexer.proofs.TokenText.{class_boundary}
use Rattle.souper_lexer.proofs.front_len.Goals as goal

pub returns-else-is_in-clause-boundary : goal.returns-else-is_in-clause-boundary
returns-else-is_in-clause-boundary c =
    let e : c.loop-n.n ≡ prefix_len (is_in c.args.class) c.args.text.now = grind (arith, common_steps) in
    class_boundary c.args.text.now c.args.class c.loop-n.n e c.utf8.text
