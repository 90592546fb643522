use Rattle.std.proofs.Common.{refl, ap, sym, ◌∙◌}
use Rattle.souper_ir.specs.Parsing.{Parsing}
use Rattle.souper_ir.specs.Reading.{cause_of}
use Rattle.souper_ir.proofs.Nodes.Failing.{refused_fails, refused_for}
use Rattle.souper_errors.specs.Errors.{error_of}
use Rattle.souper_ir.proofs.parse.parser.Parser.fail_at.Goals as goal

pub returns-in-Ok : goal.returns-in-Ok
returns-in-Ok c = record {
  fails = refused_fails (error_of c.in-Ok.error) c.args.self.now _ c.args.offset c.in-Ok.ensures.0 c.in-Ok.ensures.1 c.requires.within c.requires.again
      refl (λ e. ap (λ (p : Parsing). p.tokens) c.self.view_is ∙ c.requires.at_end (sym c.in-Ok.ensures.2 ∙ e)) (ap (λ (p : Parsing). p.len) c.self.view_is);
  at_end = refused_for (cause_of (error_of c.in-Ok.error)) c.in-Ok.ensures.2;
  not_at_end = λ e. c.in-Ok.ensures.2 ∙ e;
}
