use Rattle.std.proofs.Common.{◌≡◌, List, ℕ, ◌∙◌, ap, subst, decimal}
use Rattle.std.specs.Prelude.{IfOk, string_bytes}
use Rattle.std.specs.Fmt.{styled_decimal}
use Rattle.souper_errors.proofs.Shown.Lines.{padded_right}
use Rattle.souper_records.proofs.report.aligned.Goals as goal

pub returns : goal.returns
returns c =
    let aligned = ap (λ s. styled_decimal s c.args.number) c.laid_out.ensures ∙ padded_right (decimal c.args.number) in
    subst (λ (bytes : List ℕ). IfOk c.format.result (λ text. string_bytes text ≡ bytes)) aligned c.format.ensures.ok
