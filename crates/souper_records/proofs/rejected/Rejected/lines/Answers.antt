use Rattle.std.proofs.Common.{◌++◌, ◌∙◌, ℕ, List, ap, string_bytes}
use Rattle.souper_records.proofs.rejected.Rejected.lines.Goals as goal

pub returns : goal.returns
returns c =
    let line = string_bytes c.in_ok-lines.lines in
    (line, c.in_ok-lines.ensures, c.in_ok-push_str.ensures.bytes ∙ ap (λ (x : List ℕ). line ++ x) (c.as_str.ensures.value ∙ c.in_ok-hint.ensures))
