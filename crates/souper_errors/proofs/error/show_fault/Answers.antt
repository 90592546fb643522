use Rattle.std.proofs.Common.{List, ℕ, ◌++◌, refl}
use Rattle.std.specs.Prelude.{Some, codes}
use Rattle.std.specs.Fmt.{WritesStyledOnOk}
use Rattle.souper_errors.proofs.Shown.Unstyled.{plainly, styled_two}
use Rattle.souper_errors.proofs.error.show_fault.Goals as goal

pub returns : goal.returns
returns g c = λ ok.
    let took = g.W.Write.write_str_gives in
    let shown : List ℕ = c.as_str.result.now in
    let all : List ℕ = codes "IO error: " ++ shown in
    let styled : WritesStyledOnOk took c.args.f.now c.write_str-2.result all c.write_str-2.new.self = λ flush done.
    let first = c.in_ok-write_str.ensures.styled flush refl in
    styled_two took _ _ _ _ _ all first (c.write_str-2.ensures.styled first.flush done) refl in
    (shown, plainly took _ _ c.write_str-2.result (Some all) styled, styled)
