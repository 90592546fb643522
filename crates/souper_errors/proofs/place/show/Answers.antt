use Rattle.std.proofs.Common.{◌∙◌, ap, decimal, refl, arith}
use Rattle.std.specs.Fmt.{styled_decimal}
use Rattle.souper_errors.proofs.Shown.Lines.{shown_by_writes, padded_right}
use Rattle.souper_errors.proofs.place.show.Goals as goal

pub returns : goal.returns
returns g c plain ok =
    let first = c.in_ok-write.ensures.writes plain refl in
    let second = c.in_ok-write-2.ensures.writes first.plain refl in
    let third = c.loop.invariant.1 second.plain in
    let fourth = c.write-3.ensures.writes third.plain ok in
    let aligned = ap (λ s. styled_decimal s c.args.line.number) c.laid_out.ensures ∙ padded_right (decimal c.args.line.number) in
    shown_by_writes g.W.Write.write_str_gives _ _ _ _ _ _ c.args.file.now c.args.line.text.now c.args.message.now
    c.args.line.number c.args.line.column c.loop.counter aligned (omega arith) first second third fourth
