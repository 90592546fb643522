use Rattle.std.proofs.Common.{inl, inr, refl, sym, ◌∙◌}
use Rattle.souper_width_calls.proofs.widths_of_code.Goals as goal

pub returns-in-Ok : goal.returns-in-Ok
returns-in-Ok g c = inl (g.T.Item.view c.in-Ok.item, c.decode.new.reader.rest.now, c.in-Ok.ensures.read.0, sym c.new-reader.ensures ∙ c.in-Ok.ensures.read.1, c.answer.ensures)

pub returns-in-Err-NoCode : goal.returns-in-Err-NoCode
returns-in-Err-NoCode g c =
    let only = (rw c.in-Err-NoCode.field-0-is at c.in-Err-NoCode.ensures).only in
    inr (inl (c.without.ensures, (λ x rest fits e. only x rest fits (c.new-reader.ensures ∙ e)), refl))
