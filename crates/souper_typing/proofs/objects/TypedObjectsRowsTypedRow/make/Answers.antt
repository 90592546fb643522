use Rattle.std.proofs.Common.{◌≡◌, ◌++◌, refl, ap, ◌∙◌, string_bytes}
use Rattle.souper_graph.specs.Values.{Item}
use Rattle.souper_widths.specs.View.{view_widths}
use Rattle.souper_untyped.specs.Says.{says_of}
use Rattle.souper_records.specs.Uniques.{text_by}
use Rattle.souper_typing.proofs.objects.TypedObjectsRowsTypedRow.make.Goals as goal

pub append_last_text-requires : goal.append_last_text-requires
append_last_text-requires g c = c.in-Ok.ensures.written.well_formed

pub returns-in_ok-from_str-in-Ok : goal.returns-in_ok-from_str-in-Ok
returns-in_ok-from_str-in-Ok g c =
    let b = g.T.Item.view c.write_well_formed_widths.new.item in
    let said : string_bytes c.in_ok-from_str-in-Ok.field-0 ≡ text_by c.args.self.now.rename b =
    c.in_ok-from_str-in-Ok.ensures.ok ∙ c.as_str.ensures.value ∙ c.in_ok-append_last_text-in-Ok.ensures.text ∙ (λ i. c.clear.ensures.bytes i ++ text_by c.args.self.now.rename b) in
    (view_widths c.in-Ok.widths, b, c.in-Ok.ensures.written, said, refl)

pub returns-in_ok-new-in-Err-Flawed : goal.returns-in_ok-new-in-Err-Flawed
returns-in_ok-new-in-Err-Flawed g c =
    let flaw = c.in-Err-Flawed.flaw in
    let is = rw c.in-Err-Flawed.field-0-is at c.in-Err-Flawed.ensures.flawed in
    (flaw, is.1, c.in_ok-new-in-Err-Flawed.ensures ∙ ap (λ (a : Item). says_of a flaw) c.in-Err-Flawed.ensures.kept)
