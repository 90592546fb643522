use Rattle.std.proofs.Common.{ℕ, List, Option, Some, string_bytes, inr, refl, ap, sym, subst}
use Rattle.souper_errors.specs.declared.error.Refusal.{Refusal}
use Rattle.souper_errors.specs.Errors.{IsLocationIn}
use Rattle.souper_errors.specs.Places.{IsPlace, shown_refusal, file_or_unknown}
use Rattle.souper_errors.proofs.error.locate_refusal.Goals as goal

pub returns-in-Ok-clause-placed : goal.returns-in-Ok-clause-placed
returns-in-Ok-clause-placed c =
    let place = c.in-Ok.places.place in
    let (shown, located) = c.in-Ok.ensures in
    let message = string_bytes c.deref_mut.result.now.message in
    inr (
      refl,
      ap (λ (r : Refusal). Some r.offset) c.deref_mut.ensures.value,
      record {
        message = message;
        line = place.line;
        column = place.column;
        text = string_bytes place.text;
        is_place = subst (λ (r : Refusal). IsPlace c.args.source.now r.offset place.line place.column (string_bytes place.text)) c.deref.ensures shown.1;
        line_is = refl;
        column_is = refl;
        message_is = refl;
        shown_is = ap (λ (file : Option (List ℕ)). Some (shown_refusal (file_or_unknown file) place.line place.column (string_bytes place.text) message)) shown.0;
      },
    )

pub returns-in-Ok-clause-location : goal.returns-in-Ok-clause-location
returns-in-Ok-clause-location c kind =
    let location = c.in-Ok.places.location in
    let source = c.args.source.now in
    let (shown, located) = c.in-Ok.ensures in
    record {
      location = location;
      offset = c.args.refusal.value.offset;
      location_is = refl;
      offset_is = ap (λ (r : Refusal). Some r.offset) c.deref_mut.ensures.value;
      is_location = subst (λ (r : Refusal). IsLocationIn source c.args.refusal.value.offset r.at_end location) (sym c.deref_mut.ensures.value)
          (subst (λ (r : Refusal). IsLocationIn source r.offset c.args.refusal.value.at_end location) c.deref.ensures
          (subst (λ (r : Refusal). IsLocationIn source c.deref.result.now.offset r.at_end location) c.deref-2.ensures located));
    }
