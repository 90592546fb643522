use Rattle.std.proofs.Common.{◌≡◌, ℕ, ◌+◌, ◌++◌, length, length-append, Option, Some, string_bytes, inr, inl, refl, ap, sym, ◌∙◌, subst, arith}
use Rattle.souper_errors.specs.declared.error.Refusal.{Refusal}
use Rattle.souper_errors.specs.declared.place.Place.{Place}
use Rattle.souper_errors.specs.declared.place.Places.{Places}
use Rattle.souper_errors.specs.Errors.{IsLocationIn, shown_by_place}
use Rattle.std.specs.Prelude.{option_map}
use Rattle.souper_errors.specs.Places.{newlines, AtFault, IsPlace, shown_refusal, file_or_unknown}
use Rattle.souper_errors.proofs.Shown.After.{fault_after, fault_within, line_fits, place_after}
use Rattle.souper_errors.proofs.error.locate_after.Goals as goal

pub returns-in-Ok-clause-placed : goal.returns-in-Ok-clause-placed
returns-in-Ok-clause-placed c = inr (λ text b some fits.
    let source = c.args.source.now in
    let place = c.in-Ok.places.place in
    let (shown, located) = c.in-Ok.ensures in
    let o : ℕ = c.args.skipped + c.args.refusal.value.offset in
    let at : c.args.skipped + c.deref.result.now.offset ≡ o = ap (λ (r : Refusal). c.args.skipped + r.offset) c.deref.ensures in
    let here : IsPlace source o place.line place.column (string_bytes place.text) = subst (λ (m : ℕ). IsPlace source m place.line place.column (string_bytes place.text)) at shown.1 in
    let after = place_after text source o place.line place.column (string_bytes place.text) b.lines some here in
    let fits_line = line_fits text source o place.line place.column (string_bytes place.text) here fits in
    let bytes = b.bytes_are in
    let lines = b.lines_are in
    let within = c.requires in
    let long = length-append text source in
    let line : c.saturating_add-places.result ≡ place.line + newlines text = omega (arith, c.saturating_add-places.ensures) in
    let offset : c.saturating_add.result ≡ length text + o = omega (arith, c.saturating_add.ensures, at) in
    let message = string_bytes c.deref_mut-in-Ok.result.now.message in
    let placed = ap (λ (r : Refusal). r.places) c.deref_mut-in-Ok.ensures.value in (
      refl,
      ap (λ (m : ℕ). Some m) offset,
      record {
        message = message;
        line = place.line + newlines text;
        column = place.column;
        text = string_bytes place.text;
        is_place = after;
        line_is = ap (λ (p : Option Places). option_map (λ (q : Place). q.line) (option_map (λ (q : Places). q.place) p)) placed ∙ ap (λ (m : ℕ). Some m) line;
        column_is = ap (λ (p : Option Places). option_map (λ (q : Place). q.column) (option_map (λ (q : Places). q.place) p)) placed;
        message_is = refl;
        shown_is = ap (λ (p : Option Places). Some (shown_by_place p c.saturating_add.result message)) placed
            ∙ (λ i. Some (shown_refusal (file_or_unknown (shown.0 i)) (line i) place.column (string_bytes place.text) message));
      },
    ))

pub returns-in-Ok-clause-location : goal.returns-in-Ok-clause-location
returns-in-Ok-clause-location c kind text b fits =
    let source = c.args.source.now in
    let location = c.in-Ok.places.location in
    let line_text = string_bytes location.text in
    let (shown, located) = c.in-Ok.ensures in
    let at_end = c.args.refusal.value.at_end in
    let o : ℕ = c.args.skipped + c.args.refusal.value.offset in
    let at : c.args.skipped + c.deref.result.now.offset ≡ o = ap (λ (r : Refusal). c.args.skipped + r.offset) c.deref.ensures in
    let here : IsLocationIn source o at_end location = subst (λ (m : ℕ). IsLocationIn source m at_end location) at (subst (λ (r : Refusal). IsLocationIn source (c.args.skipped + c.deref.result.now.offset) r.at_end location) c.deref-2.ensures located) in
    let (fault, place) = here in
    let within = fault_within source o at_end location.offset fault c.requires in
    let after = place_after text source (location.offset + 1) location.line location.column line_text b.lines (inl (omega arith)) place in
    let fits_line = line_fits text source (location.offset + 1) location.line location.column line_text place fits in
    let bytes = b.bytes_are in
    let lines = b.lines_are in
    let long = length-append text source in
    let line : location.line + newlines text ≡ c.saturating_add-places-in-Ok.result = omega (arith, c.saturating_add-places-in-Ok.ensures) in
    let to : length text + location.offset ≡ c.saturating_add-places-in-Ok-2.result = omega (arith, c.saturating_add-places-in-Ok-2.ensures) in
    let to_next : length text + (location.offset + 1) ≡ c.saturating_add-places-in-Ok-2.result + 1 = omega (arith, to) in
    let offset : length text + o ≡ c.saturating_add.result = omega (arith, c.saturating_add.ensures, at) in
    let kept = c.deref_mut.ensures.value in
    record {
      location = record { offset = c.saturating_add-places-in-Ok-2.result; line = c.saturating_add-places-in-Ok.result; column = location.column; text = location.text };
      offset = c.saturating_add.result;
      location_is = ap (λ (r : Refusal). option_map (λ (q : Places). q.location) r.places) c.deref_mut-in-Ok.ensures.value;
      offset_is = refl;
      is_location = (
        subst (λ (r : Refusal). AtFault (text ++ source) c.saturating_add.result r.at_end c.saturating_add-places-in-Ok-2.result) (sym (c.deref_mut-in-Ok.ensures.value))
            (subst (λ (r : Refusal). AtFault (text ++ source) c.saturating_add.result r.at_end c.saturating_add-places-in-Ok-2.result) (sym kept)
            (subst (λ (m : ℕ). AtFault (text ++ source) m at_end c.saturating_add-places-in-Ok-2.result) offset
            (subst (λ (m : ℕ). AtFault (text ++ source) (length text + o) at_end m) to (fault_after text source o at_end location.offset fault)))),
        subst (λ (m : ℕ). IsPlace (text ++ source) (c.saturating_add-places-in-Ok-2.result + 1) m location.column line_text) line
            (subst (λ (m : ℕ). IsPlace (text ++ source) m (location.line + newlines text) location.column line_text) to_next after),
      );
    }
