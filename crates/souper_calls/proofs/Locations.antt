-- What a location says of a text that a parser rejected.
use Rattle.std.proofs.Common.{◌≡◌, ℕ, ◌+◌, ◌≤◌, List, ◌++◌, Option, None, Some, Bool, true, false, length, length-append, sym, ◌∙◌, subst, ap, refl, arith}
use Rattle.std.specs.Prelude.{string_bytes, IsSomeAnd}
use Rattle.std.specs.Int.{from_bool}
use Rattle.souper_graph.specs.Syntax.Spelling.{ItemType, SpellsNone}
use Rattle.souper_ir.specs.Laws.Peeks.{some_is}
use Rattle.souper_ir.specs.Answers.{IsStrError}
use Rattle.souper_errors.specs.Errors.{at_end_of, kind_of, kind_of_cause, location_of, location_of_cause, offset_of, HasLocation, ShowsPlace, OnKind}
use Rattle.souper_errors.specs.Places.{IsEnd, AtFault, IsPlace}
use Rattle.souper_ir.specs.Stopping.{TextStops}
use Rattle.souper_errors.specs.declared.error.Cause.{Cause}
use Rattle.souper_errors.specs.declared.error.Cause.TheVariants.{Io, Parse as ParseCause, Memory}
use Rattle.souper_errors.specs.declared.error.ParseError.{ParseError}
use Rattle.souper_errors.specs.declared.error.ParseErrorKind.{ParseErrorKind}
use Rattle.souper_errors.specs.declared.error.ParseErrorKind.TheVariants.{Parse}
use Rattle.souper_errors.specs.declared.place.Location.{Location}
use Rattle.souper_calls.specs.Kinds.{type_of_number}
use Rattle.souper_calls.specs.Locations.{IsLocation, IsLocationBy, LocatesFault}
use Rattle.souper_calls.specs.declared.location.SouperLocation.{SouperLocation}

located_kind : (c : Cause) (l : Location) → location_of_cause c ≡ Some l → kind_of_cause c ≡ Parse
located_kind (Io f) l e = absurd cc
located_kind (ParseCause r) l e = refl
located_kind Memory l e = absurd cc

abbrev IsRefusal : ItemType → List ℕ → ParseError → Type 0
IsRefusal k source e = (offset : ℕ) × (offset_of e ≡ Some offset) × (offset ≤ length source) × SpellsNone k source
    × ShowsPlace None source offset e × HasLocation source e

-- if a parser rejected the text, its reading stops
abbrev Stopped : ItemType → List ℕ → ParseError → Type 0
Stopped k source e = kind_of e ≡ Parse → TextStops k source (at_end_of e)

says_end : (ended : Bool) → 1 ≡ from_bool ended → ended ≡ true
says_end true h = refl
says_end false h = absurd cc

within : {source text : List ℕ} {offset line column : ℕ} → IsPlace source (offset + 1) line column text → offset ≤ length source
within p =
    let parts = ap length p.parts ∙ length-append p.front (p.body ++ p.back) in
    let rest = length-append p.body p.back in
    let until = p.until in
    omega arith

by_location : (number : ℕ) (k : ItemType) (source : List ℕ) (e : ParseError) (l : SouperLocation) (o : Option Location) → location_of e ≡ o
    → type_of_number number ≡ Some k → IsStrError k None source e → Stopped k source e → IsLocationBy o e l → l.status ≡ 1 → LocatesFault number source l
by_location number k source e l None at is_kind is stopped (status, _) refused = let clash : 3 ≡ 1 = sym status ∙ refused in absurd (omega (arith, clash))
by_location number k source e l (Some found) at is_kind is stopped (status, offset, line, column, at_end) refused =
    let kind = located_kind e.cause found at in
    let (o, is_offset, fits, none, shows, h) = subst (λ (x : ParseErrorKind). OnKind x ⊥ (IsRefusal k source e) (Unit {0})) kind is in
    let same : h.location ≡ found = some_is (sym h.location_is ∙ at) in
    let (fault, place) = h.is_location in
    let there : IsPlace source (found.offset + 1) found.line found.column (string_bytes found.text) = subst (λ (x : Location). IsPlace source (x.offset + 1) x.line x.column (string_bytes x.text)) same place in
    let ended : at_end_of e ≡ true → IsEnd source found.offset = λ t. subst (λ (x : Location). IsEnd source x.offset) same (rw t at fault) in
    subst (λ (x : Option ItemType). IsSomeAnd x (λ (k : ItemType). SpellsNone k source × IsLocation source l × ((ended : Bool) × (l.at_end ≡ from_bool ended) × TextStops k source ended))) (sym is_kind) (
      none,
      (rw offset (within there), (λ one. rw offset (ended (says_end (at_end_of e) (sym one ∙ at_end)))), (string_bytes found.text, rw (offset, line, column) there)),
      (at_end_of e, at_end, stopped kind),
    )

pub located : (number : ℕ) (k : ItemType) (source : List ℕ) (e : ParseError) (l : SouperLocation) → type_of_number number ≡ Some k → IsStrError k None source e → Stopped k source e → IsLocationBy (location_of e) e l
    → l.status ≡ 1 → LocatesFault number source l
located number k source e l = by_location number k source e l (location_of e) refl
