-- Definitions. What an error reports: its kind, its offset and the text that it shows.
use Rattle.std.specs.Prelude.{◌≡◌, ℕ, Bool, false, ◌+◌, ◌^◌, ◌<◌, List, [], ◌++◌, length, ◌⊎◌, codes, Option, None, Some, Result, Ok, Err, IfSome, IsOk, option_map, string_bytes}
use Rattle.std.specs.Fmt.{WritesOnOk, WritesStyledOnOk}
use Rattle.std.specs.declared.fmt.Error.{Error as FormatError}
use Rattle.std.specs.declared.fmt.Formatter.{Formatter}
use Rattle.std.specs.declared.io.Error.{Error}
use Rattle.souper_errors.specs.declared.error.Cause.{Cause}
use Rattle.souper_errors.specs.declared.error.Cause.TheVariants.{Io as IoCause, Parse as ParseCause, Memory as MemoryCause}
use Rattle.souper_errors.specs.declared.error.ParseError.{ParseError}
use Rattle.souper_errors.specs.declared.error.ParseErrorKind.{ParseErrorKind}
use Rattle.souper_errors.specs.declared.error.ParseErrorKind.TheVariants.{Io, Parse, Memory}
use Rattle.souper_errors.specs.declared.read.ReadError.{ReadError}
use Rattle.souper_errors.specs.declared.read.ReadError.TheVariants.{Refused as RefusedRead, Memory as MemoryRead}
use Rattle.souper_errors.specs.declared.error.Refusal.{Refusal}
use Rattle.souper_errors.specs.declared.place.Location.{Location}
use Rattle.souper_errors.specs.declared.place.Place.{Place}
use Rattle.souper_errors.specs.declared.place.Places.{Places}
use Rattle.souper_errors.specs.declared.error.Before.{Before}
use Rattle.souper_errors.specs.Places.{IsLines, newlines, IsPlace, AtFault, direct_text, file_or_unknown, shown_refusal}

-- one of three facts, by the kind: for `Io`, `Parse` and `Memory`
abbrev pub OnKind : ParseErrorKind → Type 0 → Type 0 → Type 0 → Type 0
OnKind Io io parse memory = io
OnKind Parse io parse memory = parse
OnKind Memory io parse memory = memory

-- the kind of a cause
abbrev pub kind_of_cause : Cause → ParseErrorKind
kind_of_cause (IoCause fault) = Io
kind_of_cause (ParseCause refusal) = Parse
kind_of_cause MemoryCause = Memory

-- `e.kind()`
abbrev pub kind_of : ParseError → ParseErrorKind
kind_of e = kind_of_cause e.cause

-- the offset of a parse error
abbrev pub offset_of_cause : Cause → Option ℕ
offset_of_cause (ParseCause refusal) = Some refusal.value.offset
offset_of_cause _ = None

-- `e.offset()`
abbrev pub offset_of : ParseError → Option ℕ
offset_of e = offset_of_cause e.cause

-- what a parse error says is wrong
abbrev pub message_of_cause : Cause → Option (List ℕ)
message_of_cause (ParseCause refusal) = Some (string_bytes refusal.value.message)
message_of_cause _ = None

-- `e.message()`
abbrev pub message_of : ParseError → Option (List ℕ)
message_of e = message_of_cause e.cause

-- the error of a read
abbrev pub fault_of_cause : Cause → Option Error
fault_of_cause (IoCause fault) = Some fault
fault_of_cause _ = None

-- the error of the read that failed
abbrev pub fault_of : ParseError → Option Error
fault_of e = fault_of_cause e.cause

-- whether the text ended where more is wanted
abbrev pub at_end_of_cause : Cause → Bool
at_end_of_cause (ParseCause refusal) = refusal.value.at_end
at_end_of_cause _ = false

-- `e.is_at_end()`
abbrev pub at_end_of : ParseError → Bool
at_end_of e = at_end_of_cause e.cause

-- the location of a parse error, if it was given one
abbrev pub location_of_cause : Cause → Option Location
location_of_cause (ParseCause refusal) = option_map (λ (places : Places). places.location) refusal.value.places
location_of_cause _ = None

-- `e.location()`
abbrev pub location_of : ParseError → Option Location
location_of e = location_of_cause e.cause

-- the place of a parse error, if it was given one
abbrev pub place_of_cause : Cause → Option Place
place_of_cause (ParseCause refusal) = option_map (λ (places : Places). places.place) refusal.value.places
place_of_cause _ = None

abbrev pub place_of : ParseError → Option Place
place_of e = place_of_cause e.cause

-- `e.line()`
abbrev pub line_of : ParseError → Option ℕ
line_of e = option_map (λ (place : Place). place.line) (place_of e)

-- `e.column()`
abbrev pub column_of : ParseError → Option ℕ
column_of e = option_map (λ (place : Place). place.column) (place_of e)

-- the text that shows a place, with a message
abbrev pub shown_at : Place → List ℕ → List ℕ
shown_at place message =
    shown_refusal (file_or_unknown (option_map string_bytes place.file)) place.line place.column (string_bytes place.text) message

-- the same, with the line and the column of a location
abbrev pub shown_at_location : Place → Location → List ℕ → List ℕ
shown_at_location place location message =
    shown_refusal (file_or_unknown (option_map string_bytes place.file)) location.line location.column (string_bytes location.text) message

-- the text that shows a parse error, with its place or without
abbrev pub shown_by_place : Option Places → ℕ → List ℕ → List ℕ
shown_by_place None offset message = direct_text offset message
shown_by_place (Some places) offset message = shown_at places.place message

-- the text that a parse error shows
abbrev pub shown_refusal_of : Refusal → List ℕ
shown_refusal_of refusal = shown_by_place refusal.places refusal.offset (string_bytes refusal.message)

-- the text that shows a parse error at its location, if it has one
abbrev pub located_by : Option Places → ℕ → List ℕ → List ℕ
located_by None offset message = direct_text offset message
located_by (Some places) offset message = shown_at_location places.place places.location message

abbrev pub located_refusal_of : Refusal → List ℕ
located_refusal_of refusal = located_by refusal.places refusal.offset (string_bytes refusal.message)

-- the text that a cause shows, with the location of a parse error
abbrev pub located_cause : Cause → Option (List ℕ)
located_cause (IoCause fault) = None
located_cause (ParseCause refusal) = Some (located_refusal_of refusal.value)
located_cause MemoryCause = Some (codes "out of memory")

-- the text that the error shows with its location, but for the text of an I/O error
abbrev pub located_error : ParseError → Option (List ℕ)
located_error e = located_cause e.cause

-- the text that a cause shows
abbrev pub shown_cause : Cause → Option (List ℕ)
shown_cause (IoCause fault) = None
shown_cause (ParseCause refusal) = Some (shown_refusal_of refusal.value)
shown_cause MemoryCause = Some (codes "out of memory")

-- the text that the error shows, but for the text of an I/O error, which has its own clause (`ShowsFault`)
abbrev pub shown_error : ParseError → Option (List ℕ)
shown_error e = shown_cause e.cause

-- if r is `Ok`, g is f after writing a text that begins with `IO error: `, whatever options f has
abbrev pub ShowsFault : {W : Type 0} → (W → List ℕ → W → Type 0) → Formatter W → Result (Unit {0}) FormatError → Formatter W → Type 0
ShowsFault took f r g = IsOk r →
    (shown : List ℕ) × WritesOnOk took f r (codes "IO error: " ++ shown) g × WritesStyledOnOk took f r (codes "IO error: " ++ shown) g

-- the offset has this place in the source, which has that file name
abbrev pub IsPlaceIn : Option (List ℕ) → List ℕ → ℕ → Place → Type 0
IsPlaceIn file source offset place =
    (option_map string_bytes place.file ≡ file) × IsPlace source offset place.line place.column (string_bytes place.text)

-- the place has this line, column and line text, in a source that has that file name
abbrev pub IsPlaceOn : Option (List ℕ) → ℕ → ℕ → List ℕ → Place → Type 0
IsPlaceOn file line column text place =
    (option_map string_bytes place.file ≡ file) × (place.line ≡ line) × (place.column ≡ column) × (string_bytes place.text ≡ text)

-- where a source is at fault, if it was rejected at that offset or where it ends: the offset, line, column and line text
abbrev pub IsLocationIn : List ℕ → ℕ → Bool → Location → Type 0
IsLocationIn source offset at_end location =
    AtFault source offset at_end location.offset × IsPlace source (location.offset + 1) location.line location.column (string_bytes location.text)

-- the place and the location of a parse error of the source, which has that file name
abbrev pub ArePlacesIn : Option (List ℕ) → List ℕ → ℕ → Bool → Places → Type 0
ArePlacesIn file source offset at_end places = IsPlaceIn file source offset places.place × IsLocationIn source offset at_end places.location

-- the error says where the source is at fault
pub record HasLocation (source : List ℕ) (e : ParseError) : Type 0 where
  pub location : Location
  pub offset : ℕ
  pub location_is : location_of e ≡ Some location
  pub offset_is : offset_of e ≡ Some offset
  pub is_location : IsLocationIn source offset (at_end_of e) location

-- the error has the line and the column of that offset of the source, and a message, and shows them
pub record ShowsPlace (file : Option (List ℕ)) (source : List ℕ) (offset : ℕ) (e : ParseError) : Type 0 where
  pub message : List ℕ
  pub line : ℕ
  pub column : ℕ
  pub text : List ℕ
  pub is_place : IsPlace source offset line column text
  pub line_is : line_of e ≡ Some line
  pub column_is : column_of e ≡ Some column
  pub message_is : message_of e ≡ Some message
  pub shown_is : shown_error e ≡ Some (shown_refusal (file_or_unknown file) line column text message)

-- a parse error at that offset of the source, which has and shows its place
abbrev pub IsRefusalAt : Option (List ℕ) → List ℕ → ℕ → ParseError → Type 0
IsRefusalAt file source offset e = (kind_of e ≡ Parse) × (offset_of e ≡ Some offset) × ShowsPlace file source offset e

-- what became of an error that was given its place in the source: a parse error at an offset shows its place there, or
-- memory ran out for that; any other error is unchanged
abbrev pub IsLocated : Option (List ℕ) → List ℕ → ParseError → ParseError → Type 0
IsLocated file source old new = OnKind (kind_of old)
    (new ≡ old)
    (IfSome (offset_of old) (λ offset. (kind_of new ≡ Memory) ⊎ IsRefusalAt file source offset new))
    (new ≡ old)

-- the text is whole lines, with the given numbers of bytes and of lines
pub record IsSizeOf (before : Before) (text : List ℕ) : Type 0 where
  pub lines : IsLines text
  pub bytes_are : length text ≡ before.bytes
  pub lines_are : newlines text ≡ before.lines

-- the error of a source that comes after other lines says where both together are at fault
abbrev pub HasLocationAfter : Before → List ℕ → ParseError → Type 0
HasLocationAfter before source e = (text : List ℕ) → IsSizeOf before text → length (text ++ source) + 1 < 2 ^ 64 → HasLocation (text ++ source) e

-- what became of a parse error at that offset of the source, before which other lines come: it shows its place in these lines and
-- the source together, or memory ran out for that. The place of an offset is the place of the byte before it, which must be there.
abbrev pub IsPlacedAfter : Option (List ℕ) → Before → List ℕ → ℕ → ParseError → Type 0
IsPlacedAfter file before source offset new = (kind_of new ≡ Memory) ⊎ ((text : List ℕ) → IsSizeOf before text → (0 < offset) ⊎ (text ≡ [])
    → length (text ++ source) + 1 < 2 ^ 64 → IsRefusalAt file (text ++ source) (length text + offset) new)

-- what became of an error of a part of a text, which begins at the offset skipped of the source; an error that is no parse error is
-- unchanged
abbrev pub IsLocatedAfter : Option (List ℕ) → Before → List ℕ → ℕ → ParseError → ParseError → Type 0
IsLocatedAfter file before source skipped old new = OnKind (kind_of old)
    (new ≡ old)
    (IfSome (offset_of old) (λ offset. IsPlacedAfter file before source (skipped + offset) new))
    (new ≡ old)

-- the cause of a reader's error
abbrev pub cause_of_read : ReadError → Cause
cause_of_read (RefusedRead refusal) = ParseCause refusal
cause_of_read MemoryRead = MemoryCause

-- the error that a caller of the parser gets for a reader's error
abbrev pub error_of : ReadError → ParseError
error_of e = record { cause = cause_of_read e }

-- what a reader returned, with that error
abbrev pub widened : {X : Type 0} → Result X ReadError → Result X ParseError
widened (Ok x) = Ok x
widened (Err e) = Err (error_of e)
