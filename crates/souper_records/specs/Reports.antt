-- Definitions. The lines that the program reports an error with.
use Rattle.std.specs.Prelude.{◌≡◌, ◌⊎◌, ℕ, ◌-◌, ◌<◌, Bool, true, false, not, ◌&&◌, List, [], ◌++◌, length, replicate, codes, decimal, bytes_eq, Option, None, Some, IfSome, option_copied, string_bytes}
use Rattle.souper_records.specs.Prelude.{ItemType, Stream, Line, concat, all_lines}
use Rattle.souper_watched.specs.Streams.{IsLineOf, Reported}
use Rattle.souper_errors.specs.Errors.{kind_of, located_error, message_of, location_of}
use Rattle.souper_errors.specs.Places.{right_aligned}
use Rattle.souper_errors.specs.declared.place.Location.{Location}
use Rattle.souper_errors.specs.declared.error.ParseError.{ParseError}
use Rattle.souper_errors.specs.declared.error.ParseErrorKind.TheVariants.{Io as IoError, Parse}
use Rattle.souper_stream.specs.declared.faults.NotUtf8.{NotUtf8}
use Rattle.souper_stream.specs.declared.reader.ItemReader.{ItemReader}
use Rattle.souper_stream.specs.Parts.{HasParts, EndsAfter}
use Rattle.souper_records.specs.declared.rejected.Rejected.{Rejected}
use Rattle.souper_records.specs.declared.stop.ReadFault.{ReadFault}
use Rattle.souper_records.specs.declared.stop.ReadFault.TheVariants.{Utf8, Io}

-- the line with a message about a stream
abbrev pub named_line : List ℕ → List ℕ → List ℕ
named_line name says = codes "souper_items: " ++ (name ++ (codes ": " ++ (says ++ codes "\n")))

-- the line for out of memory
abbrev pub IsMemoryLine : List ℕ → Type 0
IsMemoryLine line = line ≡ codes "souper_items: out of memory\n"

-- the line of bytes of a stream that are not UTF-8: its name, and on which line and at which byte they are
abbrev pub not_utf8_line : List ℕ → NotUtf8 → List ℕ
not_utf8_line name bytes = name ++ (codes ":" ++ (decimal bytes.line ++ (codes ": not UTF-8 at byte " ++ (decimal bytes.offset ++ codes "\n"))))

-- the line of these bytes of the stream; if memory ran out for it, the line for that
abbrev pub IsNotUtf8Line : NotUtf8 → List ℕ → List ℕ → Type 0
IsNotUtf8Line bytes name line = (line ≡ not_utf8_line name bytes) ⊎ IsMemoryLine line

-- the line with the text of an error, this one if it is known; if memory ran out for it, the line for that
abbrev pub IsShownLine : Option (List ℕ) → List ℕ → List ℕ → Type 0
IsShownLine known name line = ((shown : List ℕ) × IfSome known (λ text. shown ≡ text) × (line ≡ named_line name shown)) ⊎ IsMemoryLine line

-- the line of an I/O error of the stream, whose text the library does not specify
abbrev pub IsFaultLine : List ℕ → List ℕ → Type 0
IsFaultLine name line = IsShownLine None name line

-- the line of this fault of reading the stream
abbrev pub IsReadFaultLine : ReadFault → List ℕ → List ℕ → Type 0
IsReadFaultLine (Utf8 bytes) name line = IsNotUtf8Line bytes name line
IsReadFaultLine (Io fault) name line = IsFaultLine name line

-- the line of the text that the error shows with its location
abbrev pub IsErrorLine : ParseError → List ℕ → Type 0
IsErrorLine e line = IsLineOf (located_error e) line

-- The lines of a refusal that says that an item ends too early: its place in the stream of this name, and the line of the stream.
abbrev pub item_end_lines : List ℕ → Location → List ℕ
item_end_lines name l =
    name ++ (codes ":" ++ (decimal l.line ++ (codes ":" ++ (decimal l.column ++ (codes ": unexpected end of item\n     |\n"
    ++ (right_aligned 4 (decimal l.line) ++ (codes " | " ++ (string_bytes l.text ++ (codes "\n     | " ++ (replicate (l.column - 1) 32 ++ codes "^\n"))))))))))

-- the line of a refusal of the stream of this name, given whether its item ends too early, and its location
abbrev pub IsRefusalAtLine : Bool → List ℕ → ParseError → Option Location → List ℕ → Type 0
IsRefusalAtLine true name e (Some location) line = line ≡ item_end_lines name location
IsRefusalAtLine true name e None line = IsErrorLine e line
IsRefusalAtLine false name e location line = IsErrorLine e line

-- whether a message speaks of the end of the input
abbrev pub says_end : Option (List ℕ) → Bool
says_end None = false
says_end (Some message) = bytes_eq message (codes "unexpected EOF")

-- The line of a refusal of the stream of this name, given whether the stream ends with the refused part: if it does not, a message that
-- speaks of the end of the input says that the item ends too early.
abbrev pub IsRefusalLine : Bool → List ℕ → ParseError → List ℕ → Type 0
IsRefusalLine last name e line = IsRefusalAtLine (not last && says_end (message_of e)) name e (location_of e) line

-- a refusal: its error, and the text of its hint, if it has one
pub record Refusal : Type 0 where
  pub error : ParseError
  pub hint : Option (List ℕ)

abbrev pub refusal_of : Rejected → Refusal
refusal_of r = record { error = r.error.now; hint = option_copied r.hint }

-- the line of a hint, if there is one
abbrev pub hint_line : Option (List ℕ) → List ℕ
hint_line None = []
hint_line (Some text) = codes "hint: " ++ (text ++ codes "\n")

-- the line of a refusal, and then that of its hint
abbrev pub AreRefusalLines : Bool → List ℕ → Refusal → List ℕ → Type 0
AreRefusalLines last name r lines = (line : List ℕ) × IsRefusalLine last name r.error line × (lines ≡ line ++ hint_line r.hint)

-- out of memory was reported
abbrev pub ReportedMemory : Stream → Type 0
ReportedMemory err = Reported err IsMemoryLine

-- an I/O error of the stream was reported
abbrev pub ReportedFault : List ℕ → Stream → Type 0
ReportedFault name err = Reported err (IsFaultLine name)

-- this fault of reading the stream was reported
abbrev pub ReportedReadFault : List ℕ → Stream → ReadFault → Type 0
ReportedReadFault name err fault = Reported err (IsReadFaultLine fault name)

-- The status is 1 if the text was refused, and the line of the refusal was written. It is 2 if a read failed, and its fault was reported,
-- or if memory ran out, for the items or for the line of a refusal, and that was reported.
abbrev pub ReportedError : List ℕ → Stream → ℕ → ParseError → Type 0
ReportedError name err status e = ((status ≡ 1) × (kind_of e ≡ Parse) × Reported err (IsErrorLine e))
    ⊎ (((status ≡ 2) × (kind_of e ≡ IoError) × ReportedFault name err) ⊎ ((status ≡ 2) × ReportedMemory err))

-- whether the stream ends after the parts of this reader, as it says of any of them
abbrev pub EndsReading : ItemReader → Bool → Type 0
EndsReading r last = (k : ItemType) (start : Option (List ℕ)) (now : Option (List ℕ)) (ps : List (List Line)) → 0 < length ps → HasParts k start now ps r → EndsAfter start now (concat (all_lines ps)) last

-- The status of the error of reading a stream by parts: 1, a part was refused, and its line was reported; 2, reading failed or memory ran
-- out, and that was reported.
abbrev pub ReportedInput : List ℕ → ItemReader → Stream → ℕ → ParseError → Type 0
ReportedInput name r err status e = ((status ≡ 1) × (kind_of e ≡ Parse) × ((last : Bool) × EndsReading r last × Reported err (IsRefusalLine last name e)))
    ⊎ ((status ≡ 2) × (((fault : ReadFault) × ReportedReadFault name err fault) ⊎ ReportedMemory err))
