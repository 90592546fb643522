-- What an error of a file, and a comparison of two lists, make of a run over two files.
use Rattle.std.proofs.Common.{◌≡◌, ℕ, List, Some, Ok, Err, ◌⊎◌, inl, inr}
use Rattle.std.specs.Prelude.{string_bytes}
use Rattle.std.specs.List.{AllZip}
use Rattle.std.specs.IoError.{error_kind}
use Rattle.std.specs.declared.io.ErrorKind.TheVariants.{OutOfMemory}
use Rattle.souper_graph.specs.Sameness.{SameGraph}
use Rattle.souper_graph.specs.Syntax.Spelling.{ItemType}
use Rattle.souper_errors.specs.Errors.{kind_of, fault_of, OnKind}
use Rattle.souper_errors.specs.declared.error.ParseError.{ParseError}
use Rattle.souper_errors.specs.declared.error.ParseErrorKind.{ParseErrorKind}
use Rattle.souper_errors.specs.declared.error.ParseErrorKind.TheVariants.{Io, Parse, Memory}
use Rattle.souper_format.specs.declared.items.Items.{Items}
use Rattle.souper_format.specs.Kinds.{kind_of_items, view_items, SameItems}
use Rattle.souper_watched.specs.Streams.{Stream, IsGivenNothing, Reported}
use Rattle.souper_format.specs.Reporting.{IsDisplayLine, ReportedIoError, StoppedByMemory, ErrorReported}
use Rattle.souper_format.specs.SameRuns.{FileRead, ReadError, Says, StoppedAt, IsComparison}
use Rattle.souper_format.proofs.RunLemmas.{status_mapped, of_text}

-- the error of a file is reported
pub stopped_at : (k : ItemType) (path : List ℕ) (read : FileRead) (out err : Stream) (e : ParseError) (status : ℕ)
    → IsGivenNothing out → ReadError k path read e → ErrorReported err status e → StoppedAt k path read out err status
stopped_at k path (Ok source) out err e status nothing is reported = (nothing, of_text k (Some path) (string_bytes source) err e status is reported)
stopped_at k path (Err fault) out err e status nothing is reported = under (kind_of e) is reported
  where
    under : (kind : ParseErrorKind) → OnKind kind (fault_of e ≡ Some fault) ⊥ (error_kind fault ≡ OutOfMemory)
        → OnKind kind ((status ≡ 3) × ReportedIoError err) (((status ≡ 1) × Reported err (IsDisplayLine e)) ⊎ StoppedByMemory err status) (StoppedByMemory err status)
        → StoppedAt k path (Err fault) out err status
    under Io is (three, failed) = (nothing, three, inl failed)
    under Parse is reported = absurd is
    under Memory is (three, memory) = (nothing, three, inr memory)

of_says : (x y : Items) (out : Stream) → kind_of_items x ≡ kind_of_items y → Says (SameItems x y) out
    → Says (AllZip SameGraph (view_items x) (view_items y)) out
of_says x y out kinds (inl says) = inl (says.0.1, says.1)
of_says x y out kinds (inr says) = inr ((λ all. says.0 (kinds, all)), says.1)

-- both lists are compared
pub compared : (x y : Items) (out err : Stream) (status : ℕ)
    → kind_of_items x ≡ kind_of_items y → IsComparison (SameItems x y) out err status → IsComparison (AllZip SameGraph (view_items x) (view_items y)) out err status
compared x y out err status kinds is = status_mapped status _ _ _ _ _ _ (λ all. (of_says x y out kinds all.0, all.1)) (λ none. none) (λ stopped. stopped) is
