-- Definitions. What a call returns for the result of reading a file.
use Rattle.std.specs.Prelude.{◌≡◌, ℕ, List, [], map, IfOk, IfErr, IsOkAnd, Result, Ok, Err, Some, String, Vec, string_bytes}
use Rattle.std.specs.List.{AllByRecursion}
use Rattle.std.specs.IoError.{error_kind}
use Rattle.std.specs.declared.alloc.Global.{Global}
use Rattle.std.specs.declared.io.Error.{Error}
use Rattle.std.specs.declared.io.ErrorKind.TheVariants.{OutOfMemory}
use Rattle.souper_graph.specs.Values.{Item}
use Rattle.souper_graph.specs.WellFormed.{WellFormed}
use Rattle.souper_graph.specs.Unneeded.{EachClosed}
use Rattle.souper_errors.specs.declared.error.ParseError.{ParseError}
use Rattle.souper_errors.specs.declared.error.ParseErrorKind.TheVariants.{Parse}
use Rattle.souper_ir.specs.Answers.{IsStrError}
use Rattle.souper_ir.specs.Stopping.{TextStops}
use Rattle.souper_errors.specs.Errors.{kind_of, fault_of, at_end_of, OnKind}
use Rattle.souper_graph.specs.Syntax.Spelling.{ItemType, TextSpells}
use Rattle.souper_graph.specs.Syntax.Tokens.{IsLastGap}

-- the result for a text that was read: the items that it spells, each well formed, or an error that shows that file
-- name
pub record AnswersText {T : Type 0} (k : ItemType) (view : T → Item) (path source : List ℕ) (answer : Result (Vec T Global) ParseError) : Type 0 where
  pub spelled : IfOk answer (λ v. TextSpells k source (map view v.items))
  pub well_formed : IfOk answer (λ v. AllByRecursion WellFormed (map view v.items))
  pub each_closed : IfOk answer (λ v. AllByRecursion EachClosed (map view v.items))
  pub refused : IfErr answer (IsStrError k (Some path) source)
  pub stops : IfErr answer (λ e. kind_of e ≡ Parse → TextStops k source (at_end_of e))
  pub gaps : IsLastGap source → IsOkAnd answer (λ v. v.items ≡ [])

-- the error for a fault: the fault itself, or out of memory if the fault was that
abbrev pub TellsFault : Error → ParseError → Type 0
TellsFault fault e = OnKind (kind_of e) (fault_of e ≡ Some fault) ⊥ (error_kind fault ≡ OutOfMemory)

-- the result for what a read returned: for its text, or for its fault
abbrev pub AnswersRead : {T : Type 0} → ItemType → (T → Item) → List ℕ → Result (String Global) Error → Result (Vec T Global) ParseError → Type 0
AnswersRead k view path (Ok source) answer = AnswersText k view path (string_bytes source) answer
AnswersRead k view path (Err fault) (Ok v) = ⊥
AnswersRead k view path (Err fault) (Err e) = TellsFault fault e
