use Rattle.std.proofs.Common.{sym, subst, rules}
use Rattle.std.specs.Prelude.{string_bytes}
use Rattle.std.proofs.KnownBytes.{Keeps-refl}
use Rattle.souper_ir.specs.Kinds.{item_type_of}
use Rattle.souper_watched.specs.Streams.{stream}
use Rattle.souper_format.specs.Runs.{ReadAll, Formats, IsFormatRun}
use Rattle.souper_format.proofs.RunLemmas.{status_of_error, known_of_run}
use Rattle.souper_format.proofs.run.format_run.Goals as goal

pub returns-clause-run : goal.returns-clause-run
returns-clause-run g c =
    let input = stream g.R.Read.remaining c.args.input.now c.read_text.new.input in
    let out = stream g.W.Write.contents c.args.out.now c.args.out.now in
    let err = stream g.E.Write.contents c.args.err.now c.report_error.new.err in
    let read = subst (ReadAll input) (sym c.as_str.ensures.value) c.in-Ok.ensures.text in
    status_of_error (item_type_of c.args.kind) input out err c.as_str.result.now c.in-Err.error c.report_error.result
    read c.as_str.utf8 (Keeps-refl _) c.in-Err.ensures.refused c.report_error.ensures

pub returns-clause-known : goal.returns-clause-known
returns-clause-known g c =
    let input = stream g.R.Read.remaining c.args.input.now c.read_text.new.input in
    let out = stream g.W.Write.contents c.args.out.now c.args.out.now in
    let err = stream g.E.Write.contents c.args.err.now c.report_error.new.err in
    known_of_run (item_type_of c.args.kind) input out err c.report_error.result (returns-clause-run g c)

pub returns-in-Ok-deliver-clause-known : goal.returns-in-Ok-deliver-clause-known
returns-in-Ok-deliver-clause-known g c =
    let input = stream g.R.Read.remaining c.args.input.now c.read_text.new.input in
    let out = stream g.W.Write.contents c.args.out.now c.deliver.new.out in
    let err = stream g.E.Write.contents c.args.err.now c.args.err.now in
    let read = subst (ReadAll input) (sym c.as_str.ensures.value) c.in-Ok.ensures.text in
    let formats : Formats (item_type_of c.args.kind) c.as_str.result.now out = (string_bytes c.in-Ok-format_text.text, search rules, search rules) in
    let run : IsFormatRun (item_type_of c.args.kind) input out err 0 = ((c.as_str.result.now, read, formats), Keeps-refl _) in
    known_of_run (item_type_of c.args.kind) input out err 0 run
