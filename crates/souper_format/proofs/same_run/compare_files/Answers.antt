use Rattle.std.proofs.Common.{inl, inr, sym, ◌∙◌}
use Rattle.std.proofs.KnownBytes.{Keeps-refl}
use Rattle.souper_ir.specs.Kinds.{item_type_of}
use Rattle.souper_format.specs.Kinds.{view_items}
use Rattle.souper_watched.specs.Streams.{stream}
use Rattle.souper_format.proofs.SameRunLemmas.{stopped_at, compared}
use Rattle.souper_format.proofs.same_run.compare_files.Goals as goal

pub returns-in-Err : goal.returns-in-Err
returns-in-Err g c =
    let out = stream g.W.Write.contents c.args.out.now c.args.out.now in
    let err = stream g.E.Write.contents c.args.err.now c.report_error.new.err in
    let stopped = stopped_at (item_type_of c.args.kind) c.args.paths.0.now c.read_text.result out err c.in-Err.error c.report_error.result (Keeps-refl _) c.in-Err.ensures.refused c.report_error.ensures in
    (c.read_text.result, c.read_text.ensures, inl stopped)

pub returns-in-Err-items_of_read : goal.returns-in-Err-items_of_read
returns-in-Err-items_of_read g c =
    let out = stream g.W.Write.contents c.args.out.now c.args.out.now in
    let err = stream g.E.Write.contents c.args.err.now c.report_error-in-Err-items_of_read.new.err in
    let stopped = stopped_at (item_type_of c.args.kind) c.args.paths.1.now c.read_text-2.result out err c.in-Err-items_of_read.error c.report_error-in-Err-items_of_read.result (Keeps-refl _) c.in-Err-items_of_read.ensures.refused c.report_error-in-Err-items_of_read.ensures in
    (c.read_text.result, c.read_text.ensures, inr (view_items c.in-Ok.items, c.in-Ok.ensures.spelled, (c.read_text-2.result, c.read_text-2.ensures, inl stopped)))

pub returns : goal.returns
returns g c =
    let out = stream g.W.Write.contents c.args.out.now c.compare.new.out in
    let err = stream g.E.Write.contents c.args.err.now c.compare.new.err in
    let says = compared c.in-Ok.items c.in-Ok-items_of_read.items out err c.compare.result (c.in-Ok.ensures.kind ∙ sym c.in-Ok-items_of_read.ensures.kind) c.compare.ensures in
    (c.read_text.result, c.read_text.ensures, inr (view_items c.in-Ok.items, c.in-Ok.ensures.spelled, (c.read_text-2.result, c.read_text-2.ensures, inr (view_items c.in-Ok-items_of_read.items, c.in-Ok-items_of_read.ensures.spelled, says))))
