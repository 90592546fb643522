use Rattle.std.proofs.Common.{rules, ◌≡◌, [], ◌∷◌, ◌++◌}
use Rattle.std.proofs.KnownBytes.{Keeps-refl}
use Rattle.souper_watched.specs.Streams.{stream}
use Rattle.souper_graph.specs.Syntax.Spelling.{replacement}
use Rattle.souper_records.proofs.Outcomes.{some_parts}
use Rattle.souper_find.proofs.Filling.{filled, refused_kind, fill_stops, fill_refused}
use Rattle.souper_find.proofs.run.fill_run.Goals as goal

pub read_with-requires : goal.read_with-requires
read_with-requires g c = record { begins = λ start. c.new-parts.ensures.begins replacement start }

pub report_input-status-requires : goal.report_input-status-requires
report_input-status-requires g c = λ kind.
    let (ps, part, h) = c.in-Err.ensures.had kind in
    (replacement, g.R.Read.remaining c.args.reader.now, g.R.Read.remaining c.read_with.new.reader, ps ++ part ∷ [], some_parts ps part, h)

pub part-requires : goal.part-requires
part-requires g c =
    let one : c.report_input-status.result ≡ 1 = search rules in
    let kind = refused_kind c.args.name.now c.read_with.new.parts (stream g.E.Write.contents c.args.err.now c.report_input-status.new.err) c.report_input-status.result c.in-Err.error c.report_input-status.ensures.reported one in
    let (ps, part, h) = c.in-Err.ensures.had kind in
    (replacement, g.R.Read.remaining c.args.reader.now, g.R.Read.remaining c.read_with.new.reader, ps ++ part ∷ [], h)

pub returns-in-Ok : goal.returns-in-Ok
returns-in-Ok g c = λ entries h. (filled entries (g.R.Read.remaining c.args.reader.now) (g.R.Read.remaining c.read_with.new.reader) c.args.store.now c.read_with.new.sink h c.in-Ok.ensures.taken, Keeps-refl _)

pub returns-then-status-ne1 : goal.returns-then-status-ne1
returns-then-status-ne1 g c = λ entries h. fill_stops entries c.args.name.now (g.R.Read.remaining c.args.reader.now) (g.R.Read.remaining c.read_with.new.reader) c.read_with.new.sink (stream g.E.Write.contents c.args.err.now c.report_input-status.new.err) c.in-Err.error
    c.report_input-status.result c.read_with.new.parts c.report_input-status.ensures.reported (search rules)

pub returns : goal.returns
returns g c = λ entries h.
    let one : c.report_input-status.result ≡ 1 = search rules in
    fill_refused g.E.Write.contents c.args.err.now c.report_input-status.new.err c.report_hint.new.err entries c.args.name.now (g.R.Read.remaining c.args.reader.now) (g.R.Read.remaining c.read_with.new.reader) c.args.store.now c.read_with.new.sink c.in-Err.error
    c.report_input-status.result c.read_with.new.parts c.in-Err.ensures.refused c.in-Err.ensures.had c.report_input-status.ensures.reported one c.report_hint.ensures.reported c.report_hint.ensures.stays
