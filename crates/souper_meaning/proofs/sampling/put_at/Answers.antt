use Rattle.std.proofs.Common.{◌≡◌, ◌<◌, ℕ, List, Some, None, length, sym, ap, subst, ◌∙◌}
use Rattle.std.specs.Prelude.{slice_get, slice_index_or}
use Rattle.souper_graph.specs.declared.ast.statements.Statement.{Statement as StatementNode}
use Rattle.souper_graph.specs.Values.{Item}
use Rattle.souper_graph.specs.View.{view_statement}
use Rattle.souper_graph.specs.PartsView.{view_parts}
use Rattle.souper_widths.specs.Maps.{WidthMap}
use Rattle.souper_widths.specs.View.{view_widths}
use Rattle.souper_meaning.specs.View.{view_world, view_mode}
use Rattle.souper_meaning.specs.declared.spans.Span.{Span}
use Rattle.souper_meaning.specs.Pins.{unsaid, numbers_at}
use Rattle.souper_meaning.proofs.EdgeNumbers.{edges_some}
use Rattle.souper_meaning.proofs.Walked.{viewed, not_none}
use Rattle.souper_meaning.proofs.TriesBelow.{put_given}
use Rattle.souper_meaning.proofs.sampling.put_at.Goals as goal

pub put_statement-requires-clause-some : goal.put_statement-requires-clause-some
put_statement-requires-clause-some c = subst (λ (es : List ℕ). 0 < length es) (sym c.requires.hints.edges) (edges_some (view_parts c.args.parts.now))

pub returns-in-Some-clause-places : goal.returns-in-Some-clause-places
returns-in-Some-clause-places c = c.put_statement.ensures.places (length (view_parts c.args.parts.now).statements) c.requires.places

pub returns-in-Some-clause-given : goal.returns-in-Some-clause-given
returns-in-Some-clause-given c = λ d.
    let a : Item = view_parts c.args.parts.now in
    let m : WidthMap = view_widths c.args.plan.now.widths in
    let xs : List StatementNode = c.args.parts.now.statements.now in
    let s : StatementNode = c.in-Some.statement.now in
    let p : ℕ = c.args.position in
    let e : slice_get a.statements p ≡ Some (view_statement s) = viewed xs p (Some s) (ap (slice_get xs) (sym c.at.ensures) ∙ sym c.in-Some.ensures) in
    let h : c.numbers_at-left.result ≡ numbers_at a m p =
    c.numbers_at-left.ensures ∙ ap (λ (z : List Span). slice_index_or z p unsaid) c.deref.ensures.value ∙ c.requires.hints.numbers p c.requires.inside
    in
    put_given (view_mode c.args.tried.now.mode) a m (view_world c.put_statement.new.world) p c.args.tried.now.number c.args.tried.now.state c.widths_at-widths.result.result c.args.tried.now.hints.now.edges.items
    c.numbers_at-left.result (view_statement s) e c.widths_at-widths.ensures.result c.requires.hints.edges h c.put_statement.ensures.given

pub returns-in-None-clause-given : goal.returns-in-None-clause-given
returns-in-None-clause-given c = λ d.
    let xs : List StatementNode = c.args.parts.now.statements.now in
    let p : ℕ = c.args.position in
    absurd (not_none (view_parts c.args.parts.now) p c.requires.planned.well_formed d (viewed xs p None (ap (slice_get xs) (sym c.at.ensures) ∙ sym c.in-None.ensures)))
