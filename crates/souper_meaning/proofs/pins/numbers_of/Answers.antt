use Rattle.std.proofs.Common.{◌≡◌, ◌∙◌, ℕ, List, Option, length, replicate, sym, ap, arith, rules}
use Rattle.std.specs.Prelude.{slice_index_or}
use Rattle.std.specs.List.{enumerate_from}
use Rattle.std.proofs.lemmas.List.{length-map, get_or-replicate, with_items_is, places}
use Rattle.souper_graph.specs.declared.ast.statements.Statement.{Statement as StatementNode}
use Rattle.souper_graph.specs.Values.{Item}
use Rattle.souper_graph.specs.View.{view_statement}
use Rattle.souper_graph.specs.PartsView.{view_parts}
use Rattle.souper_widths.specs.Maps.{WidthMap}
use Rattle.souper_widths.specs.View.{view_widths}
use Rattle.souper_meaning.specs.declared.spans.Span.{Span}
use Rattle.souper_meaning.specs.declared.pins.Pin.{Pin}
use Rattle.souper_meaning.specs.Pins.{unsaid, pinned_by}
use Rattle.souper_meaning.proofs.Pinned.{pinned_among, pinned_among_all}
use Rattle.souper_meaning.proofs.pins.numbers_of.Goals as goal

pub loop-statement-init : goal.loop-statement-init
loop-statement-init c =
    let a : Item = view_parts c.args.parts.now in
    let m : WidthMap = view_widths c.args.plan.now.widths in
    let xs : List StatementNode = c.args.parts.now.statements.now in
    let size : length c.in_ok-numbers.numbers.items ≡ length a.statements = omega (arith, c.in_ok-numbers.numbers.ok.0, c.in_ok-numbers.ensures.len, c.len.ensures, length-map xs view_statement) in
    let all : c.in_ok-numbers.numbers.items ≡ replicate c.len.result unsaid = c.in_ok-numbers.ensures.items_if_clones_equal (λ y q. q) in
    let rest : c.into_iter-statement-iterator.result ≡ enumerate_from 0 xs = c.into_iter-statement-iterator.ensures.into_iter_gives ∙ c.iter-statement-items.ensures in (
      tt,
      tt,
      size,
      λ p l.
          let first : slice_index_or c.in_ok-numbers.numbers.items p unsaid ≡ unsaid =
          ap (λ (z : List Span). slice_index_or z p unsaid) all ∙ get_or-replicate c.len.result p unsaid unsaid (omega (arith, l, c.len.ensures, length-map xs view_statement))
          in
          ap (λ (s : Span). pinned_among a m p s c.into_iter-statement-iterator.result) first ∙ ap (λ (z : List (ℕ × StatementNode)). pinned_among a m p unsaid z) rest ∙ pinned_among_all a m p unsaid 0 xs,
    )

pub loop-statement-preserved : goal.loop-statement-preserved
loop-statement-preserved c =
    let a : Item = view_parts c.args.parts.now in
    let m : WidthMap = view_widths c.args.plan.now.widths in
    let ns : List Span = c.loop-statement.numbers.items in
    let whole = with_items_is c.loop-statement.numbers c.narrow.new.numbers (search (rules, places)) in
    let size : length ns ≡ length a.statements = c.loop-statement.invariant.2 in
    let same : length c.deref_mut.result.now ≡ length ns = ap (λ (z : List Span). length z) c.deref_mut.ensures.value in (
      tt,
      tt,
      ap (λ (z : List Span). length z) whole ∙ c.narrow.auto.numbers ∙ same ∙ size,
      λ p l.
          let here : slice_index_or c.narrow.new.numbers p unsaid ≡ pinned_by m p (slice_index_or c.deref_mut.result.now p unsaid) c.pin_of-pin.result = c.narrow.ensures p (omega (arith, l, same, size)) in
          ap (λ (z : List Span). pinned_among a m p (slice_index_or z p unsaid) c.next.new.self) whole
          ∙ ap (λ (s : Span). pinned_among a m p s c.next.new.self)
          (here ∙ ap (λ (z : List Span). pinned_by m p (slice_index_or z p unsaid) c.pin_of-pin.result) c.deref_mut.ensures.value
          ∙ ap (λ (o : Option Pin). pinned_by m p (slice_index_or ns p unsaid) o) c.pin_of-pin.ensures)
          ∙ ap (λ (z : List (ℕ × StatementNode)). pinned_among a m p (slice_index_or ns p unsaid) z) (sym c.in-Some.ensures.steps) ∙ c.loop-statement.invariant.3 p l,
    )
