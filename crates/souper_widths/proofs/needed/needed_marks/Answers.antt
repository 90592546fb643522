use Rattle.std.proofs.Common.{◌≡◌, ℕ, Bool, false, List, length, replicate, sym, ap, subst, ◌∙◌, arith}
use Rattle.std.proofs.lemmas.List.{length-map}
use Rattle.souper_graph.specs.Values.{Item}
use Rattle.souper_graph.specs.View.{view_statement}
use Rattle.souper_graph.specs.PartsView.{view_parts}
use Rattle.souper_widths.specs.Nodes.{MarkNeeded}
use Rattle.souper_widths.proofs.NeededMarks.{put-whole}
use Rattle.souper_widths.proofs.needed.needed_marks.Goals as goal

pub mark_needed-requires-clause-none : goal.mark_needed-requires-clause-none
mark_needed-requires-clause-none c =
    let a : Item = view_parts c.args.parts.now in
    let size : c.len.result ≡ length a.statements = c.len.ensures ∙ sym (length-map c.args.parts.now.statements.now view_statement) in
    c.deref_mut.ensures.value ∙ c.in_ok-marks.ensures.items_if_clones_equal (λ y e. e) ∙ ap (λ (n : ℕ). replicate n false) size

pub returns : goal.returns
returns c =
    let a : Item = view_parts c.args.parts.now in
    let new : List Bool = c.mark_needed.new.marks in
    let old : List Bool = c.in_ok-marks.marks.items in
    let same = put-whole new old c.in_ok-marks.marks.len (omega (arith, c.mark_needed.auto.marks, ap (λ (z : List Bool). length z) c.deref_mut.ensures.value)) (omega (arith, c.in_ok-marks.marks.ok.0)) in
    subst (MarkNeeded a) (sym same) c.mark_needed.ensures
