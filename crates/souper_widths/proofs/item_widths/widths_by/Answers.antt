use Rattle.std.proofs.Common.{◌≡◌, ◌++◌, ◌∷◌, [], ◌*◌, ℕ, List, length, get_or, sym, ap, ◌∙◌, arith, add-one}
use Rattle.std.proofs.lemmas.List.{length-map}
use Rattle.souper_graph.specs.Values.{Item}
use Rattle.souper_graph.specs.View.{view_statement}
use Rattle.souper_graph.specs.PartsView.{view_parts}
use Rattle.souper_widths.specs.Maps.{WidthMap}
use Rattle.souper_widths.specs.Forest.{filled}
use Rattle.souper_widths.specs.Nodes.{listed, shown_at, operands_shown_at}
use Rattle.souper_widths.specs.Told.{map_told}
use Rattle.souper_widths.proofs.Locations.{same_fields}
use Rattle.souper_widths.proofs.Untold.{shows-result, shows-operands, shows-root}
use Rattle.souper_widths.proofs.item_widths.widths_by.Goals as goal

pub loop-position-preserved : goal.loop-position-preserved
loop-position-preserved c =
    let a : Item = view_parts c.args.parts.now in
    let q = c.requires in
    let p : ℕ = c.loop-position.position in
    let f : ℕ → ℕ = shown_at a.statements c.args.marks.now (filled 1 c.args.nodes.now) in
    let g : ℕ → ℕ = operands_shown_at a.statements c.args.marks.now (filled 1 c.args.nodes.now) in
    record {
      results = c.in_ok-push.ensures.items ∙ ap (λ (z : List ℕ). z ++ c.widths_at-own.result.0 ∷ []) c.loop-position.invariant.results
          ∙ ap (λ (z : ℕ). listed f p ++ z ∷ []) (c.widths_at-own.ensures.own ∙ shows-result a c.args.marks.now c.args.nodes.now p q.marked q.told) ∙ ap (listed f) (sym (add-one p));
      operands = c.in_ok-push-2.ensures.items ∙ ap (λ (z : List ℕ). z ++ c.widths_at-own.result.1 ∷ []) c.loop-position.invariant.operands
          ∙ ap (λ (z : ℕ). listed g p ++ z ∷ []) (c.widths_at-own.ensures.used ∙ shows-operands a c.args.marks.now c.args.nodes.now p q.marked q.told) ∙ ap (listed g) (sym (add-one p));
    }

pub returns : goal.returns
returns c =
    let a : Item = view_parts c.args.parts.now in
    let ws : List ℕ = c.args.nodes.now in
    let f : ℕ → ℕ = shown_at a.statements c.args.marks.now (filled 1 ws) in
    let g : ℕ → ℕ = operands_shown_at a.statements c.args.marks.now (filled 1 ws) in
    let m : WidthMap = record { results = c.loop-position.results.items; operands = c.loop-position.operands.items; root = c.from-root.result } in
    let size : c.len.result ≡ length a.statements = c.len.ensures ∙ sym (length-map c.args.parts.now.statements.now view_statement) in
    let end : c.loop-position.position ≡ length a.statements = omega (arith, c.loop-position-test.false, c.loop-position.auto.position-end, c.requires.marked.size) in
    same_fields m (map_told a.statements c.args.marks.now ws)
    (c.loop-position.invariant.results ∙ ap (listed f) end)
    (c.loop-position.invariant.operands ∙ ap (listed g) end)
    (c.from-root.ensures ∙ ap (λ (z : ℕ). get_or ws (2 * z) 0) size ∙ shows-root a ws c.requires.told)
