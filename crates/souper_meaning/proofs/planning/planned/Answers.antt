use Rattle.std.proofs.Common.{◌≡◌, ℕ, ◌<◌, List, Bool, length, sym, ap, subst, ◌∙◌}
use Rattle.std.proofs.lemmas.List.{length-map}
use Rattle.souper_graph.specs.Values.{Item}
use Rattle.souper_graph.specs.View.{view_statement}
use Rattle.souper_graph.specs.PartsView.{view_parts}
use Rattle.souper_widths.specs.Nodes.{MarkNeeded}
use Rattle.souper_widths.specs.View.{view_widths}
use Rattle.souper_meaning.proofs.Marked.{marks_needed}
use Rattle.souper_meaning.proofs.Walked.{refusal_error}
use Rattle.souper_meaning.proofs.planning.planned.Goals as goal

pub marks_of-requires : goal.marks_of-requires
marks_of-requires c i h =
    let size : c.len.result ≡ length (view_parts c.args.parts.now).statements = c.len.ensures ∙ sym (length-map c.args.parts.now.statements.now view_statement) in
    subst (λ (z : ℕ). i < z) (sym size) (c.requires.inside i h)

pub refusal-requires-clause-marked : goal.refusal-requires-clause-marked
refusal-requires-clause-marked c =
    let a : Item = view_parts c.args.parts.now in
    let size : c.len.result ≡ length a.statements = c.len.ensures ∙ sym (length-map c.args.parts.now.statements.now view_statement) in
    subst (MarkNeeded a) (sym c.deref.ensures.value) (marks_needed a c.in_ok-needed.needed.items c.args.ids.now c.len.result size c.requires.exact c.in_ok-needed.ensures)

pub refusal-requires-clause-results : goal.refusal-requires-clause-results
refusal-requires-clause-results c =
    let size : c.len.result ≡ length (view_parts c.args.parts.now).statements = c.len.ensures ∙ sym (length-map c.args.parts.now.statements.now view_statement) in
    c.requires.typed.has.results ∙ sym (ap (λ (z : List Bool). length z) c.deref.ensures.value ∙ c.in_ok-needed.ensures.size ∙ size)

pub refusal-requires-clause-operands : goal.refusal-requires-clause-operands
refusal-requires-clause-operands c =
    let size : c.len.result ≡ length (view_parts c.args.parts.now).statements = c.len.ensures ∙ sym (length-map c.args.parts.now.statements.now view_statement) in
    c.requires.typed.has.operands ∙ sym (ap (λ (z : List Bool). length z) c.deref.ensures.value ∙ c.in_ok-needed.ensures.size ∙ size)

pub returns-in-Some-clause-refused : goal.returns-in-Some-clause-refused
returns-in-Some-clause-refused c =
    refusal_error (view_parts c.args.parts.now) (view_widths c.args.widths) c.in-Some.error c.requires.well_formed c.requires.typed c.in-Some.ensures

pub returns-in-None-clause-planned : goal.returns-in-None-clause-planned
returns-in-None-clause-planned c =
    let a : Item = view_parts c.args.parts.now in
    let size : c.len.result ≡ length a.statements = c.len.ensures ∙ sym (length-map c.args.parts.now.statements.now view_statement) in
    record {
      well_formed = c.requires.well_formed;
      typed = c.requires.typed;
      marked = marks_needed a c.in_ok-needed.needed.items c.args.ids.now c.len.result size c.requires.exact c.in_ok-needed.ensures;
      evaluable = c.in-None.ensures;
    }
