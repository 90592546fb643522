use Rattle.std.proofs.Common.{◌↔◌, ◌∙◌, List, map, refl, sym, subst}
use Rattle.std.specs.Prelude.{IsTrue}
use Rattle.std.proofs.lemmas.Bool.{false≢true}
use Rattle.souper_graph.specs.declared.ast.attributes.Attribute.{Attribute}
use Rattle.souper_graph.specs.View.{view_attribute, view_rhs}
use Rattle.souper_meaning.specs.Evaluable.{AreTestable}
use Rattle.souper_meaning.specs.Sound.{MeetsFacts}
use Rattle.souper_meaning.proofs.Meeting.{testable_input, input_meets, meets_input, other_meets}
use Rattle.souper_meaning.proofs.conditions.assignment_is_met.Goals as goal

pub returns-then-not-is_input : goal.returns-then-not-is_input
returns-then-not-is_input c = (
  (λ e. other_meets c.args.width c.args.value (map view_attribute c.args.assignment.now.attributes.items) (view_rhs c.args.assignment.now.value) (λ i. false≢true (sym c.if-not-is_input.true ∙ c.is_input_rhs-is_input.ensures.1 i))),
  (λ h. refl),
)

pub meets_facts-requires : goal.meets_facts-requires
meets_facts-requires c =
    subst (λ (fs : List Attribute). AreTestable c.args.width c.args.value (map view_attribute fs)) (sym c.deref.ensures.value)
    (testable_input c.args.width c.args.value (map view_attribute c.args.assignment.now.attributes.items) (view_rhs c.args.assignment.now.value) (c.is_input_rhs-is_input.ensures.0 c.if-not-is_input.false) c.requires)

pub returns : goal.returns
returns c =
    let q = subst (λ (fs : List Attribute). IsTrue c.meets_facts.result ↔ MeetsFacts c.args.width c.args.value (map view_attribute fs)) c.deref.ensures.value c.meets_facts.ensures in
    let i = c.is_input_rhs-is_input.ensures.0 c.if-not-is_input.false in (
      (λ t. input_meets c.args.width c.args.value (map view_attribute c.args.assignment.now.attributes.items) (view_rhs c.args.assignment.now.value) i (q.0 t)),
      (λ h. q.1 (meets_input c.args.width c.args.value (map view_attribute c.args.assignment.now.attributes.items) (view_rhs c.args.assignment.now.value) i h)),
    )
