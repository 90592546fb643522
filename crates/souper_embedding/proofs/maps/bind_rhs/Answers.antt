use Rattle.std.proofs.Common.{◌≡◌, length, map, sym, ap, ◌∙◌, subst}
use Rattle.std.specs.Cmp.Lexicographic.{same_text, other_text}
use Rattle.souper_graph.specs.Instructions.{word_of, operands_of}
use Rattle.souper_graph.specs.View.{view_phi, view_rhs}
use Rattle.souper_graph.specs.Uses.{position_of, uses_of_operands, uses_of_rhs}
use Rattle.souper_graph.specs.Values.{phi, instruction}
use Rattle.souper_graph.specs.Sameness.{carried_operand, carried_rhs}
use Rattle.souper_embedding.specs.Maps.{AreBelow}
use Rattle.souper_embedding.proofs.Operands.{phi-parts, instruction-parts, carried-instruction}
use Rattle.souper_embedding.proofs.maps.bind_rhs.Goals as goal

pub returns-in-Phi-y-clause-forced : goal.returns-in-Phi-y-clause-forced
returns-in-Phi-y-clause-forced c = λ f w e below.
    let same : phi (view_phi c.in-Phi-y.other) ≡ carried_rhs f (phi (view_phi c.in-Phi.phi)) = sym (ap view_rhs c.in-Phi-y.is) ∙ e ∙ ap (λ z. carried_rhs f (view_rhs z)) c.in-Phi.is in
    let p = phi-parts f (view_phi c.in-Phi.phi) (view_phi c.in-Phi-y.other) same in
    c.bind_phi.ensures.forced f w p.0 p.1 (subst (λ z. AreBelow (length c.args.to.now) (map position_of (uses_of_rhs (view_rhs z)))) c.in-Phi.is below)

pub returns-then-eq-clause-sound : goal.returns-then-eq-clause-sound
returns-then-eq-clause-sound c = λ t f w.
    let a = c.in-Instruction.instruction in
    let b = c.in-Instruction-y.other in
    let words : word_of a ≡ word_of b = sym c.instruction_name.ensures ∙ same_text _ _ (sym c.if-eq.true ∙ c.eq.ensures) ∙ c.instruction_name-in-Instruction-y.ensures in
    let from = c.deref.ensures.0 ∙ c.operands.ensures in
    let into = c.deref-then-eq.ensures.0 ∙ c.operands-then-eq.ensures in
    let operands : operands_of b ≡ map (carried_operand f) (operands_of a) = sym into ∙ c.bind_operands.ensures.sound t f w ∙ ap (map (carried_operand f)) from in
    ap view_rhs c.in-Instruction-y.is ∙ ap (λ z. instruction z) (carried-instruction f a b words operands) ∙ sym (ap (λ z. carried_rhs f (view_rhs z)) c.in-Instruction.is)

pub returns-then-eq-clause-forced : goal.returns-then-eq-clause-forced
returns-then-eq-clause-forced c = λ f w e below.
    let a = c.in-Instruction.instruction in
    let b = c.in-Instruction-y.other in
    let same : instruction b ≡ carried_rhs f (instruction a) = sym (ap view_rhs c.in-Instruction-y.is) ∙ e ∙ ap (λ z. carried_rhs f (view_rhs z)) c.in-Instruction.is in
    let p = instruction-parts f a b same in
    let from = c.deref.ensures.0 ∙ c.operands.ensures in
    let into = c.deref-then-eq.ensures.0 ∙ c.operands-then-eq.ensures in
    let below-a : AreBelow (length c.args.to.now) (map position_of (uses_of_operands (operands_of a))) = subst (λ z. AreBelow (length c.args.to.now) (map position_of (uses_of_rhs (view_rhs z)))) c.in-Instruction.is below in
    c.bind_operands.ensures.forced f w (into ∙ p.1 ∙ sym (ap (map (carried_operand f)) from)) (subst (λ z. AreBelow (length c.args.to.now) (map position_of (uses_of_operands z))) (sym from) below-a)

pub returns-else-eq-clause-forced : goal.returns-else-eq-clause-forced
returns-else-eq-clause-forced c = λ f w e below.
    let a = c.in-Instruction.instruction in
    let b = c.in-Instruction-y.other in
    let same : instruction b ≡ carried_rhs f (instruction a) = sym (ap view_rhs c.in-Instruction-y.is) ∙ e ∙ ap (λ z. carried_rhs f (view_rhs z)) c.in-Instruction.is in
    let p = instruction-parts f a b same in
    absurd (other_text _ _ (sym c.if-eq.false ∙ c.eq.ensures) (c.instruction_name.ensures ∙ p.0 ∙ sym c.instruction_name-in-Instruction-y.ensures))
