use Rattle.std.proofs.Common.{rules, ◌≡◌, ℕ, List, ◌∷◌, ◌++◌}
use Rattle.souper_graph.specs.declared.ast.instructions.Instruction.{Instruction}
use Rattle.souper_graph.specs.Values.{PlainPhi, PlainRhs, var, block, phi, reserved_inst, reserved_const, instruction}
use Rattle.souper_code.specs.Codes.{code_of_phi, code_of_instruction, code_of_rhs}
use Rattle.souper_code.specs.Codable.{CodablePhi, CodableInstruction, CodableRhs}
use Rattle.souper_code.proofs.Lists.{passed}
use Rattle.souper_code.proofs.decode.Reader.rhs.Goals as goal

phi_with : (all left rest : List ℕ) (x : PlainRhs) → all ≡ 2 ∷ left → CodableRhs x → all ≡ code_of_rhs x ++ rest → (p : PlainPhi) × CodablePhi p × (left ≡ code_of_phi p ++ rest)
phi_with all left rest var tag fits e = absurd (cc)
phi_with all left rest (block b) tag fits e = absurd (cc)
phi_with all left rest (phi p) tag fits e = (p, fits, cc)
phi_with all left rest reserved_inst tag fits e = absurd (cc)
phi_with all left rest reserved_const tag fits e = absurd (cc)
phi_with all left rest (instruction i) tag fits e = absurd (cc)

instruction_with : (all left rest : List ℕ) (x : PlainRhs) → all ≡ 5 ∷ left → CodableRhs x → all ≡ code_of_rhs x ++ rest
    → (i : Instruction) × CodableInstruction i × (left ≡ code_of_instruction i ++ rest)
instruction_with all left rest var tag fits e = absurd (cc)
instruction_with all left rest (block b) tag fits e = absurd (cc)
instruction_with all left rest (phi p) tag fits e = absurd (cc)
instruction_with all left rest reserved_inst tag fits e = absurd (cc)
instruction_with all left rest reserved_const tag fits e = absurd (cc)
instruction_with all left rest (instruction i) tag fits e = (i, fits, cc)

pub returns-in_err-phi-in-2-clause-only : goal.returns-in_err-phi-in-2-clause-only
returns-in_err-phi-in-2-clause-only c = λ x rest fits e.
    let (p, fit, front) = phi_with _ _ rest x (search rules) fits e in
    passed _ c.in_err-phi-in-2.field-0.0 _ _ _ (search rules) (c.in_err-phi-in-2.ensures.only p rest fit front)

pub returns-in_err-instruction-in-5-clause-only : goal.returns-in_err-instruction-in-5-clause-only
returns-in_err-instruction-in-5-clause-only c = λ x rest fits e.
    let (i, fit, front) = instruction_with _ _ rest x (search rules) fits e in
    passed _ c.in_err-instruction-in-5.field-0.0 _ _ _ (search rules) (c.in_err-instruction-in-5.ensures.only i rest fit front)
