-- Lemmas. The text of a node that is carried to other positions is the same, if the names there are the same.
use Rattle.std.proofs.Common.{◌≡◌, ℕ, List, [], ◌∷◌, ◌++◌, map, refl, ap, ◌∙◌, inl, inr}
use Rattle.std.specs.Prelude.{codes, decimal}
use Rattle.souper_graph.specs.declared.ast.operands.Operand.{Operand}
use Rattle.souper_graph.specs.declared.ast.operands.Operand.TheVariants.{Value, Constant as constant_variant}
use Rattle.souper_graph.specs.declared.ast.instructions.Instruction.{Instruction}
use Rattle.souper_graph.specs.Values.{PlainRhs, var, block, phi, reserved_inst, reserved_const, instruction, PlainStatement, assigned, condition, block_condition, PlainInfer, PlainCand}
use Rattle.souper_graph.specs.Instructions.{word_of, operands_of, instruction_map}
use Rattle.souper_graph.specs.Leaves.{text_of_optional_type, text_of_attributes, text_of_root_attributes}
use Rattle.souper_graph.specs.Uses.{Has, Use, value_use, block_use, position_of, uses_of_operand, uses_of_operands, uses_of_rhs, uses_of}
use Rattle.souper_graph.specs.Text.{name_at, text_of_operand, text_of_further, text_of_operands, text_of_instruction, text_of_rhs, text_of_statement, text_of_infer, text_of_cand, text_of_result}
use Rattle.souper_graph.specs.Sameness.{carried_operand, carried_rhs, carried, carried_infer, carried_cand}
use Rattle.souper_graph.proofs.Lists.{Has-left, Has-right}
use Rattle.souper_graph.proofs.Sameness.InstructionMaps.{operands-map, word-map}

module _ (f : ℕ → ℕ) (ss ts : List PlainStatement) where
  -- each of these uses is carried to a position of the same name
  abbrev pub SameNames : List Use → Type 0
  SameNames us = (u : Use) → Has us u → name_at ts (f (position_of u)) ≡ name_at ss (position_of u)

  names_left : (us vs : List Use) → SameNames (us ++ vs) → SameNames us
  names_left us vs k u h = k u (Has-left us vs u h)

  names_right : (us vs : List Use) → SameNames (us ++ vs) → SameNames vs
  names_right us vs k u h = k u (Has-right us vs u h)

  operand-carried : (x : Operand) → SameNames (uses_of_operand x) → text_of_operand ts (carried_operand f x) ≡ text_of_operand ss x
  operand-carried (Value i) k = k (value_use i) (inl refl)
  operand-carried (constant_variant c) k = refl

  further-carried : (xs : List Operand) → SameNames (uses_of_operands xs) → text_of_further ts (map (carried_operand f) xs) ≡ text_of_further ss xs
  further-carried [] k = refl
  further-carried (x ∷ xs) k =
      (λ j. (44 ∷ 32 ∷ operand-carried x (names_left (uses_of_operand x) (uses_of_operands xs) k) j) ++ further-carried xs (names_right (uses_of_operand x) (uses_of_operands xs) k) j)

  operands-carried : (xs : List Operand) → SameNames (uses_of_operands xs) → text_of_operands ts (map (carried_operand f) xs) ≡ text_of_operands ss xs
  operands-carried [] k = refl
  operands-carried (x ∷ xs) k =
      (λ j. 32 ∷ (operand-carried x (names_left (uses_of_operand x) (uses_of_operands xs) k) j ++ further-carried xs (names_right (uses_of_operand x) (uses_of_operands xs) k) j))

  instruction-carried : (i : Instruction) → SameNames (uses_of_operands (operands_of i)) → text_of_instruction ts (instruction_map (carried_operand f) i) ≡ text_of_instruction ss i
  instruction-carried i k =
      (λ j. word-map (carried_operand f) i j ++ text_of_operands ts (operands-map (carried_operand f) i j)) ∙ ap (λ (z : List ℕ). word_of i ++ z) (operands-carried (operands_of i) k)

  rhs-carried : (r : PlainRhs) → SameNames (uses_of_rhs r) → text_of_rhs ts (carried_rhs f r) ≡ text_of_rhs ss r
  rhs-carried var k = refl
  rhs-carried (block b) k = refl
  rhs-carried (phi p) k = (λ j. codes "phi " ++ (k (block_use p.block) (inl refl) j ++ further-carried p.values (λ u h. k u (inr h)) j))
  rhs-carried reserved_inst k = refl
  rhs-carried reserved_const k = refl
  rhs-carried (instruction i) k = instruction-carried i k

  pub statement-carried : (s : PlainStatement) → SameNames (uses_of s) → text_of_statement ts (carried f s) ≡ text_of_statement ss s
  statement-carried (assigned a) k =
      (λ j. (a.name ++ (text_of_optional_type a.ty ++ (codes " = " ++ (rhs-carried a.value k j ++ text_of_attributes a.attributes)))) ++ codes "\n")
  statement-carried (condition p) k =
      let x = operand-carried p.x (names_left (uses_of_operand p.x) (uses_of_operand p.y) k) in
      let y = operand-carried p.y (names_right (uses_of_operand p.x) (uses_of_operand p.y) k) in
      (λ j. (codes "pc " ++ (x j ++ (codes " " ++ y j))) ++ codes "\n")
  statement-carried (block_condition p) k =
      let after : SameNames (uses_of_operand p.x ++ uses_of_operand p.y) = λ u h. k u (inr h) in
      let b = k (block_use p.block) (inl refl) in
      let x = operand-carried p.x (names_left (uses_of_operand p.x) (uses_of_operand p.y) after) in
      let y = operand-carried p.y (names_right (uses_of_operand p.x) (uses_of_operand p.y) after) in
      (λ j. (codes "blockpc " ++ (b j ++ (codes " " ++ (decimal p.predecessor ++ (codes " " ++ (x j ++ (codes " " ++ y j))))))) ++ codes "\n")

  pub infer-carried : (i : PlainInfer) → SameNames (value_use i.value ∷ []) → text_of_infer ts (carried_infer f i) ≡ text_of_infer ss i
  infer-carried i k = (λ j. codes "infer " ++ (k (value_use i.value) (inl refl) j ++ (text_of_root_attributes i.attributes ++ codes "\n")))

  pub cand-carried : (c : PlainCand) → SameNames (uses_of_operand c.lhs ++ uses_of_operand c.rhs) → text_of_cand ts (carried_cand f c) ≡ text_of_cand ss c
  cand-carried c k =
      let x = operand-carried c.lhs (names_left (uses_of_operand c.lhs) (uses_of_operand c.rhs) k) in
      let y = operand-carried c.rhs (names_right (uses_of_operand c.lhs) (uses_of_operand c.rhs) k) in
      (λ j. codes "cand " ++ (x j ++ (codes " " ++ (y j ++ (text_of_root_attributes c.attributes ++ codes "\n")))))

  pub result-carried : (r : Operand) → SameNames (uses_of_operand r) → text_of_result ts (carried_operand f r) ≡ text_of_result ss r
  result-carried r k = ap (λ (z : List ℕ). codes "result " ++ z) (operand-carried r k)
