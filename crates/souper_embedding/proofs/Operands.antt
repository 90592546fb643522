-- The operands of a statement, one after another.
use Rattle.std.proofs.Common.{◌≡◌, ℕ, zero, suc, ◌+◌, ◌<◌, ◌++◌, length, map, take, get_or, List, [], ◌∷◌, Option, Some, refl, sym, ap, ◌∙◌, subst, inl, append-nil, arith}
use Rattle.std.specs.Prelude.{slice_get}
use Rattle.std.proofs.lemmas.Option.{slice_get_read}
use Rattle.std.proofs.lemmas.List.{map-append}
use Rattle.std.proofs.lemmas.Grind.{flat_map-append}
use Rattle.souper_graph.specs.declared.ast.operands.Operand.{Operand}
use Rattle.souper_graph.specs.declared.ast.instructions.Instruction.{Instruction}
use Rattle.souper_graph.specs.Instructions.{word_of, operands_of, instruction_map}
use Rattle.souper_graph.specs.Uses.{Has, Use, position_of, uses_of_operand, uses_of_operands}
use Rattle.souper_graph.specs.declared.ast.statements.Pc.{Pc}
use Rattle.souper_graph.specs.declared.ast.statements.BlockPc.{BlockPc}
use Rattle.souper_graph.specs.declared.ast.operands.Operand.TheVariants.{Value}
use Rattle.souper_graph.specs.Values.{PlainPhi, phi, instruction, condition, block_condition}
use Rattle.souper_graph.specs.Sameness.{carried, carried_operand, carried_rhs}
use Rattle.souper_graph.proofs.Lists.{Has-left, Has-right}
use Rattle.souper_graph.proofs.Sameness.InstructionMaps.{operands-map, word-map}
use Rattle.souper_embedding.specs.Maps.{Binds, AreBelow}
use Rattle.souper_embedding.proofs.KnownMaps.{binds-both}
use Rattle.souper_embedding.proofs.Instructions.{one-instruction}

pub carried-instruction : (f : ℕ → ℕ) (i k : Instruction) → word_of i ≡ word_of k → operands_of k ≡ map (carried_operand f) (operands_of i) → k ≡ instruction_map (carried_operand f) i
carried-instruction f i k w o = one-instruction k (instruction_map (carried_operand f) i) (sym w ∙ sym (word-map (carried_operand f) i)) (o ∙ sym (operands-map (carried_operand f) i))

pub positions-append : (xs ys : List Operand) → map position_of (uses_of_operands (xs ++ ys)) ≡ map position_of (uses_of_operands xs) ++ map position_of (uses_of_operands ys)
positions-append xs ys = ap (map position_of) (flat_map-append uses_of_operand xs ys) ∙ map-append position_of (uses_of_operands xs) (uses_of_operands ys)

pub positions-one : (x : Operand) → map position_of (uses_of_operands (x ∷ [])) ≡ map position_of (uses_of_operand x)
positions-one x = ap (map position_of) (append-nil (uses_of_operand x))

-- the uses of one of these operands are among those of all
pub below-one : (n : ℕ) (xs : List Operand) (k : ℕ) (x : Operand) → slice_get xs k ≡ Some x → AreBelow n (map position_of (uses_of_operands xs)) → AreBelow n (map position_of (uses_of_operand x))
below-one n [] k x e h = absurd (cc)
below-one n (y ∷ xs) zero x e h = λ p m. h p (subst (λ z. Has z p) (sym (positions-append (y ∷ []) xs)) (Has-left _ _ p (subst (λ z. Has z p) (sym (positions-one y)) (subst (λ z. Has (map position_of (uses_of_operand z)) p) (sym (let s : Some y ≡ Some x = e in cc)) m))))
below-one n (y ∷ xs) (suc k) x e h = below-one n xs k x e (λ p m. h p (subst (λ z. Has z p) (sym (positions-append (y ∷ []) xs)) (Has-right _ _ p m)))

-- the image of one of these operands
pub carried-one : (f : ℕ → ℕ) (xs ys : List Operand) (k : ℕ) (x y : Operand) → ys ≡ map (carried_operand f) xs → slice_get xs k ≡ Some x → slice_get ys k ≡ Some y → y ≡ carried_operand f x
carried-one f [] ys k x y e a b = absurd (cc)
carried-one f (z ∷ xs) ys zero x y e a b =
    let c : slice_get ys 0 ≡ Some (carried_operand f z) = ap (λ l. slice_get l 0) e in
    let d : Some y ≡ Some (carried_operand f z) = sym b ∙ c in
    let s : z ≡ x = let w : Some z ≡ Some x = a in cc in
    subst (λ w. y ≡ carried_operand f w) s (let r : y ≡ carried_operand f z = cc in r)
carried-one f (z ∷ xs) [] (suc k) x y e a b = absurd (cc)
carried-one f (z ∷ xs) (w ∷ ys) (suc k) x y e a b = carried-one f xs ys k x y (let t : w ∷ ys ≡ carried_operand f z ∷ map (carried_operand f) xs = e in cc) a b

-- ---- two lists of uses, one after the other

pub both-bound : (a b d : List (Option ℕ)) (us vs : List Use) → Binds a b (map position_of us) → Binds b d (map position_of vs) → Binds a d (map position_of (us ++ vs))
both-bound a b d us vs h k = subst (λ z. Binds a d z) (sym (map-append position_of us vs)) (binds-both a b d (map position_of us) (map position_of vs) h k)

pub below-left : (n : ℕ) (us vs : List Use) → AreBelow n (map position_of (us ++ vs)) → AreBelow n (map position_of us)
below-left n us vs h p m = h p (subst (λ z. Has z p) (sym (map-append position_of us vs)) (Has-left (map position_of us) (map position_of vs) p m))

pub below-right : (n : ℕ) (us vs : List Use) → AreBelow n (map position_of (us ++ vs)) → AreBelow n (map position_of vs)
below-right n us vs h p m = h p (subst (λ z. Has z p) (sym (map-append position_of us vs)) (Has-right (map position_of us) (map position_of vs) p m))

pub below-after : (a b : List (Option ℕ)) (ps rs : List ℕ) → Binds a b ps → AreBelow (length a) rs → AreBelow (length b) rs
below-after a b ps rs h l = subst (λ n. AreBelow n rs) (sym h.long) l

-- ---- path conditions

pub pc-parts : (f : ℕ → ℕ) (x y : Pc) → condition y ≡ carried f (condition x) → (y.x ≡ carried_operand f x.x) × (y.y ≡ carried_operand f x.y)
pc-parts f x y e = let z : y ≡ record { x = carried_operand f x.x; y = carried_operand f x.y } = cc in (ap (λ p. p.x) z, ap (λ p. p.y) z)

pub record BlockPcParts (f : ℕ → ℕ) (x y : BlockPc) : Type 0 where
  pub block : y.block ≡ f x.block
  pub predecessor : y.predecessor ≡ x.predecessor
  pub x_is : y.x ≡ carried_operand f x.x
  pub y_is : y.y ≡ carried_operand f x.y

pub block-pc-parts : (f : ℕ → ℕ) (x y : BlockPc) → block_condition y ≡ carried f (block_condition x) → BlockPcParts f x y
block-pc-parts f x y e =
    let z : y ≡ record { block = f x.block; predecessor = x.predecessor; x = carried_operand f x.x; y = carried_operand f x.y } = cc in
    record { block = ap (λ p. p.block) z; predecessor = ap (λ p. p.predecessor) z; x_is = ap (λ p. p.x) z; y_is = ap (λ p. p.y) z }

-- ---- values

pub value-forced : (f : ℕ → ℕ) (n : ℕ) (x y : Operand) (p q : ℕ) → x ≡ Value p → y ≡ Value q → y ≡ carried_operand f x → AreBelow n (map position_of (uses_of_operand x)) → (f p ≡ q) × (p < n)
value-forced f n x y p q ex ey e below =
    let z : Value q ≡ Value (f p) = sym ey ∙ e ∙ ap (carried_operand f) ex in
    let v : q ≡ f p = cc in
    (sym v, (subst (λ w. AreBelow n (map position_of (uses_of_operand w))) ex below) p (inl refl))

-- ---- one operand more

step-suc : (xs : List Operand) (k : ℕ) (x : Operand) → k < length xs → x ≡ get_or xs k x → take (suc k) xs ≡ take k xs ++ x ∷ []
step-suc [] k x l e = absurd (omega arith)
step-suc (y ∷ ys) zero x l e = ap (λ z. z ∷ take 0 ys) (sym e) ∙ ap (λ z. x ∷ z) (none ys)
  where
    none : (zs : List Operand) → take 0 zs ≡ []
    none [] = refl
    none (z ∷ zs) = refl
step-suc (y ∷ ys) (suc k) x l e = ap (λ z. y ∷ z) (step-suc ys k x (omega arith) e)

pub take-step : (xs : List Operand) (k : ℕ) (x : Operand) → k < length xs → x ≡ get_or xs k x → take (k + 1) xs ≡ take k xs ++ x ∷ []
take-step xs k x l e = let s : k + 1 ≡ suc k = omega arith in ap (λ n. take n xs) s ∙ step-suc xs k x l e

pub operands-bound : (a b d : List (Option ℕ)) (xs : List Operand) (k : ℕ) (x : Operand) → k < length xs → x ≡ get_or xs k x → Binds a b (map position_of (uses_of_operands (take k xs)))
    → Binds b d (map position_of (uses_of_operand x)) → Binds a d (map position_of (uses_of_operands (take (k + 1) xs)))
operands-bound a b d xs k x l e h j =
    let same : map position_of (uses_of_operands (take (k + 1) xs)) ≡ map position_of (uses_of_operands (take k xs)) ++ map position_of (uses_of_operand x) =
    ap (λ z. map position_of (uses_of_operands z)) (take-step xs k x l e) ∙ positions-append (take k xs) (x ∷ []) ∙ ap (λ z. map position_of (uses_of_operands (take k xs)) ++ z) (positions-one x) in
    subst (λ z. Binds a d z) (sym same) (binds-both a b d _ _ h j)

pub operands-sound : (f : ℕ → ℕ) (xs ys : List Operand) (k : ℕ) (x y : Operand) → k < length xs → length xs ≡ length ys → x ≡ get_or xs k x → y ≡ get_or ys k y → take k ys ≡ map (carried_operand f) (take k xs) → y ≡ carried_operand f x
    → take (k + 1) ys ≡ map (carried_operand f) (take (k + 1) xs)
operands-sound f xs ys k x y l same ex ey before e =
    take-step ys k y (omega arith) ey ∙ (λ j. before j ++ e j ∷ []) ∙ sym (map-append (carried_operand f) (take k xs) (x ∷ [])) ∙ sym (ap (map (carried_operand f)) (take-step xs k x l ex))

pub operand-step : (f : ℕ → ℕ) (to now : List (Option ℕ)) (xs ys : List Operand) (k : ℕ) (x y : Operand) → length now ≡ length to → k < length xs → length xs ≡ length ys → x ≡ get_or xs k x → y ≡ get_or ys k y
    → ys ≡ map (carried_operand f) xs → AreBelow (length to) (map position_of (uses_of_operands xs)) → (y ≡ carried_operand f x) × AreBelow (length now) (map position_of (uses_of_operand x))
operand-step f to now xs ys k x y long l same ex ey e below =
    let at-x : slice_get xs k ≡ Some x = slice_get_read xs (length xs) k x refl l ex in
    let at-y : slice_get ys k ≡ Some y = slice_get_read ys (length ys) k y refl (omega arith) ey in
    (carried-one f xs ys k x y e at-x at-y, subst (λ n. AreBelow n (map position_of (uses_of_operand x))) (sym long) (below-one (length to) xs k x at-x below))

pub phi-parts : (f : ℕ → ℕ) (a b : PlainPhi) → phi b ≡ carried_rhs f (phi a) → (b.block ≡ f a.block) × (b.values ≡ map (carried_operand f) a.values)
phi-parts f a b e = let z : b ≡ record { block = f a.block; values = map (carried_operand f) a.values } = cc in (ap (λ p. p.block) z, ap (λ p. p.values) z)

pub instruction-part : (f : ℕ → ℕ) (a b : Instruction) → instruction b ≡ carried_rhs f (instruction a) → b ≡ instruction_map (carried_operand f) a
instruction-part f a b e = cc

-- what an instruction that is carried has
pub instruction-parts : (f : ℕ → ℕ) (a b : Instruction) → instruction b ≡ carried_rhs f (instruction a) → (word_of a ≡ word_of b) × (operands_of b ≡ map (carried_operand f) (operands_of a))
instruction-parts f a b e =
    let z = instruction-part f a b e in
    (sym (word-map (carried_operand f) a) ∙ ap word_of (sym z), ap operands_of z ∙ operands-map (carried_operand f) a)

pub block-pc-from : (f : ℕ → ℕ) (x y : BlockPc) → y.block ≡ f x.block → y.predecessor ≡ x.predecessor → y.x ≡ carried_operand f x.x → y.y ≡ carried_operand f x.y → block_condition y ≡ carried f (block_condition x)
block-pc-from f x y b p ex ey = λ j. block_condition (record { block = b j; predecessor = p j; x = ex j; y = ey j })
