-- The numbers of a try are below the counts of their positions.
use Rattle.std.proofs.Common.{◌≡◌, ℕ, zero, suc, ◌+◌, ◌-◌, ◌*◌, ◌/◌, ◌%◌, ◌^◌, ◌<◌, ◌≤◌, Bool, true, false, cond, List, length, Option, Some, None, sym, ap, subst, arith, inl, inr}
use Rattle.std.specs.Prelude.{slice_index, bit_xor}
use Rattle.std.proofs.Math.Nat.{div-le_self, mul-lt-mul_of_pos_right}
use Rattle.std.proofs.lemmas.Nat.{mod_below, pow_pos, pow_below, div_below, mul-lt, xor_lt}
use Rattle.std.proofs.lemmas.Bool.Decides.{leb_tells, eqb_tells}
use Rattle.souper_graph.specs.declared.ast.instructions.Instruction.{Instruction}
use Rattle.souper_graph.specs.declared.ast.instructions.Instruction.TheVariants.{Freeze}
use Rattle.souper_graph.specs.Values.{PlainRhs, var, block, phi, reserved_inst, reserved_const, instruction, PlainStatement, assigned, condition, block_condition, Item}
use Rattle.souper_meaning.specs.declared.spans.Span.{Span}
use Rattle.souper_meaning.specs.Worlds.{Mode, value_inputs, poison_inputs}
use Rattle.souper_meaning.specs.Numbering.{input_count, instruction_count, rhs_count, statement_count}
use Rattle.souper_meaning.specs.Pins.{plus, minus, size, placed}
use Rattle.souper_meaning.specs.Sampling.{output, scaled, edges_of, edge_count, power_edge, edge, random_number, number_at, is_poison_at, pinned_at, input_at, instruction_at, rhs_at, statement_at}

pub output_below : (x i : ℕ) → output x i < 2 ^ 64
unfolding output
output_below x i =
    let y : ℕ = (x + (i + 1) % 2 ^ 64 * 0x9e3779b97f4a7c15 % 2 ^ 64) % 2 ^ 64 in
    let v : ℕ = bit_xor y (y / 2 ^ 30) * 0xbf58476d1ce4e5b9 % 2 ^ 64 in
    let z : ℕ = bit_xor v (v / 2 ^ 27) * 0x94d049bb133111eb % 2 ^ 64 in
    let l : z < 2 ^ 64 = mod_below (bit_xor v (v / 2 ^ 27) * 0x94d049bb133111eb) (2 ^ 64) (pow_pos 64) in
    let s : z / 2 ^ 31 ≤ z = div-le_self z (2 ^ 31) in
    xor_lt 64 z (z / 2 ^ 31) l (omega (arith, l, s))

pub scaled_below : (word count : ℕ) → word < 2 ^ 64 → 0 < count → scaled word count < count
scaled_below word count l s =
    let m : word * count < 2 ^ 64 * count = mul-lt-mul_of_pos_right l s in
    div_below (word * count) (2 ^ 64) count (pow_pos 64) (omega (arith, m))

-- the product of a word and a count has 128 bits
pub product_fits : (word count : ℕ) → word < 2 ^ 64 → count < 2 ^ 64 → word * count < 2 ^ 128
product_fits word count l k = mul-lt word count (2 ^ 64) (2 ^ 64) l k

-- a predecessor is a number of 32 bits
pub scaled_narrow : (word count r : ℕ) → r ≡ scaled word count → (0 < count → r < count) → count < 2 ^ 32 → r < 2 ^ 32
scaled_narrow word zero r e h l = omega (arith, e)
scaled_narrow word (suc count) r e h l = omega (arith, h (omega arith), l)

pub power_edge_below : (w i : ℕ) → i < 2 * w → power_edge i < 2 ^ w
power_edge_below w i l = let p : 2 ^ (i / 2) < 2 ^ w = pow_below (i / 2) w (omega (arith, l)) in omega (arith, p)

pub edge_below : (w : ℕ) (es : List ℕ) (i : ℕ) → i < edge_count w es → edge w es i < 2 ^ w
edge_below w es i l = elim (leb_tells (suc i) (length es)) [
  | inl t ↦
      let e : edge w es i ≡ slice_index es i % 2 ^ w = ap (λ (b : Bool). cond b (slice_index es i % 2 ^ w) (power_edge (i - length es))) t.0 in
      subst (λ (n : ℕ). n < 2 ^ w) (sym e) (mod_below (slice_index es i) (2 ^ w) (pow_pos w))
  | inr t ↦
      let e : edge w es i ≡ power_edge (i - length es) = ap (λ (b : Bool). cond b (slice_index es i % 2 ^ w) (power_edge (i - length es))) t.0 in
      subst (λ (n : ℕ). n < 2 ^ w) (sym e) (power_edge_below w (i - length es) (omega (arith, l, t.1)))
]

-- 0 is an edge
pub edges_some : (a : Item) → 0 < length (edges_of a)
edges_some a = omega arith

pub placed_below : (w : ℕ) (ns : Span) (n : ℕ) → n < 2 ^ w → placed w ns n < 2 ^ w
placed_below w ns n l =
    let x : ℕ = plus w ns.first (minus w n ns.first % size w ns) in
    elim (eqb_tells (size w ns) 0) [
      | inl t ↦
          let e : placed w ns n ≡ n = ap (λ (b : Bool). cond b n x) t.0 in
          subst (λ (k : ℕ). k < 2 ^ w) (sym e) l
      | inr t ↦
          let e : placed w ns n ≡ x = ap (λ (b : Bool). cond b n x) t.0 in
          subst (λ (k : ℕ). k < 2 ^ w) (sym e) (mod_below ((ns.first + minus w n ns.first % size w ns) % 2 ^ 128) (2 ^ w) (pow_pos w))
    ]

module _ (w : ℕ) (es : List ℕ) (some : 0 < length es) where
  pub random_number_below : (s : ℕ) → random_number w es s < 2 ^ w
  random_number_below s =
      let c : ℕ = edge_count w es in
      let x : ℕ = edge w es (scaled (output s 0) c) in
      let y : ℕ = (output s 1 * 2 ^ 64 + output s 2) % 2 ^ w in
      elim (eqb_tells (output s 0 % 2) 0) [
        | inl t ↦
            let e : random_number w es s ≡ x = ap (λ (b : Bool). cond b x y) t.0 in
            subst (λ (n : ℕ). n < 2 ^ w) (sym e) (edge_below w es (scaled (output s 0) c) (scaled_below (output s 0) c (output_below s 0) (omega (arith, some))))
        | inr t ↦
            let e : random_number w es s ≡ y = ap (λ (b : Bool). cond b x y) t.0 in
            subst (λ (n : ℕ). n < 2 ^ w) (sym e) (mod_below (output s 1 * 2 ^ 64 + output s 2) (2 ^ w) (pow_pos w))
      ]

  pub number_below : (n s : ℕ) → number_at w es n s < 2 ^ w
  number_below n s = elim (leb_tells (suc n) (edge_count w es)) [
    | inl t ↦
        let e : number_at w es n s ≡ edge w es n = ap (λ (b : Bool). cond b (edge w es n) (random_number w es s)) t.0 in
        subst (λ (k : ℕ). k < 2 ^ w) (sym e) (edge_below w es n t.1)
    | inr t ↦
        let e : number_at w es n s ≡ random_number w es s = ap (λ (b : Bool). cond b (edge w es n) (random_number w es s)) t.0 in
        subst (λ (k : ℕ). k < 2 ^ w) (sym e) (random_number_below s)
  ]

  instruction_below : (n s : ℕ) (i : Instruction) → instruction_at w es n s i < instruction_count w i
  instruction_below n s (Freeze a) = number_below n s
  instruction_below n s i = omega arith

  module _ (ns : Span) where
    pub pinned_below : (n s : ℕ) → pinned_at w es ns n s < 2 ^ w
    pinned_below n s = placed_below w ns (number_at w es n s) (number_below n s)

    poison_or : (n s : ℕ) (b : Bool) → cond b (2 ^ w) (pinned_at w es ns n s) < 2 ^ w + 1
    poison_or n s true = omega arith
    poison_or n s false = omega (arith, pinned_below n s)

    input_below : (mode : Mode) (n s : ℕ) → input_at mode w es ns n s < input_count mode w
    input_below value_inputs n s = pinned_below n s
    input_below poison_inputs n s = poison_or n s (is_poison_at w es ns n s)

    rhs_below : (mode : Mode) (n s : ℕ) (r : PlainRhs) → 0 < rhs_count mode w r → rhs_at mode w es ns n s r < rhs_count mode w r
    rhs_below mode n s var l = input_below mode n s
    rhs_below mode n s (block b) l = scaled_below (output s 0) b.predecessors (output_below s 0) l
    rhs_below mode n s (phi f) l = omega arith
    rhs_below mode n s reserved_inst l = input_below mode n s
    rhs_below mode n s reserved_const l = pinned_below n s
    rhs_below mode n s (instruction i) l = instruction_below n s i

    pub statement_below : (mode : Mode) (n s : ℕ) (o : Option PlainStatement) → 0 < statement_count mode w o → statement_at mode w es ns n s o < statement_count mode w o
    statement_below mode n s None l = omega arith
    statement_below mode n s (Some (assigned a)) l = rhs_below mode n s a.value l
    statement_below mode n s (Some (condition c)) l = omega arith
    statement_below mode n s (Some (block_condition c)) l = omega arith
