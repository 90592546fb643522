-- Marks as bits of words.
use Rattle.std.proofs.Common.{◌≡◌, ◌≢◌, ℕ, ◌*◌, ◌/◌, ◌%◌, ◌^◌, ◌<◌, ◌≤◌, inl, inr, length, List, Bool, true, false, nat_eq, sym, ap, ◌∙◌, get_or, arith, bit_and, bit_or, w64, get_or-set_same, get_or-set_other}
use Rattle.std.proofs.Math.ListN.{replicate, set, length-set, length-replicate}
use Rattle.std.proofs.lemmas.List.{get_or_read, get_or-replicate}
use Rattle.std.proofs.lemmas.List.FromFn.{length-map-range_with_len, get_or-map-range_with_len, fill_by_all}
use Rattle.std.proofs.lemmas.Nat.Bits.{shr_and_one, bit_at_set_same, bit_at_set_other, bit_at-zero}
use Rattle.std.proofs.lemmas.Bool.{cases_eq}
use Rattle.std.specs.Int.{bit_at}
use Rattle.souper_graph.specs.Marks.{mark_at, marks_of}

length-marks : (ws : List ℕ) (n : ℕ) → length (marks_of ws n) ≡ n
length-marks ws n = length-map-range_with_len (mark_at ws) 0 n

at-marks : (ws : List ℕ) (n i : ℕ) → i < n → get_or (marks_of ws n) i false ≡ mark_at ws i
at-marks ws n i h = get_or-map-range_with_len (mark_at ws) 0 n i i false h (omega arith)

-- the word of a mark is there
pub word_there : (m : List Bool) (ws : List ℕ) (n i : ℕ) → m ≡ marks_of ws n → n ≤ 64 * length ws → i < length m → i / 64 < length ws
word_there m ws n i e h k =
    let a : length m ≡ n = ap length e ∙ length-marks ws n in
    omega arith

pub mark_read : (m : List Bool) (ws : List ℕ) (n i w : ℕ) → m ≡ marks_of ws n → n ≤ 64 * length ws → i < length m →
    w ≡ get_or ws (i / 64) w → nat_eq (bit_and (w / 2 ^ (i % 64)) 1) 1 ≡ get_or m i false
mark_read m ws n i w e h k r =
    let a : length m ≡ n = ap length e ∙ length-marks ws n in
    ap (λ x. nat_eq x 1) (shr_and_one w (i % 64))
    ∙ ap (λ x. nat_eq (bit_at x (i % 64)) 1) (get_or_read ws (i / 64) w (word_there m ws n i e h k) r 0)
    ∙ sym (at-marks ws n i (omega arith))
    ∙ ap (λ (x : List Bool). get_or x i false) (sym e)

-- the word with the mark's bit set
abbrev pub raised : ℕ → ℕ → ℕ
raised w i = bit_or w (1 * 2 ^ (i % 64) % 18446744073709551616)

mark-same : (ws : List ℕ) (i w : ℕ) → i / 64 < length ws → mark_at (set ws (i / 64) (raised w i)) i ≡ true
mark-same ws i w h =
    ap (λ x. nat_eq (bit_at x (i % 64)) 1) (get_or-set_same ws (i / 64) (raised w i) 0 h)
    ∙ ap (λ x. nat_eq x 1) (bit_at_set_same w64 w (i % 64) (let z : i % 64 < 64 = omega arith in z))

mark-other : (ws : List ℕ) (i k w : ℕ) → i / 64 < length ws → w ≡ get_or ws (i / 64) 0 → (k ≡ i → ⊥) → mark_at (set ws (i / 64) (raised w i)) k ≡ mark_at ws k
mark-other ws i k w h r ne = elim (cases_eq (k / 64) (i / 64)) [
  | inl e ↦ (let d : k % 64 ≢ i % 64 = λ q. ne (omega arith) in
      ap (λ x. nat_eq (bit_at (get_or (set ws (i / 64) (raised w i)) x 0) (k % 64)) 1) e
      ∙ ap (λ x. nat_eq (bit_at x (k % 64)) 1) (get_or-set_same ws (i / 64) (raised w i) 0 h)
      ∙ ap (λ x. nat_eq x 1) (bit_at_set_other w64 w (i % 64) (let z : i % 64 < 64 = omega arith in z) (k % 64) d)
      ∙ ap (λ x. nat_eq (bit_at x (k % 64)) 1) r
      ∙ ap (λ x. nat_eq (bit_at (get_or ws x 0) (k % 64)) 1) (sym e))
  | inr d ↦ ap (λ x. nat_eq (bit_at x (k % 64)) 1) (get_or-set_other ws (i / 64) (k / 64) (raised w i) 0 d)
]

pub mark_set : (m : List Bool) (ws : List ℕ) (n i w : ℕ) → m ≡ marks_of ws n → n ≤ 64 * length ws → i < length m →
    w ≡ get_or ws (i / 64) w → marks_of (set ws (i / 64) (raised w i)) n ≡ set m i true
mark_set m ws n i w e h k r =
    let a : length m ≡ n = ap length e ∙ length-marks ws n in
    let there = word_there m ws n i e h k in
    sym (fill_by_all (mark_at (set ws (i / 64) (raised w i))) (set m i true) n false (length-set m i true ∙ a) (λ j l. elim (cases_eq j i) [
      | inl q ↦ ap (λ x. get_or (set m i true) x false) q ∙ get_or-set_same m i true false k
          ∙ sym (mark-same ws i w there) ∙ ap (mark_at (set ws (i / 64) (raised w i))) (sym q)
      | inr d ↦ get_or-set_other m i j true false d ∙ ap (λ (x : List Bool). get_or x j false) e ∙ at-marks ws n j l
          ∙ sym (mark-other ws i j w there (get_or_read ws (i / 64) w there r 0) d)
    ]))

pub marks_none : (ws : List ℕ) (c n : ℕ) → ws ≡ replicate c 0 → n ≤ 64 * c → marks_of ws n ≡ replicate n false
marks_none ws c n e h =
    ap (λ (x : List ℕ). marks_of x n) e
    ∙ sym (fill_by_all (mark_at (replicate c 0)) (replicate n false) n false (length-replicate n false) (λ j l.
    get_or-replicate n j false false l
    ∙ sym (ap (λ x. nat_eq (bit_at x (j % 64)) 1) (get_or-replicate c (j / 64) 0 0 (omega arith)) ∙ ap (λ x. nat_eq x 1) (bit_at-zero (j % 64)))))
