-- What the worlds below a number say, and what all of them say.
use Rattle.std.proofs.Common.{◌≡◌, ◌↔◌, ℕ, ◌+◌, ◌-◌, ◌^◌, ◌<◌, ◌≤◌, min, Bool, true, false, ◌||◌, List, length, refl, sym, ap, subst, ◌∙◌, arith, inl, inr}
use Rattle.std.specs.Prelude.{IsTrue, slice_index}
use Rattle.std.proofs.lemmas.Bool.{cases_lt, false≢true}
use Rattle.std.proofs.lemmas.Bool.Decides.{eqb_tells}
use Rattle.souper_graph.specs.Values.{Item}
use Rattle.souper_graph.specs.WellFormed.{WellFormed}
use Rattle.souper_widths.specs.Maps.{WidthMap}
use Rattle.souper_widths.specs.Nodes.{MarkNeeded}
use Rattle.souper_meaning.specs.declared.exhausting.Verdict.{Verdict}
use Rattle.souper_meaning.specs.declared.exhausting.Verdict.TheVariants.{Sound as sound_variant, Refuted as refuted_variant, Vacuous as vacuous_variant, TooMany as too_many_variant}
use Rattle.souper_meaning.specs.Worlds.{World, Mode, value_inputs, poison_inputs, IsWorld}
use Rattle.souper_meaning.specs.Sound.{Meets, HasNoHole, Vacuous}
use Rattle.souper_meaning.specs.Digits.{product_of, digit_of}
use Rattle.souper_meaning.specs.Numbering.{count_at, world_count, IsWorldNumber}
use Rattle.souper_meaning.specs.Exhausted.{RefinesIn, AllRefineBelow, NoneMeetsBelow, SomeMeets, IsVerdictWithin, IsVerdictBy}
use Rattle.souper_meaning.proofs.Modes.{world_may_be}
use Rattle.souper_meaning.proofs.Agreeing.{AreSame, meets_agrees, refines_agrees}
use Rattle.souper_meaning.proofs.Counting.{product_capped}
use Rattle.souper_meaning.proofs.Numbers.{same_by_digits, number_given, counts_exact}

-- some world met facts and conditions, or none of those below n did
abbrev pub MetBelow : Mode → Item → WidthMap → List Bool → ℕ → Bool → Type 0
MetBelow mode a m marks n true = SomeMeets mode a m
MetBelow mode a m marks n false = NoneMeetsBelow mode a m marks n

-- the worlds below n were tried, and none refutes
pub record Tried (mode : Mode) (a : Item) (m : WidthMap) (marks : List Bool) (n : ℕ) (met : Bool) : Type 0 where
  pub refine : AllRefineBelow mode a m marks n
  pub met_below : MetBelow mode a m marks n met

pub also_poison : (mode : Mode) (a : Item) (m : WidthMap) (x : World) → IsWorld mode a m x → IsWorld poison_inputs a m x
also_poison value_inputs a m x w = world_may_be a m x w
also_poison poison_inputs a m x w = w

module _ (mode : Mode) (a : Item) (m : WidthMap) (marks : List Bool) (wf : WellFormed a) where
  pub tried_none : Tried mode a m marks 0 false
  tried_none = record { refine = λ k x l. absurd (omega arith); met_below = λ k x l. absurd (omega arith) }

  pub same_number : (k : ℕ) (x y : World) → IsWorldNumber mode a m marks k x → IsWorldNumber mode a m marks k y → AreSame a x y
  same_number k x y h i = same_by_digits a m x y (digit_of (count_at mode a m marks) k) h i

  -- one more world, that does not refute
  module _ (k : ℕ) (x : World) (numbered : IsWorldNumber mode a m marks k x) where
    refine_more : (Meets a m x → RefinesIn a m x) → AllRefineBelow mode a m marks k → AllRefineBelow mode a m marks (k + 1)
    refine_more here before j y l n h = elim (eqb_tells j k) [
      | inl t ↦
          let q : IsWorldNumber mode a m marks k y = subst (λ (z : ℕ). IsWorldNumber mode a m marks z y) t.1 n in
          refines_agrees a m x y wf (same_number k x y numbered q) (here (meets_agrees a m y x wf (same_number k y x q numbered) h))
      | inr t ↦ before j y (omega (arith, t.1)) n h
    ]

    none_more : ¬ Meets a m x → NoneMeetsBelow mode a m marks k → NoneMeetsBelow mode a m marks (k + 1)
    none_more here before j y l n h = elim (eqb_tells j k) [
      | inl t ↦
          let q : IsWorldNumber mode a m marks k y = subst (λ (z : ℕ). IsWorldNumber mode a m marks z y) t.1 n in
          here (meets_agrees a m y x wf (same_number k y x q numbered) h)
      | inr t ↦ before j y (omega (arith, t.1)) n h
    ]

    met_more : IsWorld mode a m x → (b c : Bool) → (IsTrue c ↔ Meets a m x) → MetBelow mode a m marks k b → MetBelow mode a m marks (k + 1) (b || c)
    met_more w true c e h = h
    met_more w false true e h = record { example = x; world = w; meets = e.0 refl }
    met_more w false false e h = none_more (λ q. false≢true (e.1 q)) h

    refined_here : (c d : Bool) → (IsTrue c ↔ Meets a m x) → (IsTrue d ↔ RefinesIn a m x) → ¬ (IsTrue c × ¬ IsTrue d) → Meets a m x → RefinesIn a m x
    refined_here c true e f n h = f.0 refl
    refined_here c false e f n h = absurd (n (e.1 h, λ q. false≢true q))

    pub tried_more : IsWorld mode a m x → (b c d : Bool) → (IsTrue c ↔ Meets a m x) → (IsTrue d ↔ RefinesIn a m x) → ¬ (IsTrue c × ¬ IsTrue d) → Tried mode a m marks k b → Tried mode a m marks (k + 1) (b || c)
    tried_more w b c d e f n t = record { refine = refine_more (refined_here c d e f n) t.refine; met_below = met_more w b c e t.met_below }

  -- all worlds

  module _ (marked : MarkNeeded a marks) (holeless : HasNoHole a) where
    pub sound_end : (n : ℕ) → n ≡ world_count mode a m marks → Tried mode a m marks n true → IsVerdictWithin mode a m marks sound_variant
    sound_end n e t = (
      (
        holeless,
        λ x w h.
            let k = number_given mode a m marks wf marked x w in
            t.refine k.number x (omega (arith, k.inside, e)) k.numbered h,
      ),
      t.met_below,
    )

    pub vacuous_end : (n : ℕ) → n ≡ world_count mode a m marks → Tried mode a m marks n false → IsVerdictWithin mode a m marks vacuous_variant
    vacuous_end n e t = (
      holeless,
      λ x w h.
          let k = number_given mode a m marks wf marked x w in
          t.met_below k.number x (omega (arith, k.inside, e)) k.numbered h,
    )

-- a verdict, if the worlds are within the limit
pub verdict_by : (mode : Mode) (a : Item) (m : WidthMap) (marks : List Bool) (limit : ℕ) (v : Verdict) → world_count mode a m marks ≤ limit → IsVerdictWithin mode a m marks v → IsVerdictBy mode a m marks limit v
verdict_by mode a m marks limit sound_variant l h = (l, h)
verdict_by mode a m marks limit (refuted_variant w) l h = (l, h)
verdict_by mode a m marks limit vacuous_variant l h = (l, h)
verdict_by mode a m marks limit (too_many_variant n) l h = absurd h

-- `||` as the code joins its branches

pub or_true : (b c r : Bool) → b ≡ true → r ≡ true → (b || c) ≡ r
or_true b c r e f = ap (λ (z : Bool). z || c) e ∙ sym f

pub or_false : (b c r : Bool) → b ≡ false → r ≡ c → (b || c) ≡ r
or_false b c r e f = ap (λ (z : Bool). z || c) e ∙ sym f

-- the count of worlds as the code has it

pub count_capped : (mode : Mode) (a : Item) (m : WidthMap) (marks : List Bool) (counts : List ℕ) (w : ℕ) → length counts ≡ length a.statements
    → ((p : ℕ) → p < length a.statements → slice_index counts p ≡ min (count_at mode a m marks p) (2 ^ 128 - 1)) → w ≡ min (product_of (slice_index counts) (length counts)) (2 ^ 128 - 1)
    → w ≡ min (world_count mode a m marks) (2 ^ 128 - 1)
count_capped mode a m marks counts w size capped e =
    e ∙ ap (λ (n : ℕ). min (product_of (slice_index counts) n) (2 ^ 128 - 1)) size ∙ product_capped (count_at mode a m marks) (slice_index counts) (2 ^ 128 - 1) (length a.statements) capped

pub above_limit : (w n limit : ℕ) → w ≡ min n (2 ^ 128 - 1) → limit < w → limit < n
above_limit w n limit e l = omega arith

pub within_limit : (w n limit : ℕ) → w ≡ min n (2 ^ 128 - 1) → limit < 2 ^ 64 → ¬ (limit < w) → (w ≡ n) × (n ≤ limit)
within_limit w n limit e l h = elim (cases_lt limit w) [
  | inl k ↦ absurd (h k)
  | inr k ↦ (omega arith, omega arith)
]

pub counts_within : (mode : Mode) (a : Item) (m : WidthMap) (marks : List Bool) (counts : List ℕ) (limit : ℕ) → ((p : ℕ) → p < length a.statements → slice_index counts p ≡ min (count_at mode a m marks p) (2 ^ 128 - 1))
    → 0 < world_count mode a m marks → world_count mode a m marks ≤ limit → limit < 2 ^ 64 → (p : ℕ) → p < length a.statements → slice_index counts p ≡ count_at mode a m marks p
counts_within mode a m marks counts limit capped some l k =
    counts_exact (count_at mode a m marks) (slice_index counts) (2 ^ 128 - 1) (length a.statements) capped some (omega arith)

-- no worlds
pub vacuous_none : (mode : Mode) (a : Item) (m : WidthMap) (marks : List Bool) → WellFormed a → MarkNeeded a marks → HasNoHole a → world_count mode a m marks ≡ 0 → Vacuous mode a m
vacuous_none mode a m marks wf marked holeless e = (
  holeless,
  λ x w h.
      let k = number_given mode a m marks wf marked x w in
      absurd (omega (arith, k.inside, e)),
)
