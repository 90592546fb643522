-- What the tries below a number say.
use Rattle.std.proofs.Common.{◌≡◌, ◌↔◌, ℕ, zero, suc, ◌+◌, ◌<◌, Bool, true, false, List, length, Option, Some, slice_get, refl, sym, subst, arith, inl, inr, add-one, add-zero}
use Rattle.std.specs.Prelude.{IsTrue}
use Rattle.std.specs.Int.{from_bool}
use Rattle.std.proofs.lemmas.Bool.{false≢true}
use Rattle.std.proofs.lemmas.Bool.Decides.{eqb_tells}
use Rattle.souper_graph.specs.Values.{PlainStatement, Item}
use Rattle.souper_graph.specs.WellFormed.{WellFormed}
use Rattle.souper_graph.proofs.Judging.Needed.{well_formed_inside}
use Rattle.souper_widths.specs.Maps.{WidthMap, result_width}
use Rattle.souper_widths.specs.Nodes.{MarkNeeded}
use Rattle.souper_meaning.specs.Worlds.{World, Mode, IsWorld}
use Rattle.souper_meaning.specs.Sound.{Meets, Vacuous}
use Rattle.souper_meaning.specs.Numbering.{count_at, world_count, HasStatementDigit, HasDigitAt, HasDigits}
use Rattle.souper_meaning.specs.Exhausted.{RefinesIn}
use Rattle.souper_meaning.specs.Pins.{numbers_at}
use Rattle.souper_meaning.specs.Sampling.{output, edges_of, statement_at, digit_at, IsTry}
use Rattle.souper_meaning.specs.declared.spans.Span.{Span}
use Rattle.souper_meaning.specs.Refutations.{AllTriesRefine, MeetsAtTry, HoldsTimes}
use Rattle.souper_meaning.proofs.Agreeing.{AreSame, meets_agrees, refines_agrees}
use Rattle.souper_meaning.proofs.Counting.{count_positive}
use Rattle.souper_meaning.proofs.Numbers.{same_by_digits, count_needed, statement_is_given}
use Rattle.souper_meaning.proofs.EdgeNumbers.{edges_some, statement_below}

-- how often something holds

pub holds_never : (P : ℕ → Type 0) → ((k : ℕ) → ¬ P k) → (n : ℕ) → HoldsTimes P n 0
holds_never P h zero = refl
holds_never P h (suc n) = inr (h n, holds_never P h n)

holds_next : (P : ℕ → Type 0) (n t : ℕ) (b : Bool) → (IsTrue b ↔ P n) → HoldsTimes P n t → HoldsTimes P (suc n) (t + from_bool b)
holds_next P n t true e h = inl (e.0 refl, (t, add-one t, h))
holds_next P n t false e h = inr ((λ p. false≢true (e.1 p)), subst (λ (z : ℕ). HoldsTimes P n z) (sym (add-zero t)) h)

pub holds_more : (P : ℕ → Type 0) (n t : ℕ) (b : Bool) → (IsTrue b ↔ P n) → HoldsTimes P n t → HoldsTimes P (n + 1) (t + from_bool b)
holds_more P n t b e h = subst (λ (z : ℕ). HoldsTimes P z (t + from_bool b)) (sym (add-one n)) (holds_next P n t b e h)

-- the statement at a position has the digit of the try, by the parts that the code has
pub put_given : (mode : Mode) (a : Item) (m : WidthMap) (x : World) (p n t w : ℕ) (es : List ℕ) (left : Span) (s : PlainStatement) → slice_get a.statements p ≡ Some s → w ≡ result_width m p → es ≡ edges_of a → left ≡ numbers_at a m p
    → HasStatementDigit w x p (statement_at mode w es left n (output t p) (Some s)) (Some s) → HasDigitAt a m x p (digit_at mode a m n t p)
put_given mode a m x p n t w es left s e f g h d =
    let i : HasStatementDigit w x p (statement_at mode w es (numbers_at a m p) n (output t p) (Some s)) (Some s) =
    subst (λ (z : Span). HasStatementDigit w x p (statement_at mode w es z n (output t p) (Some s)) (Some s)) h d
    in
    let j : HasStatementDigit w x p (statement_at mode w (edges_of a) (numbers_at a m p) n (output t p) (Some s)) (Some s) =
    subst (λ (z : List ℕ). HasStatementDigit w x p (statement_at mode w z (numbers_at a m p) n (output t p) (Some s)) (Some s)) g i
    in
    let k : HasStatementDigit (result_width m p) x p (statement_at mode (result_width m p) (edges_of a) (numbers_at a m p) n (output t p) (Some s)) (Some s) =
    subst (λ (z : ℕ). HasStatementDigit z x p (statement_at mode z (edges_of a) (numbers_at a m p) n (output t p) (Some s)) (Some s)) f j
    in
    subst (λ (o : Option PlainStatement). HasStatementDigit (result_width m p) x p (statement_at mode (result_width m p) (edges_of a) (numbers_at a m p) n (output t p) o) o) (sym e) k

-- what gives the digits of a try is a world, if each position has a digit
try_world : (mode : Mode) (a : Item) (m : WidthMap) (marks : List Bool) → WellFormed a → MarkNeeded a marks → 0 < world_count mode a m marks → (n t : ℕ) (x : World) → HasDigits a m x (digit_at mode a m n t) → IsWorld mode a m x
try_world mode a m marks wf marked some n t x h p d =
    let c : 0 < count_at mode a m marks p = count_positive (count_at mode a m marks) (length a.statements) p some (well_formed_inside a wf p d) in
    statement_is_given mode (result_width m p) x p (digit_at mode a m n t p) (slice_get a.statements p)
    (statement_below (result_width m p) (edges_of a) (edges_some a) (numbers_at a m p) mode n (output t p) (slice_get a.statements p) (subst (λ (z : ℕ). 0 < z) (count_needed mode a m marks p ((marked.exact p).1 d)) c)) (h p d)

-- the world of try n, whose state the code has
pub try_here : (mode : Mode) (a : Item) (m : WidthMap) (marks : List Bool) → WellFormed a → MarkNeeded a marks → 0 < world_count mode a m marks → (seed n t : ℕ) (x : World) → t ≡ output seed n → HasDigits a m x (digit_at mode a m n t) → IsTry mode a m seed n x
try_here mode a m marks wf marked some seed n t x e h =
    let d : HasDigits a m x (digit_at mode a m n (output seed n)) = subst (λ (z : ℕ). HasDigits a m x (digit_at mode a m n z)) e h in
    record { world = try_world mode a m marks wf marked some n (output seed n) x d; digits = d }

refined_by : (c d : Bool) (P Q : Type 0) → (IsTrue c ↔ P) → (IsTrue d ↔ Q) → ¬ (IsTrue c × ¬ IsTrue d) → P → Q
refined_by c true P Q e f n p = f.0 refl
refined_by c false P Q e f n p = absurd (n (e.1 p, λ q. false≢true q))

module _ (mode : Mode) (a : Item) (m : WidthMap) (seed : ℕ) (wf : WellFormed a) where
  same_try : (k : ℕ) (x y : World) → IsTry mode a m seed k x → IsTry mode a m seed k y → AreSame a x y
  same_try k x y h i = same_by_digits a m x y (digit_at mode a m k (output seed k)) h.digits i.digits

  pub none_before : AllTriesRefine mode a m seed 0
  none_before k x l t h = absurd (omega (arith, l))

  module _ (k : ℕ) (x : World) (tried : IsTry mode a m seed k x) where
    -- one more try, that does not refute
    refine_more : (Meets a m x → RefinesIn a m x) → AllTriesRefine mode a m seed k → AllTriesRefine mode a m seed (k + 1)
    refine_more here before j y l t h = elim (eqb_tells j k) [
      | inl q ↦
          let i : IsTry mode a m seed k y = subst (λ (z : ℕ). IsTry mode a m seed z y) q.1 t in
          refines_agrees a m x y wf (same_try k x y tried i) (here (meets_agrees a m y x wf (same_try k y x i tried) h))
      | inr q ↦ before j y (omega (arith, l, q.1)) t h
    ]

    pub refined_more : (c d : Bool) → (IsTrue c ↔ Meets a m x) → (IsTrue d ↔ RefinesIn a m x) → ¬ (IsTrue c × ¬ IsTrue d) → AllTriesRefine mode a m seed k → AllTriesRefine mode a m seed (k + 1)
    refined_more c d e f n before = refine_more (refined_by c d (Meets a m x) (RefinesIn a m x) e f n) before

    meets_back : MeetsAtTry mode a m seed k → Meets a m x
    meets_back h = meets_agrees a m h.example x wf (same_try k h.example x h.tried tried) h.meets

    meets_here : (b : Bool) → (IsTrue b ↔ Meets a m x) → (IsTrue b ↔ MeetsAtTry mode a m seed k)
    meets_here b e = ((λ t. record { example = x; tried = tried; meets = e.0 t }), (λ h. e.1 (meets_back h)))

    pub met_more : (b : Bool) → (IsTrue b ↔ Meets a m x) → (t : ℕ) → HoldsTimes (MeetsAtTry mode a m seed) k t → HoldsTimes (MeetsAtTry mode a m seed) (k + 1) (t + from_bool b)
    met_more b e t h = holds_more (MeetsAtTry mode a m seed) k t b (meets_here b e) h

-- an item without worlds
module _ (mode : Mode) (a : Item) (m : WidthMap) (tries seed : ℕ) (v : Vacuous mode a m) where
  pub no_try_refutes : AllTriesRefine mode a m seed tries
  no_try_refutes k x l t h = absurd (v.1 x t.world h)

  pub no_try_meets : HoldsTimes (MeetsAtTry mode a m seed) tries 0
  no_try_meets = holds_never (MeetsAtTry mode a m seed) (λ k h. v.1 h.example h.tried.world h.meets) tries
