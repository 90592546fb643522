-- The classes of the places before a last line, and after it.
use Rattle.std.proofs.Common.{◌≡◌, ℕ, List, [], length, Result, Ok, Err}
use Rattle.std.specs.Prelude.{OnOk}
use Rattle.souper_graph.specs.declared.ast.flaws.FlawLocation.{FlawLocation}
use Rattle.souper_graph.specs.declared.ast.flaws.FlawLocation.TheVariants.{Statement, Infer, Result as result_line, Cand}
use Rattle.souper_graph.specs.Values.{Item}
use Rattle.souper_graph.specs.WellFormed.{WellFormed}
use Rattle.souper_graph.specs.Flaws.{IsBefore, line_operands}
use Rattle.souper_graph.proofs.Judging.Needed.{well_formed_inside}
use Rattle.souper_widths.specs.Places.{IsPlace}
use Rattle.souper_widths.specs.Ties.{AddsTies}
use Rattle.souper_widths.specs.Nodes.{ties_at, ClassesOf}
use Rattle.souper_widths.proofs.Locations.{each_location}
use Rattle.souper_widths.proofs.LineTies.{classes-with}

pub weaken : {T E : Type 0} (P Q : Type 0) (r : Result T E) → (P → Q) → OnOk r P → OnOk r Q
weaken P Q (Ok x) f h = f h
weaken P Q (Err e) f h = tt

-- the same places in other words
classes-same : (a : Item) (Done Then : FlawLocation → Type 0) (ps ns : List ℕ) → ((k : FlawLocation) → IsPlace a k → Done k → Then k) → ((k : FlawLocation) → IsPlace a k → Then k → Done k)
    → ClassesOf a Done ps ns → ClassesOf a Then ps ns
classes-same a Done Then ps ns into from c = record {
  to = λ u h. c.to u (λ k d p. h k (into k p d) p);
  back = λ u s k t p. c.back u s k (from k p t) p;
  wide = λ k t p. c.wide k (from k p t) p;
}

-- the needed statements are those before the end of the list
abbrev pub AfterStatements : Item → List ℕ → List ℕ → Type 0
AfterStatements a ps ns = ClassesOf a (λ k. IsBefore k (Statement (length a.statements))) ps ns

pub before-infer : (a : Item) (ps ns : List ℕ) → WellFormed a → AfterStatements a ps ns → ClassesOf a (λ k. IsBefore k Infer) ps ns
before-infer a ps ns w c = classes-same a (λ k. IsBefore k (Statement (length a.statements))) (λ k. IsBefore k Infer) ps ns
    (each_location (λ k. IsPlace a k → IsBefore k (Statement (length a.statements)) → IsBefore k Infer) (λ p n b. tt) (λ n b. absurd b) (λ n b. absurd b) (λ n b. absurd b))
    (each_location (λ k. IsPlace a k → IsBefore k Infer → IsBefore k (Statement (length a.statements))) (λ p n b. well_formed_inside a w p n) (λ n b. absurd b) (λ n b. absurd b) (λ n b. absurd b))
    c

pub before-result : (a : Item) (ps ns : List ℕ) → WellFormed a → line_operands Infer a.ending ≡ [] → AfterStatements a ps ns → ClassesOf a (λ k. IsBefore k result_line) ps ns
before-result a ps ns w none c = classes-same a (λ k. IsBefore k (Statement (length a.statements))) (λ k. IsBefore k result_line) ps ns
    (each_location (λ k. IsPlace a k → IsBefore k (Statement (length a.statements)) → IsBefore k result_line) (λ p n b. tt) (λ n b. absurd b) (λ n b. absurd b) (λ n b. absurd b))
    (each_location (λ k. IsPlace a k → IsBefore k result_line → IsBefore k (Statement (length a.statements))) (λ p n b. well_formed_inside a w p n) (λ n b. absurd (n none)) (λ n b. absurd b) (λ n b. absurd b))
    c

pub before-cand : (a : Item) (ps ns : List ℕ) → WellFormed a → AfterStatements a ps ns → ClassesOf a (λ k. IsBefore k Cand) ps ns
before-cand a ps ns w c = classes-same a (λ k. IsBefore k (Statement (length a.statements))) (λ k. IsBefore k Cand) ps ns
    (each_location (λ k. IsPlace a k → IsBefore k (Statement (length a.statements)) → IsBefore k Cand) (λ p n b. tt) (λ n b. absurd b) (λ n b. absurd b) (λ n b. absurd b))
    (each_location (λ k. IsPlace a k → IsBefore k Cand → IsBefore k (Statement (length a.statements))) (λ p n b. well_formed_inside a w p n) (λ n b. absurd b) (λ n b. absurd b) (λ n b. absurd b))
    c

-- after the infer line of a replacement
pub between-lines : (a : Item) (ps ns qs ms : List ℕ) → ClassesOf a (λ k. IsBefore k Infer) ps ns → IsPlace a Infer → AddsTies ps ns qs ms (ties_at a Infer) → ClassesOf a (λ k. IsBefore k result_line) qs ms
between-lines a ps ns qs ms c place added = classes-with a (λ k. IsBefore k Infer) (λ k. IsBefore k result_line) Infer ps ns qs ms
    (each_location (λ k. IsBefore k Infer → IsPlace a k → IsBefore k result_line) (λ p d n. tt) (λ d n. absurd d) (λ d n. absurd d) (λ d n. absurd d))
    tt
    (λ P done here. each_location (λ k. IsBefore k result_line → IsPlace a k → P k) (λ p t n. done (Statement p) tt n) (λ t n. here) (λ t n. absurd t) (λ t n. absurd t))
    c place (λ b. b) added

-- after the last line all places are done
pub after-infer : (a : Item) (ps ns qs ms : List ℕ) → line_operands result_line a.ending ≡ [] → line_operands Cand a.ending ≡ [] → ClassesOf a (λ k. IsBefore k Infer) ps ns → IsPlace a Infer → AddsTies ps ns qs ms (ties_at a Infer)
    → ClassesOf a (λ k. Unit {0}) qs ms
after-infer a ps ns qs ms no_result no_cand c place added = classes-with a (λ k. IsBefore k Infer) (λ k. Unit {0}) Infer ps ns qs ms
    (λ k d n. tt)
    tt
    (λ P done here. each_location (λ k. Unit {0} → IsPlace a k → P k) (λ p t n. done (Statement p) tt n) (λ t n. here) (λ t n. absurd (n no_result)) (λ t n. absurd (n no_cand)))
    c place (λ b. b) added

pub after-result : (a : Item) (ps ns qs ms : List ℕ) → line_operands Cand a.ending ≡ [] → ClassesOf a (λ k. IsBefore k result_line) ps ns → IsPlace a result_line → AddsTies ps ns qs ms (ties_at a result_line)
    → ClassesOf a (λ k. Unit {0}) qs ms
after-result a ps ns qs ms no_cand c place added = classes-with a (λ k. IsBefore k result_line) (λ k. Unit {0}) result_line ps ns qs ms
    (λ k d n. tt)
    tt
    (λ P done here. each_location (λ k. Unit {0} → IsPlace a k → P k) (λ p t n. done (Statement p) tt n) (λ t n. done Infer tt n) (λ t n. here) (λ t n. absurd (n no_cand)))
    c place (λ b. b) added

pub after-cand : (a : Item) (ps ns qs ms : List ℕ) → line_operands Infer a.ending ≡ [] → line_operands result_line a.ending ≡ [] → ClassesOf a (λ k. IsBefore k Cand) ps ns → IsPlace a Cand → AddsTies ps ns qs ms (ties_at a Cand)
    → ClassesOf a (λ k. Unit {0}) qs ms
after-cand a ps ns qs ms no_infer no_result c place added = classes-with a (λ k. IsBefore k Cand) (λ k. Unit {0}) Cand ps ns qs ms
    (λ k d n. tt)
    tt
    (λ P done here. each_location (λ k. Unit {0} → IsPlace a k → P k) (λ p t n. done (Statement p) tt n) (λ t n. absurd (n no_infer)) (λ t n. absurd (n no_result)) (λ t n. here))
    c place (λ b. b) added
