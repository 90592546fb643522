-- A code of well-formed items is written, unless memory runs out.
use Rattle.std.proofs.Common.{◌≡◌, ℕ, List, [], ◌∷◌, ◌++◌, ◌⊎◌, inl, inr, refl, sym, subst}
use Rattle.std.specs.List.{AllByRecursion}
use Rattle.souper_graph.specs.Values.{Item}
use Rattle.souper_graph.specs.WellFormed.{WellFormed}
use Rattle.souper_graph.specs.Syntax.Spelling.{ItemType}
use Rattle.souper_code.specs.declared.write.WriteError.{WriteError}
use Rattle.souper_code.specs.declared.write.WriteError.TheVariants.{NoCode, NotWellFormed, OutOfMemory}
use Rattle.souper_code.specs.Writing.{IsCodeOfWellFormed, IsWriteError}
use Rattle.souper_calls.specs.Failures.{outcome_of_stop}

among_well_formed : (before : List Item) (x : Item) (after : List Item) → AllByRecursion WellFormed (before ++ (x ∷ after)) → WellFormed x
among_well_formed [] x after all = all.0
among_well_formed (b ∷ before) x after all = among_well_formed before x after all.1

pub only_memory : (k : ItemType) (code : List ℕ) (e : WriteError) → IsWriteError k code e → IsCodeOfWellFormed k code
    → ((outcome_of_stop e).status ≡ 0) ⊎ ((outcome_of_stop e).status ≡ 3) ⊎ ((outcome_of_stop e).status ≡ 5)
only_memory k code (NoCode p) (none, at) (xs, is, fine) = absurd (none xs is)
only_memory k code (NotWellFormed p) (before, x, after, only, first, ill, at) (xs, is, fine) =
    absurd (ill (among_well_formed before x after (subst (λ (ys : List Item). AllByRecursion WellFormed ys) (sym (only.1 xs is)) fine)))
only_memory k code OutOfMemory known some = inr (inl refl)
