-- A value that a look-up returned, and one step more.
use Rattle.std.proofs.Common.{◌≡◌, ℕ, ◌+◌, inl, inr, Bool, true, false, List, map, Option, Some, None, refl, sym, ap, subst, add-one}
use Rattle.std.specs.Prelude.{slice_get, option_map}
use Rattle.std.proofs.lemmas.Option.{slice_get-map}
use Rattle.souper_graph.specs.Syntax.Optional.{◌>>=◌}
use Rattle.souper_graph.specs.declared.ast.statements.Assignment.{Assignment}
use Rattle.souper_graph.specs.declared.ast.statements.Statement.{Statement}
use Rattle.souper_graph.specs.declared.ast.statements.Statement.TheVariants.{Assignment as assignment_variant, Pc as pc_variant, BlockPc as block_pc_variant}
use Rattle.souper_graph.specs.Lookup.{assignment_of, assignment_at}
use Rattle.souper_graph.specs.Values.{assigned, Item}
use Rattle.souper_graph.specs.View.{view_assignment, view_statement}
use Rattle.examples_using.specs.Folding.{IsFolded, IsKept, FoldsUpTo}

here : (o : Option Statement) (a : Assignment) → Some a ≡ (o >>= assignment_of) → option_map view_statement o ≡ Some (assigned (view_assignment a))
here None a e = absurd cc
here (Some (assignment_variant b)) a e = let same : b ≡ a = cc in ap (λ (x : Assignment). Some (assigned (view_assignment x))) same
here (Some (pc_variant p)) a e = absurd cc
here (Some (block_pc_variant p)) a e = absurd cc

pub assigned-there : (ss : List Statement) (i : ℕ) (a : Assignment) → Some a ≡ assignment_at ss i → slice_get (map view_statement ss) i ≡ Some (assigned (view_assignment a))
assigned-there ss i a e = rw (slice_get-map view_statement ss i) (here (slice_get ss i) a e)

pub one-more : (a b c : Item) (n value : ℕ) (is_folded : Bool) → value ≡ n → FoldsUpTo n a b → (is_folded ≡ true → IsFolded value b c) → (is_folded ≡ false → IsKept value b c) → FoldsUpTo (n + 1) a c
one-more a b c n value true e so step kept = subst (λ (k : ℕ). FoldsUpTo k a c) (sym (add-one n)) (b, so, inl (subst (λ (k : ℕ). IsFolded k b c) e (step refl)))
one-more a b c n value false e so step kept = subst (λ (k : ℕ). FoldsUpTo k a c) (sym (add-one n)) (b, so, inr (subst (λ (k : ℕ). IsKept k b c) e (kept refl)))
