-- What look-ups by id return, said of the statements as plain data.
use Rattle.std.proofs.Common.{◌≡◌, ◌↔◌, ℕ, List, map, Option, Some, None, Bor, refl, sym, option_copied}
use Rattle.std.specs.Prelude.{IsTrue, MatchOption, is_some, slice_get, option_map}
use Rattle.std.specs.String.{string_bytes}
use Rattle.std.proofs.lemmas.Option.{slice_get-map}
use Rattle.souper_graph.specs.Syntax.Optional.{◌>>=◌}
use Rattle.souper_graph.specs.declared.ast.statements.Assignment.{Assignment}
use Rattle.souper_graph.specs.declared.ast.statements.AssignmentRhs.{AssignmentRhs}
use Rattle.souper_graph.specs.declared.ast.statements.AssignmentRhs.TheVariants.{Var, Block as block_variant, Phi, ReservedInst, ReservedConst, Instruction}
use Rattle.souper_graph.specs.declared.ast.statements.Statement.{Statement}
use Rattle.souper_graph.specs.declared.ast.statements.Statement.TheVariants.{Assignment as assignment_variant, Pc as pc_variant, BlockPc as block_pc_variant}
use Rattle.souper_graph.specs.View.{view_rhs, view_statement}
use Rattle.souper_graph.specs.Judging.{assigned_name, assigned_name_at}
use Rattle.souper_graph.specs.Lookup.{assignment_of, block_of, block_of_rhs, assignment_at, block_at}
use Rattle.souper_graph.specs.WellFormed.{predecessors_of_rhs, predecessors_of, predecessors_at, IsAssigned, IsBlock, IsBlockRhs}

assigned_here : (o : Option Statement) → IsTrue (is_some (o >>= assignment_of)) ↔ IsAssigned (option_map view_statement o)
assigned_here None = ((λ h. absurd cc), (λ h. absurd h))
assigned_here (Some (assignment_variant a)) = ((λ h. tt), (λ h. refl))
assigned_here (Some (pc_variant p)) = ((λ h. absurd cc), (λ h. absurd h))
assigned_here (Some (block_pc_variant p)) = ((λ h. absurd cc), (λ h. absurd h))

some_copied : {A : Type 0} (o : Option (Bor A)) → is_some (option_copied o) ≡ is_some o
some_copied None = refl
some_copied (Some x) = refl

pub assigned_at : (ss : List Statement) (i : ℕ) (a : Option (Bor Assignment)) → option_copied a ≡ assignment_at ss i → IsTrue (is_some a) ↔ IsAssigned (slice_get (map view_statement ss) i)
assigned_at ss i a e = rw (slice_get-map view_statement ss i, sym (some_copied a), e) (assigned_here (slice_get ss i))

name_here : (o : Option Statement) → assigned_name (option_map view_statement o) ≡ option_map (λ (a : Assignment). string_bytes a.name) (o >>= assignment_of)
name_here None = refl
name_here (Some (assignment_variant a)) = refl
name_here (Some (pc_variant p)) = refl
name_here (Some (block_pc_variant p)) = refl

pub assigned_name_is : (ss : List Statement) (i : ℕ) → assigned_name_at (map view_statement ss) i ≡ option_map (λ (a : Assignment). string_bytes a.name) (assignment_at ss i)
assigned_name_is ss i = rw (slice_get-map view_statement ss i) (name_here (slice_get ss i))

block_of_value : (r : AssignmentRhs) → MatchOption (block_of_rhs r) (¬ IsBlockRhs (view_rhs r)) (λ b. IsBlockRhs (view_rhs r) × (b.predecessors ≡ predecessors_of_rhs (view_rhs r)))
block_of_value Var = λ h. absurd h
block_of_value (block_variant b) = (tt, refl)
block_of_value (Phi p) = λ h. absurd h
block_of_value ReservedInst = λ h. absurd h
block_of_value ReservedConst = λ h. absurd h
block_of_value (Instruction i) = λ h. absurd h

block_here : (o : Option Statement) → MatchOption (o >>= block_of) (¬ IsBlock (option_map view_statement o)) (λ b. IsBlock (option_map view_statement o) × (b.predecessors ≡ predecessors_of (option_map view_statement o)))
block_here None = λ h. absurd h
block_here (Some (assignment_variant a)) = block_of_value a.value
block_here (Some (pc_variant p)) = λ h. absurd h
block_here (Some (block_pc_variant p)) = λ h. absurd h

pub block_there : (ss : List Statement) (i : ℕ) → MatchOption (block_at ss i) (¬ IsBlock (slice_get (map view_statement ss) i)) (λ b. IsBlock (slice_get (map view_statement ss) i) × (b.predecessors ≡ predecessors_at (map view_statement ss) i))
block_there ss i = rw (slice_get-map view_statement ss i) (block_here (slice_get ss i))
