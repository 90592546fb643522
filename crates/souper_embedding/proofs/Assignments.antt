-- The assignment at a position.
use Rattle.std.proofs.Common.{◌≡◌, ℕ, zero, suc, List, [], ◌∷◌, map, Some, None, sym, ap, ◌∙◌}
use Rattle.std.specs.Prelude.{slice_get}
use Rattle.std.proofs.lemmas.Option.{same_Some}
use Rattle.souper_graph.specs.declared.ast.statements.Assignment.{Assignment}
use Rattle.souper_graph.specs.declared.ast.statements.Statement.{Statement}
use Rattle.souper_graph.specs.declared.ast.statements.Statement.TheVariants.{Assignment as assignment_variant, Pc as pc_variant, BlockPc as block_pc_variant}
use Rattle.souper_graph.specs.Lookup.{assignment_at}
use Rattle.souper_graph.specs.Values.{PlainAssignment, PlainStatement, assigned}
use Rattle.souper_graph.specs.View.{view_assignment, view_statement}

-- an assignment is there
pub there : (g : List Statement) (p : ℕ) (x : Assignment) → Some x ≡ assignment_at g p → slice_get (map view_statement g) p ≡ Some (assigned (view_assignment x))
there [] p x e = absurd (cc)
there (assignment_variant a ∷ g) zero x e = ap (λ z. Some (assigned (view_assignment z))) (sym (same_Some x a e))
there (pc_variant a ∷ g) zero x e = absurd (cc)
there (block_pc_variant a ∷ g) zero x e = absurd (cc)
there (s ∷ g) (suc p) x e = there g p x e

-- none is there
pub not-there : (g : List Statement) (p : ℕ) (a : PlainAssignment) → None ≡ assignment_at g p → slice_get (map view_statement g) p ≡ Some (assigned a) → ⊥
not-there [] p a n e = cc
not-there (assignment_variant b ∷ g) zero a n e = cc
not-there (pc_variant b ∷ g) zero a n e = let z = same_Some _ _ e in cc
not-there (block_pc_variant b ∷ g) zero a n e = let z = same_Some _ _ e in cc
not-there (s ∷ g) (suc p) a n e = not-there g p a n e

-- it is this one
pub the-one : (ss : List PlainStatement) (p : ℕ) (a b : PlainAssignment) → slice_get ss p ≡ Some (assigned a) → slice_get ss p ≡ Some (assigned b) → a ≡ b
the-one ss p a b e f = let z : Some (assigned a) ≡ Some (assigned b) = sym e ∙ f in let y = same_Some (assigned a) (assigned b) z in cc

-- ---- any statement

pub seen-at : (g : List Statement) (p : ℕ) (x : Statement) → Some x ≡ slice_get g p → slice_get (map view_statement g) p ≡ Some (view_statement x)
seen-at [] p x e = absurd (cc)
seen-at (s ∷ g) zero x e = ap (λ z. Some (view_statement z)) (sym (same_Some x s e))
seen-at (s ∷ g) (suc p) x e = seen-at g p x e

pub not-at : (g : List Statement) (p : ℕ) (s : PlainStatement) → None ≡ slice_get g p → slice_get (map view_statement g) p ≡ Some s → ⊥
not-at [] p s n e = cc
not-at (x ∷ g) zero s n e = cc
not-at (x ∷ g) (suc p) s n e = not-at g p s n e

pub the-statement : (ss : List PlainStatement) (p : ℕ) (a b : PlainStatement) → slice_get ss p ≡ Some a → slice_get ss p ≡ Some b → a ≡ b
the-statement ss p a b e f = same_Some a b (sym e ∙ f)
