-- Worked rows: items and their first flaws, computed from the definition.
use Rattle.std.proofs.Common.{zero, suc, ◌<◌, inl, inr, [], ◌∷◌, Some, None, refl, arith, lit<}
use Rattle.std.specs.Prelude.{codes, pos}
use Rattle.std.specs.List.{AllByRecursion}
use Rattle.souper_graph.specs.declared.ast.operands.Operand.TheVariants.{Value, Constant}
use Rattle.souper_graph.specs.declared.ast.flaws.FlawLocation.{FlawLocation}
use Rattle.souper_graph.specs.declared.ast.flaws.FlawLocation.TheVariants.{Statement, Infer, Result, Cand}
use Rattle.souper_graph.specs.declared.ast.flaws.FlawReason.TheVariants.{ZeroWidth, DuplicateName}
use Rattle.souper_graph.specs.Values.{PlainAssignment, var, assigned, resulting, candidate, Item}
use Rattle.souper_graph.specs.Names.{IsName}
use Rattle.souper_graph.specs.Uses.{NeededIn, walked}
use Rattle.souper_graph.specs.Flaws.{IsNamedAnew, MeetsAt, reasons, IsBefore, IsChecked, IsFirstFlaw}

abbrev variable : PlainAssignment
variable = record { name = codes "%x"; ty = None; value = var; attributes = [] }

named : IsName (codes "%x")
named = (refl, lit< tt, (refl, tt))

-- `%x = var`, again `%x = var`, and a cand line with both
abbrev twice : Item
twice = record { statements = assigned variable ∷ assigned variable ∷ []; ending = candidate (record { lhs = Value 0; rhs = Value 1; attributes = [] }) }

-- a result line alone, of a constant with a width of 0
abbrev narrow : Item
narrow = record { statements = []; ending = resulting (Constant (record { value = pos 1; ty = Some (record { width = 0 }) })) }

-- the second `%x` has the name of the first
pub row_of_a_name : IsFirstFlaw twice (record { location = Statement 1; reason = DuplicateName })
row_of_a_name = record {
  checked = walked (inr (inl refl));
  first = inr (named, inr (tt, inr ((tt, tt), inr (tt, inr (tt, inr (tt, inr (tt, inr (tt, inl (refl, not_new)))))))));
  before = before;
}
  where
    not_new : IsNamedAnew twice.statements (λ q. NeededIn twice q × (q < 1)) 1 → ⊥
    not_new new = new 0 (codes "%x") (walked (inl refl), lit< tt) refl refl

    first_name : IsNamedAnew twice.statements (λ q. NeededIn twice q × (q < 0)) 0
    first_name q n b e f = let below = b.1 in absurd (omega arith)

    before : (l : FlawLocation) → IsBefore l (Statement 1) → IsChecked twice l → AllByRecursion (MeetsAt twice l) reasons
    before (Statement zero) b c = (named, (tt, ((tt, tt), (tt, (tt, (tt, (tt, (tt, (first_name, tt)))))))))
    before (Statement (suc p)) b c = absurd (omega arith)
    before Infer b c = absurd b
    before Result b c = absurd b
    before Cand b c = absurd b

-- the constant has a width of 0
pub row_of_a_width : IsFirstFlaw narrow (record { location = Result; reason = ZeroWidth })
row_of_a_width = record {
  checked = tt;
  first = inr (tt, inr (tt, inl (refl, (λ h. none_below h.0.1.0))));
  before = before;
}
  where
    none_below : 0 < 0 → ⊥
    none_below h = omega arith

    before : (l : FlawLocation) → IsBefore l Result → IsChecked narrow l → AllByRecursion (MeetsAt narrow l) reasons
    before (Statement p) b c = (tt, (tt, (tt, (tt, (tt, (tt, (tt, (tt, (tt, tt)))))))))
    before Infer b c = (tt, (tt, (tt, (tt, (tt, (tt, (tt, (tt, (tt, tt)))))))))
    before Result b c = absurd b
    before Cand b c = absurd b
