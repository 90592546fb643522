use Rattle.std.proofs.Common.{ℕ, ◌<◌, List, length, refl, ◌∙◌, ap, subst, arith}
use Rattle.std.specs.Prelude.{slice_index, slice_set}
use Rattle.souper_names.specs.HashView.{slot}
use Rattle.souper_names.specs.declared.table.Known.{Known}
use Rattle.souper_names.proofs.Tables.{same_table, table_put}
use Rattle.souper_names.proofs.table.NameTable.push.Goals as goal

pub invariant_of-self : goal.invariant_of-self
invariant_of-self c =
    let heads : List ℕ = c.self.inside.heads in
    let known : Known = record { name = c.args.name; entry = c.args.entry; before = c.get.result } in
    table_put c.self.inside _ known c.len.result c.self.invariant c.in-Ok.ensures.items (let l = c.push.new.self.ok in omega arith)
    (c.put.ensures.put ∙ ap (λ (h : ℕ). slice_set heads (slot h (length heads)) c.len.result) c.requires)
    (subst (λ (h : ℕ). slot h (length heads) < length heads) c.requires c.put.ensures.within)
    (c.get.ensures ∙ ap (λ (h : ℕ). slice_index heads (slot h (length heads))) c.requires)

pub invariant_of-self-in-Err : goal.invariant_of-self-in-Err
invariant_of-self-in-Err c = same_table c.self.inside _ c.in-Err.ensures.items refl c.self.invariant
