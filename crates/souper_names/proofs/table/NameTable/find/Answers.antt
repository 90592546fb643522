use Rattle.std.proofs.Common.{◌≡◌, length, List, ℕ, Some, sym, ◌∙◌, ap, subst}
use Rattle.std.specs.Prelude.{slice_index}
use Rattle.souper_names.specs.HashView.{slot}
use Rattle.souper_names.specs.TableView.{NameEntry, Leads, last_entry}
use Rattle.souper_names.proofs.Tables.{here, further, shorter}
use Rattle.souper_names.proofs.table.NameTable.find.Goals as goal

pub loop-count-init : goal.loop-count-init
loop-count-init c =
    let heads : List ℕ = c.self.inside.heads in
    subst (λ (count : ℕ). Leads (length heads) c.self.inside.known.items c.args.name.now count)
    (sym (c.get-count.ensures ∙ ap (λ (h : ℕ). slice_index heads (slot h (length heads))) c.requires)) (c.self.invariant.heads c.args.name.now)

pub returns-then-eq : goal.returns-then-eq
returns-then-eq c =
    subst (λ (xs : List (List ℕ × NameEntry)). Some c.index-known.result.now.entry ≡ last_entry xs c.args.name.now) c.self.view_is
    (here (length c.self.inside.heads) c.self.inside.known.items c.loop-count.count c.index-known.result.now c.args.name.now c.loop-count-test.true c.loop-count.invariant c.index-known.ensures (sym c.if-eq.ensures))

pub loop-count-smaller : goal.loop-count-smaller
loop-count-smaller c = shorter (length c.self.inside.heads) c.self.inside.known.items c.loop-count.count c.index-known.result.now c.loop-count-test.true c.loop-count.invariant.within c.index-known.ensures c.self.invariant.before

pub loop-count-preserved : goal.loop-count-preserved
loop-count-preserved c =
    further (length c.self.inside.heads) c.self.inside.known.items c.loop-count.count c.index-known.result.now c.args.name.now c.loop-count-test.true c.loop-count.invariant c.index-known.ensures (sym c.if-eq.ensures) c.self.invariant.before
