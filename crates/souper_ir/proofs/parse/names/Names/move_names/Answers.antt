use Rattle.std.proofs.Common.{◌+◌, List, ℕ, length, drop, refl, sym, ◌∙◌, ap, arith}
use Rattle.std.proofs.Math.ListN.{drop_of_length-le}
use Rattle.souper_ir.specs.NamesView.{entry_in_map}
use Rattle.souper_names.specs.TableView.{NameEntry, or_else, last_entry}
use Rattle.souper_names.proofs.Tables.{moves}
use Rattle.souper_ir.proofs.parse.names.Names.move_names.Goals as goal

pub loop-index-init : goal.loop-index-init
loop-index-init c = (refl, λ n. refl)

pub nth-requires : goal.nth-requires
nth-requires c =
    let few = ap (λ (xs : List (List ℕ × NameEntry)). length xs) c.loop-index.invariant.0 in
    let end = c.len-index-end.ensures in
    let within = c.loop-index-test.true in omega arith

pub loop-index-preserved : goal.loop-index-preserved
loop-index-preserved c = (
  c.in_ok-insert.ensures.table ∙ c.loop-index.invariant.0,
  λ n. ap (λ (xs : List (List ℕ × NameEntry)). or_else (last_entry (drop (c.loop-index.index + 1) xs) n) (entry_in_map c.insert.new.self.entries n)) c.in_ok-insert.ensures.table
      ∙ moves c.loop-index.self.table c.loop-index.index (c.nth.result.0.now, c.nth.result.1) n (entry_in_map c.loop-index.self.entries n) (entry_in_map c.insert.new.self.entries n) c.nth.ensures (c.in_ok-insert.ensures.entered n)
      ∙ c.loop-index.invariant.1 n,
)

pub returns-clause-same : goal.returns-clause-same
returns-clause-same c n =
    let few = ap (λ (xs : List (List ℕ × NameEntry)). length xs) c.loop-index.invariant.0 in
    let end = c.len-index-end.ensures in
    let ended = c.loop-index-test.false in
    rw c.clear.ensures
    (sym (ap (λ (xs : List (List ℕ × NameEntry)). or_else (last_entry xs n) (entry_in_map c.loop-index.self.entries n)) (drop_of_length-le c.loop-index.self.table (omega arith))) ∙ c.loop-index.invariant.1 n)
