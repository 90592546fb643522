use Rattle.std.proofs.Common.{◌≡◌, ℕ, List, drop}
use Rattle.souper_ir.specs.NamesView.{entry_in, entry_in_map}
use Rattle.souper_names.specs.TableView.{or_else, last_entry}
use Rattle.souper_ir.proofs.parse.names.Names.move_names.Given as goal

abbrev pub invariant-loop-index : goal.invariant-loop-index
invariant-loop-index l = (l.self.table ≡ l.fn.self.table) × ((n : List ℕ) → or_else (last_entry (drop l.index l.self.table) n) (entry_in_map l.self.entries n) ≡ entry_in l.fn.self n)
