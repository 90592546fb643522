use Rattle.std.specs.Prelude.{length}
use Rattle.souper_names.specs.TableView.{Leads}
use Rattle.souper_names.proofs.table.NameTable.find.Given as goal

abbrev pub invariant-loop-count : goal.invariant-loop-count
invariant-loop-count l = Leads (length l.self-inside.heads) l.self-inside.known.items l.name l.count

abbrev pub decreases-loop-count : goal.decreases-loop-count
decreases-loop-count l = l.count
