use Rattle.std.proofs.Common.{◌≡◌, take, true}
use Rattle.std.specs.List.{AllByRecursion}
use Rattle.souper_graph.specs.Names.{is_name_char}
use Rattle.souper_graph.proofs.ast.well_formed.fitting.are_name_bytes.Given as goal

-- the bytes so far are name characters
abbrev pub invariant-loop-byte : goal.invariant-loop-byte
invariant-loop-byte l = AllByRecursion (λ byte. is_name_char byte ≡ true) (take l.byte-index l.bytes)
