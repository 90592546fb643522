use Rattle.std.proofs.Common.{ℕ, List, map, length, ap, sym, subst, arith}
use Rattle.std.specs.String.{string_bytes}
use Rattle.std.proofs.lemmas.List.{length-map}
use Rattle.souper_graph.specs.Text.{name_at}
use Rattle.souper_graph.specs.View.{view_statement}
use Rattle.souper_lookup.specs.Instance.{names_of_all, HasNumbersOf}
use Rattle.souper_lookup.proofs.Fresh.{names-extended, numbers-of-all}
use Rattle.souper_lookup.proofs.names.names_for.Goals as goal

pub returns-clause-names : goal.returns-clause-names
returns-clause-names c = λ within.
    let names = c.in_ok-names.names.items in
    let ss = map view_statement c.args.statements.now in
    let covers : HasNumbersOf (map string_bytes names) (names_of_all ss) = subst (λ (z : List (List ℕ)). HasNumbersOf z (names_of_all ss)) (sym c.in_ok-names.ensures) (numbers-of-all ss c.args.ids.now) in
    let m = length-map names string_bytes in
    let n = ap (λ (z : List (List ℕ)). length z) c.in_ok-names.ensures in
    let k = length-map c.args.ids.now (name_at ss) in
    names-extended ss c.args.ids.now (map string_bytes names) (map string_bytes c.in_ok-all.all.items) c.args.count c.in_ok-names.ensures (c.in_ok-all.ensures.numbered (names_of_all ss) c.in_ok-taken.ensures covers (omega arith))
