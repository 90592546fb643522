use Rattle.std.proofs.Common.{◌≡◌, ℕ, List, Option, Some, sym, subst, rules}
use Rattle.std.specs.Borrow.{Bor}
use Rattle.std.proofs.lemmas.Slice.Eq.{bytes_eq-Decides}
use Rattle.souper_ir.specs.NamesView.{IsLast, entry_in_map}
use Rattle.souper_ir.proofs.Scope.Entered.{define_in_map, define_as_entered}
use Rattle.souper_ir.proofs.parse.names.Names.enter_into_map.Goals as goal

pub returns-then-eq-2 : goal.returns-then-eq-2
returns-then-eq-2 c s a are fresh name v predecessors =
    let same_name : c.in-Some.last.now ≡ c.args.name.now = (bytes_eq-Decides c.in-Some.last.now c.args.name.now).0 (sym c.if-eq-2.ensures) in
    let same_position : c.in-Some.at ≡ c.args.position = search rules in
    let same_count : c.in-Some.count ≡ c.args.predecessors = search rules in
    let last : entry_in_map c.args.self.now.entries c.in-Some.last.now ≡ Some (c.in-Some.at, c.in-Some.count) = subst (λ (l : Option (Bor (List ℕ) × ℕ × Option ℕ)). IsLast l c.args.self.now.entries) c.in-Some.is are.last in
    define_as_entered c.args.self.now s a are fresh (rw (sym name, sym v, sym predecessors, sym same_name, sym same_position, sym same_count) last)

pub returns : goal.returns
returns c s a are fresh name v predecessors = define_in_map c.args.self.now c.put_into_map.new.self s a are fresh c.in_ok-put_into_map.ensures.table
    (rw (sym name, sym v, sym predecessors) c.in_ok-put_into_map.ensures.entered) c.in_ok-put_into_map.ensures.last
