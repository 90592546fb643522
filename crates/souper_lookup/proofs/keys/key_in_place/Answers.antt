use Rattle.std.proofs.Common.{◌≡◌, ℕ, List, length, map, sym, ap, ◌∙◌, subst, arith}
use Rattle.std.proofs.lemmas.List.{length-map}
use Rattle.std.proofs.lemmas.Result.{err_from_is_err_and}
use Rattle.std.specs.String.{string_bytes}
use Rattle.souper_graph.specs.Values.{Item}
use Rattle.souper_graph.specs.View.{view_statement, view_left_hand_side}
use Rattle.souper_graph.specs.Text.{name_at}
use Rattle.souper_graph.specs.Order.{Distinct, printed_order}
use Rattle.souper_graph.specs.Renaming.{renamed, name_in, named_from, name_of_index}
use Rattle.souper_graph.specs.Syntax.Spelling.{left_hand_side}
use Rattle.souper_graph.proofs.Judging.Closed.{fault_of_well_formed}
use Rattle.souper_graph.proofs.Judging.Needed.{well_formed_below}
use Rattle.souper_lookup.proofs.Answering.{key-is, key-well}
use Rattle.souper_lookup.proofs.Restoring.{restored}
use Rattle.souper_lookup.proofs.keys.key_in_place.Goals as goal

pub returns-in_err-order-clause-memory : goal.returns-in_err-order-clause-memory
returns-in_err-order-clause-memory c = λ w.
    let p = err_from_is_err_and c.from_residual.result c.from_residual.ensures.1 in
    rw (p.1, p.2) (fault_of_well_formed (view_left_hand_side c.args.left.now) _ w c.in_err-order.ensures.refused)

pub returns-in_err-rename-clause-memory : goal.returns-in_err-rename-clause-memory
returns-in_err-rename-clause-memory c = λ w.
    let p = err_from_is_err_and c.from_residual-in_err-rename.result c.from_residual-in_err-rename.ensures.1 in
    rw (p.1, p.2) (fault_of_well_formed (view_left_hand_side c.args.left.now) _ w c.in_err-rename.ensures.refused)

pub returns-in_err-key-clause-memory : goal.returns-in_err-key-clause-memory
returns-in_err-key-clause-memory c = λ w.
    let p = err_from_is_err_and c.from_residual-in_err-key.result c.from_residual-in_err-key.ensures.1 in
    rw (p.1, p.2) (fault_of_well_formed (view_left_hand_side c.rename.new.self) _ (c.in_ok-rename.ensures.named.well_formed w) c.in_err-key.ensures.refused)

pub put_names-requires : goal.put_names-requires
put_names-requires c =
    let ss = map view_statement c.args.left.now.statements in
    let ids = c.in_ok-order.order.ids.items in
    let x : length c.deref-2.result.now ≡ length ids = ap length c.deref-2.ensures.value in
    let y : length c.deref-3.result.now ≡ length c.in_ok-names.names.items = ap length c.deref-3.ensures.value in
    let z : length (map string_bytes c.in_ok-names.names.items) ≡ length (map (name_at ss) c.deref.result.now) = ap length c.in_ok-names.ensures in
    let u : length c.deref.result.now ≡ length ids = ap length c.deref.ensures.value in
    omega (arith, x, y, z, u, length-map c.in_ok-names.names.items string_bytes, length-map c.deref.result.now (name_at ss))

pub returns-clause-text : goal.returns-clause-text
returns-clause-text c = λ w. key-is left_hand_side (view_left_hand_side c.args.left.now) (view_left_hand_side c.rename.new.self) _ c.in_ok-rename.ensures.named c.in_ok-key.ensures.printed w

pub returns-clause-well_formed : goal.returns-clause-well_formed
returns-clause-well_formed c = λ w. key-well (view_left_hand_side c.args.left.now) (view_left_hand_side c.rename.new.self) c.in_ok-rename.ensures.named w

pub returns-clause-kept : goal.returns-clause-kept
returns-clause-kept c = λ w.
    let a = view_left_hand_side c.args.left.now in
    let po = printed_order a in
    let below = well_formed_below a w in
    let order = c.in_ok-order.ensures.ordered in
    let named : view_left_hand_side c.rename.new.self ≡ renamed a = c.in_ok-rename.ensures.named.by_printed_order below in
    let ids : c.deref-2.result.now ≡ po = c.deref-2.ensures.value ∙ order.printed below in
    let names : map string_bytes c.deref-3.result.now ≡ map (name_at a.statements) po =
    ap (map string_bytes) c.deref-3.ensures.value ∙ c.in_ok-names.ensures ∙ ap (map (name_at a.statements)) (c.deref.ensures.value ∙ order.printed below) in
    let middle : map view_statement c.rename.new.self.statements ≡ named_from name_of_index po 0 a.statements = ap (λ (x : Item). x.statements) named in
    let put = c.in_ok-put_names.ensures (subst (λ (xs : List ℕ). Distinct xs) (sym c.deref-2.ensures.value) order.once) in
    let statements : map view_statement c.put_names.new.statements ≡ a.statements = put ∙ (λ i. named_from (name_in (names i)) (ids i) 0 (middle i)) ∙ restored a.statements po in
    let ending = ap (λ (x : Item). x.ending) named in
    λ i. record { statements = statements i; ending = ending i }
