-- What `renamed` returns, from the order by which its statements are named.
use Rattle.std.proofs.Common.{◌≡◌, ℕ, ◌<◌, ◌^◌, length, List, sym, ap, ◌∙◌, subst, arith}
use Rattle.std.specs.Prelude.{Result, Ok, Err, IfOk}
use Rattle.souper_graph.specs.Values.{PlainStatement, Item}
use Rattle.souper_graph.specs.Uses.{UsesBelow}
use Rattle.souper_graph.specs.Order.{Distinct}
use Rattle.souper_graph.specs.PrintOrder.{IsPrintOrder}
use Rattle.souper_graph.specs.WellFormed.{WellFormed}
use Rattle.souper_graph.specs.Renaming.{name_of_index, named_from, named_by, renamed, with_statements, IsRenamed}
use Rattle.souper_graph.proofs.Judging.Needed.{well_formed_below}
use Rattle.souper_graph.proofs.Sameness.Renaming.{renamed-well}

pub is-renamed : (a : Item) (statements : List PlainStatement) (ids xs : List ℕ) (lead turns : ℕ) → IsPrintOrder a ids lead turns → xs ≡ ids → length xs < 2 ^ 64 →
    (Distinct xs → statements ≡ named_from name_of_index xs 0 a.statements) → IsRenamed a (with_statements a statements)
is-renamed a statements ids xs lead turns o same few named =
    let once : Distinct xs = subst (λ (z : List ℕ). Distinct z) (sym same) o.once in
    let is : with_statements a statements ≡ named_by name_of_index ids a =
    ap (λ (ss : List PlainStatement). with_statements a ss) (named once ∙ ap (λ (z : List ℕ). named_from name_of_index z 0 a.statements) same) in
    let printed : UsesBelow a → with_statements a statements ≡ renamed a = λ below. is ∙ ap (λ (z : List ℕ). named_by name_of_index z a) (o.printed below) in
    record {
      ids = ids;
      lead = lead;
      turns = turns;
      ordered = o;
      named = is;
      by_printed_order = printed;
      well_formed = λ wa.
          let long = ap (λ (z : List ℕ). length z) (same ∙ o.printed (well_formed_below a wa)) in
          subst (λ (x : Item). WellFormed x) (sym (printed (well_formed_below a wa))) (renamed-well a wa (omega arith));
    }

-- whatever the statements are, if there was memory for them
pub ok-renamed : {X E : Type 0} (a : Item) (seen : X → List PlainStatement) (ids xs : List ℕ) (lead turns : ℕ) (r : Result X E) → IsPrintOrder a ids lead turns → xs ≡ ids → length xs < 2 ^ 64 →
    (Distinct xs → IfOk r (λ copy. seen copy ≡ named_from name_of_index xs 0 a.statements)) → IfOk r (λ copy. IsRenamed a (with_statements a (seen copy)))
ok-renamed a seen ids xs lead turns (Ok copy) o same few named = is-renamed a (seen copy) ids xs lead turns o same few named
ok-renamed a seen ids xs lead turns (Err e) o same few named = tt
