use Rattle.std.proofs.Common.{◌≡◌, Some, sym, ap, ◌∙◌}
use Rattle.std.specs.Prelude.{option_map}
use Rattle.std.specs.String.{string_bytes}
use Rattle.std.proofs.lemmas.Result.{err_from_is_err_and}
use Rattle.souper_graph.specs.View.{view_replacement}
use Rattle.souper_graph.proofs.Judging.Closed.{fault_of_well_formed}
use Rattle.souper_graph.specs.LeftSides.{left_text}
use Rattle.souper_graph.proofs.Judging.Needed.{well_formed_below}
use Rattle.souper_graph.proofs.Results.{form-well}
use Rattle.souper_lookup.proofs.Results.{stored-form, stored-storable, stored-text, stored-key}
use Rattle.souper_lookup.proofs.store.prepare.Goals as goal

pub returns-in-Some-key-clause-prepared : goal.returns-in-Some-key-clause-prepared
returns-in-Some-key-clause-prepared c = λ wa.
    let a = view_replacement c.args.replacement in
    let x = view_replacement c.in-Some.named in
    let y = view_replacement c.rename.new.self in
    let b = c.in-Some.ensures in
    let n = c.in_ok-rename.ensures.named in
    let text = string_bytes c.in_ok-text.text in
    let key = string_bytes c.in-Some-key.key in
    let t = c.in_ok-text.ensures.printed in
    let l : Some key ≡ left_text y =
    ap (option_map string_bytes) (sym c.in-Some-key.is) ∙ c.in_ok-text.ensures.left (well_formed_below y (n.well_formed (form-well a x b wa))) in
    record {
      form = stored-form a x y b n _ text key t l wa;
      storable = stored-storable a x y b n _ text key t l wa;
      text = stored-text a x y b n _ text key t l wa;
      key = stored-key a x y b n _ text key t l wa;
    }

pub returns-in_err-rename-clause-memory : goal.returns-in_err-rename-clause-memory
returns-in_err-rename-clause-memory c = λ wa.
    let p = err_from_is_err_and c.from_residual.result c.from_residual.ensures.1 in
    let x = view_replacement c.in-Some.named in
    rw (p.1, p.2) (fault_of_well_formed x _ (form-well (view_replacement c.args.replacement) x c.in-Some.ensures wa) c.in_err-rename.ensures.refused)

pub returns-in_err-text-clause-memory : goal.returns-in_err-text-clause-memory
returns-in_err-text-clause-memory c = λ wa.
    let p = err_from_is_err_and c.from_residual-in_err-text.result c.from_residual-in_err-text.ensures.1 in
    let x = view_replacement c.in-Some.named in
    rw (p.1, p.2) (fault_of_well_formed (view_replacement c.rename.new.self) _ (c.in_ok-rename.ensures.named.well_formed (form-well (view_replacement c.args.replacement) x c.in-Some.ensures wa)) c.in_err-text.ensures.refused)
