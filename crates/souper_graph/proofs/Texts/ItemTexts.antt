-- The text of an item, from its order.
use Rattle.std.proofs.Common.{◌≡◌, ℕ, List, refl, ap, ◌∙◌}
use Rattle.souper_graph.specs.Values.{Item}
use Rattle.souper_graph.specs.Uses.{UsesBelow}
use Rattle.souper_graph.specs.PrintOrder.{IsPrintOrder}
use Rattle.souper_graph.specs.Text.{text_in_order, text_of}
use Rattle.souper_graph.specs.Syntax.Spelling.{ItemType, IsEndingOf}
use Rattle.souper_graph.specs.ItemText.{IsItemText}
use Rattle.souper_graph.proofs.Judging.Needed.{well_formed_below}
use Rattle.souper_graph.proofs.RoundTrip.ReadBack.{reads-back}

module _ (a : Item) (ids : List ℕ) (lead turns : ℕ) (order : IsPrintOrder a ids lead turns) where
  abbrev text : List ℕ
  text = text_in_order a.statements a.ending ids lead

  text-is-canonical : UsesBelow a → text ≡ text_of a
  text-is-canonical below = ap (λ (is : List ℕ). text_in_order a.statements a.ending is lead) (order.printed below) ∙ ap (text_in_order a.statements a.ending _) (order.led below)

  pub item-text : (k : ItemType) → IsEndingOf k a.ending → IsItemText k a text
  item-text k ends = record {
    no_bad_id = order.no_bad_id;
    canonical = text-is-canonical;
    reads_back = λ wf. reads-back k a text (wf, ends) (text-is-canonical (well_formed_below a wf));
    lines = record { ids = ids; lead = lead; needed = order.exact; once = order.once; lead_within = order.lead_within; text_is = refl };
  }
