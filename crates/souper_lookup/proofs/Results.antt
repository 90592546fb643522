-- What is stored of a replacement.
use Rattle.std.proofs.Common.{◌≡◌, ℕ, List, Some, None, sym, ap, ◌∙◌, subst}
use Rattle.std.specs.Prelude.{is_some}
use Rattle.std.proofs.lemmas.Option.{same_Some}
use Rattle.souper_graph.specs.Values.{Ending, Item}
use Rattle.souper_graph.specs.WellFormed.{WellFormed}
use Rattle.souper_graph.specs.Text.{text_of}
use Rattle.souper_graph.specs.ItemText.{IsItemText}
use Rattle.souper_graph.specs.Sameness.{SameGraph}
use Rattle.souper_graph.specs.Renaming.{nameless, renamed, SameUpToNames, IsRenamed}
use Rattle.souper_graph.specs.Syntax.Spelling.{ItemType}
use Rattle.souper_graph.specs.LeftSides.{with_infer, left_text, left_text_by, ended_by, IsByResult, IsByResultOf}
use Rattle.souper_graph.proofs.Judging.Needed.{well_formed_below}
use Rattle.souper_graph.proofs.Sameness.Renaming.{renamed-again, renamed-alike}
use Rattle.souper_graph.proofs.Results.{law-up-to-names, form-by, form-well}
use Rattle.souper_lookup.specs.Stored.{left_key, Storable, IsStoredFormOf}
use Rattle.souper_lookup.proofs.Answering.{storable-left}

pub law-stored-form : (a b c d : Item) → IsStoredFormOf b a → IsStoredFormOf d c → SameUpToNames a c → SameUpToNames b d
law-stored-form a b c d f g s =
    subst (λ (x : Item). SameGraph x (nameless d)) (bare (ended_by a f.ending) b f.is)
    (subst (λ (x : Item). SameGraph (nameless (ended_by a f.ending)) x) (bare (ended_by c g.ending) d g.is) (law-up-to-names a c f.ending g.ending f.form g.form s))
  where
    bare : (x y : Item) → y ≡ renamed x → nameless x ≡ nameless y
    bare x y e = sym (renamed-alike x) ∙ sym (ap nameless e)

-- a replacement by a result that was renamed, and its text
module _ (a x y : Item) (b : IsByResultOf x a) (n : IsRenamed x y) where
  abbrev pub renamed-form : IsByResult y.ending
  renamed-form = let f = form-by a x.ending b.form in (f.0, f.1, ap (λ (z : Item). z.ending) n.named ∙ f.2)

  pub left-is : left_text y ≡ Some (text_of (with_infer y renamed-form.0))
  left-is = ap (left_text_by y) renamed-form.2

  module _ (k : ItemType) (text key : List ℕ) (t : IsItemText k y text) (l : Some key ≡ left_text y) (wa : WellFormed a) where
    abbrev wx : WellFormed x
    wx = form-well a x b wa

    abbrev y-is : y ≡ renamed x
    y-is = n.by_printed_order (well_formed_below x wx)

    pub stored-form : IsStoredFormOf y a
    stored-form = record { ending = x.ending; form = b.form; is = y-is ∙ ap renamed ((λ j. record { statements = b.statements j; ending = x.ending })) }

    abbrev pub stored-storable : Storable y
    stored-storable = record {
      infer = renamed-form.0;
      result = renamed-form.1;
      ending = renamed-form.2;
      well_formed = n.well_formed wx;
      named = ap renamed y-is ∙ renamed-again x ∙ sym y-is;
    }

    pub stored-text : text ≡ text_of y
    stored-text = t.canonical (well_formed_below y (n.well_formed wx))

    pub stored-key : key ≡ left_key y
    stored-key = same_Some _ _ (l ∙ left-is) ∙ sym (storable-left y stored-storable).1
