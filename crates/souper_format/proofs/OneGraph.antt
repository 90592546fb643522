-- Lemmas. Items with one text are one graph; formatted text spells the renumbered items, and does not change
-- when it is formatted again.
use Rattle.std.proofs.Common.{◌≡◌, ℕ, List, [], ◌∷◌, ◌++◌, map, refl, sym, ◌∙◌, ap, subst}
use Rattle.std.proofs.lemmas.List.{append_cancel_right}
use Rattle.std.specs.Prelude.{bytes_eq, IsTrue}
use Rattle.std.proofs.lemmas.Slice.Eq.{bytes_eq-Decides}
use Rattle.souper_graph.specs.Values.{Item}
use Rattle.souper_graph.specs.Text.{text_of, text_with_newline, texts_of}
use Rattle.souper_graph.specs.Sameness.{renumbered, SameGraph}
use Rattle.souper_graph.specs.ItemText.{IsWellFormedOf, AreWellFormed}
use Rattle.souper_graph.specs.Syntax.Spelling.{ItemType, TextSpells}
use Rattle.souper_graph.proofs.RoundTrip.ReadBack.{texts-read-back, text-again}
use Rattle.souper_ir.proofs.Items.Lists.{text_alone}
use Rattle.souper_ir.proofs.Items.OneText.{texts_exact, texts_spell, one_text, spelled_well_formed}
use Rattle.souper_format.specs.Formatted.{IsFormatted, SpellsRenumbered}

pub same_lines : (k : ItemType) (a b : Item) (x y : List ℕ) → IsWellFormedOf k a → IsWellFormedOf k b → x ≡ text_with_newline a → y ≡ text_with_newline b
    → (IsTrue (bytes_eq x y) → SameGraph a b) × (SameGraph a b → IsTrue (bytes_eq x y))
same_lines k a b x y wa wb e f = (
  (λ t. (one_text k a b wa wb).0 (append_cancel_right (text_of a) (text_of b) (10 ∷ []) (sym e ∙ (bytes_eq-Decides x y).0 t ∙ f))),
  (λ s. (bytes_eq-Decides x y).1 (e ∙ ap (λ (t : List ℕ). t ++ 10 ∷ []) ((one_text k a b wa wb).1 s) ∙ sym f)),
)

pub formatted_spells : (k : ItemType) (source text : List ℕ) → IsFormatted k source text → SpellsRenumbered k source text
formatted_spells k source text f items h others =
    let one : f.0 ≡ items = text_alone k source f.0 items f.1 h in
    let is : text ≡ texts_of items = f.2 ∙ ap texts_of one in
    let w : AreWellFormed k items = spelled_well_formed k source items h in (
      (λ s. texts_exact k items others w (subst (λ (t : List ℕ). TextSpells k t others) is s)),
      (λ e. subst (λ (t : List ℕ). TextSpells k t others) (sym is) (texts_spell k items others w e)),
    )

texts_again : (k : ItemType) (items : List Item) → AreWellFormed k items → texts_of (map renumbered items) ≡ texts_of items
texts_again k [] w = refl
texts_again k (a ∷ items) w = (λ j. (text-again a w.0.0 j ++ 10 ∷ []) ++ texts_again k items w.1 j)

pub formatted_again : (k : ItemType) (source text : List ℕ) → IsFormatted k source text → IsFormatted k text text
formatted_again k source text f =
    let w : AreWellFormed k f.0 = spelled_well_formed k source f.0 f.1 in
    (map renumbered f.0, subst (λ (t : List ℕ). TextSpells k t (map renumbered f.0)) (sym f.2) (texts-read-back k f.0 w), f.2 ∙ sym (texts_again k f.0 w))
