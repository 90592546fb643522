-- Lemmas. A canonical text spells the renumbered items and no others, so it is one text for each graph.
use Rattle.std.proofs.Common.{◌≡◌, ℕ, List, [], ◌∷◌, ◌++◌, map, sym, ap, ◌∙◌, subst}
use Rattle.std.specs.List.{AllByRecursion}
use Rattle.souper_graph.specs.Values.{Item}
use Rattle.souper_graph.specs.WellFormed.{WellFormed}
use Rattle.souper_graph.specs.Unneeded.{EachClosed, AllNeeded}
use Rattle.souper_graph.specs.Text.{text_of, texts_of}
use Rattle.souper_graph.specs.Sameness.{renumbered, SameGraph}
use Rattle.souper_graph.specs.Renaming.{SameUpToNames, renamed, IsRenamed}
use Rattle.souper_graph.specs.ItemText.{IsWellFormedOf, AreWellFormed}
use Rattle.souper_graph.specs.Syntax.Tokens.{Lexeme}
use Rattle.souper_graph.specs.Syntax.Spelling.{kinds, ItemType, items, TextSpells}
use Rattle.souper_graph.proofs.RoundTrip.ReadBack.{renumbered-closed, renumbered-needed, texts-read-back, same-graph-text}
use Rattle.souper_graph.proofs.Judging.Needed.{well_formed_below}
use Rattle.souper_graph.proofs.Sameness.Renumbered.{same-renumbered, ordered}
use Rattle.souper_graph.proofs.Sameness.Renaming.{graph-renamed, renamed-graph}
use Rattle.souper_ir.proofs.Items.Lists.{text_alone}
use Rattle.souper_ir.proofs.Items.WellFormed.{closed_well, text_closed}

-- ---- the items of a text

well_formed_each : (k : ItemType) (xs : List Item) (ts : List Lexeme) → AllByRecursion EachClosed xs → items k xs ts → AreWellFormed k xs
well_formed_each k [] ts c h = tt
well_formed_each k (a ∷ xs) ts c h = ((closed_well a c.0, h.first.0), well_formed_each k xs h.suffix c.1 h.second)

-- the items that a text spells are well formed and of its type
pub spelled_well_formed : (k : ItemType) (bs : List ℕ) (xs : List Item) → TextSpells k bs xs → AreWellFormed k xs
spelled_well_formed k bs xs h = well_formed_each k xs (kinds h.0) (text_closed k xs bs h) h.2

-- ---- canonical texts

-- the canonical texts of items spell no other list
pub texts_exact : (k : ItemType) (xs others : List Item) → AreWellFormed k xs → TextSpells k (texts_of xs) others → others ≡ map renumbered xs
texts_exact k xs others h s = text_alone k (texts_of xs) others (map renumbered xs) s (texts-read-back k xs h)

pub texts_spell : (k : ItemType) (xs others : List Item) → AreWellFormed k xs → others ≡ map renumbered xs → TextSpells k (texts_of xs) others
texts_spell k xs others h e = subst (TextSpells k (texts_of xs)) (sym e) (texts-read-back k xs h)

-- equal texts are texts of the same graph
same_text_graph : (k : ItemType) (a b : Item) → IsWellFormedOf k a → IsWellFormedOf k b → text_of a ≡ text_of b → SameGraph a b
same_text_graph k a b wa wb e =
    let texts : texts_of (b ∷ []) ≡ texts_of (a ∷ []) = ap (λ (t : List ℕ). (t ++ 10 ∷ []) ++ []) (sym e) in
    let read : TextSpells k (texts_of (a ∷ [])) (renumbered b ∷ []) = subst (λ (t : List ℕ). TextSpells k t (renumbered b ∷ [])) texts (texts-read-back k (b ∷ []) (wb, tt)) in
    let whole : renumbered b ∷ [] ≡ renumbered a ∷ [] = texts_exact k (a ∷ []) (renumbered b ∷ []) (wa, tt) read in
    same-renumbered a b wa.0 wb.0 (let same : renumbered a ≡ renumbered b = cc in same)

pub one_text : (k : ItemType) (a b : Item) → IsWellFormedOf k a → IsWellFormedOf k b → (text_of a ≡ text_of b → SameGraph a b) × (SameGraph a b → text_of a ≡ text_of b)
one_text k a b wa wb = (same_text_graph k a b wa wb, same-graph-text a b wa.0 wb.0)

-- equal texts of renamed items are texts of the same graph up to names
pub one_text_up_to_names : (k : ItemType) (a b x y : Item) → IsWellFormedOf k a → IsWellFormedOf k b → IsRenamed a x → IsRenamed b y → (text_of x ≡ text_of y → SameUpToNames a b) × (SameUpToNames a b → text_of x ≡ text_of y)
one_text_up_to_names k a b x y wa wb rx ry =
    let x-is : x ≡ renamed a = rx.by_printed_order (well_formed_below a wa.0) in
    let y-is : y ≡ renamed b = ry.by_printed_order (well_formed_below b wb.0) in
    let wx : IsWellFormedOf k (renamed a) = (subst (λ (z : Item). WellFormed z) x-is (rx.well_formed wa.0), wa.1) in
    let wy : IsWellFormedOf k (renamed b) = (subst (λ (z : Item). WellFormed z) y-is (ry.well_formed wb.0), wb.1) in
    let texts = one_text k (renamed a) (renamed b) wx wy in (
      (λ e. graph-renamed a b (ordered a wa.0) (ordered b wb.0) (texts.0 (sym (ap text_of x-is) ∙ e ∙ ap text_of y-is))),
      (λ s. ap text_of x-is ∙ texts.1 (renamed-graph a b (ordered a wa.0) (ordered b wb.0) s) ∙ sym (ap text_of y-is)),
    )

-- what a canonical text spells has closed and needed statements alone
each_defined : (k : ItemType) (xs : List Item) → AreWellFormed k xs → AllByRecursion (λ (b : Item). EachClosed b × AllNeeded b) (map renumbered xs)
each_defined k [] h = tt
each_defined k (a ∷ xs) h = ((renumbered-closed a h.0.0, renumbered-needed a h.0.0), each_defined k xs h.1)

pub texts_defined : (k : ItemType) (xs others : List Item) → AreWellFormed k xs → TextSpells k (texts_of xs) others → AllByRecursion (λ (b : Item). EachClosed b × AllNeeded b) others
texts_defined k xs others h s =
    subst (λ (l : List Item). AllByRecursion (λ (b : Item). EachClosed b × AllNeeded b) l) (sym (texts_exact k xs others h s)) (each_defined k xs h)
