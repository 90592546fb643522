-- Lemmas. The canonical text of a well-formed item lists the statements of its renumbered item, and reads back as it.
use Rattle.std.proofs.Common.{◌≡◌, ℕ, ◌<◌, List, [], ◌∷◌, ◌++◌, length, map, take, drop, get_or, Some, refl, sym, ap, ◌∙◌, subst, inl, inr, append-nil}
use Rattle.std.specs.Prelude.{codes, slice_get}
use Rattle.std.proofs.lemmas.List.{take-map, drop-map, take-append-drop, length-map}
use Rattle.std.proofs.lemmas.Option.{slice_get_within}
use Rattle.souper_graph.specs.Values.{PlainStatement, assigned, condition, block_condition, Ending, inferred, resulting, replaced, candidate, Item}
use Rattle.souper_graph.specs.Uses.{Has, value_use, position_of, uses_of_operand, first_roots, roots_of, walks_of, NeededIn}
use Rattle.souper_graph.specs.Order.{printed_order, lead_of}
use Rattle.souper_graph.specs.Text.{name_of, name_at, text_of_statement, line_of, line_at, lines_of, text_in_order, text_of, texts_of}
use Rattle.souper_graph.specs.WellFormed.{WellFormed}
use Rattle.souper_graph.specs.Unneeded.{EachClosed, SameNeeded, AllNeeded}
use Rattle.souper_graph.specs.Sameness.{carried, carried_ending, place, renumbered, SameGraph}
use Rattle.souper_graph.specs.ItemText.{IsWellFormedOf, AreWellFormed, ReadsBack}
use Rattle.souper_graph.specs.Syntax.Tokens.{Lexeme, IsTextOf}
use Rattle.souper_graph.specs.Syntax.Spelling.{ItemType, IsEndingOf, item, items, TextSpells}
use Rattle.souper_graph.proofs.Lists.{Has-left, Has-right, Has-here, Has-later}
use Rattle.souper_graph.proofs.Sameness.Indices.{Has-at, place-at}
use Rattle.souper_graph.proofs.Judging.Needed.{statement_at, root-walked, well_formed_stands}
use Rattle.souper_graph.proofs.Sameness.PrintedOrder.{printed-once}
use Rattle.souper_graph.proofs.Sameness.Renumbered.{numbered, numbered_item, renumbered-is, needs, stood-needed, numbered-at, numbered-needed, renumbered-well, renumbered-same, renumbered-graph, unneeded-well, unneeded-graph}
use Rattle.souper_graph.proofs.RoundTrip.Parts.{Part, newline, printed, placed, words_of, AreSound, text_from_parts, printed_append, placed_words, words_append}
use Rattle.souper_graph.proofs.RoundTrip.Nodes.{listed_parts, text_of_lines, listed_text}
use Rattle.souper_graph.proofs.RoundTrip.Texts.{listed_is}
use Rattle.souper_graph.proofs.RoundTrip.Spelled.{before_newline}
use Rattle.souper_graph.proofs.RoundTrip.Sound.{line_then}
use Rattle.souper_graph.proofs.RoundTrip.Items.{Leads, item_spelled, item_sound}
use Rattle.souper_graph.proofs.RoundTrip.Carried.{SameNames, statement-carried, infer-carried, cand-carried, result-carried}
use Rattle.souper_graph.proofs.RoundTrip.Leads.{first_leads, lead-carried}

-- ---- the text lists the renumbered statements

name-kept : (f : ℕ → ℕ) (s : PlainStatement) → name_of (Some (carried f s)) ≡ name_of (Some s)
name-kept f (assigned a) = refl
name-kept f (condition p) = refl
name-kept f (block_condition p) = refl

module _ (a : Item) (wa : WellFormed a) where
  same-name : (u : ℕ) → NeededIn a u → name_at (numbered_item a).statements (place (printed_order a) u) ≡ name_at a.statements u
  same-name u d =
      ap name_of (numbered-at a wa u d) ∙ name-kept (place (printed_order a)) (statement_at a.statements u) ∙ ap name_of (sym (well_formed_stands a wa u d))

  same-line : (i : ℕ) → NeededIn a i → line_at a.statements i ≡ text_of_statement (numbered_item a).statements (numbered a i)
  same-line i d =
      ap (line_of a.statements) (well_formed_stands a wa i d)
      ∙ sym (statement-carried (place (printed_order a)) a.statements (numbered_item a).statements (statement_at a.statements i)
      (λ u h. same-name (position_of u) (stood-needed a i d u h)))

  same-lines : (ids : List ℕ) → ((i : ℕ) → Has ids i → NeededIn a i) → lines_of a.statements ids ≡ text_of_lines (numbered_item a).statements (map (numbered a) ids)
  same-lines [] h = refl
  same-lines (x ∷ ids) h = (λ k. same-line x (h x (Has-here x ids)) k ++ same-lines ids (λ i q. h i (Has-later x i ids q)) k)

  all-lines : lines_of a.statements (printed_order a) ≡ text_of_lines (numbered_item a).statements (numbered_item a).statements
  all-lines = same-lines (printed_order a) (needs a)

  first-lines : (n : ℕ) → lines_of a.statements (take n (printed_order a)) ≡ text_of_lines (numbered_item a).statements (take n (numbered_item a).statements)
  first-lines n =
      same-lines (take n (printed_order a)) (λ i h. needs a i (subst (λ (z : List ℕ). Has z i) (take-append-drop n (printed_order a)) (Has-left (take n (printed_order a)) (drop n (printed_order a)) i h)))
      ∙ ap (text_of_lines (numbered_item a).statements) (sym (take-map (numbered a) n (printed_order a)))

  last-lines : (n : ℕ) → lines_of a.statements (drop n (printed_order a)) ≡ text_of_lines (numbered_item a).statements (drop n (numbered_item a).statements)
  last-lines n =
      same-lines (drop n (printed_order a)) (λ i h. needs a i (subst (λ (z : List ℕ). Has z i) (take-append-drop n (printed_order a)) (Has-right (take n (printed_order a)) (drop n (printed_order a)) i h)))
      ∙ ap (text_of_lines (numbered_item a).statements) (sym (drop-map (numbered a) n (printed_order a)))

  ending-lines : (e : Ending) (lead : ℕ) → SameNames (place (printed_order a)) a.statements (numbered_item a).statements (roots_of e) →
      text_in_order a.statements e (printed_order a) lead ≡ listed_text (numbered_item a).statements (carried_ending (place (printed_order a)) e) lead
  ending-lines (inferred i) lead k = (λ j. all-lines j ++ sym (infer-carried (place (printed_order a)) a.statements (numbered_item a).statements i k) j)
  ending-lines (resulting r) lead k =
      (λ j. all-lines j ++ sym (result-carried (place (printed_order a)) a.statements (numbered_item a).statements r (λ u h. k u (Has-left (uses_of_operand r) [] u h))) j)
  ending-lines (replaced i r) lead k =
      let infer = sym (infer-carried (place (printed_order a)) a.statements (numbered_item a).statements i (λ u h. k u (Has-left (value_use i.value ∷ []) (uses_of_operand r) u h))) in
      let result = sym (result-carried (place (printed_order a)) a.statements (numbered_item a).statements r (λ u h. k u (inr h))) in
      (λ j. first-lines lead j ++ (infer j ++ (last-lines lead j ++ (result j ++ codes "\n"))))
  ending-lines (candidate c) lead k =
      (λ j. all-lines j ++ sym (cand-carried (place (printed_order a)) a.statements (numbered_item a).statements c (λ u h. k u (Has-left (uses_of_operand c.lhs ++ uses_of_operand c.rhs) [] u h))) j)

  -- the canonical text is the text of the renumbered statements as they are listed
  pub text-listed : text_of a ≡ listed_text (renumbered a).statements (renumbered a).ending (lead_of a)
  text-listed =
      ending-lines a.ending (lead_of a) (λ u h. same-name (position_of u) (root-walked a u h))
      ∙ ap (λ (b : Item). listed_text b.statements b.ending (lead_of a)) (sym (renumbered-is a wa))

  -- ---- the renumbered item

  all-needed : (p : ℕ) → p < length (numbered_item a).statements → NeededIn (numbered_item a) p
  all-needed p l =
      let within : p < length (printed_order a) = subst (λ (n : ℕ). p < n) (length-map (printed_order a) (numbered a)) l in
      subst (NeededIn (numbered_item a)) (place-at (printed_order a) p 0 (printed-once a.statements (walks_of a)) within)
      (numbered-needed a wa (needs a (get_or (printed_order a) p 0) (Has-at (printed_order a) p 0 within)))

  pub renumbered-needed : AllNeeded (renumbered a)
  renumbered-needed = subst AllNeeded (sym (renumbered-is a wa)) all-needed

  pub renumbered-closed : EachClosed (renumbered a)
  renumbered-closed =
      let w = renumbered-well a wa in
      let needed : (p : ℕ) (s : PlainStatement) → slice_get (renumbered a).statements p ≡ Some s → NeededIn (renumbered a) p = λ p s e. renumbered-needed p (slice_get_within (renumbered a).statements p s e) in
      record {
        roots_met = w.roots_met;
        ending_fits = w.ending_fits;
        closed = λ p s e. w.closed p s (needed p s e) e;
        named_apart = λ p q v x e f n. w.named_apart p q v x (needed p (assigned v) e) (needed q (assigned x) f) e f n;
      }

  leads : (e : Ending) → ((i : ℕ) → Has (map position_of (first_roots e)) i → place (printed_order a) i < lead_of a) → Leads (lead_of a) (carried_ending (place (printed_order a)) e)
  leads (inferred i) h = tt
  leads (resulting r) h = tt
  leads (replaced i r) h = h i.value (inl refl)
  leads (candidate c) h = tt

  renumbered-leads : Leads (lead_of a) (renumbered a).ending
  renumbered-leads = leads a.ending (λ i h. first_leads a i (Has-left (map position_of (first_roots a.ending)) _ i h))

  -- ---- its tokens

  pub canonical_parts : List Part
  canonical_parts = listed_parts (renumbered a).statements (renumbered a).ending (lead_of a)

  pub parts-text : printed canonical_parts ≡ text_of a
  unfolding canonical_parts
  parts-text = listed_is (renumbered a).statements (renumbered a).ending (lead_of a) ∙ sym text-listed

  pub parts-sound : AreSound canonical_parts
  unfolding canonical_parts
  parts-sound = item_sound (renumbered a) (lead_of a) renumbered-closed renumbered-leads

  pub parts-spell : (k : ItemType) → IsEndingOf k (renumbered a).ending → item k (renumbered a) (words_of canonical_parts)
  unfolding canonical_parts
  parts-spell k t = item_spelled k (renumbered a) (lead_of a) renumbered-closed t renumbered-leads

ending-kept : (k : ItemType) (f : ℕ → ℕ) (e : Ending) → IsEndingOf k e → IsEndingOf k (carried_ending f e)
ending-kept k f (inferred i) h = h
ending-kept k f (resulting r) h = h
ending-kept k f (replaced i r) h = h
ending-kept k f (candidate c) h = h

-- ---- lists

list_parts : (k : ItemType) (xs : List Item) → AreWellFormed k xs → List Part
list_parts k [] h = []
list_parts k (a ∷ xs) h = (canonical_parts a h.0.0 ++ newline ∷ []) ++ list_parts k xs h.1

list-text : (k : ItemType) (xs : List Item) (h : AreWellFormed k xs) → printed (list_parts k xs h) ≡ texts_of xs
unfolding list_parts
list-text k [] h = refl
list-text k (a ∷ xs) h =
    printed_append (canonical_parts a h.0.0 ++ newline ∷ []) (list_parts k xs h.1)
    ∙ (λ j. (printed_append (canonical_parts a h.0.0) (newline ∷ []) ∙ ap (λ (l : List ℕ). l ++ 10 ∷ []) (parts-text a h.0.0)) j ++ list-text k xs h.1 j)

list-sound : (k : ItemType) (xs : List Item) (h : AreWellFormed k xs) → AreSound (list_parts k xs h)
unfolding list_parts
list-sound k [] h = tt
list-sound k (a ∷ xs) h = line_then (canonical_parts a h.0.0) (list_parts k xs h.1) (parts-sound a h.0.0) (list-sound k xs h.1)

list-spelled : (k : ItemType) (xs : List Item) (h : AreWellFormed k xs) → items k (map renumbered xs) (words_of (list_parts k xs h))
unfolding list_parts
list-spelled k [] h = refl
list-spelled k (a ∷ xs) h = record {
  prefix = words_of (canonical_parts a h.0.0);
  suffix = words_of (list_parts k xs h.1);
  whole = words_append (canonical_parts a h.0.0 ++ newline ∷ []) (list_parts k xs h.1) ∙ ap (λ (ts : List Lexeme). ts ++ words_of (list_parts k xs h.1)) (before_newline (canonical_parts a h.0.0));
  first = parts-spell a h.0.0 k (ending-kept k (place (printed_order a)) a.ending h.0.1);
  second = list-spelled k xs h.1;
}

-- the canonical texts of well-formed items spell the renumbered items
pub texts-read-back : (k : ItemType) (xs : List Item) → AreWellFormed k xs → TextSpells k (texts_of xs) (map renumbered xs)
texts-read-back k xs h =
    let ps = list_parts k xs h in (
      placed 0 ps,
      subst (λ (bs : List ℕ). IsTextOf bs (placed 0 ps)) (list-text k xs h) (text_from_parts ps (list-sound k xs h)),
      subst (items k (map renumbered xs)) (sym (placed_words ps 0)) (list-spelled k xs h),
    )

-- the text of a well-formed item reads back
pub reads-back : (k : ItemType) (a : Item) (text : List ℕ) → IsWellFormedOf k a → text ≡ text_of a → ReadsBack k a text
reads-back k a text h e =
    subst (λ (bs : List ℕ). TextSpells k bs (renumbered a ∷ [])) (append-nil (text_of a ++ 10 ∷ []) ∙ ap (λ (l : List ℕ). l ++ 10 ∷ []) (sym e)) (texts-read-back k (a ∷ []) (h, tt))

-- ---- the same graph has the same text

pub same-graph-text : (a b : Item) → WellFormed a → WellFormed b → SameGraph a b → text_of a ≡ text_of b
same-graph-text a b wa wb s =
    text-listed a wa
    ∙ ap (λ (c : Item). listed_text c.statements c.ending (lead_of a)) (renumbered-same a b wa wb s)
    ∙ ap (λ (n : ℕ). listed_text (renumbered b).statements (renumbered b).ending n) (sym (lead-carried a b wa wb s))
    ∙ sym (text-listed b wb)

pub text-again : (a : Item) → WellFormed a → text_of (renumbered a) ≡ text_of a
text-again a wa = sym (same-graph-text a (renumbered a) wa (renumbered-well a wa) (renumbered-graph a wa))

pub unneeded-text : (a b : Item) → WellFormed a → SameNeeded a b → text_of b ≡ text_of a
unneeded-text a b wa s = sym (same-graph-text a b wa (unneeded-well a b wa s) (unneeded-graph a b s))
