-- Lemmas. An item whose statements are all closed and named apart has its form in the tokens of its listed parts, which
-- are sound.
use Rattle.std.proofs.Common.{◌≡◌, ℕ, ◌<◌, List, [], ◌∷◌, ◌++◌, length, take, drop, refl, sym, ap, ◌∙◌, arith, append-nil, length-take, inl}
use Rattle.std.proofs.lemmas.List.{take-append-drop}
use Rattle.souper_graph.specs.Values.{PlainStatement, Ending, inferred, resulting, replaced, candidate, Item}
use Rattle.souper_graph.specs.Uses.{Has, Use, value_use, position_of as use_position, uses_of_operand, roots_of}
use Rattle.souper_graph.specs.Unneeded.{EachClosed}
use Rattle.souper_graph.proofs.Judging.Needed.{met-inside}
use Rattle.souper_graph.proofs.RoundTrip.Parts.{Part, newline, words_of, AreSound, sound_append}
use Rattle.souper_graph.proofs.RoundTrip.Nodes.{parts_of_lines, parts_of_infer, parts_of_cand, parts_of_result, listed_parts}
use Rattle.souper_graph.proofs.RoundTrip.Ready.{Known, AreKnown, AreReady, known_left, known_after, ready_first, ready_second}
use Rattle.souper_graph.proofs.RoundTrip.Scopes.{known, ready}
use Rattle.souper_graph.proofs.RoundTrip.Sound.{infer_sound, infer_then, cand_sound, result_sound, lines_then}
use Rattle.souper_graph.specs.Syntax.Spelling.{ItemType, ending_type, lines, item, result}
use Rattle.souper_graph.proofs.RoundTrip.Spelled.{in_turn, ended, infer_spelled, cand_spelled, result_spelled, lines_spelled}

-- an infer line that a result follows has its value before it
abbrev pub Leads : ℕ → Ending → Type 0
Leads lead (inferred i) = Unit {0}
Leads lead (resulting r) = Unit {0}
Leads lead (replaced i r) = i.value < lead
Leads lead (candidate c) = Unit {0}

abbrev pub whole_item : List PlainStatement → Ending → Item
whole_item ss e = record { statements = ss; ending = e }

module _ (ss : List PlainStatement) (e : Ending) (ec : EachClosed (whole_item ss e)) where
  all_ready : AreReady [] ss ss
  all_ready = ready (whole_item ss e) ec [] ss [] (sym (append-nil ss))

  roots_known : AreKnown ss ss (roots_of e)
  roots_known u h = known (whole_item ss e) ec ss [] (sym (append-nil ss)) u (met-inside ss u (ec.roots_met u h)) (ec.roots_met u h)

  -- the statements before and after a cut
  first_ready : (lead : ℕ) → AreReady [] ss (take lead ss)
  first_ready lead = ready (whole_item ss e) ec [] (take lead ss) (drop lead ss) (sym (take-append-drop lead ss))

  last_ready : (lead : ℕ) → AreReady (take lead ss) ss (drop lead ss)
  last_ready lead = ready (whole_item ss e) ec (take lead ss) (drop lead ss) [] (sym (take-append-drop lead ss) ∙ ap (λ (z : List PlainStatement). take lead ss ++ z) (sym (append-nil (drop lead ss))))

  known_before : (lead : ℕ) (u : Use) → use_position u < lead → Has (roots_of e) u → Known (take lead ss) ss u
  known_before lead u l h =
      let within : use_position u < length ss = met-inside ss u (ec.roots_met u h) in
      known (whole_item ss e) ec (take lead ss) (drop lead ss) (sym (take-append-drop lead ss)) u (omega (arith, length-take lead ss)) (ec.roots_met u h)

-- the lines of an item whose statements are all closed
lines_listed : (ss : List PlainStatement) (e : Ending) (lead : ℕ) → EachClosed (whole_item ss e) → Leads lead e → lines [] ss e (words_of (listed_parts ss e lead))
lines_listed ss (inferred i) lead ec l =
    in_turn (parts_of_lines ss ss) (parts_of_infer ss i) (lines_spelled [] ss ss (all_ready ss (inferred i) ec))
    (infer_spelled ss ss i ec.ending_fits (roots_known ss (inferred i) ec (value_use i.value) (inl refl)))
lines_listed ss (resulting r) lead ec l =
    in_turn (parts_of_lines ss ss) (parts_of_result ss r) (lines_spelled [] ss ss (all_ready ss (resulting r) ec))
    (result_spelled ss ss r (ec.ending_fits, known_left ss ss (uses_of_operand r) [] (roots_known ss (resulting r) ec)))
lines_listed ss (replaced i r) lead ec l =
    let last : List Part = parts_of_result ss r ++ newline ∷ [] in (
      take lead ss,
      drop lead ss,
      sym (take-append-drop lead ss),
      in_turn (parts_of_lines ss (take lead ss)) (parts_of_infer ss i ++ (parts_of_lines ss (drop lead ss) ++ last)) (lines_spelled [] ss (take lead ss) (first_ready ss (replaced i r) ec lead))
          (in_turn (parts_of_infer ss i) (parts_of_lines ss (drop lead ss) ++ last) (infer_spelled (take lead ss) ss i ec.ending_fits.0 (known_before ss (replaced i r) ec lead (value_use i.value) l (inl refl)))
          (in_turn (parts_of_lines ss (drop lead ss)) last (lines_spelled (take lead ss) ss (drop lead ss) (last_ready ss (replaced i r) ec lead))
          (ended (result ss r) (parts_of_result ss r) (result_spelled ss ss r (ec.ending_fits.1, known_after ss ss (value_use i.value) (uses_of_operand r) (roots_known ss (replaced i r) ec)))))),
    )
lines_listed ss (candidate c) lead ec l =
    let k : AreKnown ss ss (uses_of_operand c.lhs ++ uses_of_operand c.rhs) = known_left ss ss (uses_of_operand c.lhs ++ uses_of_operand c.rhs) [] (roots_known ss (candidate c) ec) in
    in_turn (parts_of_lines ss ss) (parts_of_cand ss c) (lines_spelled [] ss ss (all_ready ss (candidate c) ec))
    (cand_spelled ss ss c (ready_first ss ss c.lhs c.rhs ec.ending_fits.0 k) (ready_second ss ss c.lhs c.rhs ec.ending_fits.1 k) ec.ending_fits.2)

listed_sound : (ss : List PlainStatement) (e : Ending) (lead : ℕ) → EachClosed (whole_item ss e) → Leads lead e → AreSound (listed_parts ss e lead)
listed_sound ss (inferred i) lead ec l =
    lines_then [] ss ss (parts_of_infer ss i) (all_ready ss (inferred i) ec) (infer_sound ss ss i ec.ending_fits (roots_known ss (inferred i) ec (value_use i.value) (inl refl)))
listed_sound ss (resulting r) lead ec l =
    lines_then [] ss ss (parts_of_result ss r) (all_ready ss (resulting r) ec)
    (result_sound ss ss r (ec.ending_fits, known_left ss ss (uses_of_operand r) [] (roots_known ss (resulting r) ec)))
listed_sound ss (replaced i r) lead ec l =
    let known_roots = roots_known ss (replaced i r) ec in
    lines_then [] ss (take lead ss) _ (first_ready ss (replaced i r) ec lead)
    (infer_then (take lead ss) ss i _ ec.ending_fits.0 (known_before ss (replaced i r) ec lead (value_use i.value) l (inl refl))
    (lines_then (take lead ss) ss (drop lead ss) (parts_of_result ss r ++ newline ∷ []) (last_ready ss (replaced i r) ec lead)
    (sound_append (parts_of_result ss r) (newline ∷ []) (result_sound ss ss r (ec.ending_fits.1, known_after ss ss (value_use i.value) (uses_of_operand r) known_roots)) tt refl)))
listed_sound ss (candidate c) lead ec l =
    let k : AreKnown ss ss (uses_of_operand c.lhs ++ uses_of_operand c.rhs) = known_left ss ss (uses_of_operand c.lhs ++ uses_of_operand c.rhs) [] (roots_known ss (candidate c) ec) in
    lines_then [] ss ss (parts_of_cand ss c) (all_ready ss (candidate c) ec)
    (cand_sound ss ss c (ready_first ss ss c.lhs c.rhs ec.ending_fits.0 k) (ready_second ss ss c.lhs c.rhs ec.ending_fits.1 k) ec.ending_fits.2)

pub item_spelled : (k : ItemType) (a : Item) (lead : ℕ) → EachClosed a → ending_type a.ending ≡ k → Leads lead a.ending → item k a (words_of (listed_parts a.statements a.ending lead))
item_spelled k a lead ec t l = (t, a.statements, refl, lines_listed a.statements a.ending lead ec l)

pub item_sound : (a : Item) (lead : ℕ) → EachClosed a → Leads lead a.ending → AreSound (listed_parts a.statements a.ending lead)
item_sound a lead ec l = listed_sound a.statements a.ending lead ec l
