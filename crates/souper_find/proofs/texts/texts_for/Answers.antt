use Rattle.std.proofs.Common.{◌≤◌, length, ap, arith}
use Rattle.std.proofs.lemmas.List.{length-map}
use Rattle.std.specs.String.{string_bytes}
use Rattle.souper_graph.specs.View.{view_left_hand_side}
use Rattle.souper_lookup.specs.Stored.{view_stored}
use Rattle.souper_find.proofs.Answering.{are-all, are-first, are-unanswered}
use Rattle.souper_find.proofs.texts.texts_for.Goals as goal

pub returns-in-All : goal.returns-in-All
returns-in-All c = λ entries h.
    let s = c.args.search in
    let q = view_left_hand_side c.args.query.now in
    let k = c.in_ok-key.ensures in
    let all : length entries ≤ length c.stored.result.now = omega (arith, ap length (c.stored.ensures entries h), length-map c.stored.result.now view_stored) in
    rw c.in-All.is (are-all s.store.now c.renames-rename.result (string_bytes c.in_ok-key.key) c.found_texts.result s.output c.renames-rename.ensures entries h q (view_left_hand_side c.key_in_place.new.left) (k.kept c.requires) c.requires (k.text c.requires)
    (k.well_formed c.requires) (length c.stored.result.now) all c.found_texts.ensures)

pub returns-in-First : goal.returns-in-First
returns-in-First c = λ entries h.
    let s = c.args.search in
    let q = view_left_hand_side c.args.query.now in
    let k = c.in_ok-key.ensures in
    rw c.in-First.is (are-first s.store.now c.renames-rename.result (string_bytes c.in_ok-key.key) c.found_texts-in-First.result s.output c.renames-rename.ensures entries h q (view_left_hand_side c.key_in_place.new.left) (k.kept c.requires) c.requires
    (k.text c.requires) (k.well_formed c.requires) c.found_texts-in-First.ensures)

pub returns : goal.returns
returns c = λ entries h.
    let s = c.args.search in
    let q = view_left_hand_side c.args.query.now in
    let k = c.in_ok-key.ensures in
    rw c.in-Unanswered.is (are-unanswered s.store.now c.renames-rename.result (string_bytes c.in_ok-key.key) c.unanswered_texts.result s.output c.renames-rename.ensures entries h q (view_left_hand_side c.key_in_place.new.left) (k.kept c.requires) c.requires
    (k.text c.requires) c.unanswered_texts.ensures)
