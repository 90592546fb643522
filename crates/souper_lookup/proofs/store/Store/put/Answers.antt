use Rattle.std.proofs.Common.{◌≡◌, ℕ, ◌++◌, [], ◌∷◌, List, Global, map, length, refl, sym, ap, ◌∙◌, subst, arith}
use Rattle.std.specs.List.{position_or_len}
use Rattle.std.specs.String.{string_bytes, string_eq}
use Rattle.std.specs.Prelude.{String}
use Rattle.indexmap.specs.IndexSet.{insert_key}
use Rattle.std.proofs.lemmas.List.{map-append, length-map}
use Rattle.souper_graph.specs.Values.{Item}
use Rattle.souper_graph.specs.View.{view_replacement}
use Rattle.souper_lookup.specs.declared.store.Stored.{Stored}
use Rattle.souper_lookup.specs.Stored.{Entry, view_stored, replacements_of, IsPushed, IsIndexOf}
use Rattle.souper_lookup.proofs.Storing.{put-stored}
use Rattle.souper_lookup.proofs.store.Store.put.Goals as goal

pub returns-clause-put : goal.returns-clause-put
returns-clause-put c = λ entries h s t key none.
    let old = c.args.self.now in
    let p = c.args.prepared in
    let b = view_replacement p.replacement in
    let e : Entry = record { replacement = b; count = 1 } in
    let items = replacements_of entries in
    let groups : List (List ℕ) = map (λ v. v.items) old.groups.items in
    let new : List (List ℕ) = map (λ v. v.items) c.add_to_group.new.groups.items in
    let kept : c.reserve-2.new.self.items ≡ old.stored.items = c.in_ok-reserve-2.ensures.items in
    let stored = ap (λ (z : List Stored). length z) kept ∙ sym (length-map old.stored.items view_stored) ∙ ap (λ (z : List Entry). length z) h.entries_are ∙ sym (length-map entries (λ (z : Entry). z.replacement)) in
    let long : c.len.result ≡ length items = omega (arith, c.len.ensures, c.reserve-2.new.self.ok, stored) in
    let pushed : length old.keys.keys ≡ length groups → IsPushed groups (position_or_len (string_eq p.key) old.keys.keys) (length items) new =
    (λ paired. subst (λ (n : ℕ). IsPushed groups (position_or_len (string_eq p.key) old.keys.keys) n new) long
    (c.in_ok-add_to_group.ensures.pushed (let m = length-map old.groups.items (λ v. v.items) in omega arith))) in
    let added : c.insert.new.self.keys ≡ insert_key string_eq old.texts.keys p.text =
    c.in_ok-insert.ensures.keys ∙ ap (λ (z : List (String Global)). insert_key string_eq z p.text) c.in_ok-reserve.ensures.keys in
    record {
      entries_are =
          ap (map view_stored) (c.push_reserved.ensures.items ∙ ap (λ (z : List Stored). z ++ record { replacement = p.replacement; count = 1 } ∷ []) kept)
          ∙ map-append view_stored old.stored.items (_ ∷ []) ∙ ap (λ (z : List Entry). z ++ e ∷ []) h.entries_are;
      indexed = subst (λ (z : List Item). IsIndexOf z (map string_bytes c.insert.new.self.keys) (map string_bytes c.add_to_group.new.keys.keys) new)
          (sym (map-append (λ (z : Entry). z.replacement) entries (e ∷ [])))
          (put-stored items b old.texts.keys c.insert.new.self.keys old.keys.keys c.add_to_group.new.keys.keys groups new p.text p.key
          h.indexed s none t key added c.in_ok-add_to_group.ensures.keys pushed);
    }
