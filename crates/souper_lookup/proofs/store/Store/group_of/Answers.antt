use Rattle.std.proofs.Common.{ℕ, List, [], map, ap, ◌∙◌, sym, get_or}
use Rattle.std.specs.String.{string_bytes, string_eq}
use Rattle.souper_lookup.specs.Stored.{replacements_of}
use Rattle.souper_lookup.proofs.Storing.{got, got-none, place-some}
use Rattle.souper_lookup.proofs.store.Store.group_of.Goals as goal

pub returns-in-Some : goal.returns-in-Some
returns-in-Some c = λ entries h.
    let key = c.args.key.now in
    let old = c.args.self.now in
    let groups : List (List ℕ) = map (λ v. v.items) old.groups.items in
    c.group_at.ensures ∙ ap (λ (n : ℕ). get_or groups n []) (place-some (string_eq key) old.keys.keys c.in-Some.index (sym c.in-Some.ensures.index))
    ∙ got (replacements_of entries) (map string_bytes old.texts.keys) old.keys.keys groups key h.indexed

pub returns-in-None : goal.returns-in-None
returns-in-None c = λ entries h.
    let old = c.args.self.now in
    got-none (replacements_of entries) (map string_bytes old.texts.keys) old.keys.keys (map (λ v. v.items) old.groups.items) c.args.key.now h.indexed (sym c.in-None.ensures.index)
