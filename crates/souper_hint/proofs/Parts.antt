-- Parts of a text.
use Rattle.std.proofs.Common.{◌≡◌, ℕ, ◌≤◌, List, [], ◌++◌, take, drop, sym, ap, ◌∙◌, Bor, Option, Some, None, unwrap_or}
use Rattle.std.proofs.lemmas.List.{take-append-drop}
use Rattle.std.proofs.lemmas.List.Folds.{drop_split}
use Rattle.std.specs.Str.Iter.{HasSubslice}
use Rattle.std.specs.Str.Pattern.{GetsRange}

-- a range of a text, or an empty text in its place, is part of the text
pub part_or_empty : (s : List ℕ) (i j : ℕ) (r : Option (Bor (List ℕ))) (d : Bor (List ℕ)) → i ≤ j → GetsRange s i j r → d.now ≡ [] → HasSubslice s (unwrap_or r d).now
part_or_empty s i j None d le got empty = ([], s, sym (ap (λ (x : List ℕ). x ++ s) empty))
part_or_empty s i j (Some x) d le got empty = (
  take i s,
  drop j s,
  sym (take-append-drop i s) ∙ ap (λ (t : List ℕ). take i s ++ t) (drop_split s i j le ∙ ap (λ (y : List ℕ). y ++ drop j s) (sym got.0)),
)
