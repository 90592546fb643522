-- What is written for left-hand sides, one after the other.
use Rattle.std.proofs.Common.{◌≡◌, ℕ, ◌+◌, ◌<◌, ◌≤◌, Bool, true, false, List, [], ◌∷◌, ◌++◌, length, map, take, get_or, Vec, Global, refl, sym, ap, ◌∙◌, subst, arith}
use Rattle.std.specs.Prelude.{Result, IfOk, String, filter, if◌then◌else◌}
use Rattle.std.specs.List.{AllByRecursion}
use Rattle.std.specs.String.{string_bytes}
use Rattle.std.proofs.lemmas.List.{take_more, take_all, map-append}
use Rattle.std.proofs.lemmas.Result.{IfOk-weaker}
use Rattle.souper_graph.specs.Values.{Item}
use Rattle.souper_graph.specs.WellFormed.{WellFormed}
use Rattle.souper_lookup.specs.Instance.{AreInstances}
use Rattle.souper_graph.specs.Renaming.{renamed}
use Rattle.souper_lookup.specs.declared.store.Store.{Store}
use Rattle.souper_lookup.specs.Stored.{Entry, key_of_left, has_left_key, answers, replacements_of, Stores}
use Rattle.souper_find.specs.declared.search.Choice.TheVariants.{All, First, Unanswered}
use Rattle.souper_records.specs.declared.output.Output.{Output}
use Rattle.souper_records.specs.Outputs.{renames}
use Rattle.souper_records.specs.Uniques.{text_by}
use Rattle.souper_find.specs.Answers.{if_unanswered, HaveTexts, AreTexts}

pub instances-well : (q : Item) (xs ys : List Item) → AreInstances q xs ys → AllByRecursion WellFormed ys
instances-well q [] [] h = tt
instances-well q [] (b ∷ bs) h = absurd h
instances-well q (a ∷ xs) [] h = absurd h
instances-well q (a ∷ xs) (b ∷ ys) h = (h.0.well_formed, instances-well q xs ys h.1)

-- one text more
pub texts-next : {X : Type 0} (view : X → Item) (f : Item → List ℕ) (xs : List X) (k : ℕ) (d : X) → k < length xs → d ≡ get_or xs k d → map f (map view (take (k + 1) xs)) ≡ map f (map view (take k xs)) ++ f (view d) ∷ []
texts-next view f xs k d l at =
    ap (λ z. map f (map view z)) (take_more xs k d l) ∙ ap (map f) (map-append view (take k xs) (get_or xs k d ∷ [])) ∙ map-append f (map view (take k xs)) (view (get_or xs k d) ∷ [])
    ∙ ap (λ z. map f (map view (take k xs)) ++ f (view z) ∷ []) (sym at)

-- no more answers than entries
few : {X : Type 0} (p : X → Bool) (xs : List X) → length (filter p xs) ≤ length xs
few p [] = omega arith
few p (x ∷ xs) = under (p x) (few p xs)
  where
    under : (b : Bool) → length (filter p xs) ≤ length xs → length (if b then x ∷ filter p xs else filter p xs) ≤ length (x ∷ xs)
    under true h = omega arith
    under false h = omega arith

pub all-answers : (q : Item) (entries : List Entry) (n : ℕ) → length entries ≤ n → take n (answers q entries) ≡ answers q entries
all-answers q entries n l = let h = few (λ (e : Entry). has_left_key (key_of_left q) e.replacement) entries in take_all n (answers q entries) (omega arith)

-- The texts for a left-hand side. It is the one before its key was made.
module _ {E : Type 0} (store : Store) (rename : Bool) (key : List ℕ) (r : Result (Vec (String Global) Global) E) where
  abbrev pub Found : ℕ → Item → Type 0
  Found n x = WellFormed x → WellFormed (renamed x) → key ≡ key_of_left x → (entries : List Entry) → Stores entries store → IfOk r (λ texts. HaveTexts rename x (take n (answers x entries)) (map string_bytes texts.items))

  abbrev pub Unfound : Item → Type 0
  Unfound x = key ≡ key_of_left x → (entries : List Entry) → Stores entries store → IfOk r (λ texts. map string_bytes texts.items ≡ map (text_by rename) (if_unanswered x (answers x entries)))

  module _ (output : Output) (as_output : rename ≡ renames output) (entries : List Entry) (s : Stores entries store) (q now : Item) (kept : now ≡ q) (w : WellFormed q) (is : key ≡ key_of_left q) where
    pub are-all : WellFormed (renamed q) → (n : ℕ) → length entries ≤ n → Found n now → IfOk r (λ texts. AreTexts All output entries q (map string_bytes texts.items))
    are-all rq n l f =
        IfOk-weaker r _ _ (λ texts t. (t.0, subst (λ (es : List Entry). AreInstances q (replacements_of es) t.0) (all-answers q entries n l) t.1, t.2 ∙ ap (λ (b : Bool). map (text_by b) t.0) as_output))
        (subst (Found n) kept f w rq is entries s)

    pub are-first : WellFormed (renamed q) → Found 1 now → IfOk r (λ texts. AreTexts First output entries q (map string_bytes texts.items))
    are-first rq f = IfOk-weaker r _ _ (λ texts t. (t.0, t.1, t.2 ∙ ap (λ (b : Bool). map (text_by b) t.0) as_output)) (subst (Found 1) kept f w rq is entries s)

    pub are-unanswered : Unfound now → IfOk r (λ texts. AreTexts Unanswered output entries q (map string_bytes texts.items))
    are-unanswered f =
        let items = if_unanswered q (answers q entries) in
        IfOk-weaker r _ _ (λ texts e. (items, refl, e ∙ ap (λ (b : Bool). map (text_by b) items) as_output)) (subst Unfound kept f is entries s)
