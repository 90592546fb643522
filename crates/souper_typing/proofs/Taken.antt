-- Rows of items, as they are taken one after the other.
use Rattle.std.proofs.Common.{◌≡◌, ◌⊎◌, inl, inr, ◌||◌, ℕ, Bool, true, false, List, [], ◌∷◌, ◌++◌, Ok, Err, refl, sym, ap, ◌∙◌, append_assoc, append-nil}
use Rattle.std.specs.List.{AllZip}
use Rattle.std.proofs.lemmas.List.Folds.{list_any-append}
use Rattle.std.proofs.lemmas.Slice.Zip.{all_zipped_more}
use Rattle.souper_graph.specs.Values.{Item}
use Rattle.souper_typed.specs.declared.form.Form.{Form}
use Rattle.souper_typing.specs.Rows.{Row, IsRow, is_flawed, any_flawed, EndsFlawed, IsTaken}

pub none_taken : (recover : Bool) (f : Form) → IsTaken recover f [] []
none_taken recover f = record { front = []; rest = []; whole = refl; each = tt; all = λ e. refl; first = λ e. inl refl }

front_none : (front rest : List Item) → [] ≡ front ++ rest → front ≡ []
front_none [] rest e = refl
front_none (a ∷ front) rest e = absurd cc

rows_none : (f : Form) (front : List Item) (rows : List Row) → front ≡ [] → AllZip (IsRow f) front rows → rows ≡ []
rows_none f [] [] e h = refl
rows_none f [] (r ∷ rows) e h = absurd h
rows_none f (a ∷ front) rows e h = absurd cc

-- no item has no row
pub no_rows : (recover : Bool) (f : Form) (rows : List Row) → IsTaken recover f [] rows → rows ≡ []
no_rows recover f rows t = rows_none f t.front rows (front_none t.front t.rest t.whole) t.each

-- an item is not taken after one without widths
pub skipped : (f : Form) (items : List Item) (rows : List Row) (a : Item) → any_flawed rows ≡ true → IsTaken false f items rows → IsTaken false f (items ++ a ∷ []) rows
skipped f items rows a some t = record {
  front = t.front;
  rest = t.rest ++ a ∷ [];
  whole = ap (λ (x : List Item). x ++ a ∷ []) t.whole ∙ append_assoc t.front t.rest (a ∷ []);
  each = t.each;
  all = elim [ inl e ↦ absurd cc | inr e ↦ (let bad : true ≡ false = sym some ∙ e in absurd cc) ];
  first = t.first;
}

any_more : (rows : List Row) (r : Row) (b : Bool) → any_flawed rows ≡ false → is_flawed r ≡ b → any_flawed (rows ++ r ∷ []) ≡ (b || false)
any_more rows r b none is = list_any-append is_flawed rows (r ∷ []) ∙ (λ i. none i || (is i || false))

-- an item has a row, if none before had a flaw, or flaws are passed over
row_more : (recover : Bool) (f : Form) (items : List Item) (rows : List Row) (a : Item) (r : Row) → (recover ≡ true) ⊎ (any_flawed rows ≡ false) → IsRow f a r → IsTaken recover f items rows
    → (recover ≡ false → (any_flawed (rows ++ r ∷ []) ≡ false) ⊎ EndsFlawed (rows ++ r ∷ [])) → IsTaken recover f (items ++ a ∷ []) (rows ++ r ∷ [])
row_more recover f items rows a r goes is t first = record {
  front = t.front ++ a ∷ [];
  rest = [];
  whole = ap (λ (x : List Item). x ++ a ∷ []) t.whole ∙ (λ i. (t.front ++ t.all goes i) ++ a ∷ []) ∙ ap (λ (x : List Item). x ++ a ∷ []) (append-nil t.front) ∙ sym (append-nil (t.front ++ a ∷ []));
  each = all_zipped_more (IsRow f) t.front rows a r t.each is;
  all = λ e. refl;
  first = first;
}

pub typed_more : (recover : Bool) (f : Form) (items : List Item) (rows : List Row) (a b : Item) → (recover ≡ true) ⊎ (any_flawed rows ≡ false) → IsRow f a (Ok b) → IsTaken recover f items rows → IsTaken recover f (items ++ a ∷ []) (rows ++ Ok b ∷ [])
typed_more recover f items rows a b goes is t = row_more recover f items rows a (Ok b) goes is t (λ stops. elim goes [
  | inl e ↦ (let bad : true ≡ false = sym e ∙ stops in absurd cc)
  | inr none ↦ inl (any_more rows (Ok b) false none refl)
])

pub flawed_more : (recover : Bool) (f : Form) (items : List Item) (rows : List Row) (a : Item) (lines : List ℕ) → (recover ≡ true) ⊎ (any_flawed rows ≡ false) → IsRow f a (Err lines) → IsTaken recover f items rows → IsTaken recover f (items ++ a ∷ []) (rows ++ Err lines ∷ [])
flawed_more recover f items rows a lines goes is t = row_more recover f items rows a (Err lines) goes is t (λ stops. elim goes [
  | inl e ↦ (let bad : true ≡ false = sym e ∙ stops in absurd cc)
  | inr none ↦ inr (record { front = rows; last = Err lines; whole = refl; none = none })
])
