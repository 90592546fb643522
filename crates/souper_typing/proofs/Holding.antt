-- What the sink holds that writes widths.
use Rattle.std.proofs.Common.{◌≡◌, ◌⊎◌, inl, inr, ℕ, Bool, true, false, List, [], ◌∷◌, ◌++◌, map, Option, None, Some, Ok, Err, option_map, sym, ap, subst, ◌∙◌, append-nil, String, string_bytes}
use Rattle.std.specs.declared.alloc.Global.{Global}
use Rattle.std.proofs.lemmas.List.{map-append}
use Rattle.std.proofs.lemmas.List.Folds.{list_any-append}
use Rattle.std.proofs.lemmas.List.Elements.{filter_map-append}
use Rattle.souper_graph.proofs.Judging.Closed.{All-both}
use Rattle.souper_graph.specs.Values.{Item}
use Rattle.souper_typed.specs.declared.form.Form.{Form}
use Rattle.souper_records.specs.Outcomes.{Outcome}
use Rattle.souper_typing.specs.declared.widened.Widened.{Widened}
use Rattle.souper_typing.specs.Rows.{Row, IsRow, typed_item, typed_of, flaw_lines, is_flawed, any_flawed, IsTaken}
use Rattle.souper_typing.specs.Parts.{Rowed, typed_outcome, typed_outcomes, part_report}
use Rattle.souper_typing.specs.Widened.{WidenedHolds, EndsWithReport, WidenedWrote}
use Rattle.souper_typing.proofs.Bools.{or_false, or_true}
use Rattle.souper_typing.proofs.Taken.{none_taken, no_rows, skipped, typed_more, flawed_more}

-- no item was taken
pub held_none : {S : Type 0} (holds : S → S → List Item → Type 0) (a b : Widened S) → b.form ≡ a.form → b.recover ≡ a.recover → holds a.inner b.inner [] → b.flaws.items ≡ [] → b.any ≡ false → WidenedHolds holds a b []
held_none holds a b form recover h flaws any = record {
  form = form;
  recover = recover;
  rows = [];
  taken = none_taken a.recover a.form;
  inner = h;
  flaws = ap (map (option_map string_bytes)) flaws;
  any = any;
}

-- an item is passed over
pub held_skipped : {S : Type 0} (holds : S → S → List Item → Type 0) (a b : Widened S) (items : List Item) (x : Item) → b.any ≡ true → b.recover ≡ false → WidenedHolds holds a b items → WidenedHolds holds a b (items ++ x ∷ [])
held_skipped holds a b items x any stops h = record {
  form = h.form;
  recover = h.recover;
  rows = h.rows;
  taken = passed a.recover (sym h.recover ∙ stops) h.taken;
  inner = h.inner;
  flaws = h.flaws;
  any = h.any;
}
  where
    passed : (recover : Bool) → recover ≡ false → IsTaken recover a.form items h.rows → IsTaken recover a.form (items ++ x ∷ []) h.rows
    passed true e t = absurd cc
    passed false e t = skipped a.form items h.rows x (sym h.any ∙ any) t

-- an item may be taken
pub goes_on : {S : Type 0} (holds : S → S → List Item → Type 0) (a b : Widened S) (items : List Item) → (h : WidenedHolds holds a b items) → (b.any ≡ false) ⊎ (b.recover ≡ true) → (a.recover ≡ true) ⊎ (any_flawed h.rows ≡ false)
goes_on holds a b items h (inl e) = inr (sym h.any ∙ e)
goes_on holds a b items h (inr e) = inl (sym h.recover ∙ e)

typed_one : (rows : List Row) (y : Item) → typed_of (rows ++ Ok y ∷ []) ≡ typed_of rows ++ y ∷ []
typed_one rows y = filter_map-append typed_item rows (Ok y ∷ [])

typed_none : (rows : List Row) (lines : List ℕ) → typed_of rows ≡ typed_of (rows ++ Err lines ∷ [])
typed_none rows lines = sym (append-nil (typed_of rows)) ∙ sym (filter_map-append typed_item rows (Err lines ∷ []))

-- an item with widths was taken, from b to c
pub held_typed : {S : Type 0} (holds : S → S → List Item → Type 0) (a b c : Widened S) (items : List Item) (x y : Item) → (b.any ≡ false) ⊎ (b.recover ≡ true) → c.form ≡ b.form → c.recover ≡ b.recover → c.any ≡ b.any → c.flaws.items ≡ b.flaws.items ++ None ∷ []
    → IsRow b.form x (Ok y) → ((list : List Item) → holds a.inner b.inner list → holds a.inner c.inner (list ++ y ∷ [])) → WidenedHolds holds a b items → WidenedHolds holds a c (items ++ x ∷ [])
held_typed holds a b c items x y goes form recover any flaws is inner h = record {
  form = form ∙ h.form;
  recover = recover ∙ h.recover;
  rows = h.rows ++ Ok y ∷ [];
  taken = typed_more a.recover a.form items h.rows x y (goes_on holds a b items h goes) (subst (λ (f : Form). IsRow f x (Ok y)) h.form is) h.taken;
  inner = subst (holds a.inner c.inner) (sym (typed_one h.rows y)) (inner (typed_of h.rows) h.inner);
  flaws = ap (map (option_map string_bytes)) flaws ∙ map-append (option_map string_bytes) b.flaws.items (None ∷ []) ∙ (λ i. h.flaws i ++ None ∷ []) ∙ sym (map-append flaw_lines h.rows (Ok y ∷ []));
  any = any ∙ h.any ∙ sym (or_false (any_flawed h.rows)) ∙ sym (list_any-append is_flawed h.rows (Ok y ∷ []));
}

-- an item without widths was, and these are its lines
pub held_flawed : {S : Type 0} (holds : S → S → List Item → Type 0) (a b c : Widened S) (items : List Item) (x : Item) (lines : String Global) → (b.any ≡ false) ⊎ (b.recover ≡ true) → c.form ≡ b.form → c.recover ≡ b.recover → c.inner ≡ b.inner → c.any ≡ true → c.flaws.items ≡ b.flaws.items ++ Some lines ∷ []
    → IsRow b.form x (Err (string_bytes lines)) → WidenedHolds holds a b items → WidenedHolds holds a c (items ++ x ∷ [])
held_flawed holds a b c items x lines goes form recover inner any flaws is h = record {
  form = form ∙ h.form;
  recover = recover ∙ h.recover;
  rows = h.rows ++ Err (string_bytes lines) ∷ [];
  taken = flawed_more a.recover a.form items h.rows x (string_bytes lines) (goes_on holds a b items h goes) (subst (λ (f : Form). IsRow f x (Err (string_bytes lines))) h.form is) h.taken;
  inner = subst (holds a.inner c.inner) (typed_none h.rows (string_bytes lines)) (subst (λ s. holds a.inner s (typed_of h.rows)) (sym inner) h.inner);
  flaws = ap (map (option_map string_bytes)) flaws ∙ map-append (option_map string_bytes) b.flaws.items (Some lines ∷ []) ∙ (λ i. h.flaws i ++ Some (string_bytes lines) ∷ []) ∙ sym (map-append flaw_lines h.rows (Err (string_bytes lines) ∷ []));
  any = any ∙ sym (or_true (any_flawed h.rows)) ∙ sym (list_any-append is_flawed h.rows (Err (string_bytes lines) ∷ []));
}

ends_more : (name : List ℕ) (report : Option (List ℕ)) (ps : List Rowed) (p : Rowed) → report ≡ part_report name p → EndsWithReport name report (ps ++ p ∷ [])
ends_more name report [] p e = e
ends_more name report (q ∷ []) p e = e
ends_more name report (q ∷ r ∷ ps) p e = ends_more name report (r ∷ ps) p e

-- A part more was written, of which b held the items, and then there is c. The inner sink of z had written the parts before.
pub wrote_more : {S : Type 0} (holds : S → S → List Item → Type 0) (wrote : List ℕ → S → Option (List ℕ) → S → Option (List ℕ) → List Outcome → Type 0) (name : List ℕ) (a z b c : Widened S) (x u v : Option (List ℕ)) (os : List Outcome) (o : Outcome)
    → c.form ≡ b.form → c.recover ≡ b.recover → (w : WidenedWrote wrote name a x z u os) → (h : WidenedHolds holds z b o.items) → option_map string_bytes c.report ≡ part_report name (record { outcome = o; rows = h.rows })
    → wrote name a.inner x c.inner v (typed_outcomes w.parts ++ typed_outcome (record { outcome = o; rows = h.rows }) ∷ []) → WidenedWrote wrote name a x c v (os ++ o ∷ [])
wrote_more holds wrote name a z b c x u v os o form recover w h report more =
    let p : Rowed = record { outcome = o; rows = h.rows } in
    record {
      form = form ∙ h.form ∙ w.form;
      recover = recover ∙ h.recover ∙ w.recover;
      parts = w.parts ++ p ∷ [];
      are = map-append (λ (q : Rowed). q.outcome) w.parts (p ∷ []) ∙ ap (λ (xs : List Outcome). xs ++ o ∷ []) w.are;
      taken = All-both (λ (q : Rowed). IsTaken a.recover a.form q.outcome.items q.rows) w.parts (p ∷ []) w.taken (subst (λ (b : Bool). IsTaken b a.form o.items h.rows) w.recover (subst (λ (f : Form). IsTaken z.recover f o.items h.rows) w.form h.taken), tt);
      inner = subst (wrote name a.inner x c.inner v) (sym (map-append typed_outcome w.parts (p ∷ []))) more;
      last = ends_more name (option_map string_bytes c.report) w.parts p report;
    }

-- the idle inner sink
pub idle_inner : {S : Type 0} (holds : S → S → List Item → Type 0) (a : Widened S) → WidenedHolds holds a a [] → holds a.inner a.inner []
idle_inner holds a h = subst (λ (rows : List Row). holds a.inner a.inner (typed_of rows)) (no_rows a.recover a.form h.rows h.taken) h.inner
