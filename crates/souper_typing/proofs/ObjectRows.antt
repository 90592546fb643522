-- The objects of a part more, and whether an item has no widths.
use Rattle.std.proofs.Common.{◌≡◌, inl, inr, ◌||◌, ℕ, Bool, true, false, List, [], ◌∷◌, ◌++◌, Option, refl, sym, subst, ◌∙◌}
use Rattle.std.specs.List.{AllZip, list_any}
use Rattle.std.specs.Io.KnownBytes.{Appends}
use Rattle.std.proofs.KnownBytes.{Appends-nil}
use Rattle.souper_graph.proofs.Judging.Closed.{All-both}
use Rattle.souper_graph.specs.Values.{Item}
use Rattle.souper_watched.specs.Streams.{Stream}
use Rattle.souper_typed.specs.declared.form.Form.{Form}
use Rattle.souper_records.specs.Distinct.{HoldsOfOne}
use Rattle.souper_records.specs.Outcomes.{InputStream, Outcome, items_of, HaveItemStarts}
use Rattle.souper_records.specs.Outputs.{AreRowTexts}
use Rattle.souper_records.proofs.Outcomes.{items_more}
use Rattle.souper_typing.specs.declared.objects.TypedRow.{TypedRow}
use Rattle.souper_typing.specs.declared.objects.TypedRow.TheVariants.{Typed, Flawed}
use Rattle.souper_typing.specs.declared.objects.TypedObjects.{TypedObjects}
use Rattle.souper_typing.specs.declared.objects.Objects.{Objects as ObjectSink}
use Rattle.souper_typing.specs.Objects.{IsRowOf, is_flawed_row, rows_text, HasForm, IsUntyped, TellsUntyped, ObjectsWrote, WritesTypedObjects}
use Rattle.souper_typing.proofs.Bools.{or_assoc3}

one_left : {A : Type 0} (P : A → Type 0) (xs ys : List A) → HoldsOfOne P xs → HoldsOfOne P (xs ++ ys)
one_left P [] ys h = absurd h
one_left P (x ∷ xs) ys (inl p) = inl p
one_left P (x ∷ xs) ys (inr h) = inr (one_left P xs ys h)

one_right : {A : Type 0} (P : A → Type 0) (xs ys : List A) → HoldsOfOne P ys → HoldsOfOne P (xs ++ ys)
one_right P [] ys h = h
one_right P (x ∷ xs) ys h = inr (one_right P xs ys h)

-- of two lists
tells_both : (f : Form) (x y : Bool) (items more : List Item) → TellsUntyped f x items → TellsUntyped f y more → TellsUntyped f (x || y) (items ++ more)
tells_both f true y items more h k = one_left IsUntyped items more h
tells_both f false true items more h k = one_right IsUntyped items more k
tells_both f false false items more h k = All-both (HasForm f) items more h k

tells_typed : (f : Form) (b : Bool) (a : Item) (items : List Item) → HasForm f a → TellsUntyped f b items → TellsUntyped f b (a ∷ items)
tells_typed f true a items is h = inr h
tells_typed f false a items is h = (is, h)

-- the rows of the items tell
tells_rows : (maker : TypedObjects) (items : List Item) (rows : List TypedRow) → AllZip (IsRowOf maker) items rows → TellsUntyped maker.form (list_any is_flawed_row rows) items
tells_rows maker [] [] h = tt
tells_rows maker [] (r ∷ rows) h = absurd h
tells_rows maker (a ∷ items) [] h = absurd h
tells_rows maker (a ∷ items) (Typed text widths ∷ rows) (is, h) = tells_typed maker.form (list_any is_flawed_row rows) a items (is.0, is.1, is.2) (tells_rows maker items rows h)
tells_rows maker (a ∷ items) (Flawed t ∷ rows) (is, h) = inl (is.0, is.1)

-- a part more: z had written the parts before, b holds the rows of this, and then there is c
pub objects_more : (name : List ℕ) (a z b c : ObjectSink) (x u v : Option (List ℕ)) (os : List Outcome) (o : Outcome) (flawed : Bool) → ObjectsWrote name a x z u os
    → (b.untyped ≡ z.untyped) × (b.rows.maker ≡ z.rows.maker) × AllZip (IsRowOf z.rows.maker) o.items b.rows.rows.items → c.untyped ≡ (b.untyped || flawed) → flawed ≡ list_any is_flawed_row b.rows.rows.items
    → (c.rows.maker ≡ a.rows.maker) × (text : List ℕ) × AreRowTexts (IsRowOf a.rows.maker) (rows_text a.rows.maker name) (os ++ o ∷ []) text × Appends x v text → ObjectsWrote name a x c v (os ++ o ∷ [])
objects_more name a z b c x u v os o flawed w held untyped is rows =
    let f = a.rows.maker.form in
    let here : AllZip (IsRowOf a.rows.maker) o.items b.rows.rows.items = subst (λ (m : TypedObjects). AllZip (IsRowOf m) o.items b.rows.rows.items) w.maker held.2 in
    let tells : TellsUntyped f flawed o.items = subst (λ (v : Bool). TellsUntyped f v o.items) (sym is) (tells_rows a.rows.maker o.items b.rows.rows.items here) in
    record {
      maker = rows.0;
      text = rows.1;
      are = rows.2;
      written = rows.3;
      more = w.more || flawed;
      untyped = untyped ∙ (λ i. (held.0 ∙ w.untyped) i || flawed) ∙ or_assoc3 a.untyped w.more flawed;
      tells = subst (TellsUntyped f (w.more || flawed)) (sym (items_more os o)) (tells_both f w.more flawed (items_of os) o.items w.tells tells);
    }

-- no part was written
pub none_written : (name : List ℕ) (a : ObjectSink) (x : Option (List ℕ)) → a.untyped ≡ false → ObjectsWrote name a x a x []
none_written name a x fresh = record { maker = refl; text = []; are = refl; written = Appends-nil x; more = false; untyped = fresh ∙ (λ i. sym fresh i || false); tells = tt }

-- what was written, in words of the stream
pub to_objects : (maker : TypedObjects) (r : InputStream) (a b : ObjectSink) (out : Stream) (os : List Outcome) → a.rows.maker ≡ maker → a.untyped ≡ false → ObjectsWrote r.name a out.before b out.after os → HaveItemStarts r.kind [] os
    → WritesTypedObjects maker r out b.untyped os
to_objects maker r a b out os is fresh w starts =
    let tells : TellsUntyped a.rows.maker.form b.untyped (items_of os) = subst (λ (v : Bool). TellsUntyped a.rows.maker.form v (items_of os)) (sym (w.untyped ∙ (λ i. fresh i || w.more))) w.tells in (
      ((w.text, subst (λ (m : TypedObjects). AreRowTexts (IsRowOf m) (rows_text m r.name) os w.text) is w.are, w.written), starts),
      subst (λ (m : TypedObjects). TellsUntyped m.form b.untyped (items_of os)) is tells,
    )
