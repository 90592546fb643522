-- If the statements of the printed order use positions below them alone, all needed statements do.
use Rattle.std.proofs.Common.{◌≡◌, ℕ, ◌<◌, inl, inr, List, [], ◌∷◌, Bool, true, false, refl, sym, ◌∙◌, subst, lt-ltb, le-ltb, nat_lt}
use Rattle.std.specs.Prelude.{◌&&◌, Result, Some, None, if◌then◌else◌}
use Rattle.std.specs.Fmt.{WritesOnOk, DisplaysOnOk, WritesStyledOnOk, DisplaysStyledOnOk}
use Rattle.std.specs.declared.fmt.Error.{Error}
use Rattle.std.specs.declared.fmt.Formatter.{Formatter}
use Rattle.souper_graph.specs.Text.{text_of}
use Rattle.souper_graph.specs.Shown.{shown_text}
use Rattle.std.proofs.lemmas.Bool.{cases_lt}
use Rattle.souper_graph.specs.Values.{PlainStatement, Item}
use Rattle.souper_graph.specs.Uses.{Has, used_at, walks_of, Needed, walked, used, UsesBelow}
use Rattle.souper_graph.specs.Order.{order_of_walks, printed_order}
use Rattle.souper_graph.specs.PrintOrder.{are_below, use_below, uses_below}
use Rattle.souper_graph.proofs.Lists.{Has-here, Has-later, Has-head}
use Rattle.souper_graph.proofs.Sameness.PrintedOrder.{printed-needed, printed-closed, walks-printed}

both : (a b : Bool) → (a && b) ≡ true → (a ≡ true) × (b ≡ true)
both true true e = (refl, refl)
both true false e = absurd cc
both false b e = absurd cc

lt_from : (u i : ℕ) → nat_lt u i ≡ true → u < i
lt_from u i e = elim (cases_lt u i) [ inl l ↦ l | inr l ↦ (let no_way : true ≡ false = sym e ∙ le-ltb u i l in absurd cc) ]

below_from : (i : ℕ) (us : List ℕ) (u : ℕ) → are_below i us ≡ true → Has us u → u < i
below_from i [] u e h = absurd h
below_from i (x ∷ us) u e h =
    let k = both (nat_lt x i) (are_below i us) e in
    elim (Has-head x u us h) [
      | inl s ↦ subst (λ (z : ℕ). z < i) s (lt_from x i k.0)
      | inr r ↦ below_from i us u k.1 r
    ]

below_to : (i : ℕ) (us : List ℕ) → ((u : ℕ) → Has us u → u < i) → are_below i us ≡ true
below_to i [] h = refl
below_to i (x ∷ us) h = rw (lt-ltb x i (h x (Has-here x us)), below_to i us (λ u k. h u (Has-later x u us k))) refl

use_from : (ss : List PlainStatement) (ids : List ℕ) (i u : ℕ) → use_below ss ids ≡ true → Has ids i → Has (used_at ss i) u → u < i
use_from ss [] i u e h k = absurd h
use_from ss (x ∷ ids) i u e h k =
    let b = both (are_below x (used_at ss x)) (use_below ss ids) e in
    elim (Has-head x i ids h) [
      | inl s ↦ subst (λ (z : ℕ). Has (used_at ss z) u → u < z) s (λ q. below_from x (used_at ss x) u b.0 q) k
      | inr r ↦ use_from ss ids i u b.1 r k
    ]

use_to : (ss : List PlainStatement) (ids : List ℕ) → ((i u : ℕ) → Has ids i → Has (used_at ss i) u → u < i) → use_below ss ids ≡ true
use_to ss [] h = refl
use_to ss (x ∷ ids) h =
    rw (below_to x (used_at ss x) (λ u k. h x u (Has-here x ids) k), use_to ss ids (λ i u k. h i u (Has-later x i ids k))) refl

needed_printed : (ss : List PlainStatement) (w : List ℕ) {j : ℕ} → use_below ss (order_of_walks ss w) ≡ true → Needed ss w j → Has (order_of_walks ss w) j
needed_printed ss w {j = j} e (walked h) = walks-printed ss w j h
needed_printed ss w {j = j} e (used {i = i} n h) =
    let here = needed_printed ss w e n in
    printed-closed ss w i j here h (use_from ss (order_of_walks ss w) i j e here h)

pub below_if_lower : (a : Item) → uses_below a ≡ true → UsesBelow a
below_if_lower a e i u n h = use_from a.statements (printed_order a) i u e (needed_printed a.statements (walks_of a) e n) h

pub lower_if_below : (a : Item) → UsesBelow a → uses_below a ≡ true
lower_if_below a b = use_to a.statements (printed_order a) (λ i u h k. b i u (printed-needed a.statements (walks_of a) i h) k)

-- ---- what `Display` writes

if_shown : {W : Type 0} (took : W → List ℕ → W → Type 0) (a : Item) (b : Bool) (text : List ℕ) (f g : Formatter W) (r : Result (Unit {0}) Error)
    → (b ≡ true → text ≡ text_of a) → WritesOnOk took f r text g → DisplaysOnOk took f r (if b then Some (text_of a) else None) g
if_shown took a true text f g r same h = subst (λ (x : List ℕ). WritesOnOk took f r x g) (same refl) h
if_shown took a false text f g r same h = tt

pub shown : {W : Type 0} (took : W → List ℕ → W → Type 0) (a : Item) (text : List ℕ) (f g : Formatter W) (r : Result (Unit {0}) Error)
    → (UsesBelow a → text ≡ text_of a) → WritesOnOk took f r text g → DisplaysOnOk took f r (shown_text a) g
shown took a text f g r same h = if_shown took a (uses_below a) text f g r (λ e. same (below_if_lower a e)) h

if_shown_styled : {W : Type 0} (took : W → List ℕ → W → Type 0) (a : Item) (b : Bool) (text : List ℕ) (f g : Formatter W) (r : Result (Unit {0}) Error)
    → (b ≡ true → text ≡ text_of a) → WritesStyledOnOk took f r text g → DisplaysStyledOnOk took f r (if b then Some (text_of a) else None) g
if_shown_styled took a true text f g r same h = subst (λ (x : List ℕ). WritesStyledOnOk took f r x g) (same refl) h
if_shown_styled took a false text f g r same h = tt

pub shown_styled : {W : Type 0} (took : W → List ℕ → W → Type 0) (a : Item) (text : List ℕ) (f g : Formatter W) (r : Result (Unit {0}) Error)
    → (UsesBelow a → text ≡ text_of a) → WritesStyledOnOk took f r text g → DisplaysStyledOnOk took f r (shown_text a) g
shown_styled took a text f g r same h = if_shown_styled took a (uses_below a) text f g r (λ e. same (below_if_lower a e)) h
