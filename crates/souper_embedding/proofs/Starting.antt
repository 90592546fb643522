-- The map that the roots give.
use Rattle.std.proofs.Common.{◌≡◌, ℕ, zero, suc, ◌<◌, ◌++◌, inl, inr, length, List, [], ◌∷◌, Option, Some, None, refl, sym, ◌∙◌}
use Rattle.std.proofs.lemmas.Option.{same_Some, slice_get_within}
use Rattle.souper_graph.specs.Values.{PlainStatement, PlainInfer, Item}
use Rattle.souper_graph.specs.Uses.{Has, conditions_from, walked}
use Rattle.souper_graph.specs.WellFormed.{WellFormed}
use Rattle.souper_graph.specs.LeftSides.{with_infer}
use Rattle.souper_graph.proofs.Lists.{Has-left}
use Rattle.souper_graph.proofs.Order.Needed.{needed_more}
use Rattle.souper_graph.proofs.Judging.Needed.{well_formed_below, well_formed_inside}
use Rattle.souper_embedding.specs.Embedding.{EmbedsLeft}
use Rattle.souper_embedding.specs.Maps.{GoesTo, Follows, Binds, UseBelow, KnownAreNeeded, EachStands, IsWalked, IsOneToOne, IsUnknown}
use Rattle.souper_embedding.specs.Search.{left_item, IsReached}
use Rattle.souper_embedding.proofs.Searching.{all_walks, each-stands, reached-root}

root-walk : (ss : List PlainStatement) (i : PlainInfer) (p : ℕ) → Has (i.value ∷ []) p → Has ((i.value ∷ conditions_from 0 ss) ++ []) p
root-walk ss i p (inl e) = Has-left (i.value ∷ conditions_from 0 ss) [] p (inl e)
root-walk ss i p (inr h) = absurd h

root-in : (ss : List PlainStatement) (i : PlainInfer) (p : ℕ) → Has (i.value ∷ []) p → Has (all_walks ss i) p
root-in ss i p (inl e) = inl e
root-in ss i p (inr h) = absurd h

pub root-below : (ss : List PlainStatement) (i : PlainInfer) → WellFormed (left_item ss i) → UseBelow ss (i.value ∷ [])
root-below ss i wl p u n h = well_formed_below (left_item ss i) wl p u (needed_more (root-walk ss i) n) h

pub root-stands : (s t : Item) (i j : PlainInfer) (f : ℕ → ℕ) → WellFormed (with_infer s i) → EmbedsLeft s t i j f → EachStands s.statements t.statements (i.value ∷ []) f
root-stands s t i j f wl h p n = each-stands s t i j f wl h p (needed_more (root-in s.statements i) n)

pub root-one : (s t : Item) (i j : PlainInfer) (f : ℕ → ℕ) (m : List (Option ℕ)) → EmbedsLeft s t i j f → KnownAreNeeded s.statements (i.value ∷ []) m → Follows m f → IsOneToOne m
root-one s t i j f m h known w p r q g k = h.one_to_one p r (known p q g) (known r q k) (w p q g ∙ sym (w r q k))

pub root-needed : (ss : List PlainStatement) (i : ℕ) (none bound : List (Option ℕ)) → IsUnknown none → Binds none bound (i ∷ []) → KnownAreNeeded ss (i ∷ []) bound
root-needed ss i none bound empty b p q g = elim (b.only p q g) [ inl x ↦ absurd (empty p q x) | inr h ↦ walked h ]

pub root-inside : (ss : List PlainStatement) (i : PlainInfer) → WellFormed (left_item ss i) → i.value < length ss
root-inside ss i wl = well_formed_inside (left_item ss i) wl i.value (walked (inl refl))

pub reach-reached : (ss qs : List PlainStatement) (i j : PlainInfer) (none bound m : List (Option ℕ)) → WellFormed (left_item ss i) → IsUnknown none → length none ≡ length ss → Binds none bound (i.value ∷ []) → GoesTo bound i.value j.value
    → ((walks : List ℕ) → UseBelow ss walks → KnownAreNeeded ss walks bound → IsWalked ss qs walks bound m) → IsOneToOne m → IsReached ss qs i j m 0
reach-reached ss qs i j none bound m wl empty l b at walk one = reached-root ss qs i j none bound m l empty b at (λ known. walk (i.value ∷ []) (root-below ss i wl) known) one

-- a function that the map is where it is known
pub total_of : List (Option ℕ) → ℕ → ℕ
total_of [] p = 0
total_of (None ∷ m) zero = 0
total_of (Some q ∷ m) zero = q
total_of (x ∷ m) (suc p) = total_of m p

pub total-follows : (m : List (Option ℕ)) → Follows m (total_of m)
unfolding total_of
total-follows [] p q g = absurd (cc)
total-follows (None ∷ m) zero q g = absurd (let z : None ≡ Some q = same_Some _ _ g in cc)
total-follows (Some r ∷ m) zero q g = same_Some r q (same_Some (Some r) (Some q) g)
total-follows (None ∷ m) (suc p) q g = total-follows m p q g
total-follows (Some r ∷ m) (suc p) q g = total-follows m p q g

-- where it goes there is a statement
pub images-inside : (ss qs : List PlainStatement) (walks : List ℕ) (old new : List (Option ℕ)) → IsWalked ss qs walks old new → (p q : ℕ) → GoesTo new p q → q < length qs
images-inside ss qs walks old new w p q g = let x = (w.closed p q g).stands (total_of new) (total-follows new) in slice_get_within qs q _ x.3
